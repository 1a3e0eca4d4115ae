-- The names that a text declares, as the definitions see them.
use Rattle.std.specs.Prelude.{ℕ, List}
use Rattle.nxt_model.specs.Nbc.Text.{NameSort, OfVariable, OfStruct, OfBlock}
use Rattle.nxt_nbc_names.specs.declared.names.DeclaredName.{DeclaredName}
use Rattle.nxt_nbc_names.specs.declared.names.NameSort.{NameSort as ProgramSort}
use Rattle.nxt_nbc_names.specs.declared.names.NameSort.TheVariants.{Variable, Struct, Block}

abbrev pub sort_seen : ProgramSort → NameSort
sort_seen Variable = OfVariable
sort_seen Struct = OfStruct
sort_seen Block = OfBlock

abbrev pub name_seen : DeclaredName → List ℕ × NameSort
name_seen d = (d.name.now, sort_seen d.sort)
