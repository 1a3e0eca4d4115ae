-- What holds of parts, blocks, numbers, types and what is missing holds of all that names stand for.
use Rattle.std.proofs.Common.{ℕ, Bool, true, false, List, [], ◌∷◌, Option, Some, None, pos}
use Rattle.std.specs.Prelude.{if◌then◌else◌}
use Rattle.nxt_model.specs.Nbc.Header.{constant_named, is_header_struct}
use Rattle.nxt_model.specs.Nbc.Text.{ANumber, AType, Denoted, Missing, NameSort, OfBlock, OfStruct, OfVariable, Source, a_block, a_variable, alone, block_by, by_sort, is_included_at, of_header, predefined, variable_named}

module _ (P : List (List ℕ) → Denoted → Type 0) (missing : (ns : List (List ℕ)) → P ns Missing) (a_type : P [] AType) (a_number : (n : ℕ) → P [] (ANumber (pos n))) where
  -- a name that has no members
  alone_has : (ns : List (List ℕ)) (d : Denoted) → P [] d → P ns (alone ns d)
  alone_has [] d h = h
  alone_has (n ∷ ns) d h = missing (n ∷ ns)

  header_has : (c : Bool) (n : Option ℕ) (t : Bool) → P [] (if c then of_header n t else Missing)
  header_has true (Some n) t = a_number n
  header_has true None true = a_type
  header_has true None false = missing []
  header_has false n t = missing []

  pub name_has : (src : Source) (line : ℕ) (name : List ℕ) (ns : List (List ℕ)) → P ns (a_variable src (variable_named src name) ns) → P [] (a_block (block_by src name))
      → (o : Option NameSort) → P ns (by_sort src line o name ns)
  name_has src line name ns variable block (Some OfVariable) = variable
  name_has src line name ns variable block (Some OfStruct) = alone_has ns AType a_type
  name_has src line name ns variable block (Some OfBlock) = alone_has ns (a_block (block_by src name)) block
  name_has src line name ns variable block None =
      alone_has ns (predefined src line name) (header_has (is_included_at src line) (constant_named name) (is_header_struct name))
