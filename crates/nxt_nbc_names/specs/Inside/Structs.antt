-- How the structs of a text are kept.
use Rattle.std.specs.Prelude.{◌≡◌, ℕ, List, map, Option}
use Rattle.nxt_model.specs.Nbc.Structs.{Types}
use Rattle.nxt_nbc_names.specs.Structs.{Rises}
use Rattle.nxt_nbc_names.specs.StructsSeen.{AreMeasured, structs_seen}
use Rattle.nxt_nbc_names.specs.declared.structs.Struct.{Struct as ProgramStruct}

abbrev pub types_seen : Option ℕ → List ProgramStruct → Types
types_seen included structs = record { included = included; structs = structs_seen structs }

pub record IsStructTable (structs : List ProgramStruct) (kept : List (List ℕ)) : Type 0 where
  pub names : kept ≡ map (λ s. s.name) (structs_seen structs)
  pub rises : Rises 0 (structs_seen structs)
  pub measured : AreMeasured structs
