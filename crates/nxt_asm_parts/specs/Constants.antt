-- The constants of a program's operands.
use Rattle.std.specs.Prelude.{ℕ, ℤ, List, [], bytes_eq, flat_map}
use Rattle.std.specs.Ordering.{int_eq}
use Rattle.indexmap.specs.IndexSet.{insert_all}
use Rattle.nxt_model.specs.declared.nbc.NbcArg.{NbcArg}
use Rattle.nxt_model.specs.TextProgram.{numbers_in, texts_in}

-- the distinct numbers and the distinct texts, in the order in which they first come
pub record AllConstants : Type 0 where
  pub numbers : List ℤ
  pub texts : List (List ℕ)

abbrev pub no_constants : AllConstants
no_constants = record { numbers = []; texts = [] }

-- with those of more operands: what is new goes last
abbrev pub with_args : AllConstants → List NbcArg → AllConstants
with_args c more =
    record {
      numbers = insert_all int_eq c.numbers (flat_map numbers_in more);
      texts = insert_all bytes_eq c.texts (flat_map texts_in more);
    }
