-- Numbers that are read from bytes are of their kind.
use Rattle.std.proofs.Common.{◌≡◌, ℕ, true, List}
use Rattle.std.specs.Prelude.{ℤ}
use Rattle.std.specs.Ordering.{int_eq}
use Rattle.std.proofs.lemmas.Bool.Decides.{Decides-int_eq}
use Rattle.nxt_types.specs.Arithmetic.{cut}
use Rattle.nxt_types.specs.declared.kind.Kind.{Kind}
use Rattle.nxt_types.proofs.Laws.Kinds.{cut-extend}
use Rattle.nxt_model.specs.Means.Text.{number_in}

same_int : (x y : ℤ) → x ≡ y → int_eq x y ≡ true
same_int x y e = (Decides-int_eq x y).1 e

pub number_of_kind : (k : Kind) (bytes : List ℕ) → int_eq (cut k (number_in k bytes)) (number_in k bytes) ≡ true
number_of_kind k bytes = same_int (cut k (number_in k bytes)) (number_in k bytes) (cut-extend k _)
