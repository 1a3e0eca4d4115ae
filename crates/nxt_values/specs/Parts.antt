-- Parts of values: the elements of lists that positions lead to.
use Rattle.std.specs.Prelude.{◌<◌, ℕ, List, [], ◌∷◌, map, length, ℤ, pos, nat_abs, slice_index_or}
use Rattle.nxt_types.specs.Shapes.{Shape, Array}
use Rattle.nxt_model.specs.Values.{Value, Num, elements}

-- the positions in lists that numbers tell
abbrev pub positions : List ℤ → List ℕ
positions steps = map nat_abs steps

-- each position is one of its list's
abbrev pub AreWithin : Shape → Value → List ℕ → Type 0
AreWithin s v [] = Unit {0}
AreWithin (Array stride s) v (k ∷ ks) =
    (k < length (elements v)) × AreWithin s (slice_index_or (elements v) k (Num (pos 0))) ks
AreWithin _ v (k ∷ ks) = ⊥
