-- Places one behind another.
use Rattle.std.specs.Prelude.{ℕ, zero, suc, ◌+◌, List, [], ◌∷◌}

-- so many places from one on, each so many bytes behind the one before it
abbrev pub places_from : ℕ → ℕ → ℕ → List ℕ
places_from at stride zero = []
places_from at stride (suc n) = at ∷ places_from (at + stride) stride n
