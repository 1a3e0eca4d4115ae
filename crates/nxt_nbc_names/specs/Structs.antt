-- The lines on which the structs of a text are types.
use Rattle.std.specs.Prelude.{◌≤◌, ℕ, List, [], ◌∷◌, ⊤}
use Rattle.nxt_model.specs.Nbc.Types.{Struct}

-- each struct stands on no line before that of the one in front of it
abbrev pub Rises : ℕ → List Struct → Type 0
Rises n [] = ⊤
Rises n (s ∷ more) = (n ≤ s.line) × Rises s.line more

-- and none on a line behind this one
abbrev pub RisesTo : ℕ → ℕ → List Struct → Type 0
RisesTo n line [] = n ≤ line
RisesTo n line (s ∷ more) = (n ≤ s.line) × RisesTo s.line line more
