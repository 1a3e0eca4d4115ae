-- The first place at which a rule is broken.
use Rattle.std.specs.Prelude.{◌≡◌, ℕ, ◌<◌, Bool, true, false, Option, Some, None}

-- the first number at which the test holds, if there is one
abbrev pub Finds : (ℕ → Bool) → Option ℕ → Type 0
Finds test None = (w : ℕ) → test w ≡ false
Finds test (Some w) = (test w ≡ true) × ((v : ℕ) → v < w → test v ≡ false)

-- the same of pairs, by the first number and then by the second
abbrev pub FindsPair : (ℕ → ℕ → Bool) → Option (ℕ × ℕ) → Type 0
FindsPair test None = (w k : ℕ) → test w k ≡ false
FindsPair test (Some p) =
    (test p.0 p.1 ≡ true) × ((v j : ℕ) → v < p.0 → test v j ≡ false) × ((j : ℕ) → j < p.1 → test p.0 j ≡ false)
