-- Those who sleep, in the order in which they wake.
use Rattle.std.specs.Prelude.{ℕ, ◌+◌, Bool, ◌&&◌, ◌||◌, ◌==◌, nat_lt, nat_le, if◌then◌else◌, List, [], ◌∷◌, ◌++◌, map, Option, Some, None}
use Rattle.nxt_model.specs.Clumps.{Activity, Asleep, Clump, by_moment}
use Rattle.nxt_clumps.specs.declared.sleeper.Sleeper.{Sleeper}

-- its moment, with the number of the clump
abbrev pub pair_of : Sleeper → ℕ × ℕ
pair_of s = (s.moment, s.clump)

abbrev pub pairs_of : List Sleeper → List (ℕ × ℕ)
pairs_of ss = map pair_of ss

-- the moment until which a clump sleeps, with its number, if it sleeps
abbrev pub sleeper_one : Activity → ℕ → List (ℕ × ℕ)
sleeper_one (Asleep moment) c = (moment, c) ∷ []
sleeper_one _ c = []

-- those who sleep, of the clumps of which the first has the number c
abbrev pub sleepers_from : ℕ → List Clump → List (ℕ × ℕ)
sleepers_from c [] = []
sleepers_from c (k ∷ ks) = sleeper_one k.activity c ++ sleepers_from (c + 1) ks

-- those who sleep, in the order in which they wake
abbrev pub in_order : List Clump → List (ℕ × ℕ)
in_order clumps = by_moment (sleepers_from 0 clumps)

-- whether one stands before another: its moment is earlier, or the same and its number no larger
abbrev pub stands_before : ℕ × ℕ → ℕ × ℕ → Bool
stands_before x y = nat_lt x.0 y.0 || (x.0 == y.0 && nat_le x.1 y.1)

-- among those in order
abbrev pub put_in_order : ℕ × ℕ → List (ℕ × ℕ) → List (ℕ × ℕ)
put_in_order x [] = x ∷ []
put_in_order x (y ∷ ys) = if stands_before x y then x ∷ y ∷ ys else y ∷ put_in_order x ys

-- the first ones, up to one whose moment isn't reached
abbrev pub due_part : ℕ → List (ℕ × ℕ) → List (ℕ × ℕ)
due_part clock [] = []
due_part clock (x ∷ xs) = if nat_le x.0 clock then x ∷ due_part clock xs else []

-- the number of the first one
abbrev pub first_number : List (ℕ × ℕ) → Option ℕ
first_number [] = None
first_number (x ∷ xs) = Some x.1
