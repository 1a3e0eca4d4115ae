-- The lesser of lines, and counts as they are held.
use Rattle.std.proofs.Common.{◌≡◌, ℕ, ◌+◌, ◌-◌, ◌^◌, ◌≤◌, min, Bool, true, false, Option, Some, None, refl, sym, ap, ◌∙◌, inl, inr, arith}
use Rattle.std.specs.Prelude.{if◌then◌else◌, nat_lt}
use Rattle.std.proofs.Math.Nat.{min-eq_left, min-eq_right}
use Rattle.std.proofs.lemmas.Bool.{cases_lt, lt-ltb}
use Rattle.nxt_nbc_lines.specs.Firsts.{lesser}
use Rattle.nxt_nbc.specs.Spaces.{again}

-- ---- lines

pub lesser_none : (a : Option ℕ) → lesser a None ≡ a
lesser_none None = refl
lesser_none (Some a) = refl

pub lesser_assoc : (a b c : Option ℕ) → lesser (lesser a b) c ≡ lesser a (lesser b c)
lesser_assoc None b c = refl
lesser_assoc (Some a) None c = refl
lesser_assoc (Some a) (Some b) None = refl
lesser_assoc (Some a) (Some b) (Some c) = ap Some (omega arith)

-- a line where it declares a name again, or else none
abbrev pub line_if : Bool → ℕ → Option ℕ
line_if twice line = if twice then Some line else None

pub again_is : (twice : Bool) (line : ℕ) (later : Option ℕ) → again twice line later ≡ lesser (line_if twice line) later
again_is true line later = refl
again_is false line later = refl

-- a line that is found is the lesser of those before it and of those that come later
pub again_after : (found : Option ℕ) (twice : Bool) (line : ℕ) (later : Option ℕ)
    → lesser (if twice then lesser found (Some line) else found) later ≡ lesser found (again twice line later)
again_after found true line later = lesser_assoc found (Some line) later
again_after found false line later = refl

-- ---- counts

-- a count as it is held
abbrev pub counted : ℕ → ℕ
counted n = min n (2 ^ 64 - 1)

pub counted_sum : (n m : ℕ) → counted (counted n + counted m) ≡ counted (n + m)
counted_sum n m = omega arith

-- and it is more than a lesser number where the count is
pub counted_more : (most n : ℕ) → most + 1 ≤ 2 ^ 64 - 1 → nat_lt most (counted n) ≡ nat_lt most n
counted_more most n small =
    elim (cases_lt n (2 ^ 64 - 1)) as (λ _. nat_lt most (counted n) ≡ nat_lt most n) [
      | inl lt ↦ ap (nat_lt most) (min-eq_left (omega (arith, lt)))
      | inr ge ↦ ap (nat_lt most) (min-eq_right ge) ∙ lt-ltb most (2 ^ 64 - 1) (omega (arith, small)) ∙ sym (lt-ltb most n (omega (arith, small, ge)))
    ]

pub many_held : (n : ℕ) → nat_lt 10000 (min n (2 ^ 64 - 1)) ≡ nat_lt 10000 n
many_held n = counted_more 10000 n (omega arith)
