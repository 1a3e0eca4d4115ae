-- Tests and results.
use Rattle.std.proofs.Common.{◌≡◌, ℕ, ◌<◌, ◌≤◌, Bool, true, false, refl, arith, ltb-true}
use Rattle.std.specs.Prelude.{◌&&◌, not, nat_lt, IsTrue, OnOk, Result, Ok, Err}

pub not_true : (a : Bool) → IsTrue a → IsTrue (not a) → ⊥
not_true true h k = absurd cc
not_true false h k = absurd cc

pub passed : (a b : Bool) → IsTrue a → (IsTrue (a && not b) → ⊥) → IsTrue b
passed true true h k = refl
passed true false h k = absurd (k refl)
passed false b h k = absurd cc

pub not_both : (a b : Bool) → (a && b) ≡ false → IsTrue a → b ≡ false
not_both true b h k = h
not_both false b h k = absurd cc

pub not_past : (m n : ℕ) → n ≤ m → IsTrue (nat_lt m n) → ⊥
not_past m n le h = let lt : m < n = ltb-true m n h in omega (arith, lt, le)

-- what follows from a fact, where a result is Ok
pub on_ok : {T E P Q : Type 0} → (P → Q) → (r : Result T E) → OnOk r P → OnOk r Q
on_ok f (Ok x) p = f p
on_ok f (Err e) p = tt
