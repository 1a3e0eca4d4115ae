-- The least number below another at which a test holds.
use Rattle.std.proofs.Common.{◌≡◌, ℕ, zero, suc, ◌<◌, Bool, true, false, refl, subst, arith, inl, inr, ◌⊎◌}
use Rattle.std.proofs.lemmas.Bool.{cases_lt}
use Rattle.std.specs.Prelude.{IsTrue}

pub record Least (t : ℕ → Bool) (n : ℕ) : Type 0 where
  pub at : ℕ
  pub below : at < n
  pub holds : IsTrue (t at)
  pub before : (j : ℕ) → j < at → IsTrue (t j) → ⊥

abbrev pub None_below : (ℕ → Bool) → ℕ → Type 0
None_below t n = (j : ℕ) → j < n → IsTrue (t j) → ⊥

pub next_place : (t : ℕ → Bool) (n : ℕ) (b : Bool) → t n ≡ b → None_below t n → Least t (suc n) ⊎ None_below t (suc n)
next_place t n true e none = inl (record { at = n; below = omega arith; holds = e; before = none })
next_place t n false e none =
    inr (λ j lt h. elim (cases_lt j n) [
      | inl less ↦ none j less h
      | inr le ↦ let same : j ≡ n = omega (arith, lt, le) in let no : IsTrue (t n) = subst (λ k. IsTrue (t k)) same h in cc
    ])

pub least : (t : ℕ → Bool) (n : ℕ) → Least t n ⊎ None_below t n
least t zero = inr (λ j lt h. omega (arith, lt))
least t (suc n) =
    elim (least t n) [
      | inl f ↦ let low = f.below in inl (record { at = f.at; below = omega (arith, low); holds = f.holds; before = f.before })
      | inr none ↦ next_place t n (t n) refl none
    ]
