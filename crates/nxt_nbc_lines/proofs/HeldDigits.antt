-- Digits whose number is held.
use Rattle.std.proofs.Common.{◌≡◌, ℕ, ◌+◌, ◌-◌, ◌*◌, ◌^◌, ◌≤◌, List, [], ◌∷◌, sym, ap, ◌∙◌, arith, inl, inr}
use Rattle.std.specs.Prelude.{min}
use Rattle.std.specs.Char.{digit_value}
use Rattle.std.specs.Str.Parse.{digits_value_after}
use Rattle.std.proofs.Math.Nat.{le-mul_of_pos_right, min-eq_left, min-eq_right, mul-le-mul_right}
use Rattle.std.proofs.lemmas.Bool.{cases_lt}
use Rattle.nxt_nbc_lines.specs.Held.{most_held}

-- where the greatest number is held, more digits keep it so
held_step : (radix n d : ℕ) → 1 ≤ radix → min (min n most_held * radix + d) most_held ≡ min (n * radix + d) most_held
held_step radix n d some =
    let from_one : most_held ≤ most_held * radix = le-mul_of_pos_right most_held (omega (arith, some)) in
    elim (cases_lt n most_held) [
      | inl lt ↦ ap (λ m. min (m * radix + d) most_held) (min-eq_left (omega (arith, lt)))
      | inr ge ↦
          let same : min n most_held ≡ most_held = min-eq_right ge in
          let more : most_held * radix ≤ n * radix = mul-le-mul_right radix ge in
          ap (λ m. min (m * radix + d) most_held) same
          ∙ min-eq_right (omega (arith, from_one)) ∙ sym (min-eq_right (omega (arith, from_one, more)))
    ]

pub held_digits : (radix n : ℕ) (ds : List ℕ) → 1 ≤ radix → min (digits_value_after radix (min n most_held) ds) most_held ≡ min (digits_value_after radix n ds) most_held
held_digits radix n [] some = omega arith
held_digits radix n (d ∷ ds) some =
    let m = min n most_held * radix + digit_value d in
    let k = n * radix + digit_value d in
    sym (held_digits radix m ds some)
    ∙ ap (λ v. min (digits_value_after radix v ds) most_held) (held_step radix n (digit_value d) some)
    ∙ held_digits radix k ds some

-- a step that stops at the greatest number of 64 bits: the product, the sum, and what is held of it
pub held_more : (radix n d : ℕ) (ds : List ℕ) → 1 ≤ radix → (digit product sum v : ℕ) → digit ≡ digit_value d → digit ≤ 36
    → product ≡ min (n * radix) (2 ^ 64 - 1) → sum ≡ min (product + digit) (2 ^ 64 - 1) → v ≡ min sum most_held
    → min (digits_value_after radix v ds) most_held ≡ min (digits_value_after radix n (d ∷ ds)) most_held
held_more radix n d ds some digit product sum v is few p s e =
    let same : v ≡ min (n * radix + digit) most_held = omega (arith, p, s, e, few) in
    ap (λ m. min (digits_value_after radix m ds) most_held) (same ∙ ap (λ k. min (n * radix + k) most_held) is)
    ∙ held_digits radix (n * radix + digit_value d) ds some
