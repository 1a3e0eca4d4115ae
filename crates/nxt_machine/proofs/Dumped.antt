-- Bytes in lines of 64, one line after another.
use Rattle.std.proofs.Common.{◌≡◌, ℕ, zero, suc, ◌+◌, ◌<◌, ◌≤◌, List, [], ◌∷◌, length, take, drop, inl, inr, refl, sym, ap, ap₂, ◌∙◌, arith, length-drop}
use Rattle.std.specs.Prelude.{min}
use Rattle.std.proofs.lemmas.Bool.{cases_lt}
use Rattle.std.proofs.lemmas.List.{take_all, length-take}
use Rattle.nxt_model.specs.Dump.{bytes_lines}
use Rattle.nxt_model.specs.declared.line.Line.TheVariants.{Bytes}

none_more : (most at : ℕ) (bs : List ℕ) → length bs ≡ 0 → bytes_lines most at bs ≡ []
none_more zero at bs e = refl
none_more (suc most) at [] e = refl
none_more (suc most) at (b ∷ bs) e = absurd (omega (arith, e))

-- no more lines are asked for than there are bytes
enough : (m n at : ℕ) (bs : List ℕ) → length bs ≤ m → length bs ≤ n → bytes_lines m at bs ≡ bytes_lines n at bs
enough m n at [] f g = none_more m at [] refl ∙ sym (none_more n at [] refl)
enough zero n at (b ∷ bs) f g = absurd (omega (arith, f))
enough (suc m) zero at (b ∷ bs) f g = absurd (omega (arith, g))
enough (suc m) (suc n) at (b ∷ bs) f g =
    let rest = drop 64 (b ∷ bs) in
    let few : length rest ≤ length bs = omega (arith, length-drop 64 (b ∷ bs)) in
    ap (λ ls. Bytes at (take 64 (b ∷ bs)) ∷ ls) (enough m n (at + 64) rest (omega (arith, few, f)) (omega (arith, few, g)))

pub one_line : (at : ℕ) (bs now later : List ℕ) (n : ℕ) → n ≡ min (length bs) 64 → now ≡ take n bs → later ≡ drop n bs → 0 < length bs → bytes_lines (length bs) at bs ≡ Bytes at now ∷ bytes_lines (length later) (at + length now) later
one_line at [] now later n is front back some = absurd (omega (arith, some))
one_line at (b ∷ bs) now later n is front back some =
    let all = b ∷ bs in
    let long : length now ≡ n = ap length front ∙ length-take n all ∙ omega (arith, is) in
    ap₂ (λ l ls. l ∷ ls)
    (ap (Bytes at) (elim (cases_lt 64 (length all)) [
      | inl more ↦ let e : 64 ≡ n = omega (arith, is, more) in ap (λ k. take k all) e
      | inr less ↦ take_all 64 all less ∙ sym (take_all n all (omega (arith, is, less)))
    ] ∙ sym front))
    (elim (cases_lt 64 (length all)) [
      | inl more ↦
          let e : 64 ≡ n = omega (arith, is, more) in
          let rest = drop 64 all in
          let few : length rest ≤ length bs = omega (arith, length-drop 64 all) in
          enough (length bs) (length rest) (at + 64) rest few (omega arith)
          ∙ ap₂ (λ place xs. bytes_lines (length xs) place xs) (let f : at + 64 ≡ at + length now = omega (arith, e, long) in f) (ap (λ k. drop k all) e ∙ sym back)
      | inr less ↦
          none_more (length bs) (at + 64) (drop 64 all) (omega (arith, length-drop 64 all, less))
          ∙ sym (none_more (length later) (at + length now) later (omega (arith, ap length back, length-drop n all, is, less)))
    ])

pub no_line : (at : ℕ) (bs : List ℕ) → length bs ≡ 0 → bytes_lines (length bs) at bs ≡ []
no_line at bs none = none_more (length bs) at bs none
