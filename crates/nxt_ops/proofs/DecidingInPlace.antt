-- The two numbers that decide a comparison of lists that are read place by place.
use Rattle.std.proofs.Common.{◌≡◌, ℕ, suc, ◌+◌, ◌-◌, ◌<◌, min, Bool, true, false, List, [], ◌∷◌, length, drop, get_or, pos, inl, inr, refl, sym, ap, ap₂, ◌∙◌, arith, length-drop}
use Rattle.std.specs.Prelude.{ℤ, if◌then◌else◌}
use Rattle.std.proofs.lemmas.Bool.{cases_lt}
use Rattle.std.proofs.lemmas.Bool.Decides.{Decides-int_eq}
use Rattle.std.proofs.lemmas.List.{drop_all, get_or-map}
use Rattle.nxt_types.specs.Arithmetic.{signed, taken, word}
use Rattle.nxt_model.specs.Values.{Value, Num, number, elements}
use Rattle.nxt_space.proofs.Laws.Words.{word_twice}
use Rattle.nxt_operands.specs.Numbers.{numbers_in}
use Rattle.nxt_ops.specs.Ops.{deciding_numbers}

-- lists with the same numbers
pub same_decide : (s : Bool) (zs : List ℤ) → deciding_numbers s zs zs ≡ (pos 0, pos 0)
same_decide s [] = refl
same_decide s (z ∷ zs) =
    let a = taken s z in
    ap (λ t. if t then deciding_numbers s zs zs else (a, a)) ((Decides-int_eq a a).1 refl) ∙ same_decide s zs

second_none : (s : Bool) (zs : List ℤ) → deciding_numbers s zs [] ≡ (pos (length zs), pos 0)
second_none s [] = refl
second_none s (z ∷ zs) = let one : length zs + 1 ≡ suc (length zs) = omega arith in ap (λ n. (pos n, pos 0)) one

-- where the shorter list is used up
pub shorter_ends : (s : Bool) (xs ys : List ℤ) (n : ℕ) → n ≡ min (length xs) (length ys) → deciding_numbers s (drop n xs) (drop n ys) ≡ (pos (length xs - n), pos (length ys - n))
shorter_ends s xs ys n is =
    elim (cases_lt (length ys) (length xs)) [
      | inl less ↦
          let none : length ys - n ≡ 0 = omega (arith, is, less) in
          ap (deciding_numbers s (drop n xs)) (drop_all n ys (omega (arith, is, less)))
          ∙ second_none s (drop n xs)
          ∙ ap₂ (λ a b. (pos a, pos b)) (length-drop n xs) (sym none)
      | inr more ↦
          let none : length xs - n ≡ 0 = omega (arith, is, more) in
          ap (λ zs. deciding_numbers s zs (drop n ys)) (drop_all n xs (omega (arith, is, more)))
          ∙ ap₂ (λ a b. (pos a, pos b)) (sym none) (length-drop n ys)
    ]

-- a number is taken by its word
pub word_taken : (s : Bool) (x : ℤ) → taken s (pos (word x)) ≡ taken s x
word_taken false x = ap pos (word_twice x)
word_taken true x = ap signed (word_twice x)

-- a list's numbers are those of its elements
pub number_there : (v : Value) (i : ℕ) → i < length (elements v) → number (get_or (elements v) i (Num (pos 0))) ≡ get_or (numbers_in v) i (pos 0)
number_there v i less = sym (get_or-map number (elements v) i (Num (pos 0)) (pos 0) less)
