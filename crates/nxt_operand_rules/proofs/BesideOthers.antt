-- What is asked of an operand beside the others.
use Rattle.std.proofs.Common.{◌≡◌, ◌≢◌, ℕ, zero, suc, ◌+◌, ◌<◌, ◌==◌, ◌%◌, nat_le, Bool, true, false, ◌&&◌, ◌||◌, List, [], ◌∷◌, map, drop, length, get_or, slice_index_or, refl, sym, ap, ◌∙◌, arith}
use Rattle.std.specs.Prelude.{if◌then◌else◌}
use Rattle.std.proofs.lemmas.Bool.{cond-false, cond-true, eq-eqb, ne_eqb}
use Rattle.std.proofs.lemmas.List.{get_or-map, get_or-drop, length-drop}
use Rattle.nxt_types.specs.Shapes.{Shape, is_number, is_numbers}
use Rattle.nxt_types.specs.OperandRules.{Sort, Unknown, arithmetic, goes_into, is_plain, pairs_fit, shape_of, sort_at, word_of, asked}
use Rattle.nxt_types.specs.declared.instr.Op.{Op}

-- what is asked of operand k
abbrev pub beside : Op → List Sort → ℕ → Bool
beside op os k = slice_index_or (asked op (λ i. shape_of (sort_at os i)) (λ i. word_of (sort_at os i)) os) k true

-- ---- arithmetic

module _ (dest x y : Shape) (k : ℕ) where
  abbrev tests : Bool
  tests = slice_index_or (arithmetic dest x y) k true

  pub second_if : k ≡ 1 → is_number dest ≡ true → is_number x ≡ tests
  second_if at some = sym (cond-true (is_number dest) (is_number x) (is_plain x) some) ∙ sym (ap (λ j. slice_index_or (arithmetic dest x y) j true) at)

  pub second_else : k ≡ 1 → is_number dest ≡ false → is_plain x ≡ tests
  second_else at other = sym (cond-false (is_number dest) (is_number x) (is_plain x) other) ∙ sym (ap (λ j. slice_index_or (arithmetic dest x y) j true) at)

  pub third_if : k ≡ 2 → is_number dest ≡ true → is_number y ≡ tests
  third_if at some =
      sym (cond-true (is_number dest) (is_number y) (is_plain y && (is_numbers x || is_numbers y)) some)
      ∙ sym (ap (λ j. slice_index_or (arithmetic dest x y) j true) at)

  pub third_else : k ≡ 2 → is_number dest ≡ false → (is_plain y && (is_numbers x || is_numbers y)) ≡ tests
  third_else at other =
      sym (cond-false (is_number dest) (is_number y) (is_plain y && (is_numbers x || is_numbers y)) other)
      ∙ sym (ap (λ j. slice_index_or (arithmetic dest x y) j true) at)

pub last_two : (p a b : Bool) → p ≡ true → a ≡ false → b ≡ (p && (a || b))
last_two p a b e f = sym (ap (λ q. q && (a || b)) e ∙ ap (λ q. q || b) f)

-- ---- the others of arrbuild

pub others_go : (os : List Sort) (k : ℕ) → k ≢ 0 → k < length os → (list : Shape)
    → get_or (true ∷ map (λ o. goes_into list (shape_of o)) (drop 1 os)) k true ≡ goes_into list (shape_of (sort_at os k))
others_go os zero h l list = absurd (h refl)
others_go os (suc k) h l list =
    let d = length-drop 1 os in
    get_or-map (λ o. goes_into list (shape_of o)) (drop 1 os) k Unknown true (omega (arith, d, l))
    ∙ ap (λ o. goes_into list (shape_of o)) (get_or-drop 1 os k Unknown ∙ ap (λ j. get_or os j Unknown) (let e : 1 + k ≡ suc k = omega arith in e))

-- ---- properties

same_either : (b : Bool) → true ≡ (if b then true else true)
same_either true = refl
same_either false = refl

pairs_at : (os : List Sort) (j : ℕ) → get_or (pairs_fit 14 os) j true ≡ (if j % 2 == 0 then nat_le (word_of (get_or os j Unknown)) 14 else true)
pairs_at [] j = same_either (j % 2 == 0)
pairs_at (p ∷ []) zero = refl
pairs_at (p ∷ []) (suc j) = same_either (suc j % 2 == 0)
pairs_at (p ∷ v ∷ more) zero = refl
pairs_at (p ∷ v ∷ more) (suc zero) = refl
pairs_at (p ∷ v ∷ more) (suc (suc j)) =
    let m : j % 2 ≡ suc (suc j) % 2 = omega arith in
    pairs_at more j ∙ ap (λ r. if r == 0 then nat_le (word_of (get_or more j Unknown)) 14 else true) m

pub even_allowed : (os : List Sort) (k : ℕ) → k % 2 ≡ 0 → get_or (true ∷ pairs_fit 14 (drop 1 os)) k true ≡ true
even_allowed os zero h = refl
even_allowed os (suc k) h =
    let m : k % 2 ≢ 0 = (λ e. omega (arith, e, h)) in
    pairs_at (drop 1 os) k ∙ ap (λ b. if b then nat_le (word_of (get_or (drop 1 os) k Unknown)) 14 else true) (ne_eqb (k % 2) 0 m)

pub odd_allowed : (os : List Sort) (k : ℕ) → k % 2 ≢ 0 → get_or (true ∷ pairs_fit 14 (drop 1 os)) k true ≡ nat_le (word_of (sort_at os k)) 14
odd_allowed os zero h = absurd (h refl)
odd_allowed os (suc k) h =
    let m : k % 2 ≡ 0 = omega (arith, h) in
    pairs_at (drop 1 os) k
    ∙ ap (λ b. if b then nat_le (word_of (get_or (drop 1 os) k Unknown)) 14 else true) (eq-eqb (k % 2) 0 m)
    ∙ ap (λ s. nat_le (word_of s) 14) (get_or-drop 1 os k Unknown ∙ ap (λ j. get_or os j Unknown) (let e : 1 + k ≡ suc k = omega arith in e))
