-- The two numbers that decide a comparison, by shapes.
use Rattle.std.proofs.Common.{◌≡◌, ℕ, ◌+◌, ◌-◌, ◌<◌, ◌≤◌, Bool, true, false, List, [], ◌∷◌, map, length, drop, get_or, refl, sym, ap, ap₂, ◌∙◌, arith, length-drop}
use Rattle.std.specs.Ordering.{int_eq}
use Rattle.std.specs.Prelude.{ℤ, pos, if◌then◌else◌}
use Rattle.std.proofs.lemmas.Bool.{false_from_ne_true}
use Rattle.std.proofs.lemmas.Bool.Decides.{Decides-int_eq}
use Rattle.std.proofs.lemmas.List.{length-map, drop_more, drop_all}
use Rattle.nxt_types.specs.Arithmetic.{taken, compares}
use Rattle.nxt_types.specs.declared.kind.Cmp.{Cmp}
use Rattle.nxt_types.specs.declared.kind.Kind.{Kind}
use Rattle.nxt_types.specs.OperandRules.{are_alike}
use Rattle.nxt_types.specs.Shapes.{Shape, Void, Number, Array, Cluster, Mutex, is_number}
use Rattle.nxt_model.specs.Means.Effects.{element, Given}
use Rattle.nxt_model.specs.Means.Numbers.{deciding, deciding_among, either_signed, holds}
use Rattle.nxt_model.specs.Values.{Value, number, elements}
use Rattle.nxt_operands.specs.Numbers.{numbers_in}
use Rattle.nxt_ops.specs.Ops.{deciding_numbers}
use Rattle.nxt_operands.proofs.Laws.NumberLists.{numbers_shape, alike_numbers}

-- two numbers are taken as signed or as unsigned
pub numbers_decide : (s t : Shape) (x y : Value) → is_number s ≡ true → deciding s t x y ≡ (taken (either_signed s t) (number x), taken (either_signed s t) (number y))
numbers_decide Void t x y e = let f : ⊥ = cc in absurd f
numbers_decide (Number k) t x y e = refl
numbers_decide (Array n s) t x y e = let f : ⊥ = cc in absurd f
numbers_decide (Cluster ss) t x y e = let f : ⊥ = cc in absurd f
numbers_decide Mutex t x y e = let f : ⊥ = cc in absurd f

elements_decide : (k l : Kind) (xs ys : List Value) → deciding_among (deciding (Number k) (Number l)) xs ys ≡ deciding_numbers (either_signed (Number k) (Number l)) (map number xs) (map number ys)
elements_decide k l [] ys = ap (λ n. (pos 0, pos n)) (sym (length-map ys number))
elements_decide k l (x ∷ xs) [] = ap (λ n. (pos (n + 1), pos 0)) (sym (length-map xs number))
elements_decide k l (x ∷ xs) (y ∷ ys) =
    let signed = either_signed (Number k) (Number l) in
    let a = taken signed (number x) in
    let b = taken signed (number y) in
    ap (λ rest. if int_eq a b then rest else (a, b)) (elements_decide k l xs ys)

-- lists of numbers are compared by their numbers
pub lists_decide : (s t : Shape) (x y : Value) → are_alike s t ≡ true → is_number s ≡ false → deciding s t x y ≡ deciding_numbers (either_signed (element s) (element t)) (numbers_in x) (numbers_in y)
lists_decide s t x y e f =
    let both = alike_numbers s t e f in
    let a = numbers_shape s both.0 in
    let b = numbers_shape t both.1 in
    ap₂ (λ p q. deciding p q x y) a.2 b.2
    ∙ elements_decide a.1 b.1 (elements x) (elements y)
    ∙ ap₂ (λ p q. deciding_numbers (either_signed (element p) (element q)) (numbers_in x) (numbers_in y)) (sym a.2) (sym b.2)

-- ---- whole comparisons

pub lists_held : (c : Cmp) (s t : Shape) (x y : Value) (signed : Bool) (pair : ℤ × ℤ) → are_alike s t ≡ true → is_number s ≡ false → signed ≡ either_signed (element s) (element t) → pair ≡ deciding_numbers signed (numbers_in x) (numbers_in y) → compares c pair.0 pair.1 ≡ holds c (Given s x) (Given t y)
lists_held c s t x y signed pair alike other e told =
    ap
    (λ (p : ℤ × ℤ). compares c p.0 p.1)
    (told ∙ ap (λ b. deciding_numbers b (numbers_in x) (numbers_in y)) e ∙ sym (lists_decide s t x y alike other))

-- ---- step by step

-- the numbers that decide where all numbers but those from the k-th on are the same
abbrev rest_decides : Bool → List ℤ → List ℤ → ℕ → ℤ × ℤ
rest_decides signed xs ys k = deciding_numbers signed (drop k xs) (drop k ys)

-- where the second list is used up
pub second_ends : (signed : Bool) (xs ys : List ℤ) (k : ℕ) (whole : ℤ × ℤ) → k < length xs → length ys ≤ k → rest_decides signed xs ys k ≡ whole → (pos (length xs - k), pos 0) ≡ whole
second_ends signed xs ys k whole less end e =
    let more = drop (k + 1) xs in
    let first : drop k xs ≡ get_or xs k (pos 0) ∷ more = drop_more xs k (pos 0) less in
    let n : length more + 1 ≡ length xs - k = omega (arith, length-drop (k + 1) xs) in
    ap (λ m. (pos m, pos 0)) (sym n)
    ∙ sym (ap₂ (deciding_numbers signed) first (drop_all k ys end))
    ∙ e

both_here : (signed : Bool) (xs ys : List ℤ) (k : ℕ) (x y : ℤ) → k < length xs → k < length ys → x ≡ get_or xs k (pos 0) → y ≡ get_or ys k (pos 0) → rest_decides signed xs ys k ≡ (if int_eq (taken signed x) (taken signed y) then rest_decides signed xs ys (k + 1) else (taken signed x, taken signed y))
both_here signed xs ys k x y less within here there =
    let first = drop_more xs k (pos 0) less in
    let second = drop_more ys k (pos 0) within in
    ap₂
    (deciding_numbers signed)
    (first ∙ ap (λ z. z ∷ drop (k + 1) xs) (sym here))
    (second ∙ ap (λ z. z ∷ drop (k + 1) ys) (sym there))

-- where they differ
pub here_differ : (signed : Bool) (xs ys : List ℤ) (k : ℕ) (x y : ℤ) (whole : ℤ × ℤ) → k < length xs → k < length ys → x ≡ get_or xs k (pos 0) → y ≡ get_or ys k (pos 0) → (taken signed x ≡ taken signed y → ⊥) → rest_decides signed xs ys k ≡ whole → (taken signed x, taken signed y) ≡ whole
here_differ signed xs ys k x y whole less within here there other e =
    let a = taken signed x in
    let b = taken signed y in
    let no : int_eq a b ≡ false = false_from_ne_true (int_eq a b) (λ yes. other ((Decides-int_eq a b).0 yes)) in
    sym (ap (λ t. if t then rest_decides signed xs ys (k + 1) else (a, b)) no)
    ∙ sym (both_here signed xs ys k x y less within here there)
    ∙ e

-- where they don't
pub here_same : (signed : Bool) (xs ys : List ℤ) (k : ℕ) (x y : ℤ) (whole : ℤ × ℤ) → k < length xs → k < length ys → x ≡ get_or xs k (pos 0) → y ≡ get_or ys k (pos 0) → taken signed x ≡ taken signed y → rest_decides signed xs ys k ≡ whole → rest_decides signed xs ys (k + 1) ≡ whole
here_same signed xs ys k x y whole less within here there same e =
    let a = taken signed x in
    let b = taken signed y in
    sym (ap (λ t. if t then rest_decides signed xs ys (k + 1) else (a, b)) ((Decides-int_eq a b).1 same))
    ∙ sym (both_here signed xs ys k x y less within here there)
    ∙ e
