-- The order in which sleepers wake, and a sleeper put in it.
use Rattle.std.proofs.Common.{◌≡◌, ◌≢◌, ℕ, ◌+◌, ◌<◌, Bool, true, false, if◌then◌else◌, List, [], ◌∷◌, length, refl, ap, sym, ◌∙◌, arith, inl, inr}
use Rattle.std.specs.Prelude.{nat_le}
use Rattle.std.specs.List.{All}
use Rattle.std.proofs.lemmas.Bool.{cases_Bool, both_ways}
use Rattle.std.proofs.lemmas.Bool.Decides.{nat_tests}
use Rattle.std.proofs.lemmas.List.Elements.{All-nil, All-cons, All-head, All-tail}
use Rattle.nxt_model.specs.Clumps.{put_by_moment, by_moment}
use Rattle.nxt_clumps.specs.Inside.Sleepers.{stands_before, put_in_order}

-- ---- the order

before-trans : (x y z : ℕ × ℕ) → stands_before x y ≡ true → stands_before y z ≡ true → stands_before x z ≡ true
before-trans x y z e f = grind (arith, nat_tests)

before-other : (x y : ℕ × ℕ) → x.1 ≢ y.1 → stands_before x y ≡ true → stands_before y x ≡ false
before-other x y h e = grind (arith, nat_tests)

before-total : (x y : ℕ × ℕ) → stands_before x y ≡ false → stands_before y x ≡ true
before-total x y e = grind (arith, nat_tests)

before-self : (x : ℕ × ℕ) → stands_before x x ≡ true
before-self x = grind (arith, nat_tests)

-- in front of one with a larger number the moment decides
before-larger : (x y : ℕ × ℕ) → x.1 < y.1 → nat_le x.0 y.0 ≡ stands_before x y
before-larger x y h = grind (arith, nat_tests)

-- ---- one put among others

put_if : (x y : ℕ × ℕ) (ys : List (ℕ × ℕ)) (b : Bool) → stands_before x y ≡ b
    → put_in_order x (y ∷ ys) ≡ (if b then x ∷ y ∷ ys else y ∷ put_in_order x ys)
put_if x y ys b e = ap (λ (b : Bool). if b then x ∷ y ∷ ys else y ∷ put_in_order x ys) e

-- among those with larger numbers it is put by its moment
pub put-by_moment : (x : ℕ × ℕ) (ys : List (ℕ × ℕ)) → All (λ (y : ℕ × ℕ). x.1 < y.1) ys → put_by_moment x ys ≡ put_in_order x ys
put-by_moment x [] h = refl
put-by_moment x (y ∷ ys) h =
    let P : ℕ × ℕ → Type 0 = λ y. x.1 < y.1 in
    ap (λ (b : Bool). if b then x ∷ y ∷ ys else y ∷ put_by_moment x ys) (before-larger x y (All-head P y ys h))
    ∙ ap (λ l. if stands_before x y then x ∷ y ∷ ys else y ∷ l) (put-by_moment x ys (All-tail P y ys h))

-- one that stands before the other
put_both : (x y : ℕ × ℕ) (zs : List (ℕ × ℕ)) → stands_before x y ≡ true → stands_before y x ≡ false
    → put_in_order x (put_in_order y zs) ≡ put_in_order y (put_in_order x zs)
put_both x y [] xy yx = put_if x y [] true xy ∙ sym (put_if y x [] false yx)
put_both x y (z ∷ zs) xy yx =
    elim (cases_Bool (stands_before x z)) [
      | inl xz ↦
          elim (cases_Bool (stands_before y z)) [
            | inl yz ↦
                ap (put_in_order x) (put_if y z zs true yz) ∙ put_if x y (z ∷ zs) true xy
                ∙ sym (ap (put_in_order y) (put_if x z zs true xz) ∙ put_if y x (z ∷ zs) false yx ∙ ap (λ l. x ∷ l) (put_if y z zs true yz))
            | inr yz ↦
                ap (put_in_order x) (put_if y z zs false yz) ∙ put_if x z (put_in_order y zs) true xz
                ∙ sym (ap (put_in_order y) (put_if x z zs true xz) ∙ put_if y x (z ∷ zs) false yx ∙ ap (λ l. x ∷ l) (put_if y z zs false yz))
          ]
      | inr xz ↦
          elim (cases_Bool (stands_before y z)) [
            | inl yz ↦ absurd (both_ways (stands_before x z) xz (before-trans x y z xy yz))
            | inr yz ↦
                ap (put_in_order x) (put_if y z zs false yz) ∙ put_if x z (put_in_order y zs) false xz
                ∙ ap (λ l. z ∷ l) (put_both x y zs xy yx)
                ∙ sym (ap (put_in_order y) (put_if x z zs false xz) ∙ put_if y z (put_in_order x zs) false yz)
          ]
    ]

-- two are put in either order
pub put-put : (x y : ℕ × ℕ) (zs : List (ℕ × ℕ)) → x.1 ≢ y.1 → put_in_order x (put_in_order y zs) ≡ put_in_order y (put_in_order x zs)
put-put x y zs h =
    elim (cases_Bool (stands_before x y)) [
      | inl xy ↦ put_both x y zs xy (before-other x y h xy)
      | inr xy ↦ sym (put_both y x zs (before-total x y xy) xy)
    ]

-- where it stands first the others are as they were
pub put-first : (x : ℕ × ℕ) (ys rest : List (ℕ × ℕ)) → put_in_order x ys ≡ x ∷ rest → ys ≡ rest
put-first x [] rest e = cc
put-first x (y ∷ ys) rest e =
    elim (cases_Bool (stands_before x y)) [
      | inl xy ↦ let f = sym (put_if x y ys true xy) ∙ e in cc
      | inr xy ↦
          let f = sym (put_if x y ys false xy) ∙ e in
          let same : y ≡ x = cc in
          absurd (both_ways (stands_before x y) xy (ap (stands_before x) same ∙ before-self x))
    ]

-- ---- what holds of each

all_put : (P : ℕ × ℕ → Type 0) (x : ℕ × ℕ) (ys : List (ℕ × ℕ)) → P x → All P ys → All P (put_by_moment x ys)
all_put P x [] h all = All-cons P x [] h all
all_put P x (y ∷ ys) h all =
    elim (cases_Bool (nat_le x.0 y.0)) [
      | inl e ↦ simp e (All-cons P x (y ∷ ys) h all)
      | inr e ↦ simp e (All-cons P y (put_by_moment x ys) (All-head P y ys all) (all_put P x ys h (All-tail P y ys all)))
    ]

pub all-by_moment : (P : ℕ × ℕ → Type 0) (xs : List (ℕ × ℕ)) → All P xs → All P (by_moment xs)
all-by_moment P [] all = All-nil P
all-by_moment P (x ∷ xs) all = all_put P x (by_moment xs) (All-head P x xs all) (all-by_moment P xs (All-tail P x xs all))

length_put : (x : ℕ × ℕ) (ys : List (ℕ × ℕ)) → length (put_by_moment x ys) ≡ length ys + 1
length_put x [] = omega arith
length_put x (y ∷ ys) =
    elim (cases_Bool (nat_le x.0 y.0)) [
      | inl e ↦ simp e (omega arith)
      | inr e ↦ simp e (omega (arith, length_put x ys))
    ]

pub length-by_moment : (xs : List (ℕ × ℕ)) → length (by_moment xs) ≡ length xs
length-by_moment [] = refl
length-by_moment (x ∷ xs) = omega (arith, length_put x (by_moment xs), length-by_moment xs)
