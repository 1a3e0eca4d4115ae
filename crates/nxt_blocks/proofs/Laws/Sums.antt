-- Sums over the elements of a list, compared.
use Rattle.std.proofs.Common.{◌≡◌, ℕ, ◌+◌, ◌≤◌, ◌⊎◌, inl, inr, List, [], ◌∷◌, map, refl, sym, ◌∙◌, arith}
use Rattle.std.specs.Prelude.{sum_by}
use Rattle.std.proofs.lemmas.List.Sums.{sum_by-cons}
use Rattle.nxt_facts.proofs.Each.{Each, each_mapped}
use Rattle.nxt_facts.specs.Pairs.{EachPair}

-- y is an element
abbrev pub In : {X : Type 0} → X → List X → Type 0
In y [] = ⊥
In y (x ∷ xs) = (y ≡ x) ⊎ In y xs

pub each_from : {X : Type 0} (P : X → Type 0) (xs : List X) → ((x : X) → In x xs → P x) → Each P xs
each_from P [] h = tt
each_from P (x ∷ xs) h = (h x (inl refl), each_from P xs (λ y i. h y (inr i)))

pub each_at : {X : Type 0} (P : X → Type 0) (xs : List X) (y : X) → Each P xs → In y xs → P y
each_at P [] y e i = absurd i
each_at P (x ∷ xs) y e (inl same) = rw same e.0
each_at P (x ∷ xs) y e (inr i) = each_at P xs y e.1 i

-- two elements are the same, or the relation holds between them
pub pair_at : {X : Type 0} (R : X → X → Type 0) → ((x y : X) → R x y → R y x) → (xs : List X) (a b : X) → EachPair R xs → In a xs → In b xs → (a ≡ b) ⊎ R a b
pair_at R turn [] a b e i j = absurd i
pair_at R turn (x ∷ xs) a b e (inl f) (inl g) = inl (f ∙ sym g)
pair_at R turn (x ∷ xs) a b e (inl f) (inr j) = inr (rw f (each_at (R x) xs b e.0 j))
pair_at R turn (x ∷ xs) a b e (inr i) (inl g) = inr (rw g (turn x a (each_at (R x) xs a e.0 i)))
pair_at R turn (x ∷ xs) a b e (inr i) (inr j) = pair_at R turn xs a b e.1 i j

pub pairs_map : {X Y : Type 0} (R : X → X → Type 0) (Q : Y → Y → Type 0) (g : X → Y) (xs : List X) → ((x y : X) → In x xs → In y xs → R x y → Q (g x) (g y)) → EachPair R xs → EachPair Q (map g xs)
pairs_map R Q g [] f e = tt
pairs_map R Q g (x ∷ xs) f e = (
  each_mapped (Q (g x)) g xs (each_from (λ y. Q (g x) (g y)) xs (λ y i. f x y (inl refl) (inr i) (each_at (R x) xs y e.0 i))),
  pairs_map R Q g xs (λ a b i j. f a b (inr i) (inr j)) e.1,
)

-- ---- sums

pub sum_map : {X Y : Type 0} (f : Y → ℕ) (g : X → Y) (xs : List X) → sum_by f (map g xs) ≡ sum_by (λ x. f (g x)) xs
sum_map f g [] = refl
sum_map f g (x ∷ xs) = omega (arith, sum_by-cons f (g x) (map g xs), sum_by-cons (λ y. f (g y)) x xs, sum_map f g xs)

pub sum_le : {X : Type 0} (f g : X → ℕ) (xs : List X) → ((x : X) → In x xs → f x ≤ g x) → sum_by f xs ≤ sum_by g xs
sum_le f g [] h = omega arith
sum_le f g (x ∷ xs) h = omega (arith, sum_by-cons f x xs, sum_by-cons g x xs, h x (inl refl), sum_le f g xs (λ y i. h y (inr i)))

pub sum_same : {X : Type 0} (f g : X → ℕ) (xs : List X) → ((x : X) → In x xs → f x ≡ g x) → sum_by f xs ≡ sum_by g xs
sum_same f g [] h = refl
sum_same f g (x ∷ xs) h = omega (arith, sum_by-cons f x xs, sum_by-cons g x xs, h x (inl refl), sum_same f g xs (λ y i. h y (inr i)))

pub sum_le_two : {X : Type 0} (f g h : X → ℕ) (xs : List X) → ((x : X) → In x xs → f x ≤ g x + h x) → sum_by f xs ≤ sum_by g xs + sum_by h xs
sum_le_two f g h [] l = omega arith
sum_le_two f g h (x ∷ xs) l = omega (arith, sum_by-cons f x xs, sum_by-cons g x xs, sum_by-cons h x xs, l x (inl refl), sum_le_two f g h xs (λ y i. l y (inr i)))

pub sum_two : {X : Type 0} (f g h : X → ℕ) (xs : List X) → ((x : X) → In x xs → f x ≡ g x + h x) → sum_by f xs ≡ sum_by g xs + sum_by h xs
sum_two f g h [] l = refl
sum_two f g h (x ∷ xs) l = omega (arith, sum_by-cons f x xs, sum_by-cons g x xs, sum_by-cons h x xs, l x (inl refl), sum_two f g h xs (λ y i. l y (inr i)))

-- one of the terms is larger by c
pub sum_le_at : {X : Type 0} (f g : X → ℕ) (c : ℕ) (xs : List X) (y : X) → ((x : X) → In x xs → f x ≤ g x) → In y xs → f y + c ≤ g y → sum_by f xs + c ≤ sum_by g xs
sum_le_at f g c [] y h i more = absurd i
sum_le_at f g c (x ∷ xs) y h (inl same) more =
    let here : f x + c ≤ g x = rw (sym same) more in
    omega (arith, sum_by-cons f x xs, sum_by-cons g x xs, here, sum_le f g xs (λ z i. h z (inr i)))
sum_le_at f g c (x ∷ xs) y h (inr i) more =
    omega (arith, sum_by-cons f x xs, sum_by-cons g x xs, h x (inl refl), sum_le_at f g c xs y (λ z j. h z (inr j)) i more)
