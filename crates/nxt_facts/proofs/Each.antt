-- Facts on each element of a list.
use Rattle.std.proofs.Common.{◌≡◌, Bool, true, false, cond, List, [], ◌∷◌, ◌++◌, map, filter, flat_map, refl, ap}
use Rattle.std.specs.List.{AllByRecursion, list_all}
use Rattle.std.proofs.lemmas.List.Elements.{All-from_recursion, recursion_from_All}
use Rattle.std.proofs.lemmas.List.Sums.{AllPass-from_list_all, list_all-from_AllPass}

abbrev pub Each : {X : Type 0} → (X → Type 0) → List X → Type 0
Each P xs = AllByRecursion P xs

pub each_from : {X : Type 0} (P : X → Type 0) → ((x : X) → P x) → (xs : List X) → Each P xs
each_from P h [] = tt
each_from P h (x ∷ xs) = (h x, each_from P h xs)

pub each_then : {X : Type 0} (P Q : X → Type 0) → ((x : X) → P x → Q x) → (xs : List X) → Each P xs → Each Q xs
each_then P Q h [] e = tt
each_then P Q h (x ∷ xs) e = (h x e.0, each_then P Q h xs e.1)

pub each_both : {X : Type 0} (P Q R : X → Type 0) → ((x : X) → P x → Q x → R x) → (xs : List X) → Each P xs → Each Q xs → Each R xs
each_both P Q R h [] a b = tt
each_both P Q R h (x ∷ xs) a b = (h x a.0 b.0, each_both P Q R h xs a.1 b.1)

pub each_apart : {X : Type 0} (P : X → Type 0) (xs ys : List X) → Each P (xs ++ ys) → Each P xs × Each P ys
each_apart P [] ys e = (tt, e)
each_apart P (x ∷ xs) ys e = let rest = each_apart P xs ys e.1 in ((e.0, rest.0), rest.1)

pub each_join : {X : Type 0} (P : X → Type 0) (xs ys : List X) → Each P xs → Each P ys → Each P (xs ++ ys)
each_join P [] ys a b = b
each_join P (x ∷ xs) ys a b = (a.0, each_join P xs ys a.1 b)

pub each_part : {X Y : Type 0} (P : Y → Type 0) (f : X → List Y) (xs : List X) → Each P (flat_map f xs) → Each (λ x. Each P (f x)) xs
each_part P f [] e = tt
each_part P f (x ∷ xs) e = let two = each_apart P (f x) (flat_map f xs) e in (two.0, each_part P f xs two.1)

pub each_flat : {X Y : Type 0} (P : Y → Type 0) (f : X → List Y) (xs : List X) → Each (λ x. Each P (f x)) xs → Each P (flat_map f xs)
each_flat P f [] e = tt
each_flat P f (x ∷ xs) e = each_join P (f x) (flat_map f xs) e.0 (each_flat P f xs e.1)

pub each_map : {X Y : Type 0} (P : Y → Type 0) (f : X → Y) (xs : List X) → Each P (map f xs) → Each (λ x. P (f x)) xs
each_map P f [] e = tt
each_map P f (x ∷ xs) e = (e.0, each_map P f xs e.1)

pub each_mapped : {X Y : Type 0} (P : Y → Type 0) (f : X → Y) (xs : List X) → Each (λ x. P (f x)) xs → Each P (map f xs)
each_mapped P f [] e = tt
each_mapped P f (x ∷ xs) e = (e.0, each_mapped P f xs e.1)

kept_one : {X : Type 0} (P : X → Type 0) (p : X → Bool) (x : X) (xs : List X) (b : Bool) → p x ≡ b → Each P (cond b (x ∷ filter p xs) (filter p xs)) → (p x ≡ true → P x) × Each P (filter p xs)
kept_one P p x xs true e h = (λ _. h.0, h.1)
kept_one P p x xs false e h = (λ t. let f : ⊥ = cc in absurd f, h)

pub each_kept : {X : Type 0} (P : X → Type 0) (p : X → Bool) (xs : List X) → Each P (filter p xs) → Each (λ x. p x ≡ true → P x) xs
each_kept P p [] e = tt
each_kept P p (x ∷ xs) e = let one = kept_one P p x xs (p x) refl e in (one.0, each_kept P p xs one.1)

keep_one : {X : Type 0} (P : X → Type 0) (p : X → Bool) (x : X) (ys : List X) (b : Bool) → p x ≡ b → (p x ≡ true → P x) → Each P ys → Each P (cond b (x ∷ ys) ys)
keep_one P p x ys true e h k = (h e, k)
keep_one P p x ys false e h k = k

pub each_filter : {X : Type 0} (P : X → Type 0) (p : X → Bool) (xs : List X) → Each (λ x. p x ≡ true → P x) xs → Each P (filter p xs)
each_filter P p [] e = tt
each_filter P p (x ∷ xs) e = keep_one P p x (filter p xs) (p x) refl e.0 (each_filter P p xs e.1)

pub filter_all : {X : Type 0} (p : X → Bool) (xs : List X) → Each (λ x. p x ≡ true) xs → filter p xs ≡ xs
filter_all p [] e = refl
filter_all p (x ∷ xs) e = rw e.0 (ap (λ ys. x ∷ ys) (filter_all p xs e.1))

-- where all pass a test
pub each_passes : {X : Type 0} (test : X → Bool) (xs : List X) → list_all test xs ≡ true → Each (λ x. test x ≡ true) xs
each_passes test xs e = recursion_from_All (λ x. test x ≡ true) xs (AllPass-from_list_all test xs e)

pub passes_each : {X : Type 0} (test : X → Bool) (xs : List X) → Each (λ x. test x ≡ true) xs → list_all test xs ≡ true
passes_each test xs e = list_all-from_AllPass test xs (All-from_recursion (λ x. test x ≡ true) xs e)
