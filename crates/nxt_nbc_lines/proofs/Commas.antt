-- A list that is cut at its first comma.
use Rattle.std.proofs.Common.{◌≡◌, ℕ, suc, ◌+◌, ◌<◌, ◌≤◌, Bool, true, false, List, [], ◌∷◌, length, take, drop, map, cond, refl, ap, ◌∙◌, arith}
use Rattle.std.specs.Prelude.{not}
use Rattle.std.specs.List.{prefix_len, slice_split, onto_first}

-- how many stand in front of the first that passes, seen by f
abbrev pub before : {X Y : Type 0} → (X → Y) → (Y → Bool) → List X → ℕ
before f q xs = prefix_len (λ x. not (q (f x))) xs

some_by : {X Y : Type 0} (f : X → Y) (q : Y → Bool) (x : X) (xs : List X) (n : ℕ) (c : Bool)
    → (n < length xs → slice_split q (map f xs) ≡ map f (take n xs) ∷ slice_split q (map f (drop (suc n) xs)))
    → cond (not c) (1 + n) 0 < suc (length xs)
    → cond c ([] ∷ slice_split q (map f xs)) (onto_first (f x) (slice_split q (map f xs)))
    ≡ map f (take (cond (not c) (1 + n) 0) (x ∷ xs)) ∷ slice_split q (map f (drop (suc (cond (not c) (1 + n) 0)) (x ∷ xs)))
some_by f q x xs n true more lt = refl
some_by f q x xs n false more lt =
    let next : suc n ≡ 1 + n = omega arith in
    ap (onto_first (f x)) (more (omega (arith, lt)))
    ∙ ap (λ k. map f (take k (x ∷ xs)) ∷ slice_split q (map f (drop (suc k) (x ∷ xs)))) next

pub split_some : {X Y : Type 0} (f : X → Y) (q : Y → Bool) (xs : List X) → before f q xs < length xs
    → slice_split q (map f xs) ≡ map f (take (before f q xs) xs) ∷ slice_split q (map f (drop (suc (before f q xs)) xs))
split_some f q [] lt = absurd (omega (arith, lt))
split_some f q (x ∷ xs) lt = some_by f q x xs (before f q xs) (q (f x)) (split_some f q xs) lt

none_by : {X Y : Type 0} (f : X → Y) (q : Y → Bool) (x : X) (xs : List X) (n : ℕ) (c : Bool)
    → (length xs ≤ n → slice_split q (map f xs) ≡ map f xs ∷ [])
    → suc (length xs) ≤ cond (not c) (1 + n) 0
    → cond c ([] ∷ slice_split q (map f xs)) (onto_first (f x) (slice_split q (map f xs))) ≡ (f x ∷ map f xs) ∷ []
none_by f q x xs n true more le = absurd (omega (arith, le))
none_by f q x xs n false more le = ap (onto_first (f x)) (more (omega (arith, le)))

pub split_none : {X Y : Type 0} (f : X → Y) (q : Y → Bool) (xs : List X) → length xs ≤ before f q xs
    → slice_split q (map f xs) ≡ map f xs ∷ []
split_none f q [] le = refl
split_none f q (x ∷ xs) le = none_by f q x xs (before f q xs) (q (f x)) (split_none f q xs) le
