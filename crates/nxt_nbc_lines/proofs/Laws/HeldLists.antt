-- Lists whose elements change where a test does not look.
use Rattle.std.proofs.Common.{◌≡◌, ℕ, ◌+◌, Bool, true, false, not, cond, ◌||◌, ◌&&◌, nat_lt, List, [], ◌∷◌, length, map, filter, filter_map, position, zip, Option, Some, None, option_map, refl, ap, ◌∙◌}
use Rattle.std.specs.List.{cons_option, list_any, list_all, enumerate_from, prefix_len, position_or_len}
use Rattle.std.proofs.lemmas.List.{length-map}

map_by : {X : Type 0} (h : X → X) (x : X) (xs : List X) (c : Bool) → cond c (h x ∷ map h xs) (map h xs) ≡ map h (cond c (x ∷ xs) xs)
map_by h x xs true = refl
map_by h x xs false = refl

pub filter_same : {X : Type 0} (h : X → X) (p : X → Bool) → ((x : X) → p (h x) ≡ p x) → (xs : List X) → filter p (map h xs) ≡ map h (filter p xs)
filter_same h p same [] = refl
filter_same h p same (x ∷ xs) =
    ap (λ c. cond c (h x ∷ filter p (map h xs)) (filter p (map h xs))) (same x)
    ∙ ap (λ ys. cond (p x) (h x ∷ ys) ys) (filter_same h p same xs)
    ∙ map_by h x (filter p xs) (p x)

prefix_same : {X : Type 0} (h : X → X) (p : X → Bool) → ((x : X) → p (h x) ≡ p x) → (xs : List X) → prefix_len p (map h xs) ≡ prefix_len p xs
prefix_same h p same [] = refl
prefix_same h p same (x ∷ xs) =
    ap (λ c. cond c (1 + prefix_len p (map h xs)) 0) (same x) ∙ ap (λ n. cond (p x) (1 + n) 0) (prefix_same h p same xs)

pub position_same : {X : Type 0} (h : X → X) (p : X → Bool) → ((x : X) → p (h x) ≡ p x) → (xs : List X) → position p (map h xs) ≡ position p xs
position_same h p same xs =
    ap (λ n. cond (nat_lt n (length (map h xs))) (Some n) None) (prefix_same h (λ x. not (p x)) (λ x. ap not (same x)) xs)
    ∙ ap (λ m. cond (nat_lt (position_or_len p xs) m) (Some (position_or_len p xs)) None) (length-map xs h)

pub any_same : {X Y : Type 0} (h : X → Y) (p : Y → Bool) (q : X → Bool) → ((x : X) → p (h x) ≡ q x) → (xs : List X) → list_any p (map h xs) ≡ list_any q xs
any_same h p q same [] = refl
any_same h p q same (x ∷ xs) = ap (λ c. c || list_any p (map h xs)) (same x) ∙ ap (λ c. q x || c) (any_same h p q same xs)

pub all_same : {X Y : Type 0} (h : X → Y) (p : Y → Bool) (q : X → Bool) → ((x : X) → p (h x) ≡ q x) → (xs : List X) → list_all p (map h xs) ≡ list_all q xs
all_same h p q same [] = refl
all_same h p q same (x ∷ xs) = ap (λ c. c && list_all p (map h xs)) (same x) ∙ ap (λ c. q x && c) (all_same h p q same xs)

pub any_alike : {X : Type 0} (p q : X → Bool) → ((x : X) → p x ≡ q x) → (xs : List X) → list_any p xs ≡ list_any q xs
any_alike p q same [] = refl
any_alike p q same (x ∷ xs) = ap (λ c. c || list_any p xs) (same x) ∙ ap (λ c. q x || c) (any_alike p q same xs)

pub map_alike : {X Y Z : Type 0} (h : X → Y) (f : Y → Z) (g : X → Z) → ((x : X) → f (h x) ≡ g x) → (xs : List X) → map f (map h xs) ≡ map g xs
map_alike h f g same [] = refl
map_alike h f g same (x ∷ xs) = ap (λ y. y ∷ map f (map h xs)) (same x) ∙ ap (λ ys. g x ∷ ys) (map_alike h f g same xs)

pick_by : {X : Type 0} (g : X → X) (o : Option X) (xs : List X) → cons_option (option_map g o) (map g xs) ≡ map g (cons_option o xs)
pick_by g None xs = refl
pick_by g (Some x) xs = refl

-- what is picked changes with the elements
pub pick_same : {X Y : Type 0} (h : X → X) (g : Y → Y) (f k : X → Option Y) → ((x : X) → f (h x) ≡ option_map g (k x)) → (xs : List X) → filter_map f (map h xs) ≡ map g (filter_map k xs)
pick_same h g f k same [] = refl
pick_same h g f k same (x ∷ xs) =
    ap (λ o. cons_option o (filter_map f (map h xs))) (same x)
    ∙ ap (λ ys. cons_option (option_map g (k x)) ys) (pick_same h g f k same xs)
    ∙ pick_by g (k x) (filter_map k xs)

-- what is picked stays
pub pick_alike : {X Y : Type 0} (h : X → X) (f : X → Option Y) → ((x : X) → f (h x) ≡ f x) → (xs : List X) → filter_map f (map h xs) ≡ filter_map f xs
pick_alike h f same [] = refl
pick_alike h f same (x ∷ xs) =
    ap (λ o. cons_option o (filter_map f (map h xs))) (same x) ∙ ap (λ ys. cons_option (f x) ys) (pick_alike h f same xs)

-- the second of two
abbrev pub in_second : {K X : Type 0} → (X → X) → K × X → K × X
in_second h p = (p.0, h p.1)

pub zip_same : {K X : Type 0} (h : X → X) (ks : List K) (xs : List X) → zip ks (map h xs) ≡ map (in_second h) (zip ks xs)
zip_same h [] xs = refl
zip_same h (k ∷ ks) [] = refl
zip_same h (k ∷ ks) (x ∷ xs) = ap (λ ps. (k, h x) ∷ ps) (zip_same h ks xs)

pub enumerate_same : {X : Type 0} (h : X → X) (n : ℕ) (xs : List X) → enumerate_from n (map h xs) ≡ map (in_second h) (enumerate_from n xs)
enumerate_same h n [] = refl
enumerate_same h n (x ∷ xs) = ap (λ ps. (n, h x) ∷ ps) (enumerate_same h (n + 1) xs)
