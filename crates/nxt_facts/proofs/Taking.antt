-- One more item off a list's front.
use Rattle.std.proofs.Common.{◌≡◌, ℕ, ◌+◌, ◌-◌, ◌<◌, List, [], ◌∷◌, ◌++◌, sym, ap, ◌∙◌, take, drop, suc, arith, append_assoc}
use Rattle.std.proofs.lemmas.List.{map-append}
use Rattle.std.specs.Prelude.{map}

pub take_one : {X : Type 0} (n i : ℕ) (x : X) (xs : List X) → i < n → take (n - i) (x ∷ xs) ≡ x ∷ take (n - (i + 1)) xs
take_one n i x xs h = let e : n - i ≡ suc (n - (i + 1)) = omega arith in ap (λ k. take k (x ∷ xs)) e

pub drop_one : {X : Type 0} (n i : ℕ) (x : X) (xs : List X) → i < n → drop (n - i) (x ∷ xs) ≡ drop (n - (i + 1)) xs
drop_one n i x xs h = let e : n - i ≡ suc (n - (i + 1)) = omega arith in ap (λ k. drop k (x ∷ xs)) e

-- the items that were taken, seen by f, when one more is
pub taken_more : {A B : Type 0} (f : A → B) (n i : ℕ) (x : A) (taken pushed left popped : List A) (all : List B) → i < n → pushed ≡ taken ++ x ∷ [] → left ≡ x ∷ popped →
    map f taken ++ take (n - i) (map f left) ≡ take n all → map f pushed ++ take (n - (i + 1)) (map f popped) ≡ take n all
taken_more f n i x taken pushed left popped all h p q e =
    ap (λ l. map f l ++ take (n - (i + 1)) (map f popped)) p
    ∙ ap (λ l. l ++ take (n - (i + 1)) (map f popped)) (map-append f taken (x ∷ []))
    ∙ append_assoc (map f taken) (f x ∷ []) (take (n - (i + 1)) (map f popped))
    ∙ ap (λ l. map f taken ++ l) (sym (take_one n i (f x) (map f popped) h))
    ∙ ap (λ l. map f taken ++ take (n - i) (map f l)) (sym q) ∙ e

pub left_more : {A B : Type 0} (f : A → B) (n i : ℕ) (x : A) (left popped : List A) (all : List B) → i < n → left ≡ x ∷ popped →
    drop (n - i) (map f left) ≡ drop n all → drop (n - (i + 1)) (map f popped) ≡ drop n all
left_more f n i x left popped all h q e =
    sym (drop_one n i (f x) (map f popped) h) ∙ ap (λ l. drop (n - i) (map f l)) (sym q) ∙ e
