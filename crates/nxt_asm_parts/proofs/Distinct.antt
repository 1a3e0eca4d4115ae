-- What is put in where it is new is what is distinct.
use Rattle.std.proofs.Common.{◌≡◌, Bool, true, false, not, ◌&&◌, ◌||◌, cond, filter, List, [], ◌∷◌, ◌++◌, refl, sym, ap, ap₂, ◌∙◌, append_assoc, append-nil}
use Rattle.std.specs.Prelude.{if◌then◌else◌}
use Rattle.std.specs.Cmp.{IsEquivalence}
use Rattle.std.specs.List.{list_any}
use Rattle.indexmap.specs.IndexSet.{insert_all}
use Rattle.nxt_model.specs.TextProgram.{distinct}

module _ {X : Type 0} where
  -- a filter of what a filter keeps
  filter_twice : (p q r : X → Bool) → ((x : X) → r x ≡ (q x && p x)) → (xs : List X) → filter p (filter q xs) ≡ filter r xs
  filter_twice p q r both [] = refl
  filter_twice p q r both (x ∷ xs) =
      by (q x) (filter_twice p q r both xs) ∙ ap (λ b. cond b (x ∷ filter r xs) (filter r xs)) (sym (both x))
    where
      by : (b : Bool) → filter p (filter q xs) ≡ filter r xs → filter p (cond b (x ∷ filter q xs) (filter q xs)) ≡ cond (b && p x) (x ∷ filter r xs) (filter r xs)
      by false e = e
      by true e = ap (λ l. cond (p x) (x ∷ l) l) e

  -- a filter that keeps all
  filter_all : (xs : List X) → filter (λ x. true) xs ≡ xs
  filter_all [] = refl
  filter_all (x ∷ xs) = ap (λ l. x ∷ l) (filter_all xs)

  -- whether one more item passes too
  any_push : (p : X → Bool) (xs : List X) (y : X) → list_any p (xs ++ y ∷ []) ≡ (list_any p xs || p y)
  any_push p [] y = or_none (p y)
    where
      or_none : (b : Bool) → (b || false) ≡ b
      or_none true = refl
      or_none false = refl
  any_push p (x ∷ xs) y = ap (λ b. p x || b) (any_push p xs y) ∙ grouped (p x) (list_any p xs) (p y)
    where
      grouped : (a b c : Bool) → (a || (b || c)) ≡ ((a || b) || c)
      grouped true b c = refl
      grouped false b c = refl

module _ {X : Type 0} (same : X → X → Bool) (laws : IsEquivalence same) where
  -- what is the same is found alike
  any_alike : (x y : X) → same x y ≡ true → (ks : List X) → list_any (same x) ks ≡ list_any (same y) ks
  any_alike x y e [] = refl
  any_alike x y e (k ∷ ks) = ap₂ (λ a b. a || b) (laws.congr x y k e) (any_alike x y e ks)

  -- whether an item is the same as none of others
  abbrev is_new : List X → X → Bool
  is_new ks y = not (list_any (same y) ks)

  -- one that is not new leaves the same new ones
  new_again : (ks : List X) (x : X) → list_any (same x) ks ≡ true → (y : X) → is_new ks y ≡ (not (same x y) && is_new ks y)
  new_again ks x there y = by (same x y) refl
    where
      by : (b : Bool) → same x y ≡ b → is_new ks y ≡ (not b && is_new ks y)
      by false e = refl
      by true e = ap not (sym (any_alike x y e ks) ∙ there)

  -- behind one that is new, those that are the same are new no more
  new_more : (ks : List X) (x y : X) → is_new (ks ++ x ∷ []) y ≡ (not (same x y) && is_new ks y)
  new_more ks x y = ap not (any_push (same y) ks x ∙ ap (λ b. list_any (same y) ks || b) (laws.symm y x)) ∙ by (list_any (same y) ks) (same x y)
    where
      by : (a b : Bool) → not (a || b) ≡ (not b && not a)
      by true true = refl
      by true false = refl
      by false true = refl
      by false false = refl

  -- behind others come those of the distinct ones that are new
  behind : (ks xs : List X) → insert_all same ks xs ≡ ks ++ filter (is_new ks) (distinct same xs)
  behind ks [] = sym (append-nil ks)
  behind ks (x ∷ xs) = by (list_any (same x) ks) refl (behind ks xs) (behind (ks ++ x ∷ []) xs)
    where
      ds : List X
      ds = distinct same xs

      others : List X
      others = filter (λ y. not (same x y)) ds

      by : (b : Bool) → list_any (same x) ks ≡ b → insert_all same ks xs ≡ ks ++ filter (is_new ks) ds
          → insert_all same (ks ++ x ∷ []) xs ≡ (ks ++ x ∷ []) ++ filter (is_new (ks ++ x ∷ [])) ds
          → insert_all same (if b then ks else ks ++ x ∷ []) xs ≡ ks ++ cond (not b) (x ∷ filter (is_new ks) others) (filter (is_new ks) others)
      by true e again new =
          again ∙ ap (λ l. ks ++ l) (sym (filter_twice (is_new ks) (λ y. not (same x y)) (is_new ks) (new_again ks x e) ds))
      by false e again new =
          new
          ∙ append_assoc ks (x ∷ []) (filter (is_new (ks ++ x ∷ [])) ds)
          ∙ ap (λ l. ks ++ x ∷ l) (sym (filter_twice (is_new ks) (λ y. not (same x y)) (is_new (ks ++ x ∷ [])) (new_more ks x) ds))

  -- behind none, all of them are
  pub all_distinct : (xs : List X) → insert_all same [] xs ≡ distinct same xs
  all_distinct xs = behind [] xs ∙ filter_all (distinct same xs)
