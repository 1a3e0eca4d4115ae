-- What holds of each element of a list, from one element to the next.
use Rattle.std.proofs.Common.{◌≡◌, ℕ, zero, suc, ◌+◌, Bool, true, false, cond, List, [], ◌∷◌, ◌++◌, map, find, Option, Some, None, refl, sym, subst}
use Rattle.std.specs.Prelude.{filter, filter_map, flat_map, slice_get, All}
use Rattle.std.specs.List.{AllByRecursion, cons_option, enumerate_from}
use Rattle.std.proofs.lemmas.Option.{none-some, same_Some}
use Rattle.std.proofs.lemmas.List.Elements.{All-from_recursion}

-- each element, one after another
abbrev pub Each : {X : Type 0} → (X → Type 0) → List X → Type 0
Each {X} P xs = AllByRecursion P xs

-- ---- one list

module _ {X : Type 0} (P : X → Type 0) where
  -- lists behind one another
  pub each_append : (xs ys : List X) → Each P xs → Each P ys → Each P (xs ++ ys)
  each_append [] ys h k = k
  each_append (x ∷ xs) ys h k = (h.0, each_append xs ys h.1 k)

  pub each_push : (xs : List X) (x : X) → Each P xs → P x → Each P (xs ++ x ∷ [])
  each_push xs x h k = each_append xs (x ∷ []) h (k, tt)

  -- what a test keeps
  kept : (c : Bool) (x : X) (xs : List X) → P x → Each P xs → Each P (cond c (x ∷ xs) xs)
  kept true x xs h k = (h, k)
  kept false x xs h k = k

  pub each_filter : (test : X → Bool) (xs : List X) → Each P xs → Each P (filter test xs)
  each_filter test [] h = tt
  each_filter test (x ∷ xs) h = kept (test x) x (filter test xs) h.0 (each_filter test xs h.1)

  -- with numbers
  pub each_numbered : (n : ℕ) (xs : List X) → Each P xs → Each (λ x. P x.1) (enumerate_from n xs)
  each_numbered n [] h = tt
  each_numbered n (x ∷ xs) h = (h.0, each_numbered (n + 1) xs h.1)

  -- one that is read
  pub each_got : (xs : List X) (k : ℕ) (x : X) → Each P xs → slice_get xs k ≡ Some x → P x
  each_got [] k x h e = absurd (none-some x e)
  each_got (y ∷ xs) zero x h e = subst P (same_Some y x e) h.0
  each_got (y ∷ xs) (suc k) x h e = each_got xs k x h.1 e

  found : (test : X → Bool) (y x : X) (o : Option X) (c : Bool) → test y ≡ c → P y → cond c (Some y) o ≡ Some x → (o ≡ Some x → P x × (test x ≡ true)) → P x × (test x ≡ true)
  found test y x o true is h e more = let same : y ≡ x = same_Some y x e in (subst P same h, subst (λ z. test z ≡ true) same is)
  found test y x o false is h e more = more e

  -- one that is found, which passes the test
  pub each_found : (test : X → Bool) (xs : List X) (x : X) → Each P xs → find test xs ≡ Some x → P x × (test x ≡ true)
  each_found test [] x h e = absurd (none-some x e)
  each_found test (y ∷ xs) x h e = found test y x (find test xs) (test y) refl h.0 e (each_found test xs x h.1)

  -- what holds of all
  pub each_all : (xs : List X) → ((x : X) → P x) → Each P xs
  each_all [] h = tt
  each_all (x ∷ xs) h = (h x, each_all xs h)

  pub all_each : (xs : List X) → Each P xs → All P xs
  all_each xs h = All-from_recursion P xs h

-- ---- what functions give

pub each_map : {X Y : Type 0} (P : Y → Type 0) (f : X → Y) (xs : List X) → Each (λ x. P (f x)) xs → Each P (map f xs)
each_map P f [] h = tt
each_map P f (x ∷ xs) h = (h.0, each_map P f xs h.1)

-- something weaker, and two facts at once
pub each_weaker : {X : Type 0} (P Q : X → Type 0) (xs : List X) → ((x : X) → P x → Q x) → Each P xs → Each Q xs
each_weaker P Q [] to h = tt
each_weaker P Q (x ∷ xs) to h = (to x h.0, each_weaker P Q xs to h.1)

pub each_both : {X : Type 0} (P Q : X → Type 0) (xs : List X) → Each P xs → Each Q xs → Each (λ x. P x × Q x) xs
each_both P Q [] h k = tt
each_both P Q (x ∷ xs) h k = ((h.0, k.0), each_both P Q xs h.1 k.1)

-- lists of lists, and what isn't always given
pub each_flat : {X Y : Type 0} (P : Y → Type 0) (f : X → List Y) (xs : List X) → Each (λ x. Each P (f x)) xs → Each P (flat_map f xs)
each_flat P f [] h = tt
each_flat P f (x ∷ xs) h = each_append P (f x) (flat_map f xs) h.0 (each_flat P f xs h.1)

consed : {Y : Type 0} (P : Y → Type 0) (o : Option Y) (ys : List Y) → ((y : Y) → o ≡ Some y → P y) → Each P ys → Each P (cons_option o ys)
consed P None ys h k = k
consed P (Some y) ys h k = (h y refl, k)

pub each_given : {X Y : Type 0} (P : Y → Type 0) (f : X → Option Y) (xs : List X) → Each (λ x. (y : Y) → f x ≡ Some y → P y) xs → Each P (filter_map f xs)
each_given P f [] h = tt
each_given P f (x ∷ xs) h = consed P (f x) (filter_map f xs) h.0 (each_given P f xs h.1)

-- ---- two lists

-- what two lists begin with, and what follows
same_head : {Z : Type 0} (a b : Z) (xs ys : List Z) → a ∷ xs ≡ b ∷ ys → a ≡ b
same_head a b xs ys e = cc

same_tail : {Z : Type 0} (a b : Z) (xs ys : List Z) → a ∷ xs ≡ b ∷ ys → xs ≡ ys
same_tail a b xs ys e = cc

not_empty : {Z : Type 0} (a : Z) (xs : List Z) → [] ≡ a ∷ xs → ⊥
not_empty a xs e = cc

-- what holds of each element of the one holds of those of the other that look alike
pub each_alike : {X Y Z : Type 0} (f : X → Z) (g : Y → Z) (P : Y → Type 0) (Q : X → Type 0) → ((x : X) (y : Y) → f x ≡ g y → P y → Q x) → (xs : List X) (ys : List Y)
    → map f xs ≡ map g ys → Each P ys → Each Q xs
each_alike f g P Q to [] ys e h = tt
each_alike f g P Q to (x ∷ xs) [] e h = absurd (not_empty (f x) (map f xs) (sym e))
each_alike f g P Q to (x ∷ xs) (y ∷ ys) e h =
    (to x y (same_head (f x) (g y) (map f xs) (map g ys) e) h.0, each_alike f g P Q to xs ys (same_tail (f x) (g y) (map f xs) (map g ys) e) h.1)

-- two functions that give the same lists give the same of each element
pub each_same : {X Z : Type 0} (f g : X → Z) (xs : List X) → map f xs ≡ map g xs → Each (λ x. f x ≡ g x) xs
each_same f g [] e = tt
each_same f g (x ∷ xs) e =
    (same_head (f x) (g x) (map f xs) (map g xs) e, each_same f g xs (same_tail (f x) (g x) (map f xs) (map g xs) e))
