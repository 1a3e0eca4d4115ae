-- Of candidates in the order of their ranks, each of which can be tested, the first that is broken is the refusal.
use Rattle.std.proofs.Common.{◌≡◌, ℕ, zero, suc, ◌+◌, ◌<◌, ◌≤◌, List, [], ◌∷◌, ◌++◌, refl, sym, ap, subst, arith, true, false, ◌⊎◌, inl, inr, lt-ltb, eq-eqb}
use Rattle.std.proofs.lemmas.Bool.{cases_lt}
use Rattle.std.proofs.lemmas.List.Sums.{sum_by-cons}
use Rattle.std.specs.Prelude.{Bool, IsTrue, nat_lt, ◌||◌, ◌&&◌, length, sum_by, slice_get, Some}
use Rattle.std.specs.List.{AllByRecursion, list_any}
use Rattle.nxt_types.specs.Refusals.{comes_first, IsRefusal, IsAccepted}

-- ---- order

pub comes_first_self : (ns : List ℕ) → IsTrue (comes_first ns ns)
comes_first_self [] = refl
comes_first_self (n ∷ ns) = rw (eq-eqb n n refl) (or_last (nat_lt n n) (comes_first_self ns))
  where
    or_last : (a : Bool) {b : Bool} → IsTrue b → IsTrue (a || (true && b))
    or_last true h = refl
    or_last false h = h

-- with a lesser number in front
pub lesser_first : (m n : ℕ) (ms ns : List ℕ) → m < n → IsTrue (comes_first (m ∷ ms) (n ∷ ns))
lesser_first m n ms ns lt = rw (lt-ltb m n lt) refl

-- with the same number in front
pub same_first : (n : ℕ) (ms ns : List ℕ) → IsTrue (comes_first ms ns) → IsTrue (comes_first (n ∷ ms) (n ∷ ns))
same_first n ms ns h = rw (eq-eqb n n refl) (or_last (nat_lt n n) h)
  where
    or_last : (a : Bool) {b : Bool} → IsTrue b → IsTrue (a || (true && b))
    or_last true h = refl
    or_last false h = h

-- ---- candidates

abbrev pub Among : {F : Type 0} → F → List F → Type 0
Among f [] = ⊥
Among f (g ∷ gs) = (f ≡ g) ⊎ Among f gs

-- each comes before those behind it
abbrev pub Sorted : {F : Type 0} → (F → List ℕ) → List F → Type 0
Sorted rank [] = Unit {0}
Sorted rank (f ∷ fs) = AllByRecursion (λ g. IsTrue (comes_first (rank f) (rank g))) fs × Sorted rank fs

among_all : {F : Type 0} (P : F → Type 0) (fs : List F) (f : F) → AllByRecursion P fs → Among f fs → P f
among_all P [] f h m = absurd m
among_all P (g ∷ gs) f h (inl e) = subst P (sym e) h.0
among_all P (g ∷ gs) f h (inr m) = among_all P gs f h.1 m

-- the first broken candidate, if there is one
record First {F : Type 0} (Broken : F → Type 0) (rank : F → List ℕ) (fs : List F) : Type 0 where
  fault : F
  broken : Broken fault
  least : (g : F) → Among g fs → Broken g → IsTrue (comes_first (rank fault) (rank g))

module _ {F : Type 0} (Broken : F → Type 0) (rank : F → List ℕ) (test : (f : F) → Broken f ⊎ (Broken f → ⊥)) where
  None : List F → Type 0
  None fs = (f : F) → Among f fs → Broken f → ⊥

  search_from : (f : F) (fs : List F) → Broken f ⊎ (Broken f → ⊥) → AllByRecursion (λ g. IsTrue (comes_first (rank f) (rank g))) fs →
      First Broken rank fs ⊎ None fs → First Broken rank (f ∷ fs) ⊎ None (f ∷ fs)
  unfolding None
  search_from f fs (inl b) order rest =
      inl (record { fault = f; broken = b; least = least })
    where
      least : (g : F) → Among g (f ∷ fs) → Broken g → IsTrue (comes_first (rank f) (rank g))
      least g (inl e) h = subst (λ x. IsTrue (comes_first (rank f) (rank x))) (sym e) (comes_first_self (rank f))
      least g (inr m) h = among_all (λ x. IsTrue (comes_first (rank f) (rank x))) fs g order m
  search_from f fs (inr sound) order (inl first) =
      inl (record { fault = first.fault; broken = first.broken; least = least })
    where
      least : (g : F) → Among g (f ∷ fs) → Broken g → IsTrue (comes_first (rank first.fault) (rank g))
      least g (inl e) h = absurd (sound (subst Broken e h))
      least g (inr m) h = first.least g m h
  search_from f fs (inr sound) order (inr none) = inr least
    where
      least : (g : F) → Among g (f ∷ fs) → Broken g → ⊥
      least g (inl e) h = sound (subst Broken e h)
      least g (inr m) h = none g m h

  first_of : (fs : List F) → Sorted rank fs → First Broken rank fs ⊎ None fs
  unfolding None
  first_of [] s = inr (λ f m h. m)
  first_of (f ∷ fs) s = search_from f fs (test f) s.0 (first_of fs s.1)

  -- where each broken rule is among the candidates, a first one refuses, or none is broken
  pub decided : (fs : List F) → Sorted rank fs → ((f : F) → Broken f → Among f fs) → ((f : F) × IsRefusal Broken rank f) ⊎ IsAccepted Broken
  unfolding None
  decided fs s complete =
      elim (first_of fs s) [
        | inl first ↦ inl (first.fault, record { broken = first.broken; least = λ g h. first.least g (complete g h) h })
        | inr none ↦ inr (λ f h. none f (complete f h) h)
      ]

-- ---- ranges of candidates

-- f i, f (i + 1), .., n of them
abbrev pub each : {F : Type 0} → (ℕ → F) → ℕ → ℕ → List F
each f i zero = []
each f i (suc n) = f i ∷ each f (i + 1) n

pub among_each : {F : Type 0} (f : ℕ → F) (i n j : ℕ) → i ≤ j → j < i + n → Among (f j) (each f i n)
among_each f i zero j low high = omega (arith, low, high)
among_each f i (suc n) j low high =
    elim (cases_lt i j) [
      | inl lt ↦ inr (among_each f (i + 1) n j (omega (arith, lt)) (omega (arith, high)))
      | inr le ↦ inl (let same : j ≡ i = omega (arith, low, le) in ap f same)
    ]

pub all_each : {F : Type 0} (P : F → Type 0) (f : ℕ → F) (i n : ℕ) → ((j : ℕ) → i ≤ j → P (f j)) → AllByRecursion P (each f i n)
all_each P f i zero h = tt
all_each P f i (suc n) h = (h i (omega arith), all_each P f (i + 1) n (λ j le. h j (omega (arith, le))))

pub sorted_each : {F : Type 0} (rank : F → List ℕ) (f : ℕ → F) (i n : ℕ) → ((j k : ℕ) → j < k → IsTrue (comes_first (rank (f j)) (rank (f k)))) → Sorted rank (each f i n)
sorted_each rank f i zero h = tt
sorted_each rank f i (suc n) h =
    (all_each (λ g. IsTrue (comes_first (rank (f i)) (rank g))) f (i + 1) n (λ j le. h i j (omega (arith, le))), sorted_each rank f (i + 1) n h)

pub all_append : {F : Type 0} (P : F → Type 0) (xs ys : List F) → AllByRecursion P xs → AllByRecursion P ys → AllByRecursion P (xs ++ ys)
all_append P [] ys a b = b
all_append P (x ∷ xs) ys a b = (a.0, all_append P xs ys a.1 b)

pub among_left : {F : Type 0} (f : F) (xs ys : List F) → Among f xs → Among f (xs ++ ys)
among_left f [] ys m = absurd m
among_left f (x ∷ xs) ys (inl e) = inl e
among_left f (x ∷ xs) ys (inr m) = inr (among_left f xs ys m)

pub among_right : {F : Type 0} (f : F) (xs ys : List F) → Among f ys → Among f (xs ++ ys)
among_right f [] ys m = m
among_right f (x ∷ xs) ys m = inr (among_right f xs ys m)

-- one list behind another, where each of the first comes before each of the second
pub sorted_append : {F : Type 0} (rank : F → List ℕ) (xs ys : List F) → Sorted rank xs → Sorted rank ys →
    AllByRecursion (λ x. AllByRecursion (λ y. IsTrue (comes_first (rank x) (rank y))) ys) xs → Sorted rank (xs ++ ys)
sorted_append rank [] ys a b h = b
sorted_append rank (x ∷ xs) ys a b h = (all_append (λ y. IsTrue (comes_first (rank x) (rank y))) xs ys a.0 h.0, sorted_append rank xs ys a.1 b h.1)

-- ---- ranges of pairs

-- f i 0 .. f i (m - 1), f (i + 1) 0 .., of n first places
abbrev pub grid : {F : Type 0} → (ℕ → ℕ → F) → ℕ → ℕ → ℕ → List F
grid f i zero m = []
grid f i (suc n) m = each (f i) 0 m ++ grid f (i + 1) n m

pub among_grid : {F : Type 0} (f : ℕ → ℕ → F) (i n m j k : ℕ) → i ≤ j → j < i + n → k < m → Among (f j k) (grid f i n m)
among_grid f i zero m j k low high less = omega (arith, low, high)
among_grid {F} f i (suc n) m j k low high less =
    elim (cases_lt i j) [
      | inl lt ↦ among_right (f j k) (each (f i) 0 m) (grid f (i + 1) n m) (among_grid f (i + 1) n m j k (omega (arith, lt)) (omega (arith, high)) less)
      | inr le ↦
          let same : i ≡ j = omega (arith, low, le) in
          let here = among_left (f i k) (each (f i) 0 m) (grid f (i + 1) n m) (among_each (f i) 0 m k (omega arith) (omega (arith, less))) in
          subst (λ x. Among (f x k) (each (f i) 0 m ++ grid f (i + 1) n m)) same here
    ]

pub all_grid : {F : Type 0} (P : F → Type 0) (f : ℕ → ℕ → F) (i n m : ℕ) → ((j k : ℕ) → i ≤ j → P (f j k)) → AllByRecursion P (grid f i n m)
all_grid P f i zero m h = tt
all_grid P f i (suc n) m h =
    all_append P (each (f i) 0 m) (grid f (i + 1) n m) (all_each P (f i) 0 m (λ k le. h i k (omega arith)))
    (all_grid P f (i + 1) n m (λ j k le. h j k (omega (arith, le))))

pub sorted_grid : {F : Type 0} (rank : F → List ℕ) (f : ℕ → ℕ → F) (i n m : ℕ) →
    ((j k l : ℕ) → k < l → IsTrue (comes_first (rank (f j k)) (rank (f j l)))) →
    ((j k a b : ℕ) → j < a → IsTrue (comes_first (rank (f j k)) (rank (f a b)))) → Sorted rank (grid f i n m)
sorted_grid rank f i zero m same less = tt
sorted_grid rank f i (suc n) m same less =
    sorted_append rank (each (f i) 0 m) (grid f (i + 1) n m) (sorted_each rank (f i) 0 m (same i)) (sorted_grid rank f (i + 1) n m same less)
    (all_each (λ x. AllByRecursion (λ y. IsTrue (comes_first (rank x) (rank y))) (grid f (i + 1) n m)) (f i) 0 m
    (λ k le. all_grid (λ y. IsTrue (comes_first (rank (f i k)) (rank y))) f (i + 1) n m (λ a b more. less i k a b (omega (arith, more)))))

-- ---- bounds

-- an element that passes a test, of a size that the sum of all sizes bounds
pub any_bounded : {X : Type 0} (test : X → Bool) (size : X → ℕ) (xs : List X) → IsTrue (list_any test xs) → (x : X) × IsTrue (test x) × (size x ≤ sum_by size xs)
any_bounded test size [] h = absurd (let e : false ≡ true = h in cc)
any_bounded {X} test size (x ∷ xs) h = by (test x) refl (any_bounded test size xs)
  where
    by : (b : Bool) → test x ≡ b → (IsTrue (list_any test xs) → (y : X) × IsTrue (test y) × (size y ≤ sum_by size xs)) → (y : X) × IsTrue (test y) × (size y ≤ sum_by size (x ∷ xs))
    by true e more = (x, e, omega (arith, sum_by-cons size x xs))
    by false e more = let found = more (rw e at h) in (found.0, found.1, omega (arith, found.2, sum_by-cons size x xs))

-- an element at a place, of a size that the sum of all sizes bounds
pub at_bounded : {X : Type 0} (size : X → ℕ) (xs : List X) (i : ℕ) (x : X) → slice_get xs i ≡ Some x → (i < length xs) × (size x ≤ sum_by size xs)
at_bounded size [] i x e = absurd (let f : ⊥ = cc in f)
at_bounded size (y ∷ ys) zero x e = let same : y ≡ x = cc in (omega arith, subst (λ z. size z ≤ sum_by size (y ∷ ys)) same (omega (arith, sum_by-cons size y ys)))
at_bounded size (y ∷ ys) (suc i) x e = let found = at_bounded size ys i x e in (omega (arith, found.0), omega (arith, found.1, sum_by-cons size y ys))

-- ---- one rule's candidates before those of later rules

pub all_weaker : {X : Type 0} (P Q : X → Type 0) → ((x : X) → P x → Q x) → (xs : List X) → AllByRecursion P xs → AllByRecursion Q xs
all_weaker P Q f [] h = tt
all_weaker P Q f (x ∷ xs) h = (f x h.0, all_weaker P Q f xs h.1)

-- each comes behind all of this number
abbrev pub Behind : {F : Type 0} → (F → List ℕ) → ℕ → List F → Type 0
Behind rank r ys = AllByRecursion (λ y. (ns : List ℕ) → IsTrue (comes_first (r ∷ ns) (rank y))) ys

pub then_each : {F : Type 0} (rank : F → List ℕ) (f : ℕ → F) (r n : ℕ) (rest : List F) → ((j : ℕ) → rank (f j) ≡ r ∷ j ∷ []) → Sorted rank rest → Behind rank r rest →
    Sorted rank (each f 0 n ++ rest)
then_each {F} rank f r n rest is sorted behind =
    sorted_append rank (each f 0 n) rest
    (sorted_each rank f 0 n (λ j k lt. rw (is j, is k) (same_first r (j ∷ []) (k ∷ []) (lesser_first j k [] [] lt))))
    sorted
    (all_each (λ x. AllByRecursion (λ y. IsTrue (comes_first (rank x) (rank y))) rest) f 0 n
    (λ j le. rw (is j) (all_weaker _ (λ y. IsTrue (comes_first (r ∷ j ∷ []) (rank y))) (λ y h. h (j ∷ [])) rest behind)))

pub then_grid : {F : Type 0} (rank : F → List ℕ) (f : ℕ → ℕ → F) (r n m : ℕ) (rest : List F) → ((j k : ℕ) → rank (f j k) ≡ r ∷ j ∷ k ∷ []) → Sorted rank rest → Behind rank r rest →
    Sorted rank (grid f 0 n m ++ rest)
then_grid {F} rank f r n m rest is sorted behind =
    sorted_append rank (grid f 0 n m) rest
    (sorted_grid rank f 0 n m
    (λ j k l lt. rw (is j k, is j l) (same_first r (j ∷ k ∷ []) (j ∷ l ∷ []) (same_first j (k ∷ []) (l ∷ []) (lesser_first k l [] [] lt))))
    (λ j k a b lt. rw (is j k, is a b) (same_first r (j ∷ k ∷ []) (a ∷ b ∷ []) (lesser_first j a (k ∷ []) (b ∷ []) lt))))
    sorted
    (all_grid (λ x. AllByRecursion (λ y. IsTrue (comes_first (rank x) (rank y))) rest) f 0 n m
    (λ j k le. rw (is j k) (all_weaker _ (λ y. IsTrue (comes_first (r ∷ j ∷ k ∷ []) (rank y))) (λ y h. h (j ∷ k ∷ [])) rest behind)))

pub behind_each : {F : Type 0} (rank : F → List ℕ) (f : ℕ → F) (r q n : ℕ) (rest : List F) → r < q → ((j : ℕ) → rank (f j) ≡ q ∷ j ∷ []) → Behind rank r rest → Behind rank r (each f 0 n ++ rest)
behind_each rank f r q n rest lt is behind =
    all_append _ (each f 0 n) rest (all_each _ f 0 n (λ j le ns. rw (is j) (lesser_first r q ns (j ∷ []) lt))) behind

pub behind_grid : {F : Type 0} (rank : F → List ℕ) (f : ℕ → ℕ → F) (r q n m : ℕ) (rest : List F) → r < q → ((j k : ℕ) → rank (f j k) ≡ q ∷ j ∷ k ∷ []) → Behind rank r rest →
    Behind rank r (grid f 0 n m ++ rest)
behind_grid rank f r q n m rest lt is behind =
    all_append _ (grid f 0 n m) rest (all_grid _ f 0 n m (λ j k le ns. rw (is j k) (lesser_first r q ns (j ∷ k ∷ []) lt))) behind

-- a test that computes decides
pub tested : (b : Bool) → IsTrue b ⊎ (IsTrue b → ⊥)
tested true = inl refl
tested false = inr (λ h. let e : false ≡ true = h in cc)
