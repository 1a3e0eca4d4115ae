-- Bytes that are written one after another, no two of which share a place, stay as they are.
use Rattle.std.proofs.Common.{◌≡◌, ℕ, ◌+◌, ◌<◌, ◌≤◌, ◌⊎◌, inl, inr, Bool, true, false, cond, List, [], ◌∷◌, ◌++◌, filter, fold, length, take, drop, get_or, refl, sym, ap, subst, ◌∙◌, arith, length-take, length-drop}
use Rattle.std.proofs.lemmas.Grind.{same_number_lists}
use Rattle.std.proofs.lemmas.List.{get_or-take, get_or-drop, drop-append-le, take-append-le, drop_at, take_at}
use Rattle.nxt_facts.specs.Pairs.{EachPair}
use Rattle.nxt_facts.specs.PutAt.{put_at}
use Rattle.nxt_facts.proofs.Each.{Each, each_filter, each_then}
use Rattle.nxt_facts.proofs.PutAt.{length-put_at, put_at-before, put_at-behind, put_at-whole, window-put_at}

abbrev pub window : ℕ → ℕ → List ℕ → List ℕ
window at n bytes = take n (drop at bytes)

pub length-window : (xs : List ℕ) (a n : ℕ) → a + n ≤ length xs → length (window a n xs) ≡ n
length-window xs a n within = omega (arith, within, length-take n (drop a xs), length-drop a xs)

pub window-at : (xs : List ℕ) (a n k : ℕ) → k < n → get_or (window a n xs) k 0 ≡ get_or xs (a + k) 0
window-at xs a n k less = get_or-take n (drop a xs) k 0 less ∙ get_or-drop a xs k 0

-- ---- one write

pub window_own : (at : ℕ) (bs xs : List ℕ) → at + length bs ≤ length xs → window at (length bs) (put_at at bs xs) ≡ bs
window_own at bs xs fits =
    let here : at ≡ at + 0 = omega arith in
    ap (λ k. window at (length bs) (put_at k bs xs)) here
    ∙ window-put_at at (length bs) 0 bs xs fits (omega arith)
    ∙ put_at-whole bs (window at (length bs) xs) (length-window xs at (length bs) fits)

-- what shares no byte with it
abbrev pub IsBeside : ℕ → ℕ → ℕ → ℕ → Type 0
IsBeside a n b m = (a + n ≤ b) ⊎ (b + m ≤ a)

pub window_kept : (a n at : ℕ) (bs xs : List ℕ) → at + length bs ≤ length xs → a + n ≤ length xs → IsBeside a n at (length bs) → window a n (put_at at bs xs) ≡ window a n xs
window_kept a n at bs xs fits within beside =
    let ys = put_at at bs xs in
    let long : length ys ≡ length xs = length-put_at at bs xs fits in
    let first : length (window a n ys) ≡ n = length-window ys a n (omega (arith, long, within)) in
    let second : length (window a n xs) ≡ n = length-window xs a n within in
    same_number_lists (window a n ys) (window a n xs) (first ∙ sym second) (λ k low.
    let less : k < n = omega (arith, low, first) in
    window-at ys a n k less ∙ by k less beside ∙ sym (window-at xs a n k less))
  where
    by : (k : ℕ) → k < n → IsBeside a n at (length bs) → get_or (put_at at bs xs) (a + k) 0 ≡ get_or xs (a + k) 0
    by k less (inl h) = put_at-before at bs xs (a + k) 0 fits (omega (arith, less, h))
    by k less (inr h) = put_at-behind at bs xs (a + k) 0 fits (omega (arith, h))

-- ---- many

module _ {X : Type 0} (place : X → ℕ) (chunk : X → List ℕ) where
  abbrev write : List ℕ → X → List ℕ
  write bytes x = put_at (place x) (chunk x) bytes

  abbrev IsIn : ℕ → X → Type 0
  IsIn n x = place x + length (chunk x) ≤ n

  abbrev AreBeside : X → X → Type 0
  AreBeside x y = IsBeside (place x) (length (chunk x)) (place y) (length (chunk y))

  pub length-written : (xs : List X) (bytes : List ℕ) → Each (λ x. place x + length (chunk x) ≤ length bytes) xs
      → length (fold (λ b x. put_at (place x) (chunk x) b) bytes xs) ≡ length bytes
  length-written [] bytes fits = refl
  length-written (x ∷ xs) bytes fits =
      let long : length (write bytes x) ≡ length bytes = length-put_at (place x) (chunk x) bytes fits.0 in
      length-written xs (write bytes x) (subst (λ n. Each (IsIn n) xs) (sym long) fits.1) ∙ long

  still : (a n : ℕ) (xs : List X) (bytes : List ℕ) → Each (IsIn (length bytes)) xs → a + n ≤ length bytes → Each (λ x. IsBeside a n (place x) (length (chunk x))) xs
      → window a n (fold write bytes xs) ≡ window a n bytes
  still a n [] bytes fits within beside = refl
  still a n (x ∷ xs) bytes fits within beside =
      let long : length (write bytes x) ≡ length bytes = length-put_at (place x) (chunk x) bytes fits.0 in
      still a n xs (write bytes x) (subst (λ m. Each (IsIn m) xs) (sym long) fits.1) (omega (arith, long, within)) beside.1
      ∙ window_kept a n (place x) (chunk x) bytes fits.0 within beside.0

  -- each stands where it was written
  pub each_written : (xs : List X) (bytes : List ℕ) → Each (λ x. place x + length (chunk x) ≤ length bytes) xs
      → EachPair (λ x y. IsBeside (place x) (length (chunk x)) (place y) (length (chunk y))) xs
      → Each (λ x. window (place x) (length (chunk x)) (fold (λ b y. put_at (place y) (chunk y) b) bytes xs) ≡ chunk x) xs
  each_written [] bytes fits apart = tt
  each_written (x ∷ xs) bytes fits apart =
      let long : length (write bytes x) ≡ length bytes = length-put_at (place x) (chunk x) bytes fits.0 in
      let more : Each (IsIn (length (write bytes x))) xs = subst (λ n. Each (IsIn n) xs) (sym long) fits.1 in (
        still (place x) (length (chunk x)) xs (write bytes x) more (omega (arith, long, fits.0)) apart.0 ∙ window_own (place x) (chunk x) bytes fits.0,
        each_written xs (write bytes x) more apart.1,
      )

-- ---- windows of lists behind one another

pub window-front : (a n : ℕ) (xs ys : List ℕ) → a + n ≤ length xs → window a n (xs ++ ys) ≡ window a n xs
window-front a n xs ys within =
    ap (take n) (drop-append-le a xs ys (omega (arith, within))) ∙ take-append-le n (drop a xs) ys (omega (arith, within, length-drop a xs))

pub window_there : (at : ℕ) (whole before xs behind : List ℕ) → whole ≡ before ++ (xs ++ behind) → length before ≡ at → window at (length xs) whole ≡ xs
window_there at whole before xs behind e long =
    ap (window at (length xs)) e
    ∙ ap (take (length xs)) (drop_at before (xs ++ behind) at long)
    ∙ take_at xs behind (length xs) refl

-- ---- pairs of what is kept

kept_pairs : {X : Type 0} (R : X → X → Type 0) (p : X → Bool) (x : X) (xs : List X) (b : Bool) → Each (R x) (filter p xs) → EachPair R (filter p xs) → EachPair R (cond b (x ∷ filter p xs) (filter p xs))
kept_pairs R p x xs true h k = (h, k)
kept_pairs R p x xs false h k = k

pub pair_filter : {X : Type 0} (R : X → X → Type 0) (p : X → Bool) (xs : List X) → EachPair R xs → EachPair R (filter p xs)
pair_filter R p [] e = tt
pair_filter R p (x ∷ xs) e =
    kept_pairs R p x xs (p x) (each_filter (R x) p xs (each_then (R x) (λ y. p y ≡ true → R x y) (λ y h _. h) xs e.0)) (pair_filter R p xs e.1)
