-- Items that stand at a place of a list.
use Rattle.std.proofs.Common.{◌≡◌, ℕ, zero, suc, ◌+◌, ◌-◌, ◌<◌, ◌≤◌, List, ◌++◌, length, take, drop, get_or, refl, sym, ap, ◌∙◌, arith, inl, inr, ◌⊎◌, length-append, length-take, length-drop, append_assoc, append-nil, subst, set, length-set, get_or-set_same, get_or-set_other, take-append-drop, add-zero, [], ◌∷◌}
use Rattle.std.proofs.lemmas.Bool.{cases_lt}
use Rattle.std.proofs.lemmas.Grind.{same_number_lists}
use Rattle.std.proofs.lemmas.List.{get_or-take, get_or-drop, get_or_append_left, get_or-append_right}
use Rattle.nxt_facts.specs.PutAt.{put_at}

by_right : (at : ℕ) (bs xs : List ℕ) → put_at at bs xs ≡ take at xs ++ (bs ++ drop (at + length bs) xs)
by_right at bs xs = append_assoc (take at xs) bs (drop (at + length bs) xs)

pub length-put_at : (at : ℕ) (bs xs : List ℕ) → at + length bs ≤ length xs → length (put_at at bs xs) ≡ length xs
length-put_at at bs xs within =
    omega (
      arith,
      within,
      ap length (by_right at bs xs),
      length-append (take at xs) (bs ++ drop (at + length bs) xs),
      length-append bs (drop (at + length bs) xs),
      length-take at xs,
      length-drop (at + length bs) xs,
    )

-- how many stand before the place
front : (at : ℕ) (bs xs : List ℕ) → at + length bs ≤ length xs → length (take at xs) ≡ at
front at bs xs within = omega (arith, within, length-take at xs)

pub put_at-before : (at : ℕ) (bs xs : List ℕ) (k d : ℕ) → at + length bs ≤ length xs → k < at → get_or (put_at at bs xs) k d ≡ get_or xs k d
put_at-before at bs xs k d within before =
    ap (λ l. get_or l k d) (by_right at bs xs)
    ∙ get_or_append_left (take at xs) (bs ++ drop (at + length bs) xs) d k (omega (arith, front at bs xs within, before))
    ∙ get_or-take at xs k d before

pub put_at-inside : (at : ℕ) (bs xs : List ℕ) (k d : ℕ) → at + length bs ≤ length xs → k < length bs → get_or (put_at at bs xs) (at + k) d ≡ get_or bs k d
put_at-inside at bs xs k d within less =
    let here : at + k - at ≡ k = omega arith in
    ap (λ l. get_or l (at + k) d) (by_right at bs xs)
    ∙ get_or-append_right (take at xs) (bs ++ drop (at + length bs) xs) at (at + k) d (front at bs xs within) (omega arith)
    ∙ ap (λ j. get_or (bs ++ drop (at + length bs) xs) j d) here
    ∙ get_or_append_left bs (drop (at + length bs) xs) d k less

pub put_at-behind : (at : ℕ) (bs xs : List ℕ) (k d : ℕ) → at + length bs ≤ length xs → at + length bs ≤ k → get_or (put_at at bs xs) k d ≡ get_or xs k d
put_at-behind at bs xs k d within behind =
    let same : at + length bs + (k - at - length bs) ≡ k = omega (arith, behind) in
    ap (λ l. get_or l k d) (by_right at bs xs)
    ∙ get_or-append_right (take at xs) (bs ++ drop (at + length bs) xs) at k d (front at bs xs within) (omega (arith, behind))
    ∙ get_or-append_right bs (drop (at + length bs) xs) (length bs) (k - at) d refl (omega (arith, behind))
    ∙ get_or-drop (at + length bs) xs (k - at - length bs) d
    ∙ ap (λ j. get_or xs j d) same

-- a number is before them, behind them, or one of theirs
pub put_at-cases : (at n k : ℕ) → (k < at) ⊎ ((at + n ≤ k) ⊎ ((j : ℕ) × (j < n) × (k ≡ at + j)))
put_at-cases at n k =
    elim (cases_lt k at) [
      | inl before ↦ inl before
      | inr from ↦ elim (cases_lt k (at + n)) [
        | inl less ↦ inr (inr (k - at, omega (arith, from, less), omega (arith, from)))
        | inr behind ↦ inr (inl behind)
      ]
    ]

length-window : (xs : List ℕ) (a n : ℕ) → a + n ≤ length xs → length (take n (drop a xs)) ≡ n
length-window xs a n within = omega (arith, within, length-take n (drop a xs), length-drop a xs)

window-at : (xs : List ℕ) (a n k : ℕ) → k < n → get_or (take n (drop a xs)) k 0 ≡ get_or xs (a + k) 0
window-at xs a n k less = get_or-take n (drop a xs) k 0 less ∙ get_or-drop a xs k 0

-- in a window of a list they stand at their place of the window
pub window-put_at : (a n i : ℕ) (bs xs : List ℕ) → a + n ≤ length xs → i + length bs ≤ n → take n (drop a (put_at (a + i) bs xs)) ≡ put_at i bs (take n (drop a xs))
window-put_at a n i bs xs within fits =
    let ys = put_at (a + i) bs xs in
    let window = take n (drop a xs) in
    let inside : a + i + length bs ≤ length xs = omega (arith, within, fits) in
    let long : length ys ≡ length xs = length-put_at (a + i) bs xs inside in
    let in_window : i + length bs ≤ length window = omega (arith, fits, length-window xs a n within) in
    same_number_lists (take n (drop a ys)) (put_at i bs window)
    (omega (arith, within, long, length-window ys a n (omega (arith, within, long)), length-put_at i bs window in_window, length-window xs a n within))
    (λ k low.
    let less : k < n = omega (arith, low, within, long, length-window ys a n (omega (arith, within, long))) in
    window-at ys a n k less
    ∙ elim (put_at-cases i (length bs) k) [
      | inl before ↦
          put_at-before (a + i) bs xs (a + k) 0 inside (omega (arith, before))
          ∙ sym (put_at-before i bs window k 0 in_window before ∙ window-at xs a n k less)
      | inr other ↦ elim other [
        | inl behind ↦
            put_at-behind (a + i) bs xs (a + k) 0 inside (omega (arith, behind))
            ∙ sym (put_at-behind i bs window k 0 in_window behind ∙ window-at xs a n k less)
        | inr own ↦
            let at : a + k ≡ a + i + own.0 = omega (arith, own.2) in
            ap (λ q. get_or ys q 0) at
            ∙ put_at-inside (a + i) bs xs own.0 0 inside own.1
            ∙ sym (ap (λ q. get_or (put_at i bs window) q 0) own.2 ∙ put_at-inside i bs window own.0 0 in_window own.1)
      ]
    ])

-- no items change nothing
pub put_at-none : {X : Type 0} (at : ℕ) (xs : List X) → put_at at [] xs ≡ xs
put_at-none at xs =
    ap (λ l. l ++ drop (at + 0) xs) (append-nil (take at xs)) ∙ ap (λ n. take at xs ++ drop n xs) (add-zero at) ∙ take-append-drop at xs

pub put_at-empty : {X : Type 0} (at : ℕ) (bs xs : List X) → length bs ≡ 0 → put_at at bs xs ≡ xs
put_at-empty at [] xs none = put_at-none at xs
put_at-empty at (b ∷ bs) xs none = absurd (omega (arith, none))

-- the front of a list that holds them
pub take-put_at : (n at : ℕ) (bs xs : List ℕ) → n ≤ length xs → at + length bs ≤ n → take n (put_at at bs xs) ≡ put_at at bs (take n xs)
take-put_at n at bs xs within fits =
    let same : 0 + at ≡ at = omega arith in
    subst (λ q. take n (put_at q bs xs) ≡ put_at at bs (take n xs)) same (window-put_at 0 n at bs xs (omega (arith, within)) fits)

-- the first of them, and then those behind it
pub put_at-more : (b : ℕ) (bs : List ℕ) (at : ℕ) (xs : List ℕ) → at + length (b ∷ bs) ≤ length xs → put_at at (b ∷ bs) xs ≡ put_at (at + 1) bs (set xs at b)
put_at-more b bs at xs fits =
    let ys = set xs at b in
    let long = length-set xs at b in
    let rest : at + 1 + length bs ≤ length ys = omega (arith, fits, long) in
    same_number_lists (put_at at (b ∷ bs) xs) (put_at (at + 1) bs ys)
    (length-put_at at (b ∷ bs) xs fits ∙ sym (length-put_at (at + 1) bs ys rest ∙ long))
    (λ k low. elim (put_at-cases at (length (b ∷ bs)) k) [
      | inl before ↦
          put_at-before at (b ∷ bs) xs k 0 fits before
          ∙ sym (put_at-before (at + 1) bs ys k 0 rest (omega (arith, before)) ∙ get_or-set_other xs at k b 0 (λ e. omega (arith, before, e)))
      | inr other ↦ elim other [
        | inl behind ↦
            put_at-behind at (b ∷ bs) xs k 0 fits behind
            ∙ sym (put_at-behind (at + 1) bs ys k 0 rest (omega (arith, behind)) ∙ get_or-set_other xs at k b 0 (λ e. omega (arith, behind, e)))
        | inr own ↦
            ap (λ q. get_or (put_at at (b ∷ bs) xs) q 0) own.2
            ∙ put_at-inside at (b ∷ bs) xs own.0 0 fits own.1
            ∙ sym (ap (λ q. get_or (put_at (at + 1) bs ys) q 0) own.2 ∙ one own.0 own.1)
      ]
    ])
  where
    one : (j : ℕ) → j < length (b ∷ bs) → get_or (put_at (at + 1) bs (set xs at b)) (at + j) 0 ≡ get_or (b ∷ bs) j 0
    one zero less =
        let rest : at + 1 + length bs ≤ length (set xs at b) = omega (arith, fits, length-set xs at b) in
        let here : at + 0 ≡ at = omega arith in
        ap (λ q. get_or (put_at (at + 1) bs (set xs at b)) q 0) here
        ∙ put_at-before (at + 1) bs (set xs at b) at 0 rest (omega arith)
        ∙ get_or-set_same xs at b 0 (omega (arith, fits))
    one (suc j) less =
        let rest : at + 1 + length bs ≤ length (set xs at b) = omega (arith, fits, length-set xs at b) in
        let here : at + suc j ≡ at + 1 + j = omega arith in
        ap (λ q. get_or (put_at (at + 1) bs (set xs at b)) q 0) here
        ∙ put_at-inside (at + 1) bs (set xs at b) j 0 rest (omega (arith, less))

-- as many as there are take the place of all
pub put_at-whole : (bs xs : List ℕ) → length xs ≡ length bs → put_at 0 bs xs ≡ bs
put_at-whole bs xs long =
    let fits : 0 + length bs ≤ length xs = omega (arith, long) in
    same_number_lists (put_at 0 bs xs) bs (length-put_at 0 bs xs fits ∙ long) (λ k low.
    let less : k < length bs = omega (arith, low, long, length-put_at 0 bs xs fits) in
    let here : k ≡ 0 + k = omega arith in
    ap (λ q. get_or (put_at 0 bs xs) q 0) here ∙ put_at-inside 0 bs xs k 0 fits less)
