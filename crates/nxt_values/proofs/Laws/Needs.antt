-- How much of the pool lists need that are still to be made.
use Rattle.std.proofs.Common.{◌≡◌, ℕ, ◌+◌, ◌*◌, ◌<◌, ◌≤◌, Bool, true, false, cond, max, List, [], ◌∷◌, ◌++◌, length, set, get_or, sum_by, if◌then◌else◌, Option, Some, None, Result, Ok, Err, OnErr, is_some, is_none, refl, sym, ap, ap₂, ◌∙◌, subst, arith, length-append}
use Rattle.std.specs.List.{list_any}
use Rattle.std.proofs.Math.Nat.{le-max_left, le-max_right, max-le}
use Rattle.std.proofs.lemmas.List.{length-set}
use Rattle.std.proofs.lemmas.Nat.{mul-le}
use Rattle.std.proofs.lemmas.List.Sums.{sum_by-cons, sum_by-append, sum_by-set}
use Rattle.nxt_types.specs.Pool.{round4, pool_size}
use Rattle.nxt_heap.specs.Lists.{Lists, ByteList, list_at, stride_at, block_of, with_list, with_free, with_free_row, any_free, IsFree, Passes, footprint}
use Rattle.nxt_types.proofs.Laws.Pool.{le-round4}
use Rattle.nxt_values.specs.Regions.{bytes_in, IsRegion}
use Rattle.nxt_values.specs.Writes.{with_bytes, put}
use Rattle.nxt_values.specs.Fills.{living, needs, Spends}
use Rattle.nxt_values.specs.declared.reading.Region.{Region}
use Rattle.nxt_values.specs.declared.reading.Region.TheVariants.{Static, Row}
use Rattle.nxt_values.proofs.Laws.HeldRows.{alive_within}
use Rattle.nxt_values.proofs.Fill.Bytes.{length-put}
use Rattle.nxt_values.proofs.Laws.Without.{block_size}

abbrev pub bit : Option ByteList → ℕ
bit o = cond (is_some o) 1 0

-- ---- rows

all_living : (xs : List (Option ByteList)) → list_any is_none xs ≡ false → sum_by bit xs ≡ length xs
all_living [] e = refl
all_living (None ∷ xs) e = let f : ⊥ = cc in absurd f
all_living (Some l ∷ xs) e = omega (arith, sum_by-cons bit (Some l) xs, all_living xs e)

few_rows : (xs : List (Option ByteList)) → any_free xs ≡ false → length xs ≤ sum_by bit xs + 1
few_rows [] e = omega arith
few_rows (x ∷ xs) e = omega (arith, sum_by-cons bit x xs, all_living xs e)

-- where no row is free, a row more
record MoreRows (xs ys : List (Option ByteList)) : Type 0 where
  least : length xs ≤ length ys
  most : length ys ≤ max (length xs) (sum_by bit xs + 2)
  blocks : sum_by block_of ys ≡ sum_by block_of xs
  living : sum_by bit ys ≡ sum_by bit xs

more_rows_by : (xs : List (Option ByteList)) (any : Bool) → any_free xs ≡ any → MoreRows xs (if any then xs else xs ++ None ∷ [])
more_rows_by xs true e = record { least = omega arith; most = le-max_left (length xs) (sum_by bit xs + 2); blocks = refl; living = refl }
more_rows_by xs false e =
    let one : length (xs ++ None ∷ []) ≡ length xs + 1 = length-append xs (None ∷ []) in
    record {
      least = omega (arith, one);
      most = omega (arith, one, few_rows xs e, le-max_right (length xs) (sum_by bit xs + 2));
      blocks = sum_by-append block_of xs (None ∷ []) ∙ omega arith;
      living = sum_by-append bit xs (None ∷ []) ∙ omega arith;
    }

more_rows : (xs : List (Option ByteList)) → MoreRows xs (with_free xs)
more_rows xs = more_rows_by xs (any_free xs) refl

-- ---- sums

same_max : (l k a b : ℕ) → l ≤ k → k ≤ max l b → b ≤ a → max l a ≡ max k a
same_max l k a b least most less =
    let up : max l a ≤ max k a = max-le (omega (arith, least, le-max_left k a)) (le-max_right k a) in
    let inner : max l b ≤ max l a = max-le (le-max_left l a) (omega (arith, less, le-max_right l a)) in
    let down : max k a ≤ max l a = max-le (omega (arith, most, inner)) (le-max_right l a) in
    omega (arith, up, down)

more_max : (l a b : ℕ) → a ≤ b → max l a ≤ max l b
more_max l a b less = max-le (le-max_left l b) (omega (arith, less, le-max_right l b))

round_more : (a b : ℕ) → a ≤ b → round4 (10 * a) ≤ round4 (10 * b)
round_more a b less = omega arith

-- ---- needs

pub needs_more : (h : Lists) (lists bytes more_lists more_bytes : ℕ) → needs h lists bytes ≤ needs h (lists + more_lists) (bytes + more_bytes)
needs_more h lists bytes more_lists more_bytes =
    let l = length h.by_row in
    let a = living h + lists + 1 in
    let b = living h + (lists + more_lists) + 1 in
    omega (arith, round_more (max l a) (max l b) (more_max l a b (omega arith)))

pub footprint_needs : (h : Lists) (lists bytes : ℕ) → footprint h ≤ needs h lists bytes
footprint_needs h lists bytes =
    let l = length h.by_row in
    let a = living h + lists + 1 in
    omega (arith, round_more l (max l a) (le-max_left l a))

pub first_needs : (h : Lists) (bytes : ℕ) → footprint (with_free_row h) ≤ needs h 1 bytes
first_needs h bytes =
    let more = more_rows h.by_row in
    let l = length h.by_row in
    let a : sum_by bit h.by_row + 2 ≡ living h + 1 + 1 = omega arith in
    let most : length (with_free h.by_row) ≤ max l (living h + 1 + 1) = subst (λ n. length (with_free h.by_row) ≤ max l n) a more.most in
    omega (arith, round_more (length (with_free h.by_row)) (max l (living h + 1 + 1)) most, more.blocks)

-- ---- what is spent

-- the row, which was free, has this list
abbrev pub taken : Lists → ℕ → ℕ → List ℕ → Lists
taken h row stride bytes = with_list (with_free_row h) row (Some (record { stride = stride; bytes = bytes }))

pub spends_same : (h g : Lists) (lists bytes more_lists more_bytes : ℕ) → lists ≡ more_lists → bytes ≡ more_bytes → Spends h g lists bytes → Spends h g more_lists more_bytes
spends_same h g lists bytes more_lists more_bytes e f s =
    subst (λ n. Spends h g n more_bytes) e (subst (Spends h g lists) f s)

pub spends_then : (h g f : Lists) (lists bytes more_lists more_bytes : ℕ) → Spends h g lists bytes → Spends g f more_lists more_bytes → Spends h f (lists + more_lists) (bytes + more_bytes)
spends_then h g f lists bytes more_lists more_bytes s r m c =
    let a : (lists + more_lists) + m ≡ lists + (more_lists + m) = omega arith in
    let b : (bytes + more_bytes) + c ≡ bytes + (more_bytes + c) = omega arith in
    ap₂ (needs h) a b ∙ s (more_lists + m) (more_bytes + c) ∙ r m c

pub spends_none : (h : Lists) → Spends h h 0 0
spends_none h m c =
    let a : 0 + m ≡ m = omega arith in
    let b : 0 + c ≡ c = omega arith in
    ap₂ (needs h) a b

pub spends_taken : (h : Lists) (row stride : ℕ) (bytes : List ℕ) → IsFree (with_free h.by_row) row → Spends h (taken h row stride bytes) 1 (round4 (length bytes))
spends_taken h row stride bytes free m c =
    let l : Option ByteList = Some (record { stride = stride; bytes = bytes }) in
    let xs = h.by_row in
    let ys = with_free xs in
    let zs = set ys row l in
    let more = more_rows xs in
    let long : length zs ≡ length ys = length-set ys row l in
    let none : bit (get_or ys row None) ≡ 0 = ap bit free.empty in
    let empty : block_of (get_or ys row None) ≡ 0 = ap block_of free.empty in
    let live : sum_by bit zs + 0 ≡ sum_by bit ys + 1 = omega (arith, sum_by-set bit ys row l None free.within, none) in
    let held : sum_by block_of zs ≡ sum_by block_of ys + round4 (length bytes) =
    omega (arith, sum_by-set block_of ys row l None free.within, empty) in
    let b : sum_by bit xs + 2 ≤ living h + (1 + m) + 1 = omega arith in
    let first : max (length xs) (living h + (1 + m) + 1) ≡ max (length ys) (living h + (1 + m) + 1) =
    same_max (length xs) (length ys) (living h + (1 + m) + 1) (sum_by bit xs + 2) more.least more.most b in
    let count : living h + (1 + m) + 1 ≡ living (taken h row stride bytes) + m + 1 = omega (arith, live, more.living) in
    let rows : max (length xs) (living h + (1 + m) + 1) ≡ max (length zs) (living (taken h row stride bytes) + m + 1) =
    first ∙ ap₂ max (sym long) count in
    omega (arith, ap (λ k. round4 (10 * k)) rows, held, more.blocks)

spends_region : (h : Lists) (region : Region) (bytes : List ℕ) → IsRegion h region → length bytes ≡ length (bytes_in h region) → Spends h (with_bytes h region bytes) 0 0
spends_region h Static bytes there long m c =
    let a : 0 + m ≡ m = omega arith in
    let b : 0 + c ≡ c = omega arith in
    ap₂ (needs h) a b
    ∙ ap (λ n. round4 n + round4 (10 * max (length h.by_row) (living h + m + 1)) + sum_by block_of h.by_row + c) (sym long)
spends_region h (Row q) bytes there long m c =
    let a : 0 + m ≡ m = omega arith in
    let b : 0 + c ≡ c = omega arith in
    let l : Option ByteList = Some (record { stride = stride_at h q; bytes = bytes }) in
    let xs = h.by_row in
    let zs = set xs q l in
    let within = alive_within h q there in
    let size : length zs ≡ length xs = length-set xs q l in
    let some : bit (get_or xs q None) ≡ 1 = ap (λ t. cond t 1 0) there in
    let live : sum_by bit zs ≡ sum_by bit xs = omega (arith, sum_by-set bit xs q l None within, some) in
    let held : sum_by block_of zs ≡ sum_by block_of xs = omega (arith, sum_by-set block_of xs q l None within, block_size (list_at h q), ap round4 long) in
    let rows : max (length xs) (living h + m + 1) ≡ max (length zs) (living (with_bytes h (Row q) bytes) + m + 1) =
    ap₂ max (sym size) (ap (λ n. n + m + 1) (sym live)) in
    ap₂ (needs h) a b ∙ omega (arith, ap (λ k. round4 (10 * k)) rows, held)

pub spends_put : (h : Lists) (region : Region) (bs : List ℕ) (at : ℕ) → IsRegion h region → Spends h (with_bytes h region (put bs at (bytes_in h region))) 0 0
spends_put h region bs at there = spends_region h region (put bs at (bytes_in h region)) there (length-put bs at (bytes_in h region))

-- ---- what the pool does not hold

pub row_passed : (h : Lists) (f bytes : ℕ) → Passes (with_free_row h) f → pool_size < needs h 1 bytes
row_passed h f bytes e = omega (arith, e.above, e.whole, first_needs h bytes)

pub list_bytes_passed : (h k : Lists) (row stride : ℕ) (bytes : List ℕ) (f : ℕ) → IsFree (with_free_row h).by_row row → k ≡ taken h row stride bytes → Passes k f → pool_size < needs h 1 (round4 (length bytes))
list_bytes_passed h k row stride bytes f free is e =
    let t = taken h row stride bytes in
    let n = length bytes in
    let a : 1 + 0 ≡ 1 = omega arith in
    let b : round4 n + 0 ≡ round4 n = omega arith in
    let same : needs h 1 (round4 n) ≡ needs t 0 0 = sym (ap₂ (needs h) a b) ∙ spends_taken h row stride bytes free 0 0 in
    omega (arith, e.above, e.whole, ap footprint is, footprint_needs t 0 0, same)

-- more elements than the pool has bytes
pub count_passed : (h : Lists) (stride n : ℕ) → 1 ≤ stride → pool_size < n → pool_size < needs h 1 (round4 (n * stride))
count_passed h stride n some passed = omega (arith, mul-le n 1 n stride (omega arith) some, le-round4 (n * stride))

pub on_err : {T E : Type 0} (r : Result T E) (P : Type 0) → P → OnErr r P
on_err (Ok x) P p = tt
on_err (Err x) P p = p
