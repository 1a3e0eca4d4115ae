-- What callers see of a heap where one list changes.
use Rattle.std.proofs.Common.{◌≡◌, ◌≢◌, ℕ, ◌+◌, ◌*◌, ◌<◌, ◌≤◌, List, [], ◌∷◌, ◌++◌, length, take, drop, get_or, sum_by, Option, Some, None, IsSome, false, refl, ap, ap₂, sym, subst, ◌∙◌, arith, inl, inr, length-append, length-set}
use Rattle.std.proofs.lemmas.Bool.{cases_eq, cases_lt, false≢true}
use Rattle.std.proofs.lemmas.List.{append-nil, get_or_past, get_or-set_same, get_or-set_other, set-get_or, set-set}
use Rattle.std.proofs.lemmas.List.Sums.{sum_by-append}
use Rattle.std.proofs.Math.ListN.{drop_of_length-le}
use Rattle.std.proofs.Math.Seq.{take-append_seam}
use Rattle.nxt_facts.specs.PutAt.{put_at}
use Rattle.nxt_facts.proofs.PutAt.{put_at-whole, length-put_at}
use Rattle.nxt_types.specs.Pool.{round4, pool_size}
use Rattle.nxt_rows.specs.Rows.{dope_row, row_count}
use Rattle.nxt_compact.specs.Pools.{block_bytes, IsSound}
use Rattle.nxt_compact.proofs.Laws.Opening.{before_most}
use Rattle.nxt_heap.specs.declared.blocks.BlockState.{BlockState}
use Rattle.nxt_heap.specs.Lists.{ByteList, Lists, list_at, block_of, footprint, with_list, with_length, of_length, stride_at, bytes_at, with_bytes, IsFree, any_free, with_free, with_free_row, empty_list, stride_of, bytes_of, with_these}
use Rattle.nxt_heap.specs.Inside.Pool.{row_bytes, lists_in, state_of, AreBlocks, IsHeap, BlocksMove, HasLength, Frees, Takes, Stores}
use Rattle.nxt_heap.proofs.AfterMoves.{lists_moved}
use Rattle.nxt_heap.proofs.FreeRows.{with_free-full}
use Rattle.nxt_heap.proofs.Laws.Footprints.{footprint-with_list}
use Rattle.nxt_heap.proofs.Laws.Lengths.{length-of_length, of_length-same}
use Rattle.nxt_heap.proofs.ListsKept.{list_in-some, length-lists_in, lists_in-at}
use Rattle.nxt_heap.proofs.Windows.{block_is}
use Rattle.nxt_heap.proofs.Settled.{total_below, end_inside}
use Rattle.nxt_heap.proofs.Seen.{Lives, no_list, length_bytes, length_static, static_kept, footprint_state}

-- the lists of a pool behind so many static bytes
abbrev pub shown : ℕ → List ℕ → BlockState → Lists
shown static_size pool p = state_of static_size (record { bytes = pool; table = p.table })

-- ---- a heap stays one

pub still_heap : (static_size : ℕ) (old new fronts_old fronts_new : List ℕ) (p q : BlockState) → IsHeap static_size p old fronts_old → AreBlocks new fronts_new q → q.base ≡ p.base → IsHeap static_size q new fronts_new
still_heap static_size old new fronts_old fronts_new p q h blocks base = record { blocks = blocks; base_is = base ∙ h.base_is }

same_static : (static_size : ℕ) (old new fronts_old fronts_new : List ℕ) (p q : BlockState) → IsHeap static_size p old fronts_old → AreBlocks new fronts_new q → ((k : ℕ) → k < p.base → get_or new k 0 ≡ get_or old k 0) → take static_size new ≡ take static_size old
same_static static_size old new fronts_old fronts_new p q h blocks below =
    static_kept old new fronts_old static_size p h (blocks.is_pool.size ∙ sym h.blocks.is_pool.size) below

-- ---- other places

pub after_moves : (static_size : ℕ) (old new fronts_old fronts_new : List ℕ) (p q : BlockState) (to : ℕ → ℕ) → IsHeap static_size p old fronts_old → BlocksMove old fronts_old new fronts_new p q to → shown static_size new q ≡ shown static_size old p
after_moves static_size old new fronts_old fronts_new p q to h m =
    let is_pool = h.blocks.is_pool in
    let sound : IsSound new q.table p.base = subst (λ b. IsSound new q.table b) m.base m.blocks.is_pool.sound in
    rw (same_static static_size old new fronts_old fronts_new p q h m.blocks m.moves.below, lists_moved p.base to old new p.table q.table m.moves is_pool sound) refl

-- ---- another number of bytes

pub after_length : (static_size : ℕ) (old new fronts_old fronts_new : List ℕ) (p q : BlockState) (row bytes : ℕ) → IsHeap static_size p old fronts_old → HasLength old new fronts_new p q row bytes → shown static_size new q ≡ with_length (shown static_size old p) row bytes
after_length static_size old new fronts_old fronts_new p q row bytes h l =
    rw (same_static static_size old new fronts_old fronts_new p q h l.blocks l.below, l.lists) refl

-- the bytes of a living row
pub size_lived : (static_size : ℕ) (pool fronts : List ℕ) (p : BlockState) (row : ℕ) → IsHeap static_size p pool fronts → Lives pool p.table row → length (bytes_at (shown static_size pool p) row) ≡ row_bytes (dope_row pool p.table row)
size_lived static_size pool fronts p row h l = ap (λ o. length (bytes_of o)) l.is ∙ length_bytes pool p.table p.base row h.blocks.is_pool l.within

pub footprint_length : (static_size : ℕ) (pool fronts : List ℕ) (p : BlockState) (row bytes : ℕ) → IsHeap static_size p pool fronts → Lives pool p.table row
    → footprint (with_length (shown static_size pool p) row bytes) + block_bytes (dope_row pool p.table row) ≡ p.footprint + round4 bytes
footprint_length static_size pool fronts p row bytes h l =
    let s = shown static_size pool p in
    let next : Option ByteList = Some (record { stride = stride_at s row; bytes = of_length bytes (bytes_at s row) }) in
    let whole = footprint-with_list s row next (omega (arith, length-lists_in pool p.table, l.within)) in
    let had : block_of (list_at s row) ≡ block_bytes (dope_row pool p.table row) =
    ap block_of l.is ∙ ap round4 (length_bytes pool p.table p.base row h.blocks.is_pool l.within) ∙ sym (block_is (dope_row pool p.table row)) in
    let has : block_of next ≡ round4 bytes = ap round4 (length-of_length bytes (bytes_at s row)) in
    omega (arith, whole, had, has, footprint_state static_size pool fronts p h)

-- what a heap takes fits the pool
pub footprint_inside : (static_size : ℕ) (pool fronts : List ℕ) (p : BlockState) → IsHeap static_size p pool fronts → p.footprint ≤ pool_size
footprint_inside static_size pool fronts p h =
    let b = h.blocks in
    omega (arith, b.footprint_is, total_below pool p.table p.base p.end b.is_pool b.end_is, end_inside pool p.table p.base p.end b.is_pool b.end_is)

-- a row's block is a part of it
pub block_inside : (static_size : ℕ) (pool fronts : List ℕ) (p : BlockState) (row : ℕ) → IsHeap static_size p pool fronts → row < row_count pool p.table → block_bytes (dope_row pool p.table row) ≤ p.footprint
block_inside static_size pool fronts p row h within = omega (arith, h.blocks.footprint_is, before_most pool p.table row within)

-- ---- other bytes

pub after_bytes : (static_size : ℕ) (old new fronts : List ℕ) (p : BlockState) (row at : ℕ) (bytes : List ℕ) → IsHeap static_size p old fronts → Lives old p.table row → Stores old new p.table row at bytes
    → shown static_size new p ≡ with_bytes (shown static_size old p) row at bytes
after_bytes static_size old new fronts p row at bytes h l s =
    rw (same_static static_size old new fronts fronts p p h (s.blocks fronts p refl h.blocks) (s.below fronts p refl h.blocks), s.lists, l.is) refl

-- ---- a row taken, added or freed

pub after_free : (static_size : ℕ) (old new fronts_old fronts_new : List ℕ) (p q : BlockState) (row : ℕ) → IsHeap static_size p old fronts_old → Frees old new fronts_new p q row → shown static_size new q ≡ with_list (shown static_size old p) row None
after_free static_size old new fronts_old fronts_new p q row h f =
    rw (same_static static_size old new fronts_old fronts_new p q h f.blocks f.below, f.lists) refl

pub after_taken : (static_size : ℕ) (old new fronts_old fronts_new : List ℕ) (p q : BlockState) (stride row : ℕ) → IsHeap static_size p old fronts_old → Takes old new fronts_new p q stride row
    → shown static_size new q ≡ with_list (with_free_row (shown static_size old p)) row (empty_list stride)
after_taken static_size old new fronts_old fronts_new p q stride row h t =
    rw (same_static static_size old new fronts_old fronts_new p q h t.blocks t.below, t.lists) refl

pub footprint_taken : (h : Lists) (row stride : ℕ) → IsFree h.by_row row → footprint (with_list h row (empty_list stride)) ≡ footprint h
footprint_taken h row stride f = omega (arith, footprint-with_list h row (empty_list stride) f.within, ap block_of f.empty)

-- the lists where a row was taken fit the pool
pub taken_fits : (static_size : ℕ) (old new fronts_old fronts_new : List ℕ) (p q : BlockState) (stride row : ℕ) → IsHeap static_size p old fronts_old → Takes old new fronts_new p q stride row
    → footprint (with_free_row (shown static_size old p)) ≤ pool_size
taken_fits static_size old new fronts_old fronts_new p q stride row h t =
    let then = still_heap static_size old new fronts_old fronts_new p q h t.blocks t.base in
    omega (
      arith,
      footprint_taken (with_free_row (shown static_size old p)) row stride t.free,
      ap footprint (after_taken static_size old new fronts_old fronts_new p q stride row h t),
      footprint_state static_size new fronts_new q then,
      footprint_inside static_size new fronts_new q then,
    )

pub footprint_more : (static_size : ℕ) (pool fronts : List ℕ) (p : BlockState) → IsHeap static_size p pool fronts → any_free (lists_in pool p.table) ≡ false
    → footprint (with_free_row (shown static_size pool p)) + round4 (10 * row_count pool p.table) ≡ p.footprint + round4 (10 * (row_count pool p.table + 1))
footprint_more static_size pool fronts p h full =
    let xs = lists_in pool p.table in
    let more = with_free-full xs full in
    let long : length (with_free xs) ≡ row_count pool p.table + 1 =
    ap length more ∙ length-append xs (None ∷ []) ∙ ap (λ n. n + 1) (length-lists_in pool p.table) in
    let sums : sum_by block_of (with_free xs) ≡ sum_by block_of xs + 0 = ap (sum_by block_of) more ∙ sum_by-append block_of xs (None ∷ []) in
    omega (arith, ap (λ n. round4 (10 * n)) long, sums, footprint_state static_size pool fronts p h, ap (λ n. round4 (10 * n)) (length-lists_in pool p.table))

-- ---- which rows live

pub alive_from : (pool : List ℕ) (table row : ℕ) → 0 < row → row < row_count pool table → (dope_row pool table row).stride ≢ 0
    → IsSome (get_or (lists_in pool table) row None)
alive_from pool table row above within stride =
    rw (lists_in-at pool table row None within ∙ list_in-some pool table row above stride) refl

-- ---- a list in place of another

alive_below : (h : Lists) (row : ℕ) → IsSome (list_at h row) → row < length h.by_row
alive_below h row alive =
    elim (cases_lt row (length h.by_row)) [
      | inl less ↦ less
      | inr past ↦ absurd (no_list (list_at h row) (get_or_past h.by_row row None past) alive)
    ]

at_length : (h : Lists) (row n : ℕ) → IsSome (list_at h row) → list_at (with_length h row n) row ≡ Some (record { stride = stride_at h row; bytes = of_length n (bytes_at h row) })
at_length h row n alive =
    get_or-set_same h.by_row row (Some (record { stride = stride_at h row; bytes = of_length n (bytes_at h row) })) None (alive_below h row alive)

-- a list that is as long as the bytes that are stored from its first one on has these bytes
pub stored_whole : (h : Lists) (row : ℕ) (bs : List ℕ) → IsSome (list_at h row) → with_bytes (with_length h row (length bs)) row 0 bs ≡ with_these h row bs
stored_whole h row bs alive =
    let g = with_length h row (length bs) in
    let at = at_length h row (length bs) alive in
    let whole : put_at 0 bs (bytes_at g row) ≡ bs = put_at-whole bs (bytes_at g row) (ap (λ o. length (bytes_of o)) at ∙ length-of_length (length bs) (bytes_at h row)) in
    ap (λ ys. with_list g row (Some (record { stride = stride_at g row; bytes = ys }))) whole
    ∙ ap (λ s. with_list g row (Some (record { stride = s; bytes = bs }))) (ap stride_of at)
    ∙ ap (λ rows. record h { by_row = rows })
    (set-set h.by_row row (Some (record { stride = stride_at h row; bytes = of_length (length bs) (bytes_at h row) })) (Some (record { stride = stride_at h row; bytes = bs })))

-- ---- bytes with one behind them

at_end : (b : ℕ) (bs xs : List ℕ) → length xs ≡ length bs + 1 → put_at (length bs) (b ∷ []) (put_at 0 bs xs) ≡ bs ++ b ∷ []
at_end b bs xs long =
    let n = length bs in
    let ys = put_at 0 bs xs in
    let none : 0 + n ≡ n = omega arith in
    let is : ys ≡ bs ++ drop n xs = ap (λ k. bs ++ drop k xs) none in
    let whole : length ys ≡ n + 1 = length-put_at 0 bs xs (omega (arith, long)) ∙ long in
    let front : take n ys ≡ bs = ap (take n) is ∙ take-append_seam bs (drop n xs) in
    let rest : drop (n + 1) ys ≡ [] = drop_of_length-le ys (omega (arith, whole)) in
    ap₂ (λ f r. f ++ (b ∷ []) ++ r) front rest ∙ append-nil (bs ++ b ∷ [])

pub stored_text : (h : Lists) (row : ℕ) (bs : List ℕ) → IsSome (list_at h row)
    → with_bytes (with_bytes (with_length h row (length bs + 1)) row 0 bs) row (length bs) (0 ∷ []) ≡ with_these h row (bs ++ 0 ∷ [])
stored_text h row bs alive =
    let n = length bs in
    let old = bytes_at h row in
    let xs = of_length (n + 1) old in
    let g = with_length h row (n + 1) in
    let first : ByteList = record { stride = stride_at h row; bytes = xs } in
    let at = at_length h row (n + 1) alive in
    let second : ByteList = record { stride = stride_at g row; bytes = put_at 0 bs (bytes_at g row) } in
    let k = with_bytes g row 0 bs in
    let within : row < length g.by_row = omega (arith, alive_below h row alive, length-set h.by_row row (Some first)) in
    let then : list_at k row ≡ Some second = get_or-set_same g.by_row row (Some second) None within in
    let bytes : put_at n (0 ∷ []) (bytes_at k row) ≡ bs ++ 0 ∷ [] =
    ap (λ o. put_at n (0 ∷ []) (bytes_of o)) then
    ∙ ap (λ o. put_at n (0 ∷ []) (put_at 0 bs (bytes_of o))) at
    ∙ at_end 0 bs xs (length-of_length (n + 1) old) in
    let stride : stride_at k row ≡ stride_at h row = ap stride_of then ∙ ap stride_of at in
    ap₂ (λ s ys. with_list k row (Some (record { stride = s; bytes = ys }))) stride bytes
    ∙ ap (λ rows. record h { by_row = rows })
    (set-set g.by_row row (Some second) (Some (record { stride = stride_at h row; bytes = bs ++ 0 ∷ [] }))
    ∙ set-set h.by_row row (Some first) (Some (record { stride = stride_at h row; bytes = bs ++ 0 ∷ [] })))

-- ---- as many bytes as there are

list_is : (o : Option ByteList) → IsSome o → o ≡ Some (record { stride = stride_of o; bytes = bytes_of o })
list_is None some = absurd (false≢true some)
list_is (Some l) some = refl

pub length_same : (h : Lists) (row n : ℕ) → IsSome (list_at h row) → length (bytes_at h row) ≡ n → with_length h row n ≡ h
length_same h row n alive same =
    ap (λ bytes. with_list h row (Some (record { stride = stride_at h row; bytes = bytes }))) (of_length-same n (bytes_at h row) same)
    ∙ ap (λ o. with_list h row o) (sym (list_is (list_at h row) alive))
    ∙ ap (λ rows. record h { by_row = rows }) (set-get_or h.by_row row None)

-- a list whose bytes another gets keeps them, also where it is the other
bytes_kept : (h : Lists) (to from n : ℕ) → IsSome (list_at h to) → length (bytes_at h from) ≡ n → bytes_at (with_length h to n) from ≡ bytes_at h from
bytes_kept h to from n alive same =
    elim (cases_eq from to) [
      | inl e ↦ ap (λ g. bytes_at g from) (length_same h to n alive (ap (λ r. length (bytes_at h r)) (sym e) ∙ same))
      | inr other ↦ ap bytes_of (get_or-set_other h.by_row to from (Some (record { stride = stride_at h to; bytes = of_length n (bytes_at h to) })) None other)
    ]

pub length_got : (h : Lists) (to n : ℕ) → IsSome (list_at h to) → length (bytes_at (with_length h to n) to) ≡ n
length_got h to n alive = ap (λ o. length (bytes_of o)) (at_length h to n alive) ∙ length-of_length n (bytes_at h to)

-- a list of another's length that has got its bytes
pub copied : (h : Lists) (to from n : ℕ) → IsSome (list_at h to) → length (bytes_at h from) ≡ n
    → with_bytes (with_length h to n) to 0 (bytes_at (with_length h to n) from) ≡ with_these h to (bytes_at h from)
copied h to from n alive same =
    ap (λ bytes. with_bytes (with_length h to n) to 0 bytes) (bytes_kept h to from n alive same)
    ∙ ap (λ m. with_bytes (with_length h to m) to 0 (bytes_at h from)) (sym same)
    ∙ stored_whole h to (bytes_at h from) alive

pub length_left : (h : Lists) (to from n : ℕ) → IsSome (list_at h to) → length (bytes_at h from) ≡ n → length (bytes_at (with_length h to n) from) ≡ n
length_left h to from n alive same = ap length (bytes_kept h to from n alive same) ∙ same

-- ---- soundness

-- the blocks lie above the static bytes
pub base_shown : (static_size : ℕ) (pool fronts : List ℕ) (p : BlockState) → IsHeap static_size p pool fronts → p.base ≡ round4 (length (take static_size pool))
base_shown static_size pool fronts p h = h.base_is ∙ sym (ap round4 (length_static static_size pool fronts p h))

pub sound_shown : (static_size : ℕ) (pool fronts : List ℕ) (p : BlockState) → IsHeap static_size p pool fronts → IsSound pool p.table (round4 (length (take static_size pool)))
sound_shown static_size pool fronts p h = subst (IsSound pool p.table) (base_shown static_size pool fronts p h) h.blocks.is_pool.sound
