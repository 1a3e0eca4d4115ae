-- The bytes that the start needs are those of the static bytes, of the tables of rows and of the elements.
use Rattle.std.proofs.Common.{◌≡◌, ℕ, ◌+◌, ◌*◌, ◌<◌, ◌≤◌, max, sum_by, nat_lt, List, Some, None, if◌then◌else◌, sym, ap, ◌∙◌, subst, lt-ltb}
use Rattle.std.proofs.lemmas.Bool.{le-ltb}
use Rattle.nxt_rxe.specs.declared.parts.Parts.{Parts}
use Rattle.nxt_types.specs.Pool.{round4, pool_size}
use Rattle.nxt_layout.specs.declared.fault.LayoutFault.TheVariants.{PoolPassed}
use Rattle.nxt_layout.specs.Rows.{Ground, is_full_in}
use Rattle.nxt_layout.specs.Inside.RowPasses.{ground_of, all_rows, list_count, full_bytes, is_full_by, IsMarked}
use Rattle.nxt_layout.specs.Inside.Passes.{ground_in, arrays_in, rows_in_file, size_of_start, pool_fault}
use Rattle.nxt_layout.proofs.Dope.Told.{lists_told}
use Rattle.nxt_layout.proofs.Dope.Searches.{marked_bytes}
use Rattle.nxt_layout.proofs.layout.check_pool.Goals as goal

-- more than the pool's bytes
passes : (p : Parts) (n : ℕ) → n ≡ size_of_start p → pool_size < n → pool_fault p ≡ Some (PoolPassed n)
passes p n e h =
    subst (λ k. (if nat_lt pool_size k then Some (PoolPassed k) else None) ≡ Some (PoolPassed n)) e
    (ap (λ b. if b then Some (PoolPassed n) else None) (lt-ltb pool_size n h))

-- no more
fits : (p : Parts) (n : ℕ) → n ≡ size_of_start p → n ≤ pool_size → pool_fault p ≡ None
fits p n e h =
    subst (λ k. (if nat_lt pool_size k then Some (PoolPassed k) else None) ≡ None) e
    (ap (λ b. if b then Some (PoolPassed n) else None) (le-ltb pool_size n h))

-- the bytes of the start, where xs is what is found through the arrays: the static bytes, the tables of r rows or of l + 1
-- lists, and the b bytes of the marked rows
size_is : (p : Parts) (g : Ground) (marks : List ℕ) (s m t r l b : ℕ) → g ≡ ground_in p → l ≡ list_count (arrays_in p) → IsMarked (ground_in p) (all_rows (arrays_in p)) marks →
    s ≡ round4 p.header.static_size → m ≡ max r (l + 1) → t ≡ round4 (10 * m) → r ≡ rows_in_file p → b ≡ full_bytes g (is_full_by g marks) →
    s + t + b ≡ size_of_start p
size_is p g marks s m t r l b ground lists marked es em et er eb =
    let most : m ≡ max (rows_in_file p) (list_count (arrays_in p) + 1) = em ∙ ap (λ n. max n (l + 1)) er ∙ ap (λ n. max (rows_in_file p) (n + 1)) lists in
    let bytes : b ≡ full_bytes (ground_in p) (is_full_in (ground_in p) (all_rows (arrays_in p))) =
    eb ∙ ap (λ g. full_bytes g (is_full_by g marks)) ground ∙ marked_bytes (ground_in p) (all_rows (arrays_in p)) marks marked in
    ap (λ n. n + t + b) es
    ∙ ap (λ n. round4 p.header.static_size + n + b) (et ∙ ap (λ n. round4 (10 * n)) most)
    ∙ ap (λ n. round4 p.header.static_size + round4 (10 * max (rows_in_file p) (list_count (arrays_in p) + 1)) + n) bytes

pub returns-then-size-gt-POOL_BYTES-clause-refused : goal.returns-then-size-gt-POOL_BYTES-clause-refused
returns-then-size-gt-POOL_BYTES-clause-refused c =
    let p = c.args.parts.now in
    let size =
    size_is p (ground_of c.args.space.now) c.as_slice-2.result.now c.round4.result c.max.result c.round4-2.result c.from-rows.result c.lists_of-lists.result c.full_bytes-bytes.result
    c.requires.space
    (c.lists_of-lists.ensures.value ∙ ap (sum_by (λ a. a.lists)) c.as_slice.ensures.value ∙ lists_told (ground_in p) (arrays_in p) c.args.arrays.now c.requires.told)
    (subst (IsMarked (ground_in p) (all_rows (arrays_in p))) (sym c.as_slice-2.ensures.value) c.requires.told.marks)
    (c.round4.ensures ∙ ap round4 c.from.ensures)
    c.max.ensures
    c.round4-2.ensures
    (c.from-rows.ensures ∙ c.file_rows.ensures)
    c.full_bytes-bytes.ensures.value
    in
    passes p (c.round4.result + c.round4-2.result + c.full_bytes-bytes.result) size c.if-size-gt-POOL_BYTES.true

pub returns-clause-found : goal.returns-clause-found
returns-clause-found c =
    let p = c.args.parts.now in
    let size =
    size_is p (ground_of c.args.space.now) c.as_slice-2.result.now c.round4.result c.max.result c.round4-2.result c.from-rows.result c.lists_of-lists.result c.full_bytes-bytes.result
    c.requires.space
    (c.lists_of-lists.ensures.value ∙ ap (sum_by (λ a. a.lists)) c.as_slice.ensures.value ∙ lists_told (ground_in p) (arrays_in p) c.args.arrays.now c.requires.told)
    (subst (IsMarked (ground_in p) (all_rows (arrays_in p))) (sym c.as_slice-2.ensures.value) c.requires.told.marks)
    (c.round4.ensures ∙ ap round4 c.from.ensures)
    c.max.ensures
    c.round4-2.ensures
    (c.from-rows.ensures ∙ c.file_rows.ensures)
    c.full_bytes-bytes.ensures.value
    in
    (size, fits p (c.round4.result + c.round4-2.result + c.full_bytes-bytes.result) size c.if-size-gt-POOL_BYTES.false)
