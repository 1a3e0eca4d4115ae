-- What a heap takes of the pool, where one list changes.
use Rattle.std.proofs.Common.{◌≡◌, ℕ, ◌+◌, ◌*◌, ◌<◌, length, Option, None, ap, arith, length-set}
use Rattle.std.proofs.lemmas.List.Sums.{sum_by-set}
use Rattle.nxt_types.specs.Pool.{round4}
use Rattle.nxt_heap.specs.Lists.{Lists, ByteList, list_at, block_of, footprint, with_list}

pub footprint-with_list : (h : Lists) (row : ℕ) (l : Option ByteList) → row < length h.by_row
    → footprint (with_list h row l) + block_of (list_at h row) ≡ footprint h + block_of l
footprint-with_list h row l within =
    omega (arith, sum_by-set block_of h.by_row row l None within, ap (λ n. round4 (10 * n)) (length-set h.by_row row l))
