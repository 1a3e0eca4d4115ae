-- The marks so far, and the numbers that are left.
use Rattle.std.proofs.Common.{◌≡◌, ℕ, ◌<◌, ◌≤◌, ◌+◌, min, drop, length, slice_index}
use Rattle.nxt_layout.specs.Inside.RowPasses.{times}
use Rattle.nxt_layout.proofs.marks.mark_all.Given as goal

abbrev pub invariant-loop-number : goal.invariant-loop-number
invariant-loop-number l = record {
  count : length l.marks ≡ length l.initial.marks;
  few : (r : ℕ) → slice_index l.initial.marks r ≤ 2 → slice_index l.marks r ≤ 2;
  marks : (r : ℕ) → r < length l.initial.marks → slice_index l.initial.marks r ≤ 2 → min 2 (slice_index l.marks r + times r (drop l.number-index l.numbers)) ≡ min 2 (slice_index l.initial.marks r + times r l.numbers);
}
