-- The elements that are taken and those that are left.
use Rattle.std.proofs.Common.{◌≡◌, ℕ, ◌≤◌, ◌*◌, ◌+◌, ◌-◌, length}
use Rattle.nxt_layout.specs.Rows.{row, row_end}
use Rattle.nxt_facts.specs.Places.{places_from}
use Rattle.nxt_layout.specs.Inside.RowPasses.{ground_of, times}
use Rattle.nxt_layout.specs.Inside.Known.{IsWalked}
use Rattle.nxt_layout.proofs.places.Walk.take_row.Given as goal

abbrev pub invariant-loop-left : goal.invariant-loop-left
invariant-loop-left l = record {
  walked : (c : ℕ → ℕ) → IsWalked c l.initial.self → IsWalked (λ q. c q + times q (places_from (row (ground_of l.space) l.row).place l.stride ((row (ground_of l.space) l.row).count - l.left))) l.self;
  here : l.at ≡ (row (ground_of l.space) l.row).place + ((row (ground_of l.space) l.row).count - l.left) * l.stride;
  end : l.at + l.left * l.stride ≡ row_end (ground_of l.space) l.row;
  small : l.at ≤ 65535 + 65535 * ((row (ground_of l.space) l.row).count - l.left);
  fewer : l.left ≤ (row (ground_of l.space) l.row).count;
  count : length l.self.times.items ≡ length l.initial.self.times.items;
  steps : length l.self.steps.items ≡ length l.initial.self.steps.items;
}

abbrev pub decreases-loop-left : goal.decreases-loop-left
decreases-loop-left l = l.left
