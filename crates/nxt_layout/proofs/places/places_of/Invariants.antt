-- The rows that are taken.
use Rattle.std.proofs.Common.{◌≡◌, ◌+◌, take, flat_map, length}
use Rattle.nxt_layout.specs.Rows.{elements_of}
use Rattle.nxt_layout.specs.Inside.RowPasses.{ground_of, times}
use Rattle.nxt_layout.specs.Inside.Known.{IsWalked}
use Rattle.nxt_layout.proofs.places.places_of.Given as goal

abbrev pub invariant-loop-row : goal.invariant-loop-row
invariant-loop-row l = record {
  walked : IsWalked (λ q. times q (flat_map (elements_of (ground_of l.space)) (take l.row-index l.rows))) l.walk;
  count : length l.walk.times.items ≡ length l.space.bytes.items + 1;
}
