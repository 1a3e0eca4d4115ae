-- The sleeper goes behind those so far.
use Rattle.std.proofs.Common.{◌≡◌, ◌++◌, take, drop}
use Rattle.std.specs.VecDeque.{deque_len}
use Rattle.nxt_clumps.specs.Inside.Sleepers.{pair_of, pairs_of, put_in_order}
use Rattle.nxt_clumps.proofs.sleeper.position_in_order.Given as goal

abbrev pub invariant-loop-i : goal.invariant-loop-i
invariant-loop-i l = record {
  behind : pairs_of (take l.i l.sleepers.items) ++ put_in_order (pair_of l.sleeper) (pairs_of (drop l.i l.sleepers.items)) ≡ put_in_order (pair_of l.sleeper) (pairs_of l.sleepers.items);
  end : l.i-end ≡ deque_len l.sleepers;
}
