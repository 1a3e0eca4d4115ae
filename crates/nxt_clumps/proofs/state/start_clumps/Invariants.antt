-- Both lists so far, with what the plans from c on give.
use Rattle.std.proofs.Common.{◌≡◌, ◌≤◌, ◌++◌, map, drop, length}
use Rattle.std.specs.Vec.{vec_len, vec_capacity}
use Rattle.std.specs.VecDeque.{deque_len, deque_capacity}
use Rattle.nxt_model.specs.Clumps.{first_clump, first_queue}
use Rattle.nxt_clumps.proofs.state.start_clumps.Given as goal

abbrev pub invariant-loop-c : goal.invariant-loop-c
invariant-loop-c l = record {
  clumps : l.clumps.items ++ map first_clump (drop l.c l.plans) ≡ map first_clump l.plans;
  queue : l.queue.items ++ first_queue l.c (drop l.c l.plans) ≡ first_queue 0 l.plans;
  len : vec_len l.clumps ≡ l.c;
  queue_len : deque_len l.queue ≤ l.c;
  end : l.c-end ≡ length l.plans;
  room : vec_capacity l.clumps ≡ vec_capacity l.initial.clumps;
  queue_room : deque_capacity l.queue ≡ deque_capacity l.initial.queue;
}
