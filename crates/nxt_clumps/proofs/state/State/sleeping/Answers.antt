-- Some clump sleeps where the list is not empty.
use Rattle.std.proofs.Common.{◌≡◌, ◌∙◌, ◌==◌, ℕ, ap, arith}
use Rattle.std.specs.Prelude.{nat_lt, not}
use Rattle.std.specs.VecDeque.{deque_len}
use Rattle.std.proofs.lemmas.Bool.Decides.{nat_tests}
use Rattle.nxt_model.specs.Clumps.{is_asleep, some_activity}
use Rattle.nxt_clumps.specs.Inside.States.{how_many}
use Rattle.nxt_clumps.proofs.Queue.Members.{some-of_how_many}
use Rattle.nxt_clumps.proofs.Queue.Kept.{sleepers-count}
use Rattle.nxt_clumps.proofs.state.State.sleeping.Goals as goal

not_none : (n : ℕ) → not (n == 0) ≡ nat_lt 0 n
not_none n = grind (arith, nat_tests)

pub returns : goal.returns
returns c =
    let s = c.self.inside in
    let some : deque_len s.sleepers ≡ how_many is_asleep s.clumps.items =
    omega (arith, sleepers-count s.clumps.items s.queue.items s.turn s.owners.items s.waiting.items s.sleepers.items _ _ _ _ c.self.invariant) in
    ap not c.is_empty.ensures ∙ not_none (deque_len s.sleepers) ∙ ap (nat_lt 0) some ∙ some-of_how_many is_asleep s.clumps.items
    ∙ ap (some_activity is_asleep) c.self.view_is
