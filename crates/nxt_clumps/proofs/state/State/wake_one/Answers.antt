-- The first sleeper is not in the queue, which has room for it.
use Rattle.std.proofs.Common.{◌≡◌, Some, subst, sym, ap, arith}
use Rattle.nxt_model.specs.Clumps.{Clump, Clumps}
use Rattle.nxt_clumps.specs.Inside.States.{is_queued}
use Rattle.nxt_clumps.specs.Inside.Sleepers.{in_order, first_number}
use Rattle.nxt_clumps.proofs.Queue.Members.{those-room}
use Rattle.nxt_clumps.proofs.Queue.Kept.{asleep-not_queued, kept-woken}
use Rattle.nxt_clumps.proofs.Sleepers.Changed.{first-asleep}
use Rattle.nxt_clumps.proofs.state.State.wake_one.Goals as goal

pub push_back_reserved-requires : goal.push_back_reserved-requires
push_back_reserved-requires c =
    let First : Clumps → Type 0 = λ s. first_number (in_order s.clumps) ≡ Some c.args.c in
    let s = c.self.inside in
    let v = c.self.invariant in
    let first = first-asleep s.clumps.items c.args.c (subst First (sym c.self.view_is) c.requires) in
    omega (arith, those-room is_queued s.clumps.items s.queue.items c.args.c v.queued first.inside (asleep-not_queued _ first.asleep), v.few, v.queue_room)

pub index_mut-requires : goal.index_mut-requires
index_mut-requires c =
    let First : Clumps → Type 0 = λ s. first_number (in_order s.clumps) ≡ Some c.args.c in
    let s = c.self.inside in
    omega (arith, (first-asleep s.clumps.items c.args.c (subst First (sym c.self.view_is) c.requires)).inside)

pub invariant_of-self : goal.invariant_of-self
invariant_of-self c =
    let First : Clumps → Type 0 = λ s. first_number (in_order s.clumps) ≡ Some c.args.c in
    let s = c.self.inside in
    kept-woken s.clumps.items s.queue.items s.turn s.owners.items s.waiting.items s.sleepers.items _ _ _ _ c.args.c c.set_doing.new.self _ _ _ _ _ c.self.invariant
    (subst First (sym c.self.view_is) c.requires) (ap (λ (k : Clump). k.activity) c.set_doing.ensures) c.from.ensures c.push_back_reserved.ensures.items
    c.pop_front.ensures.rest c.push_back_reserved.ensures.capacity c.pop_front.ensures.capacity
