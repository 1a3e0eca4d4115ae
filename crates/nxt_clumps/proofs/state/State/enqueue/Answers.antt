-- The queue has room for a clump that is not in it.
use Rattle.std.proofs.Common.{◌≡◌, ◌<◌, false, length, subst, sym, ap, arith}
use Rattle.nxt_model.specs.Clumps.{Clump, Clumps, clump}
use Rattle.nxt_clumps.specs.Inside.States.{is_queued, IsPlain}
use Rattle.nxt_clumps.proofs.Queue.Members.{those-room}
use Rattle.nxt_clumps.proofs.Queue.Kept.{kept-enqueued}
use Rattle.nxt_clumps.proofs.state.State.enqueue.Goals as goal

pub push_back_reserved-requires : goal.push_back_reserved-requires
push_back_reserved-requires c =
    let Within : Clumps → Type 0 = λ s. c.args.c < length s.clumps in
    let Other : Clumps → Type 0 = λ s. is_queued (clump s c.args.c).activity ≡ false in
    let s = c.self.inside in
    let v = c.self.invariant in
    let less = those-room is_queued s.clumps.items s.queue.items c.args.c v.queued
    (subst Within (sym c.self.view_is) c.requires.inside) (subst Other (sym c.self.view_is) c.requires.plain.not_queued) in
    omega (arith, less, v.few, v.queue_room)

pub invariant_of-self : goal.invariant_of-self
invariant_of-self c =
    let Within : Clumps → Type 0 = λ s. c.args.c < length s.clumps in
    let Plain : Clumps → Type 0 = λ s. IsPlain (clump s c.args.c).activity in
    let s = c.self.inside in
    kept-enqueued s.clumps.items s.queue.items s.turn s.owners.items s.waiting.items s.sleepers.items _ _ _ _ c.args.c c.set_doing.new.self _ _ _ c.self.invariant
    (subst Within (sym c.self.view_is) c.requires.inside) (subst Plain (sym c.self.view_is) c.requires.plain)
    (ap (λ (k : Clump). k.activity) c.set_doing.ensures) c.from.ensures c.push_back_reserved.ensures.items c.push_back_reserved.ensures.capacity
