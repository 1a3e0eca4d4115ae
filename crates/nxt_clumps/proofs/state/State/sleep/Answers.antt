-- The head is a clump, and no sleeper before, for which the list has room.
use Rattle.std.proofs.Common.{◌≡◌, Some, subst, sym, ap, arith}
use Rattle.std.specs.Prelude.{slice_get}
use Rattle.nxt_model.specs.Clumps.{Clump, Clumps}
use Rattle.nxt_clumps.proofs.Queue.Kept.{head-within, sleepers-room, kept-slept}
use Rattle.nxt_clumps.proofs.state.State.sleep.Goals as goal

pub index_mut-requires : goal.index_mut-requires
index_mut-requires c =
    let First : Clumps → Type 0 = λ s. slice_get s.queue 0 ≡ Some c.args.h in
    let s = c.self.inside in
    omega (arith, head-within s.clumps.items s.queue.items c.args.h c.self.invariant.queued (subst First (sym c.self.view_is) c.requires))

pub put_in_order-requires : goal.put_in_order-requires
put_in_order-requires c =
    let First : Clumps → Type 0 = λ s. slice_get s.queue 0 ≡ Some c.args.h in
    let s = c.self.inside in
    omega (
      arith,
      sleepers-room s.clumps.items s.queue.items s.turn s.owners.items s.waiting.items s.sleepers.items _ _ _ _ c.args.h c.self.invariant
          (subst First (sym c.self.view_is) c.requires),
    )

pub invariant_of-self : goal.invariant_of-self
invariant_of-self c =
    let First : Clumps → Type 0 = λ s. slice_get s.queue 0 ≡ Some c.args.h in
    let s = c.self.inside in
    kept-slept s.clumps.items s.queue.items s.turn s.owners.items s.waiting.items s.sleepers.items _ _ _ _ c.args.h c.set_doing.new.self c.args.until _ _ _ _ _ c.self.invariant
    (subst First (sym c.self.view_is) c.requires) (ap (λ (k : Clump). k.activity) c.set_doing.ensures) c.from.ensures c.pop_front.ensures.rest
    c.put_in_order.ensures.items c.pop_front.ensures.capacity c.put_in_order.ensures.room
