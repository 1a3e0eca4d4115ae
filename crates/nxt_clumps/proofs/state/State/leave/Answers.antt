-- The head is a clump, and the fields fit one another without it in the queue.
use Rattle.std.proofs.Common.{◌≡◌, ◌<◌, Some, length, subst, sym, ap, arith}
use Rattle.std.specs.Prelude.{slice_get}
use Rattle.nxt_model.specs.Clumps.{Activity, Clump, Clumps}
use Rattle.nxt_clumps.specs.Inside.States.{IsPlain}
use Rattle.nxt_clumps.proofs.Queue.Kept.{head-within, kept-left}
use Rattle.nxt_clumps.proofs.state.State.leave.Goals as goal

pub index_mut-requires : goal.index_mut-requires
index_mut-requires c =
    let First : Clumps → Type 0 = λ s. slice_get s.queue 0 ≡ Some c.args.h in
    let s = c.self.inside in
    omega (arith, head-within s.clumps.items s.queue.items c.args.h c.self.invariant.queued (subst First (sym c.self.view_is) c.requires.head))

pub invariant_of-self : goal.invariant_of-self
invariant_of-self c =
    let First : Clumps → Type 0 = λ s. slice_get s.queue 0 ≡ Some c.args.h in
    let s = c.self.inside in
    let k = c.set_doing.new.self in
    let Plain : Activity → Type 0 = λ a. IsPlain a in
    let plain = subst Plain (sym (ap (λ (k : Clump). k.activity) c.set_doing.ensures)) c.requires.plain in
    kept-left s.clumps.items s.queue.items s.turn s.owners.items s.waiting.items s.sleepers.items _ _ _ _ c.args.h k _ _ _ c.self.invariant
    (subst First (sym c.self.view_is) c.requires.head) plain c.from.ensures c.pop_front.ensures.rest c.pop_front.ensures.capacity

pub returns-clause-inside : goal.returns-clause-inside
returns-clause-inside c =
    let First : Clumps → Type 0 = λ s. slice_get s.queue 0 ≡ Some c.args.h in
    let Inside : Clumps → Type 0 = λ s. c.args.h < length s.clumps in
    let s = c.self.inside in
    subst Inside c.self.view_is (head-within s.clumps.items s.queue.items c.args.h c.self.invariant.queued (subst First (sym c.self.view_is) c.requires.head))
