-- The clump does what it did.
use Rattle.std.proofs.Common.{◌+◌, ◌<◌, ◌≤◌, length, subst, sym, ap}
use Rattle.nxt_model.specs.Clumps.{Clump, Clumps}
use Rattle.nxt_clumps.proofs.Queue.Kept.{kept-same}
use Rattle.nxt_clumps.proofs.state.State.advance.Goals as goal

pub invariant_of-self : goal.invariant_of-self
invariant_of-self c =
    let Within : Clumps → Type 0 = λ s. c.args.c < length s.clumps in
    let s = c.self.inside in
    let Short : Clumps → Type 0 = λ s. s.turn + c.args.bytecodes ≤ 20 in
    kept-same s.clumps.items s.queue.items s.turn s.owners.items s.waiting.items s.sleepers.items _ _ _ _ c.args.c c.set_place.new.self c.index_mut.result.now _ _ c.self.invariant
    (subst Within (sym c.self.view_is) c.requires.inside) c.from.ensures c.index_mut.ensures.value (ap (λ (k : Clump). k.activity) c.set_place.ensures) (subst Short (sym c.self.view_is) c.requires.turn)
