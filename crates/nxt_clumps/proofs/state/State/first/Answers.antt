-- The head of the queue is a clump.
use Rattle.std.proofs.Common.{◌≡◌, ◌<◌, arith, length, subst}
use Rattle.std.proofs.lemmas.Grind.{common_steps}
use Rattle.std.specs.Prelude.{IfSome, slice_get}
use Rattle.nxt_model.specs.Clumps.{Clumps}
use Rattle.nxt_clumps.proofs.Queue.Kept.{head-inside}
use Rattle.nxt_clumps.proofs.state.State.first.Goals as goal

pub returns-clause-inside : goal.returns-clause-inside
returns-clause-inside c =
    let s = c.self.inside in
    let same : c.copied.result ≡ slice_get s.queue.items 0 = grind (arith, common_steps) in
    let Inside : Clumps → Type 0 = λ v. IfSome c.copied.result (λ h. h < length v.clumps) in
    subst Inside c.self.view_is (head-inside s.clumps.items s.queue.items c.copied.result c.self.invariant.queued same)
