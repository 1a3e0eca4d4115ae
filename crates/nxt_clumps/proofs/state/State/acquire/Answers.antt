-- A mutex with no owner is free.
use Rattle.std.proofs.Common.{◌∙◌, ap, sym}
use Rattle.nxt_model.specs.Clumps.{Mutex, mutex, acquire_at}
use Rattle.nxt_clumps.specs.Inside.States.{waiters_in}
use Rattle.nxt_clumps.proofs.Mutexes.Entries.{owner-none, owner-some}
use Rattle.nxt_clumps.proofs.state.State.acquire.Goals as goal

pub take-requires-clause-free : goal.take-requires-clause-free
take-requires-clause-free c = owner-none (mutex c.args.self.now c.args.m) (sym (c.in-None.ensures {u = tt}))

pub returns-in-None-clause-state : goal.returns-in-None-clause-state
returns-in-None-clause-state c =
    let s = c.args.self.now in
    let free = owner-none (mutex s c.args.m) (sym (c.in-None.ensures {u = tt})) in
    c.take.ensures.state ∙ ap (λ (x : Mutex). (acquire_at x c.args.m c.args.h s).0) (sym free)

pub returns-in-Some-clause-state : goal.returns-in-Some-clause-state
returns-in-Some-clause-state c =
    let s = c.args.self.now in
    let owned = owner-some (mutex s c.args.m) c.in-Some.field-0 (sym (c.in-Some.ensures {u = tt})) in
    c.wait_for.ensures.state c.in-Some.field-0 (waiters_in (mutex s c.args.m)) owned ∙ ap (λ (x : Mutex). (acquire_at x c.args.m c.args.h s).0) (sym owned)
