-- The owner that the fields tell is the mutex's.
use Rattle.std.proofs.Common.{◌<◌, ◌∙◌, ℕ, None, length, get_or, ap, sym, arith}
use Rattle.std.proofs.lemmas.List.{get_or_default}
use Rattle.nxt_model.specs.Clumps.{Clumps, mutex}
use Rattle.nxt_clumps.specs.Inside.States.{owner_in}
use Rattle.nxt_clumps.proofs.Queue.Starts.{length-mutexes_from}
use Rattle.nxt_clumps.proofs.Mutexes.Entries.{owner-at}
use Rattle.nxt_clumps.proofs.state.State.owner.Goals as goal

pub index-requires : goal.index-requires
index-requires c =
    let s = c.self.inside in
    omega (arith, length-mutexes_from 0 s.owners.items s.waiting.items, ap (λ (v : Clumps). length v.mutexes) c.self.view_is)

pub returns : goal.returns
returns c =
    let s = c.self.inside in
    let inside : c.args.m < length s.owners.items =
    omega (arith, length-mutexes_from 0 s.owners.items s.waiting.items, ap (λ (v : Clumps). length v.mutexes) c.self.view_is) in
    let o = c.index.result.now in
    c.index.ensures ∙ ap (λ (i : ℕ). get_or s.owners.items i o) c.from.ensures ∙ get_or_default s.owners.items c.args.m o None inside
    ∙ sym (owner-at s.owners.items s.waiting.items c.args.m inside) ∙ ap (λ (v : Clumps). owner_in (mutex v c.args.m)) c.self.view_is
