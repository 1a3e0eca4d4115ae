-- Nobody waits for a free mutex.
use Rattle.std.proofs.Common.{◌≡◌, ◌<◌, ◌∙◌, None, [], length, get_or, ap, sym, arith}
use Rattle.nxt_model.specs.Clumps.{Clumps, Owned, mutex, change_mutex}
use Rattle.nxt_clumps.specs.Inside.States.{owner_in}
use Rattle.nxt_clumps.proofs.Queue.Starts.{length-mutexes_from}
use Rattle.nxt_clumps.proofs.Mutexes.Entries.{owner-at}
use Rattle.nxt_clumps.proofs.Mutexes.Waits.{taken}
use Rattle.nxt_clumps.proofs.state.State.take.Goals as goal

pub index_mut-requires : goal.index_mut-requires
index_mut-requires c =
    let s = c.self.inside in
    omega (arith, length-mutexes_from 0 s.owners.items s.waiting.items, ap (λ (v : Clumps). length v.mutexes) c.self.view_is)

pub returns-clause-state : goal.returns-clause-state
returns-clause-state c =
    let s = c.self.inside in
    let m = c.args.m in
    let inside : m < length s.owners.items =
    omega (arith, length-mutexes_from 0 s.owners.items s.waiting.items, ap (λ (v : Clumps). length v.mutexes) c.self.view_is) in
    let none : get_or s.owners.items m None ≡ None =
    sym (owner-at s.owners.items s.waiting.items m inside) ∙ ap (λ (v : Clumps). owner_in (mutex v m)) c.self.view_is ∙ ap owner_in c.requires.free in
    taken s.clumps.items s.queue.items s.turn s.owners.items s.waiting.items m c.from.result c.args.h inside c.from.ensures (c.self.invariant.free m none)
    ∙ ap (change_mutex m (Owned c.args.h [])) c.self.view_is
