-- The head waits behind the others.
use Rattle.std.proofs.Common.{◌≡◌, ◌<◌, ◌∙◌, ◌++◌, ◌∷◌, ℕ, Option, Some, None, [], length, get_or, ap, sym, subst, refl, arith}
use Rattle.std.specs.Prelude.{slice_get, IsSome}
use Rattle.nxt_model.specs.Clumps.{Clump, Clumps, Owned, Waiting, mutex, change_mutex, leave}
use Rattle.nxt_clumps.specs.Inside.States.{owner_in}
use Rattle.nxt_clumps.proofs.Queue.Starts.{length-mutexes_from}
use Rattle.nxt_clumps.proofs.Queue.Kept.{head-within}
use Rattle.nxt_clumps.proofs.Mutexes.Entries.{owner-at}
use Rattle.nxt_clumps.proofs.Mutexes.Waits.{changed, waited, kept-waits, waiting-room}
use Rattle.nxt_clumps.proofs.state.State.wait_for.Goals as goal

pub index_mut-requires : goal.index_mut-requires
index_mut-requires c =
    let First : Clumps → Type 0 = λ s. slice_get s.queue 0 ≡ Some c.args.h in
    let s = c.self.inside in
    omega (arith, head-within s.clumps.items s.queue.items c.args.h c.self.invariant.queued (subst First (sym c.self.view_is) c.requires.head))

pub push_reserved-requires : goal.push_reserved-requires
push_reserved-requires c =
    let First : Clumps → Type 0 = λ s. slice_get s.queue 0 ≡ Some c.args.h in
    let s = c.self.inside in
    omega (
      arith,
      waiting-room s.clumps.items s.queue.items s.turn s.owners.items s.waiting.items s.sleepers.items _ _ _ _ c.args.h c.self.invariant
          (subst First (sym c.self.view_is) c.requires.head),
    )

some_owner : (o : Option ℕ) → IsSome o → o ≡ None → ⊥
some_owner None h e = cc
some_owner (Some x) h e = cc

pub invariant_of-self : goal.invariant_of-self
invariant_of-self c =
    let First : Clumps → Type 0 = λ s. slice_get s.queue 0 ≡ Some c.args.h in
    let Has : Clumps → Type 0 = λ s. IsSome (owner_in (mutex s c.args.m)) in
    let s = c.self.inside in
    let m = c.args.m in
    let inside : m < length s.owners.items =
    omega (arith, length-mutexes_from 0 s.owners.items s.waiting.items, ap (λ (v : Clumps). length v.mutexes) c.self.view_is) in
    let owned : get_or s.owners.items m None ≡ None → ⊥ = λ e. some_owner (owner_in (mutex c.args.self.now m)) c.requires.owned
    (sym (sym (owner-at s.owners.items s.waiting.items m inside) ∙ ap (λ (v : Clumps). owner_in (mutex v m)) c.self.view_is) ∙ e) in
    kept-waits s.clumps.items s.queue.items s.turn s.owners.items s.waiting.items s.sleepers.items _ _ _ _ c.args.h m c.set_doing.new.self _ _ _ (record { mutex = m; clump = c.args.h }) _ _
    c.self.invariant (subst First (sym c.self.view_is) c.requires.head) (ap (λ (k : Clump). k.activity) c.set_doing.ensures) owned
    c.from.ensures c.pop_front.ensures.rest c.push_reserved.ensures.items refl refl c.pop_front.ensures.capacity c.push_reserved.ensures.capacity

pub returns-clause-state : goal.returns-clause-state
returns-clause-state c = λ owner those e.
    let First : Clumps → Type 0 = λ s. slice_get s.queue 0 ≡ Some c.args.h in
    let s = c.self.inside in
    let m = c.args.m in
    let inside : m < length s.owners.items =
    omega (arith, length-mutexes_from 0 s.owners.items s.waiting.items, ap (λ (v : Clumps). length v.mutexes) c.self.view_is) in
    let within = head-within s.clumps.items s.queue.items c.args.h c.self.invariant.queued (subst First (sym c.self.view_is) c.requires.head) in
    waited s.clumps.items _ s.queue.items _ s.turn s.owners.items s.waiting.items _ m c.args.h owner those (record { mutex = m; clump = c.args.h }) inside
    (ap (λ (v : Clumps). mutex v m) c.self.view_is ∙ e)
    (changed s.clumps.items c.args.h c.from.result c.index_mut.result.now c.set_doing.new.self (Waiting m) within c.from.ensures c.index_mut.ensures.value c.set_doing.ensures)
    c.pop_front.ensures.rest c.push_reserved.ensures.items refl refl
    ∙ ap (λ (v : Clumps). change_mutex m (Owned owner (those ++ c.args.h ∷ [])) (leave (Waiting m) c.args.h v)) c.self.view_is
