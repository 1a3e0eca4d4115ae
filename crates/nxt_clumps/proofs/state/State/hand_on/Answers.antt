-- The first who waits is a clump that waits, so the queue has room for it.
use Rattle.std.proofs.Common.{◌≡◌, ◌<◌, ◌∙◌, ◌==◌, ℕ, List, Option, None, length, get_or, ap, sym, subst, arith}
use Rattle.std.specs.Prelude.{IsSome}
use Rattle.std.specs.List.{position}
use Rattle.nxt_model.specs.Clumps.{Clump, Clumps, Queued, Free, mutex, hand_on}
use Rattle.nxt_clumps.specs.declared.waiter.Waiter.{Waiter}
use Rattle.nxt_clumps.specs.Inside.States.{activity_at, is_queued, owner_in, waiters_in, mutexes_from}
use Rattle.nxt_clumps.proofs.Queue.Starts.{length-mutexes_from}
use Rattle.nxt_clumps.proofs.Queue.Members.{those-room}
use Rattle.nxt_clumps.proofs.Mutexes.Entries.{owner-at}
use Rattle.nxt_clumps.proofs.Mutexes.Waits.{changed}
use Rattle.nxt_clumps.proofs.Mutexes.FirstWaiter.{no-waiter, first-waiter}
use Rattle.nxt_clumps.proofs.Mutexes.Handed.{freed, kept-freed, kept-handed, handed, is_waiter, waiting-not_queued}
use Rattle.nxt_clumps.proofs.state.State.hand_on.Goals as goal

-- an entry of the mutexes is one of the owners
entry : (os : List (Option ℕ)) (ws : List Waiter) (v : Clumps) (m : ℕ) → mutexes_from 0 os ws ≡ v.mutexes → m < length v.mutexes → m < length os
entry os ws v m e h = omega (arith, length-mutexes_from 0 os ws, ap length e)

-- the owner that the mutex has
owned : (os : List (Option ℕ)) (ws : List Waiter) (v : Clumps) (m : ℕ) → mutexes_from 0 os ws ≡ v.mutexes → m < length v.mutexes → IsSome (owner_in (mutex v m))
    → IsSome (get_or os m None)
owned os ws v m e h some =
    subst (λ (o : Option ℕ). IsSome o) (sym (sym (owner-at os ws m (entry os ws v m e h)) ∙ ap (λ ms. owner_in (get_or ms m Free)) e)) some

pub index_mut-requires : goal.index_mut-requires
index_mut-requires c =
    let s = c.self.inside in
    omega (arith, entry s.owners.items s.waiting.items c.args.self.now c.args.m (ap (λ (v : Clumps). v.mutexes) c.self.view_is) c.requires.entry)

pub invariant_of-self : goal.invariant_of-self
invariant_of-self c =
    let s = c.self.inside in
    let none = no-waiter c.args.m s.waiting.items (ap (position (λ (w : Waiter). w.mutex == c.args.m)) (sym c.as_slice.ensures.value) ∙ sym (c.in_default.ensures {u = tt})) in
    kept-freed s.clumps.items s.queue.items s.turn s.owners.items s.waiting.items s.sleepers.items _ _ _ _ c.args.m c.from.result c.self.invariant c.from.ensures none

pub returns-in_default-clause-state : goal.returns-in_default-clause-state
returns-in_default-clause-state c =
    let s = c.self.inside in
    let m = c.args.m in
    let ms = ap (λ (v : Clumps). v.mutexes) c.self.view_is in
    let none = no-waiter m s.waiting.items (ap (position (λ (w : Waiter). w.mutex == m)) (sym c.as_slice.ensures.value) ∙ sym (c.in_default.ensures {u = tt})) in
    freed s.clumps.items s.queue.items s.turn s.owners.items s.waiting.items m c.from.result
    (entry s.owners.items s.waiting.items c.args.self.now m ms c.requires.entry)
    (owned s.owners.items s.waiting.items c.args.self.now m ms c.requires.entry c.requires.owned) c.from.ensures none
    ∙ ap (λ (v : Clumps). hand_on (waiters_in (mutex v m)) m v) c.self.view_is

pub index_mut-requires-2 : goal.index_mut-requires-2
index_mut-requires-2 c =
    let s = c.self.inside in
    omega (arith, entry s.owners.items s.waiting.items c.args.self.now c.args.m (ap (λ (v : Clumps). v.mutexes) c.self.view_is) c.requires.entry)

pub push_back_reserved-requires : goal.push_back_reserved-requires
push_back_reserved-requires c =
    let s = c.self.inside in
    let v = c.self.invariant in
    let w = c.remove-next.result in
    let first = first-waiter c.args.m s.waiting.items c.in-Some.at w (ap (position (λ (w : Waiter). w.mutex == c.args.m)) (sym c.as_slice.ensures.value) ∙ sym (c.in-Some.ensures {u = tt})) in
    let waiter = is_waiter s.clumps.items s.waiting.items c.in-Some.at w v.waits first.inside c.remove-next.ensures.value in
    omega (arith, those-room is_queued s.clumps.items s.queue.items w.clump v.queued waiter.inside (waiting-not_queued (activity_at s.clumps.items w.clump) waiter.waits), v.few, v.queue_room)

pub index_mut-requires-3 : goal.index_mut-requires-3
index_mut-requires-3 c =
    let s = c.self.inside in
    let w = c.remove-next.result in
    let first = first-waiter c.args.m s.waiting.items c.in-Some.at w (ap (position (λ (w : Waiter). w.mutex == c.args.m)) (sym c.as_slice.ensures.value) ∙ sym (c.in-Some.ensures {u = tt})) in
    let waiter = is_waiter s.clumps.items s.waiting.items c.in-Some.at w c.self.invariant.waits first.inside c.remove-next.ensures.value in
    let inside = waiter.inside in
    omega (arith, inside, c.from-3.ensures)

pub invariant_of-self-2 : goal.invariant_of-self-2
invariant_of-self-2 c =
    let s = c.self.inside in
    let m = c.args.m in
    let w = c.remove-next.result in
    let first = first-waiter m s.waiting.items c.in-Some.at w (ap (position (λ (w : Waiter). w.mutex == m)) (sym c.as_slice.ensures.value) ∙ sym (c.in-Some.ensures {u = tt})) in
    let waiter = is_waiter s.clumps.items s.waiting.items c.in-Some.at w c.self.invariant.waits first.inside c.remove-next.ensures.value in
    kept-handed s.clumps.items s.queue.items s.turn s.owners.items s.waiting.items s.sleepers.items _ _ _ _ m c.in-Some.at w.clump c.set_doing.new.self c.set_doing.new.self w _ _ _ _ _ _
    c.self.invariant (entry s.owners.items s.waiting.items c.args.self.now m (ap (λ (v : Clumps). v.mutexes) c.self.view_is) c.requires.entry) first waiter
    (ap (λ (k : Clump). k.activity) c.set_doing.ensures) c.from-3.ensures c.from-2.ensures c.push_back_reserved.ensures.items c.remove-next.ensures.items
    c.push_back_reserved.ensures.capacity c.remove-next.ensures.capacity

pub returns-clause-state : goal.returns-clause-state
returns-clause-state c =
    let s = c.self.inside in
    let m = c.args.m in
    let w = c.remove-next.result in
    let ms = ap (λ (v : Clumps). v.mutexes) c.self.view_is in
    let first = first-waiter m s.waiting.items c.in-Some.at w (ap (position (λ (w : Waiter). w.mutex == m)) (sym c.as_slice.ensures.value) ∙ sym (c.in-Some.ensures {u = tt})) in
    let waiter = is_waiter s.clumps.items s.waiting.items c.in-Some.at w c.self.invariant.waits first.inside c.remove-next.ensures.value in
    handed s.clumps.items _ s.queue.items _ s.turn s.owners.items s.waiting.items _ m c.in-Some.at w.clump c.from-2.result w
    (entry s.owners.items s.waiting.items c.args.self.now m ms c.requires.entry)
    (owned s.owners.items s.waiting.items c.args.self.now m ms c.requires.entry c.requires.owned) first
    (ap (λ (w : Waiter). w.clump) (sym c.remove-next.ensures.value))
    (changed s.clumps.items w.clump c.from-3.result c.index_mut-3.result.now c.set_doing.new.self Queued waiter.inside c.from-3.ensures c.index_mut-3.ensures.value c.set_doing.ensures)
    c.from-2.ensures c.push_back_reserved.ensures.items c.remove-next.ensures.items
    ∙ ap (λ (v : Clumps). hand_on (waiters_in (mutex v m)) m v) c.self.view_is
