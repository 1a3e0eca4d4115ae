-- Every clump is at its start, and every mutex free.
use Rattle.std.proofs.Common.{◌≡◌, ◌≤◌, ℕ, List, [], length, map, replicate, Option, None, refl, rules, ap, sym, ◌∙◌, subst, arith}
use Rattle.std.proofs.lemmas.List.{length-map}
use Rattle.std.specs.Vec.{vec_len}
use Rattle.nxt_model.specs.Clumps.{Clump, Clumps, Plan, first_clump, first_queue, Mutex, clumps_at_start}
use Rattle.nxt_clumps.specs.declared.sleeper.Sleeper.{Sleeper}
use Rattle.nxt_clumps.specs.declared.waiter.Waiter.{Waiter}
use Rattle.nxt_clumps.specs.Inside.States.{AreKept, clumps_of}
use Rattle.nxt_clumps.proofs.Queue.Starts.{queued-start, waits-start, length-mutexes_from, mutexes-start}
use Rattle.nxt_clumps.specs.Inside.Sleepers.{pairs_of}
use Rattle.nxt_clumps.proofs.Sleepers.Changed.{order-start}
use Rattle.nxt_clumps.proofs.state.State.restart.Goals as goal

kept : (ps : List Plan) (clumps : List Clump) (queue : List ℕ) (owners : List (Option ℕ)) (waiting : List Waiter) (sleepers : List Sleeper) (r s t u : ℕ)
    → clumps ≡ map first_clump ps → queue ≡ first_queue 0 ps → waiting ≡ [] → sleepers ≡ [] → length ps ≤ 255 → 255 ≤ r → 255 ≤ s → 255 ≤ t → 255 ≤ u
    → AreKept clumps queue 0 owners waiting sleepers r s t u
kept ps clumps queue owners waiting sleepers r s t u e f g o few room room' room'' room''' =
    let P : List Clump → Type 0 = λ clumps. AreKept clumps queue 0 owners waiting sleepers r s t u in
    let Q : List ℕ → Type 0 = λ queue. AreKept (map first_clump ps) queue 0 owners waiting sleepers r s t u in
    let R : List Waiter → Type 0 = λ waiting. AreKept (map first_clump ps) (first_queue 0 ps) 0 owners waiting sleepers r s t u in
    subst P (sym e) (subst Q (sym f) (subst R (sym g) (record {
      few = omega (arith, length-map ps first_clump);
      queued = queued-start ps;
      waits = waits-start ps;
      asleep = ap pairs_of o ∙ sym (order-start ps);
      free = λ m e. refl;
      short = omega arith;
      queue_room = room;
      waiting_room = room';
      sleepers_room = room'';
      clump_room = room''';
    })))

pub invariant_of-self : goal.invariant_of-self
invariant_of-self c =
    kept c.args.plans.now _ _ c.fill.new.self.items _ _ _ _ _ _ c.start_clumps.ensures.clumps c.start_clumps.ensures.queue c.clear-3.ensures.items c.clear-4.ensures.items
    c.start_clumps.ensures.few
    (omega (arith, c.start_clumps.ensures.same_queue_room, c.clear-2.ensures.capacity, c.self.invariant.queue_room))
    (omega (arith, c.clear-3.ensures.capacity, c.self.invariant.waiting_room))
    (omega (arith, c.clear-4.ensures.capacity, c.self.invariant.sleepers_room))
    (omega (arith, c.start_clumps.ensures.same_clump_room, c.clear.ensures.capacity, c.self.invariant.clump_room))

started : (ps : List Plan) (clumps : List Clump) (queue : List ℕ) (owners : List (Option ℕ)) (waiting : List Waiter) (n m : ℕ)
    → clumps ≡ map first_clump ps → queue ≡ first_queue 0 ps → waiting ≡ [] → owners ≡ replicate n None → n ≡ m
    → clumps_of clumps queue 0 owners waiting ≡ clumps_at_start ps m
started ps clumps queue owners waiting n m e f g o l =
    ap (λ (clumps : List Clump). clumps_of clumps queue 0 owners waiting) e
    ∙ ap (λ (queue : List ℕ). clumps_of (map first_clump ps) queue 0 owners waiting) f
    ∙ ap (λ (waiting : List Waiter). clumps_of (map first_clump ps) (first_queue 0 ps) 0 owners waiting) g
    ∙ ap (λ (owners : List (Option ℕ)). clumps_of (map first_clump ps) (first_queue 0 ps) 0 owners []) o
    ∙ ap (λ (ms : List Mutex). record { clumps = map first_clump ps; queue = first_queue 0 ps; turn = 0; mutexes = ms }) (mutexes-start 0 n)
    ∙ ap (clumps_at_start ps) l

pub returns : goal.returns
returns c =
    let free = c.fill.ensures.items (search rules) in
    let n : vec_len c.self.inside.owners ≡ length c.self.inside.owners.items = omega arith in
    let long : vec_len c.self.inside.owners ≡ length c.args.self.now.mutexes =
    omega (arith, length-mutexes_from 0 c.self.inside.owners.items c.self.inside.waiting.items, ap (λ (s : Clumps). length s.mutexes) c.self.view_is) in
    started c.args.plans.now _ _ _ _ _ _ c.start_clumps.ensures.clumps c.start_clumps.ensures.queue c.clear-3.ensures.items free long
