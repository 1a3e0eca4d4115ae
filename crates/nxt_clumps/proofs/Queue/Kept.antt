-- The fields of a state still fit one another after a step.
use Rattle.std.proofs.Common.{◌≡◌, ℕ, ◌<◌, ◌≤◌, true, false, List, [], ◌∷◌, ◌++◌, length, set, get_or, drop, Option, Some, None, refl, ap, sym, ◌∙◌, subst, arith, length-set}
use Rattle.std.specs.Prelude.{slice_get, IfSome}
use Rattle.std.proofs.lemmas.List.{length-map, drop-map, get_or_default}
use Rattle.nxt_model.specs.Clumps.{Activity, Idle, Queued, Asleep, Waiting, Calling, Clump, no_clump, is_idle, is_calling, is_asleep}
use Rattle.nxt_clumps.specs.declared.sleeper.Sleeper.{Sleeper}
use Rattle.nxt_clumps.specs.declared.waiter.Waiter.{Waiter}
use Rattle.nxt_clumps.specs.Inside.Sleepers.{pair_of, pairs_of, in_order, put_in_order, first_number}
use Rattle.nxt_clumps.specs.Inside.States.{is_queued, is_waiting, IsPlain, activity_at, how_many, AreThose, AreKept, numbers_of}
use Rattle.nxt_clumps.proofs.Queue.Members.{those-same, those-less, those-more, those-pass, those-within, how_many-less}
use Rattle.nxt_clumps.proofs.Sleepers.Changed.{order-same, order-awake, order-asleep, begins-with, first-sleeper, length-in_order}

-- ---- what a clump that does one thing doesn't do

pub queued-not_waiting : (a : Activity) → is_queued a ≡ true → is_waiting a ≡ false
queued-not_waiting Queued e = refl
queued-not_waiting Idle e = refl
queued-not_waiting (Asleep t) e = refl
queued-not_waiting (Waiting m) e = cc
queued-not_waiting Calling e = refl

pub queued-not_asleep : (a : Activity) → is_queued a ≡ true → is_asleep a ≡ false
queued-not_asleep Queued e = refl
queued-not_asleep Idle e = refl
queued-not_asleep (Asleep t) e = cc
queued-not_asleep (Waiting m) e = refl
queued-not_asleep Calling e = refl

pub plain_of_idle : (a : Activity) → is_idle a ≡ true → IsPlain a
plain_of_idle Idle e = record { not_queued = refl; not_waiting = refl; not_asleep = refl }
plain_of_idle Queued e = cc
plain_of_idle (Asleep t) e = cc
plain_of_idle (Waiting m) e = cc
plain_of_idle Calling e = cc

pub plain_of_calling : (a : Activity) → is_calling a ≡ true → IsPlain a
plain_of_calling Calling e = record { not_queued = refl; not_waiting = refl; not_asleep = refl }
plain_of_calling Queued e = cc
plain_of_calling (Asleep t) e = cc
plain_of_calling (Waiting m) e = cc
plain_of_calling Idle e = cc

-- ---- the head

pub record IsHead (queue : List ℕ) (h : ℕ) : Type 0 where
  pub some : 0 < length queue
  pub first : get_or queue 0 0 ≡ h

pub head-of : (queue : List ℕ) (h : ℕ) → slice_get queue 0 ≡ Some h → IsHead queue h
head-of [] h e = let f : ⊥ = cc in absurd f
head-of (x ∷ xs) h e = record { some = omega arith; first = cc }

pub head-queued : (clumps : List Clump) (queue : List ℕ) (h : ℕ) → AreThose is_queued clumps queue → slice_get queue 0 ≡ Some h
    → is_queued (activity_at clumps h) ≡ true
head-queued clumps queue h those e =
    let f = head-of queue h e in
    ap (λ (n : ℕ). is_queued (activity_at clumps n)) (sym f.first) ∙ those-pass is_queued clumps queue 0 those f.some

pub head-within : (clumps : List Clump) (queue : List ℕ) (h : ℕ) → AreThose is_queued clumps queue → slice_get queue 0 ≡ Some h
    → h < length clumps
head-within clumps queue h those e =
    let f = head-of queue h e in
    let P : ℕ → Type 0 = λ n. n < length clumps in
    subst P f.first (those-within is_queued clumps queue 0 refl those f.some)

pub head-inside : (clumps : List Clump) (queue : List ℕ) (r : Option ℕ) → AreThose is_queued clumps queue → r ≡ slice_get queue 0
    → IfSome r (λ h. h < length clumps)
head-inside clumps queue None those e = tt
head-inside clumps queue (Some h) those e = head-within clumps queue h those (sym e)

-- ---- the head leaves

pub left-queue : (clumps : List Clump) (queue : List ℕ) (h : ℕ) (k : Clump) → AreThose is_queued clumps queue → slice_get queue 0 ≡ Some h
    → is_queued k.activity ≡ false → AreThose is_queued (set clumps h k) (drop 1 queue)
left-queue clumps queue h k those e is =
    let f = head-of queue h e in
    let P : ℕ → Type 0 = λ n. AreThose is_queued (set clumps n k) (drop 1 queue) in
    subst P f.first (those-less is_queued clumps queue 0 k refl those f.some is)

pub kept-left : (clumps : List Clump) (queue : List ℕ) (turn : ℕ) (owners : List (Option ℕ)) (waiting : List Waiter) (sleepers : List Sleeper) (r s t u h : ℕ) (k : Clump)
    (i : ℕ) (queue' : List ℕ) (r' : ℕ)
    → AreKept clumps queue turn owners waiting sleepers r s t u → slice_get queue 0 ≡ Some h → IsPlain k.activity
    → i ≡ h → queue' ≡ drop 1 queue → r' ≡ r
    → AreKept (set clumps i k) queue' 0 owners waiting sleepers r' s t u
kept-left clumps queue turn owners waiting sleepers r s t u h k i queue' r' kept e plain same popped room =
    let inside = head-within clumps queue h kept.queued e in
    let was = head-queued clumps queue h kept.queued e in
    let awake = queued-not_asleep (activity_at clumps h) was in
    let At : ℕ → Type 0 = λ i. AreKept (set clumps i k) queue' 0 owners waiting sleepers r' s t u in
    let Queue : List ℕ → Type 0 = λ q. AreThose is_queued (set clumps h k) q in
    subst At (sym same) (record {
      few = omega (arith, kept.few, length-set clumps h k);
      queued = subst Queue (sym popped) (left-queue clumps queue h k kept.queued e plain.not_queued);
      waits = those-same is_waiting clumps (numbers_of waiting) h k kept.waits inside (plain.not_waiting ∙ sym (queued-not_waiting (activity_at clumps h) was));
      asleep = kept.asleep ∙ sym (order-awake clumps h k plain.not_asleep awake);
      free = kept.free;
      short = omega arith;
      queue_room = omega (arith, kept.queue_room, room);
      waiting_room = kept.waiting_room;
      sleepers_room = kept.sleepers_room;
      clump_room = kept.clump_room;
    })

-- the head falls asleep
pub kept-slept : (clumps : List Clump) (queue : List ℕ) (turn : ℕ) (owners : List (Option ℕ)) (waiting : List Waiter) (sleepers : List Sleeper) (r s t u h : ℕ) (k : Clump) (until : ℕ)
    (i : ℕ) (queue' : List ℕ) (sleepers' : List Sleeper) (r' t' : ℕ)
    → AreKept clumps queue turn owners waiting sleepers r s t u → slice_get queue 0 ≡ Some h → k.activity ≡ Asleep until
    → i ≡ h → queue' ≡ drop 1 queue → pairs_of sleepers' ≡ put_in_order (until, h) (pairs_of sleepers) → r' ≡ r → t ≤ t'
    → AreKept (set clumps i k) queue' 0 owners waiting sleepers' r' s t' u
kept-slept clumps queue turn owners waiting sleepers r s t u h k until i queue' sleepers' r' t' kept e is same popped put room room' =
    let inside = head-within clumps queue h kept.queued e in
    let was = head-queued clumps queue h kept.queued e in
    let awake = queued-not_asleep (activity_at clumps h) was in
    let At : ℕ → Type 0 = λ i. AreKept (set clumps i k) queue' 0 owners waiting sleepers' r' s t' u in
    let Queue : List ℕ → Type 0 = λ q. AreThose is_queued (set clumps h k) q in
    subst At (sym same) (record {
      few = omega (arith, kept.few, length-set clumps h k);
      queued = subst Queue (sym popped) (left-queue clumps queue h k kept.queued e (ap is_queued is));
      waits = those-same is_waiting clumps (numbers_of waiting) h k kept.waits inside (ap is_waiting is ∙ sym (queued-not_waiting (activity_at clumps h) was));
      asleep = put ∙ ap (put_in_order (until, h)) kept.asleep ∙ sym (order-asleep 0 clumps h k until h inside awake is (omega arith));
      free = kept.free;
      short = omega arith;
      queue_room = omega (arith, kept.queue_room, room);
      waiting_room = kept.waiting_room;
      sleepers_room = omega (arith, kept.sleepers_room, room');
      clump_room = kept.clump_room;
    })

pub sleepers-count : (clumps : List Clump) (queue : List ℕ) (turn : ℕ) (owners : List (Option ℕ)) (waiting : List Waiter) (sleepers : List Sleeper) (r s t u : ℕ)
    → AreKept clumps queue turn owners waiting sleepers r s t u → length sleepers ≡ how_many is_asleep clumps
sleepers-count clumps queue turn owners waiting sleepers r s t u kept = sym (length-map sleepers pair_of) ∙ ap length kept.asleep ∙ length-in_order clumps

-- the list has room for the head
pub sleepers-room : (clumps : List Clump) (queue : List ℕ) (turn : ℕ) (owners : List (Option ℕ)) (waiting : List Waiter) (sleepers : List Sleeper) (r s t u h : ℕ)
    → AreKept clumps queue turn owners waiting sleepers r s t u → slice_get queue 0 ≡ Some h → length sleepers < t
sleepers-room clumps queue turn owners waiting sleepers r s t u h kept e =
    let inside = head-within clumps queue h kept.queued e in
    let awake = queued-not_asleep (activity_at clumps h) (head-queued clumps queue h kept.queued e) in
    omega (arith, how_many-less is_asleep clumps h inside awake, sleepers-count clumps queue turn owners waiting sleepers r s t u kept, kept.few, kept.sleepers_room)

-- ---- a clump changes, and does what it did

pub kept-same : (clumps : List Clump) (queue : List ℕ) (turn : ℕ) (owners : List (Option ℕ)) (waiting : List Waiter) (sleepers : List Sleeper) (r s t u c : ℕ) (k d : Clump)
    (i turn' : ℕ)
    → AreKept clumps queue turn owners waiting sleepers r s t u → c < length clumps → i ≡ c → d ≡ get_or clumps i d → k.activity ≡ d.activity
    → turn' ≤ 20
    → AreKept (set clumps i k) queue turn' owners waiting sleepers r s t u
kept-same clumps queue turn owners waiting sleepers r s t u c k d i turn' kept inside same was did short =
    let is : k.activity ≡ activity_at clumps c =
    did ∙ ap (λ (k : Clump). k.activity) (was ∙ ap (λ (i : ℕ). get_or clumps i d) same ∙ get_or_default clumps c d no_clump inside) in
    let At : ℕ → Type 0 = λ i. AreKept (set clumps i k) queue turn' owners waiting sleepers r s t u in
    subst At (sym same) (record {
      few = omega (arith, kept.few, length-set clumps c k);
      queued = those-same is_queued clumps queue c k kept.queued inside (ap is_queued is);
      waits = those-same is_waiting clumps (numbers_of waiting) c k kept.waits inside (ap is_waiting is);
      asleep = kept.asleep ∙ sym (order-same clumps c k is);
      free = kept.free;
      short = short;
      queue_room = kept.queue_room;
      waiting_room = kept.waiting_room;
      sleepers_room = kept.sleepers_room;
      clump_room = kept.clump_room;
    })

-- ---- a clump is queued

pub asleep-not_queued : (a : Activity) → is_asleep a ≡ true → is_queued a ≡ false
asleep-not_queued a e =
    elim a as (λ a. is_asleep a ≡ true → is_queued a ≡ false) [ Queued ↦ λ e. cc | Idle ↦ λ e. refl | Asleep t ↦ λ e. refl | Waiting m ↦ λ e. refl | Calling ↦ λ e. refl ] e

pub asleep-not_waiting : (a : Activity) → is_asleep a ≡ true → is_waiting a ≡ false
asleep-not_waiting a e =
    elim a as (λ a. is_asleep a ≡ true → is_waiting a ≡ false) [ Queued ↦ λ e. refl | Idle ↦ λ e. refl | Asleep t ↦ λ e. refl | Waiting m ↦ λ e. cc | Calling ↦ λ e. refl ] e

-- a clump that neither is queued nor waits for a mutex
pub kept-queued : (clumps : List Clump) (queue : List ℕ) (turn : ℕ) (owners : List (Option ℕ)) (waiting : List Waiter) (sleepers : List Sleeper) (r s t u c : ℕ) (k : Clump)
    (i : ℕ) (queue' : List ℕ) (sleepers' : List Sleeper) (r' t' : ℕ)
    → AreKept clumps queue turn owners waiting sleepers r s t u → c < length clumps → is_queued (activity_at clumps c) ≡ false → is_waiting (activity_at clumps c) ≡ false
    → k.activity ≡ Queued → pairs_of sleepers' ≡ in_order (set clumps c k)
    → i ≡ c → queue' ≡ queue ++ c ∷ [] → r' ≡ r → t' ≡ t
    → AreKept (set clumps i k) queue' turn owners waiting sleepers' r' s t' u
kept-queued clumps queue turn owners waiting sleepers r s t u c k i queue' sleepers' r' t' kept inside not_queued not_waiting is asleep same pushed room room' =
    let At : ℕ → Type 0 = λ i. AreKept (set clumps i k) queue' turn owners waiting sleepers' r' s t' u in
    let Queue : List ℕ → Type 0 = λ q. AreThose is_queued (set clumps c k) q in
    subst At (sym same) (record {
      few = omega (arith, kept.few, length-set clumps c k);
      queued = subst Queue (sym pushed) (those-more is_queued clumps queue c k kept.queued inside not_queued (ap is_queued is));
      waits = those-same is_waiting clumps (numbers_of waiting) c k kept.waits inside (ap is_waiting is ∙ sym not_waiting);
      asleep = asleep;
      free = kept.free;
      short = kept.short;
      queue_room = omega (arith, kept.queue_room, room);
      waiting_room = kept.waiting_room;
      sleepers_room = omega (arith, kept.sleepers_room, room');
      clump_room = kept.clump_room;
    })

-- the first of those who sleep
pub kept-woken : (clumps : List Clump) (queue : List ℕ) (turn : ℕ) (owners : List (Option ℕ)) (waiting : List Waiter) (sleepers : List Sleeper) (r s t u c : ℕ) (k : Clump)
    (i : ℕ) (queue' : List ℕ) (sleepers' : List Sleeper) (r' t' : ℕ)
    → AreKept clumps queue turn owners waiting sleepers r s t u → first_number (in_order clumps) ≡ Some c → k.activity ≡ Queued
    → i ≡ c → queue' ≡ queue ++ c ∷ [] → sleepers' ≡ drop 1 sleepers → r' ≡ r → t' ≡ t
    → AreKept (set clumps i k) queue' turn owners waiting sleepers' r' s t' u
kept-woken clumps queue turn owners waiting sleepers r s t u c k i queue' sleepers' r' t' kept e is same pushed popped room room' =
    let begins = begins-with (in_order clumps) c e in
    let first = first-sleeper clumps (begins.moment, c) begins.rest begins.split in
    let asleep : pairs_of sleepers' ≡ in_order (set clumps c k) =
    ap pairs_of popped ∙ sym (drop-map pair_of 1 sleepers) ∙ ap (drop 1) kept.asleep ∙ ap (drop 1) begins.split ∙ sym (first.others k (ap is_asleep is)) in
    kept-queued clumps queue turn owners waiting sleepers r s t u c k i queue' sleepers' r' t' kept first.inside
    (asleep-not_queued (activity_at clumps c) first.asleep) (asleep-not_waiting (activity_at clumps c) first.asleep) is asleep same pushed room room'

-- one that is idle, or waits for a subroutine
pub kept-enqueued : (clumps : List Clump) (queue : List ℕ) (turn : ℕ) (owners : List (Option ℕ)) (waiting : List Waiter) (sleepers : List Sleeper) (r s t u c : ℕ) (k : Clump)
    (i : ℕ) (queue' : List ℕ) (r' : ℕ)
    → AreKept clumps queue turn owners waiting sleepers r s t u → c < length clumps → IsPlain (activity_at clumps c) → k.activity ≡ Queued
    → i ≡ c → queue' ≡ queue ++ c ∷ [] → r' ≡ r
    → AreKept (set clumps i k) queue' turn owners waiting sleepers r' s t u
kept-enqueued clumps queue turn owners waiting sleepers r s t u c k i queue' r' kept inside plain is same pushed room =
    kept-queued clumps queue turn owners waiting sleepers r s t u c k i queue' sleepers r' t kept inside plain.not_queued plain.not_waiting is
    (kept.asleep ∙ sym (order-awake clumps c k (ap is_asleep is) plain.not_asleep)) same pushed room refl
