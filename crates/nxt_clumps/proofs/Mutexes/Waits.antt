-- Mutexes are taken and waited for.
use Rattle.std.proofs.Common.{◌≡◌, ◌≢◌, ℕ, ◌<◌, List, [], ◌∷◌, ◌++◌, length, set, get_or, drop, Option, Some, None, refl, ap, sym, ◌∙◌, subst, arith, inl, inr, length-set}
use Rattle.std.specs.Prelude.{slice_get}
use Rattle.std.proofs.lemmas.Bool.{cases_eq}
use Rattle.std.proofs.lemmas.List.{set-get_or, get_or_default, map-append, length-map}
use Rattle.nxt_model.specs.Clumps.{Activity, Waiting, Clump, Mutex, Free, Owned, no_clump, is_asleep, with_activity, leave, change_mutex}
use Rattle.nxt_clumps.specs.declared.sleeper.Sleeper.{Sleeper}
use Rattle.nxt_clumps.specs.declared.waiter.Waiter.{Waiter}
use Rattle.nxt_clumps.specs.Inside.States.{is_queued, is_waiting, activity_at, AreThose, AreKept, numbers_of, waiters, mutex_with, mutexes_from, clumps_of}
use Rattle.nxt_clumps.proofs.Queue.Members.{those-more, those-room}
use Rattle.nxt_clumps.proofs.Queue.Kept.{head-within, head-queued, queued-not_waiting, queued-not_asleep, left-queue}
use Rattle.nxt_clumps.proofs.Sleepers.Changed.{order-awake}
use Rattle.nxt_clumps.proofs.Mutexes.Entries.{mutexes-set, waiters-at, waiters-push_same, waiters-push_other}

pub taken : (clumps : List Clump) (queue : List ℕ) (turn : ℕ) (owners : List (Option ℕ)) (waiting : List Waiter) (m i h : ℕ)
    → m < length owners → i ≡ m → waiters m waiting ≡ []
    → clumps_of clumps queue turn (set owners i (Some h)) waiting ≡ change_mutex m (Owned h []) (clumps_of clumps queue turn owners waiting)
taken clumps queue turn owners waiting m i h inside same none =
    ap (λ (i : ℕ). clumps_of clumps queue turn (set owners i (Some h)) waiting) same
    ∙ ap (λ (ms : List Mutex). record { clumps = clumps; queue = queue; turn = turn; mutexes = ms })
    (mutexes-set 0 owners waiting waiting m m (Some h) inside (omega arith) (λ n e. refl)
    ∙ ap (λ (ws : List ℕ). set (mutexes_from 0 owners waiting) m (Owned h ws)) none)

-- ---- the head waits

-- the clump as the code changes it
pub changed : (clumps : List Clump) (h i : ℕ) (d k : Clump) (a : Activity) → h < length clumps → i ≡ h → d ≡ get_or clumps i d → k ≡ with_activity a d
    → set clumps i k ≡ set clumps h (with_activity a (get_or clumps h no_clump))
changed clumps h i d k a inside same is becomes =
    ap (λ (i : ℕ). set clumps i k) same
    ∙ ap (set clumps h) (becomes ∙ ap (with_activity a) (is ∙ ap (λ (i : ℕ). get_or clumps i d) same ∙ get_or_default clumps h d no_clump inside))

pub waited : (clumps clumps' : List Clump) (queue queue' : List ℕ) (turn : ℕ) (owners : List (Option ℕ)) (waiting waiting' : List Waiter) (m h owner : ℕ) (those : List ℕ) (w : Waiter)
    → m < length owners → get_or (mutexes_from 0 owners waiting) m Free ≡ Owned owner those
    → clumps' ≡ set clumps h (with_activity (Waiting m) (get_or clumps h no_clump)) → queue' ≡ drop 1 queue → waiting' ≡ waiting ++ w ∷ [] → w.mutex ≡ m → w.clump ≡ h
    → clumps_of clumps' queue' 0 owners waiting' ≡ change_mutex m (Owned owner (those ++ h ∷ [])) (leave (Waiting m) h (clumps_of clumps queue turn owners waiting))
waited clumps clumps' queue queue' turn owners waiting waiting' m h owner those w inside is e popped pushed for_it it =
    let now = waiters-at owners waiting m owner those inside is in
    let clumps'' = set clumps h (with_activity (Waiting m) (get_or clumps h no_clump)) in
    let others : (n : ℕ) → n ≢ m → waiters n (waiting ++ w ∷ []) ≡ waiters n waiting =
    λ n d. waiters-push_other n waiting w (λ f. d (f ∙ for_it)) in
    let all : waiters m (waiting ++ w ∷ []) ≡ those ++ h ∷ [] =
    waiters-push_same m waiting w for_it ∙ ap (λ (ws : List ℕ). ws ++ w.clump ∷ []) now.1 ∙ ap (λ (c : ℕ). those ++ c ∷ []) it in
    ap (λ (ks : List Clump). clumps_of ks queue' 0 owners waiting') e
    ∙ ap (λ (q : List ℕ). clumps_of clumps'' q 0 owners waiting') popped
    ∙ ap (λ (ws : List Waiter). clumps_of clumps'' (drop 1 queue) 0 owners ws) pushed
    ∙ ap (λ (ms : List Mutex). record { clumps = clumps''; queue = drop 1 queue; turn = 0; mutexes = ms })
    (ap (λ (os : List (Option ℕ)). mutexes_from 0 os (waiting ++ w ∷ [])) (sym (set-get_or owners m None))
    ∙ mutexes-set 0 owners waiting (waiting ++ w ∷ []) m m (get_or owners m None) inside (omega arith) others
    ∙ ap (λ (o : Option ℕ). set (mutexes_from 0 owners waiting) m (mutex_with o (waiters m (waiting ++ w ∷ [])))) now.0
    ∙ ap (λ (ws : List ℕ). set (mutexes_from 0 owners waiting) m (Owned owner ws)) all)

pub kept-waits : (clumps : List Clump) (queue : List ℕ) (turn : ℕ) (owners : List (Option ℕ)) (waiting : List Waiter) (sleepers : List Sleeper) (r s t u h m : ℕ) (k : Clump)
    (i : ℕ) (queue' : List ℕ) (waiting' : List Waiter) (w : Waiter) (r' s' : ℕ)
    → AreKept clumps queue turn owners waiting sleepers r s t u → slice_get queue 0 ≡ Some h → k.activity ≡ Waiting m → (get_or owners m None ≡ None → ⊥)
    → i ≡ h → queue' ≡ drop 1 queue → waiting' ≡ waiting ++ w ∷ [] → w.mutex ≡ m → w.clump ≡ h → r' ≡ r → s' ≡ s
    → AreKept (set clumps i k) queue' 0 owners waiting' sleepers r' s' t u
kept-waits clumps queue turn owners waiting sleepers r s t u h m k i queue' waiting' w r' s' kept e is owned same popped pushed for_it it room room' =
    let inside = head-within clumps queue h kept.queued e in
    let was = head-queued clumps queue h kept.queued e in
    let awake = queued-not_asleep (activity_at clumps h) was in
    let before = queued-not_waiting (activity_at clumps h) was in
    let At : ℕ → Type 0 = λ i. AreKept (set clumps i k) queue' 0 owners waiting' sleepers r' s' t u in
    let With : List Waiter → Type 0 = λ ws. AreKept (set clumps h k) queue' 0 owners ws sleepers r' s' t u in
    let Queue : List ℕ → Type 0 = λ q. AreThose is_queued (set clumps h k) q in
    let Numbers : List ℕ → Type 0 = λ ns. AreThose is_waiting (set clumps h k) ns in
    let numbers : numbers_of waiting ++ h ∷ [] ≡ numbers_of (waiting ++ w ∷ []) =
    ap (λ (c : ℕ). numbers_of waiting ++ c ∷ []) (sym it) ∙ sym (map-append (λ (w : Waiter). w.clump) waiting (w ∷ [])) in
    subst At (sym same) (subst With (sym pushed) (record {
      few = omega (arith, kept.few, length-set clumps h k);
      queued = subst Queue (sym popped) (left-queue clumps queue h k kept.queued e (ap is_queued is));
      waits = subst Numbers numbers (those-more is_waiting clumps (numbers_of waiting) h k kept.waits inside before (ap is_waiting is));
      asleep = kept.asleep ∙ sym (order-awake clumps h k (ap is_asleep is) awake);
      free = λ n none. elim (cases_eq n m) [
        | inl d ↦ absurd (owned (ap (λ (n : ℕ). get_or owners n None) (sym d) ∙ none))
        | inr d ↦ waiters-push_other n waiting w (λ f. d (f ∙ for_it)) ∙ kept.free n none
      ];
      short = omega arith;
      queue_room = omega (arith, kept.queue_room, room);
      waiting_room = omega (arith, kept.waiting_room, room');
      sleepers_room = kept.sleepers_room;
      clump_room = kept.clump_room;
    }))

pub waiting-room : (clumps : List Clump) (queue : List ℕ) (turn : ℕ) (owners : List (Option ℕ)) (waiting : List Waiter) (sleepers : List Sleeper) (r s t u h : ℕ)
    → AreKept clumps queue turn owners waiting sleepers r s t u → slice_get queue 0 ≡ Some h → length waiting < s
waiting-room clumps queue turn owners waiting sleepers r s t u h kept e =
    let inside = head-within clumps queue h kept.queued e in
    let before = queued-not_waiting (activity_at clumps h) (head-queued clumps queue h kept.queued e) in
    omega (arith, those-room is_waiting clumps (numbers_of waiting) h kept.waits inside before, kept.few, kept.waiting_room, length-map waiting (λ (w : Waiter). w.clump))
