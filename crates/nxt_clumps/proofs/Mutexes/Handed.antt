-- Mutexes are handed on.
use Rattle.std.proofs.Common.{◌≡◌, ℕ, suc, ◌<◌, true, false, List, [], ◌∷◌, ◌++◌, length, map, set, get_or, drop, take, Option, Some, None, refl, ap, sym, ◌∙◌, subst, arith, inl, inr, length-set}
use Rattle.std.specs.Prelude.{IsSome}
use Rattle.std.specs.List.{remove}
use Rattle.std.proofs.lemmas.Bool.{cases_eq}
use Rattle.std.proofs.lemmas.List.{get_or-set_same, get_or-set_other, get_or-map, length-map, map-append, take-map}
use Rattle.std.specs.List.{drop-map}
use Rattle.nxt_model.specs.Clumps.{Activity, Idle, Queued, Asleep, Waiting, Calling, Clump, Mutex, Free, no_clump, is_asleep, with_activity, hand_on}
use Rattle.nxt_clumps.specs.declared.sleeper.Sleeper.{Sleeper}
use Rattle.nxt_clumps.specs.declared.waiter.Waiter.{Waiter}
use Rattle.nxt_clumps.specs.Inside.States.{is_queued, is_waiting, activity_at, AreThose, AreKept, numbers_of, waiters, waiters_in, mutex_with, mutexes_from, clumps_of}
use Rattle.nxt_clumps.proofs.Queue.Members.{those-pass, those-within, those-less, those-more}
use Rattle.nxt_clumps.proofs.Sleepers.Changed.{order-awake}
use Rattle.nxt_clumps.proofs.Mutexes.Entries.{mutexes-set, mutex-at}
use Rattle.nxt_clumps.proofs.Mutexes.FirstWaiter.{IsFirst}

held : (o : Option ℕ) (ws : List ℕ) → IsSome o → waiters_in (mutex_with o ws) ≡ ws
held None ws e = cc
held (Some owner) ws e = refl

pub waiters-held : (os : List (Option ℕ)) (ws : List Waiter) (m : ℕ) → m < length os → IsSome (get_or os m None)
    → waiters_in (get_or (mutexes_from 0 os ws) m Free) ≡ waiters m ws
waiters-held os ws m inside some = ap waiters_in (mutex-at 0 os ws m m inside (omega arith)) ∙ held (get_or os m None) (waiters m ws) some

-- ---- nobody waits

pub freed : (clumps : List Clump) (queue : List ℕ) (turn : ℕ) (owners : List (Option ℕ)) (waiting : List Waiter) (m i : ℕ)
    → m < length owners → IsSome (get_or owners m None) → i ≡ m → waiters m waiting ≡ []
    → clumps_of clumps queue turn (set owners i None) waiting
    ≡ hand_on (waiters_in (get_or (mutexes_from 0 owners waiting) m Free)) m (clumps_of clumps queue turn owners waiting)
freed clumps queue turn owners waiting m i inside some same none =
    let s = clumps_of clumps queue turn owners waiting in
    ap (λ (i : ℕ). clumps_of clumps queue turn (set owners i None) waiting) same
    ∙ ap (λ (ms : List Mutex). record { clumps = clumps; queue = queue; turn = turn; mutexes = ms })
    (mutexes-set 0 owners waiting waiting m m None inside (omega arith) (λ n e. refl))
    ∙ ap (λ (ws : List ℕ). hand_on ws m s) (sym (waiters-held owners waiting m inside some ∙ none))

pub kept-freed : (clumps : List Clump) (queue : List ℕ) (turn : ℕ) (owners : List (Option ℕ)) (waiting : List Waiter) (sleepers : List Sleeper) (r s t u m i : ℕ)
    → AreKept clumps queue turn owners waiting sleepers r s t u → i ≡ m → waiters m waiting ≡ []
    → AreKept clumps queue turn (set owners i None) waiting sleepers r s t u
kept-freed clumps queue turn owners waiting sleepers r s t u m i kept same none =
    record {
      few = kept.few;
      queued = kept.queued;
      waits = kept.waits;
      asleep = kept.asleep;
      free = λ n e. elim (cases_eq n m) [
        | inl d ↦ ap (λ (n : ℕ). waiters n waiting) d ∙ none
        | inr d ↦ kept.free n (sym (get_or-set_other owners i n None None (λ f. d (f ∙ same))) ∙ e)
      ];
      short = kept.short;
      queue_room = kept.queue_room;
      waiting_room = kept.waiting_room;
      sleepers_room = kept.sleepers_room;
      clump_room = kept.clump_room;
    }

-- ---- someone waits

pub waiting-not_queued : (a : Activity) → is_waiting a ≡ true → is_queued a ≡ false
waiting-not_queued (Waiting m) e = refl
waiting-not_queued Queued e = cc
waiting-not_queued Idle e = refl
waiting-not_queued (Asleep t) e = refl
waiting-not_queued Calling e = refl

waiting-not_asleep : (a : Activity) → is_waiting a ≡ true → is_asleep a ≡ false
waiting-not_asleep (Waiting m) e = refl
waiting-not_asleep Queued e = refl
waiting-not_asleep Idle e = refl
waiting-not_asleep (Asleep t) e = cc
waiting-not_asleep Calling e = refl

numbers-remove : (ws : List Waiter) (i : ℕ) → numbers_of (remove ws i) ≡ remove (numbers_of ws) i
numbers-remove ws i =
    let f : Waiter → ℕ = λ w. w.clump in
    map-append f (take i ws) (drop (suc i) ws)
    ∙ ap (λ (xs : List ℕ). xs ++ map f (drop (suc i) ws)) (sym (take-map f i ws))
    ∙ ap (λ (xs : List ℕ). take i (map f ws) ++ xs) (sym (drop-map f (suc i) ws))

-- who waits at a position is a clump that waits
pub record IsWaiter (clumps : List Clump) (waiting : List Waiter) (i n : ℕ) : Type 0 where
  pub number : get_or (numbers_of waiting) i 0 ≡ n
  pub position : i < length (numbers_of waiting)
  pub inside : n < length clumps
  pub waits : is_waiting (activity_at clumps n) ≡ true

pub is_waiter : (clumps : List Clump) (waiting : List Waiter) (i : ℕ) (w : Waiter) → AreThose is_waiting clumps (numbers_of waiting) → i < length waiting
    → w ≡ get_or waiting i w → IsWaiter clumps waiting i w.clump
is_waiter clumps waiting i w those inside e =
    let f : Waiter → ℕ = λ w. w.clump in
    let number : get_or (numbers_of waiting) i 0 ≡ w.clump = get_or-map f waiting i w 0 inside ∙ ap f (sym e) in
    let within : i < length (numbers_of waiting) = omega (arith, length-map waiting f, inside) in
    record {
      number = number;
      position = within;
      inside = subst (λ (n : ℕ). n < length clumps) number (those-within is_waiting clumps (numbers_of waiting) i refl those within);
      waits = ap (λ (n : ℕ). is_waiting (activity_at clumps n)) (sym number) ∙ those-pass is_waiting clumps (numbers_of waiting) i those within;
    }

pub kept-handed : (clumps : List Clump) (queue : List ℕ) (turn : ℕ) (owners : List (Option ℕ)) (waiting : List Waiter) (sleepers : List Sleeper) (r s t u m at n : ℕ) (k d : Clump) (w : Waiter)
    (i j : ℕ) (queue' : List ℕ) (waiting' : List Waiter) (r' s' : ℕ)
    → AreKept clumps queue turn owners waiting sleepers r s t u → m < length owners → IsFirst m waiting at w → IsWaiter clumps waiting at n → k.activity ≡ Queued
    → i ≡ n → j ≡ m → queue' ≡ queue ++ n ∷ [] → waiting' ≡ remove waiting at → r' ≡ r → s' ≡ s
    → AreKept (set clumps i k) queue' turn (set owners j (Some n)) waiting' sleepers r' s' t u
kept-handed clumps queue turn owners waiting sleepers r s t u m at n k d w i j queue' waiting' r' s' kept entry first waiter is same same' pushed removed room room' =
    let At : ℕ → Type 0 = λ i. AreKept (set clumps i k) queue' turn (set owners j (Some n)) waiting' sleepers r' s' t u in
    let With : List Waiter → Type 0 = λ ws. AreKept (set clumps n k) queue' turn (set owners j (Some n)) ws sleepers r' s' t u in
    let Queue : List ℕ → Type 0 = λ q. AreThose is_queued (set clumps n k) q in
    let Numbers : List ℕ → Type 0 = λ ns. AreThose is_waiting (set clumps n k) ns in
    let Number : ℕ → Type 0 = λ n. AreThose is_waiting (set clumps n k) (remove (numbers_of waiting) at) in
    let was = activity_at clumps n in
    subst At (sym same) (subst With (sym removed) (record {
      few = omega (arith, kept.few, length-set clumps n k);
      queued = subst Queue (sym pushed) (those-more is_queued clumps queue n k kept.queued waiter.inside (waiting-not_queued was waiter.waits) (ap is_queued is));
      waits = subst Numbers (sym (numbers-remove waiting at))
          (subst Number waiter.number (those-less is_waiting clumps (numbers_of waiting) at k refl kept.waits waiter.position (ap is_waiting is)));
      asleep = kept.asleep ∙ sym (order-awake clumps n k (ap is_asleep is) (waiting-not_asleep was waiter.waits));
      free = λ e none. elim (cases_eq e m) [
        | inl f ↦
            let owned : get_or (set owners j (Some n)) e None ≡ Some n =
            ap (λ (j : ℕ). get_or (set owners j (Some n)) e None) same' ∙ ap (λ (e : ℕ). get_or (set owners m (Some n)) e None) f ∙ get_or-set_same owners m (Some n) None entry in
            let g : ⊥ = cc in
            absurd g
        | inr f ↦ first.others e f ∙ kept.free e (sym (get_or-set_other owners j e (Some n) None (λ g. f (g ∙ same'))) ∙ none)
      ];
      short = kept.short;
      queue_room = omega (arith, kept.queue_room, room);
      waiting_room = omega (arith, kept.waiting_room, room');
      sleepers_room = kept.sleepers_room;
      clump_room = kept.clump_room;
    }))

pub handed : (clumps clumps' : List Clump) (queue queue' : List ℕ) (turn : ℕ) (owners : List (Option ℕ)) (waiting waiting' : List Waiter) (m at n j : ℕ) (w : Waiter)
    → m < length owners → IsSome (get_or owners m None) → IsFirst m waiting at w → (get_or waiting at w).clump ≡ n
    → clumps' ≡ set clumps n (with_activity Queued (get_or clumps n no_clump)) → j ≡ m → queue' ≡ queue ++ n ∷ [] → waiting' ≡ remove waiting at
    → clumps_of clumps' queue' turn (set owners j (Some n)) waiting'
    ≡ hand_on (waiters_in (get_or (mutexes_from 0 owners waiting) m Free)) m (clumps_of clumps queue turn owners waiting)
handed clumps clumps' queue queue' turn owners waiting waiting' m at n j w inside some first number e same pushed removed =
    let s = clumps_of clumps queue turn owners waiting in
    let clumps'' = set clumps n (with_activity Queued (get_or clumps n no_clump)) in
    let rest = waiters m (remove waiting at) in
    ap (λ (ks : List Clump). clumps_of ks queue' turn (set owners j (Some n)) waiting') e
    ∙ ap (λ (q : List ℕ). clumps_of clumps'' q turn (set owners j (Some n)) waiting') pushed
    ∙ ap (λ (ws : List Waiter). clumps_of clumps'' (queue ++ n ∷ []) turn (set owners j (Some n)) ws) removed
    ∙ ap (λ (j : ℕ). clumps_of clumps'' (queue ++ n ∷ []) turn (set owners j (Some n)) (remove waiting at)) same
    ∙ ap (λ (ms : List Mutex). record { clumps = clumps''; queue = queue ++ n ∷ []; turn = turn; mutexes = ms })
    (mutexes-set 0 owners waiting (remove waiting at) m m (Some n) inside (omega arith) first.others)
    ∙ ap (λ (ws : List ℕ). hand_on ws m s)
    (sym (waiters-held owners waiting m inside some ∙ first.first ∙ ap (λ (c : ℕ). c ∷ rest) number))
