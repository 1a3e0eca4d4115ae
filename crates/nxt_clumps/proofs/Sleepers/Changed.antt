-- The sleepers when a clump changes.
use Rattle.std.proofs.Common.{◌≡◌, ℕ, zero, suc, ◌+◌, ◌<◌, Bool, true, false, List, [], ◌∷◌, ◌++◌, length, map, set, drop, get_or, if◌then◌else◌, ◌==◌, Some, refl, ap, sym, ◌∙◌, subst, arith, length-set}
use Rattle.std.specs.List.{All}
use Rattle.std.proofs.lemmas.List.{set-set, set-get_or}
use Rattle.std.proofs.lemmas.List.Elements.{All-nil, All-cons, All-head, All-weaker, All-append}
use Rattle.std.proofs.lemmas.List.Sums.{sum_by-cons}
use Rattle.nxt_model.specs.Clumps.{Activity, Idle, Queued, Asleep, Waiting, Calling, Plan, Clump, no_clump, first_clump, is_asleep, put_by_moment, by_moment}
use Rattle.nxt_clumps.specs.Inside.States.{one, activity_at, how_many}
use Rattle.nxt_clumps.specs.Inside.Sleepers.{sleeper_one, sleepers_from, in_order, put_in_order, first_number}
use Rattle.nxt_clumps.proofs.Queue.Members.{activity-set_same}
use Rattle.nxt_clumps.proofs.Sleepers.Order.{put-by_moment, put-put, put-first, all-by_moment, length-by_moment}

-- ---- what one clump does

data Sleeps (a : Activity) : Type 0 where
  Awake : ((c : ℕ) → sleeper_one a c ≡ []) → Sleeps a
  Sleeping : (moment : ℕ) → a ≡ Asleep moment → Sleeps a

sleeps_or_not : (a : Activity) → Sleeps a
sleeps_or_not Idle = Awake (λ c. refl)
sleeps_or_not Queued = Awake (λ c. refl)
sleeps_or_not (Asleep moment) = Sleeping moment refl
sleeps_or_not (Waiting m) = Awake (λ c. refl)
sleeps_or_not Calling = Awake (λ c. refl)

awake_none : (a : Activity) (c : ℕ) → is_asleep a ≡ false → sleeper_one a c ≡ []
awake_none Idle c e = refl
awake_none Queued c e = refl
awake_none (Asleep moment) c e = cc
awake_none (Waiting m) c e = refl
awake_none Calling c e = refl

-- ---- the clump does the same, or is awake before and after

sleepers_same : (n : ℕ) (clumps : List Clump) (c : ℕ) (k : Clump) → ((m : ℕ) → sleeper_one k.activity m ≡ sleeper_one (activity_at clumps c) m)
    → sleepers_from n (set clumps c k) ≡ sleepers_from n clumps
sleepers_same n [] c k h = refl
sleepers_same n (x ∷ ks) zero k h = ap (λ l. l ++ sleepers_from (n + 1) ks) (h n)
sleepers_same n (x ∷ ks) (suc c) k h = ap (λ l. sleeper_one x.activity n ++ l) (sleepers_same (n + 1) ks c k h)

pub order-same : (clumps : List Clump) (c : ℕ) (k : Clump) → k.activity ≡ activity_at clumps c → in_order (set clumps c k) ≡ in_order clumps
order-same clumps c k e = ap by_moment (sleepers_same 0 clumps c k (λ m. ap (λ (a : Activity). sleeper_one a m) e))

pub order-awake : (clumps : List Clump) (c : ℕ) (k : Clump) → is_asleep k.activity ≡ false → is_asleep (activity_at clumps c) ≡ false
    → in_order (set clumps c k) ≡ in_order clumps
order-awake clumps c k now was =
    ap by_moment (sleepers_same 0 clumps c k (λ m. awake_none k.activity m now ∙ sym (awake_none (activity_at clumps c) m was)))

-- ---- who is in the list

-- a clump with the number sleeps until the moment
record IsSleeper (clumps : List Clump) (n : ℕ) (x : ℕ × ℕ) : Type 0 where
  pub position : ℕ
  pub number : n + position ≡ x.1
  pub inside : position < length clumps
  pub sleeps : activity_at clumps position ≡ Asleep x.0

sleeper_later : (k : Clump) (ks : List Clump) (n : ℕ) (x : ℕ × ℕ) → IsSleeper ks (n + 1) x → IsSleeper (k ∷ ks) n x
sleeper_later k ks n x s =
    record { position = suc s.position; number = omega (arith, s.number); inside = omega (arith, s.inside); sleeps = s.sleeps }

sleeper_first : (k : Clump) (ks : List Clump) (n : ℕ) → All (IsSleeper (k ∷ ks) n) (sleeper_one k.activity n)
sleeper_first k ks n =
    let P : ℕ × ℕ → Type 0 = IsSleeper (k ∷ ks) n in
    let Each : List (ℕ × ℕ) → Type 0 = λ xs. All P xs in
    elim (sleeps_or_not k.activity) [
      | Awake none ↦ subst Each (sym (none n)) (All-nil P)
      | Sleeping moment e ↦
          subst Each (sym (ap (λ (a : Activity). sleeper_one a n) e))
          (All-cons P (moment, n) [] (record { position = 0; number = omega arith; inside = omega arith; sleeps = e }) (All-nil P))
    ]

all_sleepers : (n : ℕ) (clumps : List Clump) → All (IsSleeper clumps n) (sleepers_from n clumps)
all_sleepers n [] = All-nil (IsSleeper [] n)
all_sleepers n (k ∷ ks) =
    let P : ℕ × ℕ → Type 0 = IsSleeper (k ∷ ks) n in
    All-append P (sleeper_one k.activity n) (sleepers_from (n + 1) ks) (sleeper_first k ks n)
    (All-weaker (IsSleeper ks (n + 1)) P (sleeper_later k ks n) (sleepers_from (n + 1) ks) (all_sleepers (n + 1) ks))

-- each of those behind a clump has a larger number
all_larger : (n : ℕ) (clumps : List Clump) → All (λ (y : ℕ × ℕ). n < y.1) (by_moment (sleepers_from (n + 1) clumps))
all_larger n clumps =
    let P : ℕ × ℕ → Type 0 = λ y. n < y.1 in
    all-by_moment P (sleepers_from (n + 1) clumps)
    (All-weaker (IsSleeper clumps (n + 1)) P (λ x s. omega (arith, s.number)) (sleepers_from (n + 1) clumps) (all_sleepers (n + 1) clumps))

-- ---- a clump falls asleep

put_larger : (moment n : ℕ) (ks : List Clump)
    → put_by_moment (moment, n) (by_moment (sleepers_from (n + 1) ks)) ≡ put_in_order (moment, n) (by_moment (sleepers_from (n + 1) ks))
put_larger moment n ks = put-by_moment (moment, n) (by_moment (sleepers_from (n + 1) ks)) (all_larger n ks)

pub order-asleep : (n : ℕ) (clumps : List Clump) (c : ℕ) (k : Clump) (moment m : ℕ) → c < length clumps → is_asleep (activity_at clumps c) ≡ false
    → k.activity ≡ Asleep moment → n + c ≡ m → by_moment (sleepers_from n (set clumps c k)) ≡ put_in_order (moment, m) (by_moment (sleepers_from n clumps))
order-asleep n [] c k moment m h was is same = absurd (omega (arith, h))
order-asleep n (x ∷ ks) zero k moment m h was is same =
    let at : n ≡ m = omega (arith, same) in
    ap (λ (a : Activity). by_moment (sleeper_one a n ++ sleepers_from (n + 1) ks)) is
    ∙ put_larger moment n ks
    ∙ ap (λ l. put_in_order (moment, n) (by_moment (l ++ sleepers_from (n + 1) ks))) (sym (awake_none x.activity n was))
    ∙ ap (λ (i : ℕ). put_in_order (moment, i) (by_moment (sleepers_from n (x ∷ ks)))) at
order-asleep n (x ∷ ks) (suc c) k moment m h was is same =
    let old = sleepers_from (n + 1) ks in
    let new = sleepers_from (n + 1) (set ks c k) in
    let later : by_moment new ≡ put_in_order (moment, m) (by_moment old) =
    order-asleep (n + 1) ks c k moment m (omega (arith, h)) was is (omega (arith, same)) in
    elim (sleeps_or_not x.activity) [
      | Awake none ↦
          ap (λ l. by_moment (l ++ new)) (none n) ∙ later ∙ ap (λ l. put_in_order (moment, m) (by_moment (l ++ old))) (sym (none n))
      | Sleeping first e ↦
          let here = ap (λ (a : Activity). sleeper_one a n) e in
          ap (λ l. by_moment (l ++ new)) here ∙ put_larger first n (set ks c k) ∙ ap (put_in_order (first, n)) later
          ∙ put-put (first, n) (moment, m) (by_moment old) (λ d. omega (arith, d, same))
          ∙ ap (put_in_order (moment, m)) (sym (put_larger first n ks))
          ∙ ap (λ l. put_in_order (moment, m) (by_moment (l ++ old))) (sym here)
    ]

-- ---- the first one wakes

-- the first one has the number
pub record BeginsWith (xs : List (ℕ × ℕ)) (n : ℕ) : Type 0 where
  pub moment : ℕ
  pub rest : List (ℕ × ℕ)
  pub split : xs ≡ (moment, n) ∷ rest

pub begins-with : (xs : List (ℕ × ℕ)) (n : ℕ) → first_number xs ≡ Some n → BeginsWith xs n
begins-with [] n e = let f : ⊥ = cc in absurd f
begins-with (x ∷ xs) n e =
    let same : x.1 ≡ n = cc in
    record { moment = x.0; rest = xs; split = ap (λ (n : ℕ). (x.0, n) ∷ xs) same }

-- a clump that sleeps, and those who sleep when it is awake
pub record IsFirstSleeper (clumps : List Clump) (c : ℕ) (rest : List (ℕ × ℕ)) : Type 0 where
  pub inside : c < length clumps
  pub asleep : is_asleep (activity_at clumps c) ≡ true
  pub others : (q : Clump) → is_asleep q.activity ≡ false → in_order (set clumps c q) ≡ rest

first_others : (clumps : List Clump) (x : ℕ × ℕ) (rest : List (ℕ × ℕ)) (q : Clump) → IsSleeper clumps 0 x → in_order clumps ≡ x ∷ rest → is_asleep q.activity ≡ false
    → in_order (set clumps x.1 q) ≡ rest
first_others clumps x rest q s e awake =
    let c = x.1 in
    let at : s.position ≡ c = omega (arith, s.number) in
    let inside : c < length clumps = omega (arith, at, s.inside) in
    let woken = set clumps c q in
    let asleep = get_or clumps c no_clump in
    let back : set woken c asleep ≡ clumps = set-set clumps c q asleep ∙ set-get_or clumps c no_clump in
    let was : is_asleep (activity_at woken c) ≡ false = ap is_asleep (activity-set_same clumps c q inside) ∙ awake in
    let is : asleep.activity ≡ Asleep x.0 = ap (activity_at clumps) (sym at) ∙ s.sleeps in
    put-first x (in_order woken) rest
    (sym (order-asleep 0 woken c asleep x.0 c (omega (arith, inside, length-set clumps c q)) was is (omega arith)) ∙ ap in_order back ∙ e)

pub first-sleeper : (clumps : List Clump) (x : ℕ × ℕ) (rest : List (ℕ × ℕ)) → in_order clumps ≡ x ∷ rest → IsFirstSleeper clumps x.1 rest
first-sleeper clumps x rest e =
    let P : ℕ × ℕ → Type 0 = IsSleeper clumps 0 in
    let Each : List (ℕ × ℕ) → Type 0 = λ xs. All P xs in
    let s : IsSleeper clumps 0 x = All-head P x rest (subst Each e (all-by_moment P (sleepers_from 0 clumps) (all_sleepers 0 clumps))) in
    let at : s.position ≡ x.1 = omega (arith, s.number) in
    record {
      inside = omega (arith, at, s.inside);
      asleep = ap (λ (c : ℕ). is_asleep (activity_at clumps c)) (sym at) ∙ ap is_asleep s.sleeps;
      others = λ q awake. first_others clumps x rest q s e awake;
    }

pub first-asleep : (clumps : List Clump) (c : ℕ) → first_number (in_order clumps) ≡ Some c → IsFirstSleeper clumps c (drop 1 (in_order clumps))
first-asleep clumps c e =
    let b = begins-with (in_order clumps) c e in
    subst (λ l. IsFirstSleeper clumps c l) (sym (ap (drop 1) b.split)) (first-sleeper clumps (b.moment, c) b.rest b.split)

-- ---- how many

sleeper_count : (a : Activity) (c : ℕ) (xs : List (ℕ × ℕ)) → length (sleeper_one a c ++ xs) ≡ one (is_asleep a) + length xs
sleeper_count Idle c xs = omega arith
sleeper_count Queued c xs = omega arith
sleeper_count (Asleep moment) c xs = omega arith
sleeper_count (Waiting m) c xs = omega arith
sleeper_count Calling c xs = omega arith

length_sleepers : (n : ℕ) (clumps : List Clump) → length (sleepers_from n clumps) ≡ how_many is_asleep clumps
length_sleepers n [] = refl
length_sleepers n (k ∷ ks) =
    omega (arith, sleeper_count k.activity n (sleepers_from (n + 1) ks), length_sleepers (n + 1) ks, sum_by-cons (λ (k : Clump). one (is_asleep k.activity)) k ks)

pub length-in_order : (clumps : List Clump) → length (in_order clumps) ≡ how_many is_asleep clumps
length-in_order clumps = length-by_moment (sleepers_from 0 clumps) ∙ length_sleepers 0 clumps

-- ---- at the start

no_sleeper : (b : Bool) (c : ℕ) → sleeper_one (if b then Queued else Idle) c ≡ []
no_sleeper true c = refl
no_sleeper false c = refl

sleepers_start : (n : ℕ) (ps : List Plan) → sleepers_from n (map first_clump ps) ≡ []
sleepers_start n [] = refl
sleepers_start n (p ∷ ps) = ap (λ l. l ++ sleepers_from (n + 1) (map first_clump ps)) (no_sleeper (p.fire == 0) n) ∙ sleepers_start (n + 1) ps

pub order-start : (ps : List Plan) → in_order (map first_clump ps) ≡ []
order-start ps = ap by_moment (sleepers_start 0 ps)
