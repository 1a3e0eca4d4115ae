-- Lists of the clumps that pass a test, when a clump changes.
use Rattle.std.proofs.Common.{◌≡◌, ◌≢◌, ℕ, zero-add, ◌+◌, ◌<◌, ◌≤◌, Bool, true, false, List, [], ◌∷◌, ◌++◌, length, set, get_or, refl, ap, sym, ◌∙◌, arith, inl, inr, length-append, length-take, length-drop, take, drop, ◌==◌}
use Rattle.std.proofs.lemmas.Bool.{cases_eq, cases_lt, eq-eqb, ne_eqb, lt-ltb}
use Rattle.std.proofs.lemmas.List.{get_or-set_same, get_or-set_other, get_or_past}
use Rattle.std.proofs.lemmas.List.Edits.{length-remove}
use Rattle.std.proofs.lemmas.List.Sums.{sum_by-cons, sum_by-set, sum_by_push, sum_by-remove, sum_by-take-drop, sum_by-drop_more, get_or-le-sum_by}
use Rattle.std.specs.List.{remove, sum_by, list_any}
use Rattle.std.specs.Prelude.{nat_lt, ◌||◌}
use Rattle.nxt_model.specs.Clumps.{Activity, Idle, Clump, no_clump}
use Rattle.nxt_clumps.specs.Inside.States.{one, activity_at, how_many, times, AreThose}

one-le : (b : Bool) → one b ≤ 1
one-le true = omega arith
one-le false = omega arith

how_many-le : (test : Activity → Bool) (clumps : List Clump) → how_many test clumps ≤ length clumps
how_many-le test [] = omega arith
how_many-le test (k ∷ ks) =
    omega (arith, sum_by-cons (λ (k : Clump). one (test k.activity)) k ks, one-le (test k.activity), how_many-le test ks)

-- ---- what a clump does, after one changed

pub activity-set_same : (clumps : List Clump) (c : ℕ) (k : Clump) → c < length clumps → activity_at (set clumps c k) c ≡ k.activity
activity-set_same clumps c k h = ap (λ (k : Clump). k.activity) (get_or-set_same clumps c k no_clump h)

pub activity-set_other : (clumps : List Clump) (c : ℕ) (k : Clump) (n : ℕ) → n ≢ c → activity_at (set clumps c k) n ≡ activity_at clumps n
activity-set_other clumps c k n h = ap (λ (k : Clump). k.activity) (get_or-set_other clumps c n k no_clump h)

pub how_many-set : (test : Activity → Bool) (clumps : List Clump) (c : ℕ) (k : Clump) → c < length clumps
    → how_many test (set clumps c k) + one (test (activity_at clumps c)) ≡ how_many test clumps + one (test k.activity)
how_many-set test clumps c k h = sum_by-set (λ (k : Clump). one (test k.activity)) clumps c k no_clump h

-- ---- the list stays, loses a number, or gets one

pub those-same : (test : Activity → Bool) (clumps : List Clump) (numbers : List ℕ) (c : ℕ) (k : Clump)
    → AreThose test clumps numbers → c < length clumps → test k.activity ≡ test (activity_at clumps c)
    → AreThose test (set clumps c k) numbers
those-same test clumps numbers c k those h e =
    record {
      each = λ n. those.each n ∙ elim (cases_eq n c) [
        | inl same ↦ ap (λ (m : ℕ). one (test (activity_at clumps m))) same
            ∙ ap one (sym e ∙ ap test (sym (activity-set_same clumps c k h)))
            ∙ ap (λ (m : ℕ). one (test (activity_at (set clumps c k) m))) (sym same)
        | inr other ↦ ap (λ (a : Activity). one (test a)) (sym (activity-set_other clumps c k n other))
      ];
      whole = omega (arith, those.whole, how_many-set test clumps c k h, ap one e);
    }

times_push : (c : ℕ) (numbers : List ℕ) (n : ℕ) → times c (numbers ++ n ∷ []) ≡ times c numbers + one (n == c)
times_push c numbers n = sum_by_push (λ (n : ℕ). one (n == c)) numbers n

pub those-more : (test : Activity → Bool) (clumps : List Clump) (numbers : List ℕ) (c : ℕ) (k : Clump)
    → AreThose test clumps numbers → c < length clumps → test (activity_at clumps c) ≡ false → test k.activity ≡ true
    → AreThose test (set clumps c k) (numbers ++ c ∷ [])
those-more test clumps numbers c k those h was is =
    record {
      each = λ n. times_push n numbers c ∙ elim (cases_eq n c) [
        | inl same ↦
            let hit : one (c == n) ≡ 1 = ap one (eq-eqb c n (sym same)) in
            let none : times n numbers ≡ 0 = those.each n ∙ ap (λ (m : ℕ). one (test (activity_at clumps m))) same ∙ ap one was in
            let now : one (test (activity_at (set clumps c k) n)) ≡ 1 =
            ap (λ (m : ℕ). one (test (activity_at (set clumps c k) m))) same ∙ ap (λ (a : Activity). one (test a)) (activity-set_same clumps c k h) ∙ ap one is in
            omega arith
        | inr other ↦
            let miss : one (c == n) ≡ 0 = ap one (ne_eqb c n (λ e. other (sym e))) in
            let as_was : one (test (activity_at (set clumps c k) n)) ≡ one (test (activity_at clumps n)) =
            ap (λ (a : Activity). one (test a)) (activity-set_other clumps c k n other) in
            omega (arith, those.each n)
      ];
      whole = omega (arith, those.whole, how_many-set test clumps c k h, ap one was, ap one is, length-append numbers (c ∷ []));
    }

-- a number in the list is a clump that passes
pub those-at : (test : Activity → Bool) (clumps : List Clump) (numbers : List ℕ) (i : ℕ)
    → AreThose test clumps numbers → i < length numbers → one (test (activity_at clumps (get_or numbers i 0))) ≡ 1
those-at test clumps numbers i those h =
    let c = get_or numbers i 0 in
    let here : one (c == c) ≡ 1 = ap one (eq-eqb c c refl) in
    let found : one (c == c) ≤ times c numbers = get_or-le-sum_by (λ (n : ℕ). one (n == c)) numbers i 0 h in
    let most : one (test (activity_at clumps c)) ≤ 1 = one-le (test (activity_at clumps c)) in
    omega (arith, those.each c)

one-true : (b : Bool) → one b ≡ 1 → b ≡ true
one-true true e = refl
one-true false e = absurd (omega (arith, e))

pub those-pass : (test : Activity → Bool) (clumps : List Clump) (numbers : List ℕ) (i : ℕ)
    → AreThose test clumps numbers → i < length numbers → test (activity_at clumps (get_or numbers i 0)) ≡ true
those-pass test clumps numbers i those h =
    one-true (test (activity_at clumps (get_or numbers i 0))) (those-at test clumps numbers i those h)

-- no clump past the last one passes
pub within : (test : Activity → Bool) (clumps : List Clump) (c : ℕ) → test Idle ≡ false → test (activity_at clumps c) ≡ true → c < length clumps
within test clumps c idle e =
    elim (cases_lt c (length clumps)) [
      | inl less ↦ less
      | inr past ↦
          let none : test (activity_at clumps c) ≡ false = ap (λ (k : Clump). test k.activity) (get_or_past clumps c no_clump past) ∙ idle in
          let f : ⊥ = cc in
          absurd f
    ]

pub those-within : (test : Activity → Bool) (clumps : List Clump) (numbers : List ℕ) (i : ℕ)
    → test Idle ≡ false → AreThose test clumps numbers → i < length numbers → get_or numbers i 0 < length clumps
those-within test clumps numbers i idle those h =
    within test clumps (get_or numbers i 0) idle (those-pass test clumps numbers i those h)

pub those-less : (test : Activity → Bool) (clumps : List Clump) (numbers : List ℕ) (i : ℕ) (k : Clump)
    → test Idle ≡ false → AreThose test clumps numbers → i < length numbers → test k.activity ≡ false
    → AreThose test (set clumps (get_or numbers i 0) k) (remove numbers i)
those-less test clumps numbers i k idle those h is =
    let c = get_or numbers i 0 in
    let inside = those-within test clumps numbers i idle those h in
    let was : one (test (activity_at clumps c)) ≡ 1 = those-at test clumps numbers i those h in
    record {
      each = λ n.
          let less : times n (remove numbers i) + one (c == n) ≡ times n numbers = sum_by-remove (λ (m : ℕ). one (m == n)) numbers i 0 h in
          elim (cases_eq n c) [
            | inl same ↦
                let hit : one (c == n) ≡ 1 = ap one (eq-eqb c n (sym same)) in
                let had : times n numbers ≡ 1 = those.each n ∙ ap (λ (m : ℕ). one (test (activity_at clumps m))) same ∙ was in
                let now : one (test (activity_at (set clumps c k) n)) ≡ 0 =
                ap (λ (m : ℕ). one (test (activity_at (set clumps c k) m))) same ∙ ap (λ (a : Activity). one (test a)) (activity-set_same clumps c k inside) ∙ ap one is in
                omega arith
            | inr other ↦
                let miss : one (c == n) ≡ 0 = ap one (ne_eqb c n (λ e. other (sym e))) in
                let as_was : one (test (activity_at (set clumps c k) n)) ≡ one (test (activity_at clumps n)) =
                ap (λ (a : Activity). one (test a)) (activity-set_other clumps c k n other) in
                omega (arith, those.each n)
          ];
      whole = omega (arith, those.whole, how_many-set test clumps c k inside, was, ap one is, length-remove numbers i h);
    }

-- a clump that does not pass leaves room for it
pub how_many-less : (test : Activity → Bool) (clumps : List Clump) (c : ℕ)
    → c < length clumps → test (activity_at clumps c) ≡ false → how_many test clumps < length clumps
how_many-less test clumps c h was =
    let passes = λ (k : Clump). one (test k.activity) in
    let whole : how_many test clumps ≡ sum_by passes (take c clumps) + (one (test (activity_at clumps c)) + sum_by passes (drop (c + 1) clumps)) =
    sym (sum_by-take-drop passes clumps c) ∙ ap (λ (n : ℕ). sum_by passes (take c clumps) + n) (sum_by-drop_more passes clumps c no_clump h) in
    omega (arith, whole, ap one was, how_many-le test (take c clumps), how_many-le test (drop (c + 1) clumps), length-take c clumps, length-drop (c + 1) clumps)

pub those-room : (test : Activity → Bool) (clumps : List Clump) (numbers : List ℕ) (c : ℕ)
    → AreThose test clumps numbers → c < length clumps → test (activity_at clumps c) ≡ false → length numbers < length clumps
those-room test clumps numbers c those h was = omega (arith, those.whole, how_many-less test clumps c h was)

or_some : (b : Bool) (n : ℕ) → nat_lt 0 (one b + n) ≡ (b || nat_lt 0 n)
or_some true n = lt-ltb 0 (1 + n) (omega arith)
or_some false n = ap (nat_lt 0) (zero-add n)

-- some clump passes where more than none does
pub some-of_how_many : (test : Activity → Bool) (clumps : List Clump) → nat_lt 0 (how_many test clumps) ≡ list_any (λ (k : Clump). test k.activity) clumps
some-of_how_many test [] = refl
some-of_how_many test (k ∷ ks) =
    ap (nat_lt 0) (sum_by-cons (λ (k : Clump). one (test k.activity)) k ks) ∙ or_some (test k.activity) (how_many test ks)
    ∙ ap (λ (b : Bool). test k.activity || b) (some-of_how_many test ks)
