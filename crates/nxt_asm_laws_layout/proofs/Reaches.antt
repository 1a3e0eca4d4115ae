-- Leaves that stand by size reach as far as they have bytes.
use Rattle.std.proofs.Common.{◌≡◌, ℕ, ◌+◌, ◌<◌, ◌≤◌, ◌⊎◌, inl, inr, Bool, true, false, cond, ◌==◌, nat_lt, List, [], ◌∷◌, ◌++◌, max, refl, sym, ap, ◌∙◌, append_assoc, append-nil, arith}
use Rattle.std.proofs.lemmas.Bool.{cases_lt}
use Rattle.std.proofs.lemmas.Bool.Decides.{nat_tests}
use Rattle.nxt_facts.proofs.Each.{Each, each_then}
use Rattle.nxt_facts.proofs.Sums.{total, total-append}
use Rattle.nxt_model.specs.Assembled.{places, places_after}
use Rattle.nxt_model.specs.Spans.{Span, end_of}
use Rattle.nxt_asm_laws_layout.proofs.Weights.{weigh, weight, bytes_weighed, larger, equal}
use Rattle.nxt_asm_laws_layout.proofs.Spots.{spots, spots_end}

-- ---- the least size

record Least (ns : List ℕ) : Type 0 where
  size : ℕ
  positive : 1 ≤ size
  least : Each (λ n. size ≤ n) ns
  among : size ≤ weight (equal size) ns

own_weight : (n : ℕ) → weigh (equal n) n ≡ n
own_weight n = let t : (n == n) ≡ true = grind (arith, nat_tests) in ap (λ b. cond b n 0) t

least_of : (n : ℕ) (ns : List ℕ) → 1 ≤ n → Each (λ k. 1 ≤ k) ns → Least (n ∷ ns)
least_of n [] some all = let w = own_weight n in record { size = n; positive = some; least = (omega arith, tt); among = omega (arith, w) }
least_of n (k ∷ ns) some all = by (least_of k ns all.0 all.1) (cases_lt n (least_of k ns all.0 all.1).size)
  where
    by : (r : Least (k ∷ ns)) → (n < r.size) ⊎ (r.size ≤ n) → Least (n ∷ k ∷ ns)
    by r (inl less) =
        let w = own_weight n in
        record {
          size = n;
          positive = some;
          least = (omega arith, each_then (λ (x : ℕ). r.size ≤ x) (λ x. n ≤ x) (λ x h. omega (arith, h, less)) (k ∷ ns) r.least);
          among = omega (arith, w);
        }
    by r (inr more) = let a = r.among in record { size = r.size; positive = r.positive; least = (more, r.least); among = omega (arith, a) }

-- no size is less: all are larger, or it
none_less : (m n : ℕ) → m ≤ n → n ≤ weigh (larger m) n + weigh (equal m) n
none_less m n le = by (nat_lt m n) refl (n == m) refl
  where
    by : (a : Bool) → nat_lt m n ≡ a → (b : Bool) → (n == m) ≡ b → n ≤ cond a n 0 + cond b n 0
    by true p b q = omega arith
    by false p true q = omega arith
    by false p false q = let f : ⊥ = grind (arith, nat_tests) in absurd f

whole_weight : (m : ℕ) (ns : List ℕ) → Each (λ n. m ≤ n) ns → total (λ (x : ℕ). x) ns ≤ weight (larger m) ns + weight (equal m) ns
whole_weight m [] h = omega arith
whole_weight m (n ∷ ns) h = omega (arith, none_less m n h.0, whole_weight m ns h.1)

-- ---- the greatest end

abbrev pub top : List Span → ℕ
top [] = 0
top (p ∷ ps) = max (end_of p) (top ps)

pub top-append : (ps qs : List Span) → top (ps ++ qs) ≡ max (top ps) (top qs)
top-append [] qs = omega arith
top-append (p ∷ ps) qs = omega (arith, top-append ps qs)

top_below : (n : ℕ) (ps : List Span) → Each (λ p. end_of p ≤ n) ps → top ps ≤ n
top_below n [] h = omega arith
top_below n (p ∷ ps) h = omega (arith, h.0, top_below n ps h.1)

other_weight : (m n : ℕ) → (n == m) ≡ false → weigh (equal m) n ≡ 0
other_weight m n e = ap (λ b. cond b n 0) e

-- the last leaf of a size ends behind all of this size and of larger ones
reaches : (m : ℕ) (all before ns : List ℕ) → all ≡ before ++ ns → weight (equal m) before < weight (equal m) all
    → weight (larger m) all + weight (equal m) all ≤ top (spots (places_after all before ns) ns)
reaches m all before [] whole less = let same = ap (weight (equal m)) (whole ∙ append-nil before) in absurd (omega (arith, same, less))
reaches m all before (n ∷ ns) whole less = by (n == m) refl (λ more. reaches m all (before ++ n ∷ []) ns next more)
  where
    next : all ≡ (before ++ n ∷ []) ++ ns
    next = whole ∙ sym (append_assoc before (n ∷ []) ns)

    pushed : weight (equal m) (before ++ n ∷ []) ≡ weight (equal m) before + weigh (equal m) n
    pushed = let e = total-append (weigh (equal m)) before (n ∷ []) in omega (arith, e)

    by : (b : Bool) → (n == m) ≡ b → (weight (equal m) (before ++ n ∷ []) < weight (equal m) all → weight (larger m) all + weight (equal m) all ≤ top (spots (places_after all (before ++ n ∷ []) ns) ns))
        → weight (larger m) all + weight (equal m) all ≤ top (spots (places_after all before (n ∷ ns)) (n ∷ ns))
    by false e again =
        let none = other_weight m n e in
        let rest = again (omega (arith, pushed, none, less)) in
        omega (arith, rest)
    by true e again =
        let same : n ≡ m = grind (arith, nat_tests) in
        elim (cases_lt (weight (equal m) (before ++ n ∷ [])) (weight (equal m) all)) [
          | inl more ↦ let rest = again more in omega (arith, rest)
          | inr last ↦
              let a = bytes_weighed (larger n) all in
              let b = bytes_weighed (equal n) before in
              let c : weight (larger n) all ≡ weight (larger m) all = ap (λ k. weight (larger k) all) same in
              let d : weight (equal n) before ≡ weight (equal m) before = ap (λ k. weight (equal k) before) same in
              let w : weigh (equal m) n ≡ n = ap (λ k. weigh (equal k) n) (sym same) ∙ own_weight n in
              omega (arith, a, b, c, d, w, pushed, last)
        ]

-- the greatest end is where all leaves end
pub top_is : (ns : List ℕ) → Each (λ n. 1 ≤ n) ns → top (spots (places ns) ns) ≡ total (λ (x : ℕ). x) ns
top_is [] h = refl
top_is (n ∷ ns) h =
    let r = least_of n ns h.0 h.1 in
    let some = r.positive in
    let among = r.among in
    let high = reaches r.size (n ∷ ns) [] (n ∷ ns) refl (omega (arith, some, among)) in
    let all = whole_weight r.size (n ∷ ns) r.least in
    let low = top_below (total (λ (x : ℕ). x) (n ∷ ns)) (spots (places (n ∷ ns)) (n ∷ ns)) (spots_end (n ∷ ns)) in
    omega (arith, high, all, low)
