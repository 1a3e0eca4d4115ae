-- What arrays and members take.
use Rattle.std.proofs.Common.{◌≡◌, ℕ, zero, suc, ◌+◌, ◌-◌, ◌<◌, ◌^◌, ◌==◌, min, Bool, true, false, cond, List, [], ◌∷◌, ◌++◌, filter, sum, refl, sym, ap, ◌∙◌, append_assoc, append-nil, arith}
use Rattle.std.proofs.lemmas.List.Sums.{sum_by-append}
use Rattle.nxt_types.specs.Shapes.{Shape, cluster_of, members}
use Rattle.nxt_types.specs.Names.{size, sizes}
use Rattle.nxt_model.specs.Assembled.{arrays_among, arrays_in, bytes_where, leaf_sizes, leaves_sizes}
use Rattle.nxt_model.specs.TextProgram.{arrays_of}
use Rattle.nxt_asm_parts.specs.Measures.{held, bytes_of_size, measure_of}
use Rattle.nxt_asm_parts.specs.declared.measure.Measure.{Measure}

-- a sum of held counts
pub sum_held : (a b r x y z : ℕ) → a ≡ held x → b ≡ held y → r ≡ min (a + b) (2 ^ 64 - 1) → z ≡ x + y → r ≡ held z
sum_held a b r x y z first second both together = omega arith

-- ---- arrays

pub size_arrays : (n : ℕ) (s : Shape) → size (arrays_of n s) ≡ size s + n
size_arrays zero s = omega arith
size_arrays (suc n) s = omega (arith, size_arrays n s)

-- an array by the number of its entries
abbrev pub array_measure : ℕ → Measure
array_measure n = record { entries = n; fours = 0; twos = 2; ones = 0; arrays = 1 }

measure_arrays : (n : ℕ) (s : Shape) → 0 < n → measure_of (arrays_of n s) ≡ array_measure (held (size s + n))
measure_arrays zero s some = absurd (omega arith)
measure_arrays (suc n) s some = ap (λ m. array_measure (held m)) (size_arrays (suc n) s)

pub arrays_taken : (n : ℕ) (s : Shape) (one : Measure) (entries : ℕ) → 0 < n → one ≡ measure_of s → entries ≡ min (one.entries + n) (2 ^ 64 - 1)
    → array_measure entries ≡ measure_of (arrays_of n s)
arrays_taken n s one entries some is more =
    let first : one.entries ≡ held (size s) = ap (λ m. m.entries) is in
    let all : entries ≡ held (size s + n) = omega arith in
    ap array_measure all ∙ sym (measure_arrays n s some)

-- ---- members

filter_append : (test : ℕ → Bool) (xs ys : List ℕ) → filter test (xs ++ ys) ≡ filter test xs ++ filter test ys
filter_append test [] ys = refl
filter_append test (x ∷ xs) ys = by (test x) (filter_append test xs ys)
  where
    by : (b : Bool) → filter test (xs ++ ys) ≡ filter test xs ++ filter test ys
        → cond b (x ∷ filter test (xs ++ ys)) (filter test (xs ++ ys)) ≡ cond b (x ∷ filter test xs) (filter test xs) ++ filter test ys
    by true e = ap (λ l. x ∷ l) e
    by false e = e

pub bytes_append : (test : ℕ → Bool) (xs ys : List ℕ) → bytes_where test (xs ++ ys) ≡ bytes_where test xs + bytes_where test ys
bytes_append test xs ys = ap sum (filter_append test xs ys) ∙ sum_by-append (λ (x : ℕ). x) (filter test xs) (filter test ys)

pub leaves_push : (ss : List Shape) (s : Shape) → leaves_sizes (members (ss ++ s ∷ [])) ≡ leaves_sizes (members ss) ++ leaf_sizes s
leaves_push [] s = append-nil (leaf_sizes s)
leaves_push (t ∷ ss) s =
    ap (λ l. leaf_sizes t ++ l) (leaves_push ss s) ∙ sym (append_assoc (leaf_sizes t) (leaves_sizes (members ss)) (leaf_sizes s))

bytes_push : (n : ℕ) (ss : List Shape) (s : Shape) → bytes_of_size n (cluster_of (ss ++ s ∷ [])) ≡ bytes_of_size n (cluster_of ss) + bytes_of_size n s
bytes_push n ss s =
    ap (bytes_where (λ m. m == n)) (leaves_push ss s) ∙ bytes_append (λ m. m == n) (leaves_sizes (members ss)) (leaf_sizes s)

sizes_push : (ss : List Shape) (s : Shape) → sizes (members (ss ++ s ∷ [])) ≡ sizes (members ss) + size s
sizes_push [] s = omega arith
sizes_push (t ∷ ss) s = omega (arith, sizes_push ss s)

arrays_push : (ss : List Shape) (s : Shape) → arrays_among (members (ss ++ s ∷ [])) ≡ arrays_among (members ss) + arrays_in s
arrays_push [] s = omega arith
arrays_push (t ∷ ss) s = omega (arith, arrays_push ss s)

pub measure_push : (ss : List Shape) (s : Shape) (a b r : Measure) → a ≡ measure_of (cluster_of ss) → b ≡ measure_of s
    → r.entries ≡ min (a.entries + b.entries) (2 ^ 64 - 1) → r.fours ≡ min (a.fours + b.fours) (2 ^ 64 - 1)
    → r.twos ≡ min (a.twos + b.twos) (2 ^ 64 - 1) → r.ones ≡ min (a.ones + b.ones) (2 ^ 64 - 1)
    → r.arrays ≡ min (a.arrays + b.arrays) (2 ^ 64 - 1) → r ≡ measure_of (cluster_of (ss ++ s ∷ []))
measure_push ss s a b r first one entries fours twos ones arrays =
    let more : List Shape = ss ++ s ∷ [] in
    let entry : r.entries ≡ held (size (cluster_of more)) =
    sum_held a.entries b.entries r.entries (size (cluster_of ss)) (size s) (size (cluster_of more)) (ap (λ m. m.entries) first) (ap (λ m. m.entries) one) entries
    (omega (arith, sizes_push ss s)) in
    let four : r.fours ≡ held (bytes_of_size 4 (cluster_of more)) =
    sum_held a.fours b.fours r.fours (bytes_of_size 4 (cluster_of ss)) (bytes_of_size 4 s) (bytes_of_size 4 (cluster_of more)) (ap (λ m. m.fours) first) (ap (λ m. m.fours) one) fours
    (bytes_push 4 ss s) in
    let two : r.twos ≡ held (bytes_of_size 2 (cluster_of more)) =
    sum_held a.twos b.twos r.twos (bytes_of_size 2 (cluster_of ss)) (bytes_of_size 2 s) (bytes_of_size 2 (cluster_of more)) (ap (λ m. m.twos) first) (ap (λ m. m.twos) one) twos
    (bytes_push 2 ss s) in
    let single : r.ones ≡ held (bytes_of_size 1 (cluster_of more)) =
    sum_held a.ones b.ones r.ones (bytes_of_size 1 (cluster_of ss)) (bytes_of_size 1 s) (bytes_of_size 1 (cluster_of more)) (ap (λ m. m.ones) first) (ap (λ m. m.ones) one) ones
    (bytes_push 1 ss s) in
    let array : r.arrays ≡ held (arrays_in (cluster_of more)) =
    sum_held a.arrays b.arrays r.arrays (arrays_in (cluster_of ss)) (arrays_in s) (arrays_in (cluster_of more)) (ap (λ m. m.arrays) first) (ap (λ m. m.arrays) one) arrays
    (arrays_push ss s) in
    λ i. record { entries = entry i; fours = four i; twos = two i; ones = single i; arrays = array i }
