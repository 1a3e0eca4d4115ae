-- Lists of numbers whose bytes are joined and cut.
use Rattle.std.proofs.Common.{◌≡◌, ℕ, ◌+◌, ◌-◌, ◌*◌, ◌/◌, ◌%◌, ◌<◌, ◌≤◌, inl, inr, List, ◌++◌, pos, take, drop, length, sym, ap, ap₂, ◌∙◌, arith}
use Rattle.std.specs.Int.{from_le_bytes}
use Rattle.std.specs.List.{slice_range}
use Rattle.std.proofs.Math.Nat.{mul-mod_left}
use Rattle.std.proofs.Math.Seq.{drop-append-add}
use Rattle.std.proofs.lemmas.Bool.{cases_lt}
use Rattle.std.proofs.lemmas.List.{get_or_append_left, get_or-append_right, length-append, length-drop, length-take-le, drop-append-le, take-append-le, take-append-drop, take_at, drop_at, ext_get_or}
use Rattle.nxt_types.specs.Arithmetic.{leaf_size, width_of, extend}
use Rattle.nxt_types.specs.declared.kind.Kind.{Kind}
use Rattle.nxt_types.specs.declared.kind.Kind.TheVariants.{Ubyte, Sbyte, Uword, Sword, Ulong, Slong}
use Rattle.nxt_model.specs.Means.Text.{number_in}
use Rattle.nxt_model.specs.Values.{Num, elements}
use Rattle.nxt_space.specs.Spots.{numbers_in_bytes}
use Rattle.nxt_space.proofs.Laws.InBytes.{element_at, number_fits, numbers_counted, numbers_nth}

count_joined : (k : Kind) (n m : ℕ) → n % leaf_size k ≡ 0 → (n + m) / leaf_size k ≡ n / leaf_size k + m / leaf_size k
count_joined Ubyte n m e = omega (arith, e)
count_joined Sbyte n m e = omega (arith, e)
count_joined Uword n m e = omega (arith, e)
count_joined Sword n m e = omega (arith, e)
count_joined Ulong n m e = omega (arith, e)
count_joined Slong n m e = omega (arith, e)

place_behind : (k : Kind) (n m : ℕ) → n % leaf_size k ≡ 0 → n / leaf_size k ≤ m → m * leaf_size k ≡ n + (m - n / leaf_size k) * leaf_size k
place_behind Ubyte n m e past = omega (arith, e, past)
place_behind Sbyte n m e past = omega (arith, e, past)
place_behind Uword n m e past = omega (arith, e, past)
place_behind Sword n m e past = omega (arith, e, past)
place_behind Ulong n m e past = omega (arith, e, past)
place_behind Slong n m e past = omega (arith, e, past)

-- a number of the first bytes, and one of those behind them
front_number : (k : Kind) (xs ys : List ℕ) (at : ℕ) → at + leaf_size k ≤ length xs → element_at k (xs ++ ys) at ≡ element_at k xs at
front_number k xs ys at fits =
    ap
    (λ window. Num (extend k (from_le_bytes (width_of k) window)))
    (ap (take (leaf_size k)) (drop-append-le at xs ys (omega (arith, fits)))
    ∙ take-append-le (leaf_size k) (drop at xs) ys (omega (arith, fits, length-drop at xs)))

back_number : (k : Kind) (xs ys : List ℕ) (at : ℕ) → element_at k (xs ++ ys) (length xs + at) ≡ element_at k ys at
back_number k xs ys at = ap (λ bytes. Num (number_in k bytes)) (drop-append-add xs ys at)

-- bytes behind whole numbers hold theirs behind them
pub numbers_joined : (k : Kind) (xs ys : List ℕ) → length xs % leaf_size k ≡ 0 → elements (numbers_in_bytes k (xs ++ ys)) ≡ elements (numbers_in_bytes k xs) ++ elements (numbers_in_bytes k ys)
numbers_joined k xs ys whole =
    let z = Num (pos 0) in
    let vs = elements (numbers_in_bytes k xs) in
    let ws = elements (numbers_in_bytes k ys) in
    let all = elements (numbers_in_bytes k (xs ++ ys)) in
    let first : length vs ≡ length xs / leaf_size k = sym (numbers_counted k xs) in
    let second : length ws ≡ length ys / leaf_size k = sym (numbers_counted k ys) in
    let total : length (xs ++ ys) / leaf_size k ≡ length xs / leaf_size k + length ys / leaf_size k =
    ap (λ n. n / leaf_size k) (length-append xs ys) ∙ count_joined k (length xs) (length ys) whole in
    let many : length all ≡ length vs + length ws = sym (numbers_counted k (xs ++ ys)) ∙ total ∙ ap₂ (λ a b. a + b) (sym first) (sym second) in
    ext_get_or z all (vs ++ ws) (many ∙ sym (length-append vs ws)) (λ m inside.
    let within : m < length (xs ++ ys) / leaf_size k = omega (arith, inside, many, first, second, total) in
    let here = numbers_nth k (xs ++ ys) m within in
    elim (cases_lt m (length xs / leaf_size k)) [
      | inl less ↦
          here
          ∙ front_number k xs ys (m * leaf_size k) (number_fits k m (length xs) less)
          ∙ sym (get_or_append_left vs ws z m (omega (arith, less, first)) ∙ numbers_nth k xs m less)
      | inr past ↦
          let rest : m - length xs / leaf_size k < length ys / leaf_size k = omega (arith, within, total, past) in
          here
          ∙ ap (element_at k (xs ++ ys)) (place_behind k (length xs) m whole past)
          ∙ back_number k xs ys ((m - length xs / leaf_size k) * leaf_size k)
          ∙ sym (get_or-append_right vs ws (length xs / leaf_size k) m z first past ∙ numbers_nth k ys (m - length xs / leaf_size k) rest)
    ])

below_all : (k : Kind) (j n : ℕ) → j ≤ n / leaf_size k → j * leaf_size k ≤ n
below_all Ubyte j n less = omega (arith, less)
below_all Sbyte j n less = omega (arith, less)
below_all Uword j n less = omega (arith, less)
below_all Sword j n less = omega (arith, less)
below_all Ulong j n less = omega (arith, less)
below_all Slong j n less = omega (arith, less)

so_many : (k : Kind) (j : ℕ) → j * leaf_size k / leaf_size k ≡ j
so_many Ubyte j = omega arith
so_many Sbyte j = omega arith
so_many Uword j = omega arith
so_many Sword j = omega arith
so_many Ulong j = omega arith
so_many Slong j = omega arith

between : (k : Kind) (from to : ℕ) → to * leaf_size k - from * leaf_size k ≡ (to - from) * leaf_size k
between Ubyte from to = omega arith
between Sbyte from to = omega arith
between Uword from to = omega arith
between Sword from to = omega arith
between Ulong from to = omega arith
between Slong from to = omega arith

-- the bytes of so many numbers
numbers_taken : (k : Kind) (bytes : List ℕ) (n : ℕ) → n ≤ length (elements (numbers_in_bytes k bytes)) → elements (numbers_in_bytes k (take (n * leaf_size k) bytes)) ≡ take n (elements (numbers_in_bytes k bytes))
numbers_taken k bytes n few =
    let at = n * leaf_size k in
    let within : at ≤ length bytes = below_all k n (length bytes) (omega (arith, few, numbers_counted k bytes)) in
    let long : length (take at bytes) ≡ at = length-take-le at bytes within in
    let whole : length (take at bytes) % leaf_size k ≡ 0 = ap (λ m. m % leaf_size k) long ∙ mul-mod_left n (leaf_size k) in
    let front = elements (numbers_in_bytes k (take at bytes)) in
    let many : length front ≡ n = sym (numbers_counted k (take at bytes)) ∙ ap (λ m. m / leaf_size k) long ∙ so_many k n in
    sym (take_at front (elements (numbers_in_bytes k (drop at bytes))) n many)
    ∙ ap (take n) (sym (numbers_joined k (take at bytes) (drop at bytes) whole) ∙ ap (λ bs. elements (numbers_in_bytes k bs)) (take-append-drop at bytes))

numbers_behind : (k : Kind) (bytes : List ℕ) (n : ℕ) → n ≤ length (elements (numbers_in_bytes k bytes)) → elements (numbers_in_bytes k (drop (n * leaf_size k) bytes)) ≡ drop n (elements (numbers_in_bytes k bytes))
numbers_behind k bytes n few =
    let at = n * leaf_size k in
    let within : at ≤ length bytes = below_all k n (length bytes) (omega (arith, few, numbers_counted k bytes)) in
    let long : length (take at bytes) ≡ at = length-take-le at bytes within in
    let whole : length (take at bytes) % leaf_size k ≡ 0 = ap (λ m. m % leaf_size k) long ∙ mul-mod_left n (leaf_size k) in
    let front = elements (numbers_in_bytes k (take at bytes)) in
    let many : length front ≡ n = sym (numbers_counted k (take at bytes)) ∙ ap (λ m. m / leaf_size k) long ∙ so_many k n in
    sym (drop_at front (elements (numbers_in_bytes k (drop at bytes))) n many)
    ∙ ap (drop n) (sym (numbers_joined k (take at bytes) (drop at bytes) whole) ∙ ap (λ bs. elements (numbers_in_bytes k bs)) (take-append-drop at bytes))

-- the bytes of the numbers from one up to another
pub numbers_between : (k : Kind) (bytes : List ℕ) (from to : ℕ) → from ≤ to → to ≤ length (elements (numbers_in_bytes k bytes)) → elements (numbers_in_bytes k (slice_range bytes (from * leaf_size k) (to * leaf_size k))) ≡ slice_range (elements (numbers_in_bytes k bytes)) from to
numbers_between k bytes from to ordered few =
    let rest = drop (from * leaf_size k) bytes in
    let behind = numbers_behind k bytes from (omega (arith, ordered, few)) in
    let left : to - from ≤ length (elements (numbers_in_bytes k rest)) =
    omega (arith, ordered, few, ap length behind, length-drop from (elements (numbers_in_bytes k bytes))) in
    ap (λ n. elements (numbers_in_bytes k (take n rest))) (between k from to)
    ∙ numbers_taken k rest (to - from) left
    ∙ ap (take (to - from)) behind
