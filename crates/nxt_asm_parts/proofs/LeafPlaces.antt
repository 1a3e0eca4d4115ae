-- The places of leaves, counted as they come.
use Rattle.std.proofs.Common.{◌≡◌, ℕ, ◌+◌, ◌-◌, ◌*◌, ◌≤◌, ◌^◌, ◌==◌, ◌⊎◌, inl, inr, nat_lt, List, [], ◌∷◌, ◌++◌, filter, sum, length, drop, refl, sym, ap, ap₂, subst, ◌∙◌, append_assoc, append-nil, arith}
use Rattle.std.specs.Prelude.{⊤}
use Rattle.std.proofs.lemmas.List.Sums.{sum_by-cons}
use Rattle.nxt_types.specs.Arithmetic.{leaf_size}
use Rattle.nxt_types.specs.Shapes.{Shape, Void, Number, Array, Cluster, Mutex, Members, no_members, member, count}
use Rattle.nxt_types.specs.Names.{size, sizes}
use Rattle.nxt_types.specs.declared.kind.Kind.{Kind}
use Rattle.nxt_types.specs.declared.kind.Kind.TheVariants.{Ubyte, Sbyte, Uword, Sword, Ulong, Slong}
use Rattle.nxt_model.specs.Assembled.{all_entries, bytes_where, entries_of, entry, leaf_sizes, leaves_sizes, places, places_after}
use Rattle.nxt_asm_parts.specs.Measures.{bytes_of_size, held, measure_of}
use Rattle.nxt_asm_parts.specs.Places.{after, after_all, entries_among, entries_at, first_places, next_place}
use Rattle.nxt_asm_parts.specs.declared.table.NextPlaces.{NextPlaces}
use Rattle.nxt_asm_parts.proofs.Taken.{bytes_append}

-- ---- sizes of leaves

abbrev pub IsLeafSize : ℕ → Type 0
IsLeafSize n = (n ≡ 1) ⊎ ((n ≡ 2) ⊎ (n ≡ 4))

abbrev pub AreLeafSizes : List ℕ → Type 0
AreLeafSizes [] = ⊤
AreLeafSizes (n ∷ ns) = IsLeafSize n × AreLeafSizes ns

pub by_size : (P : ℕ → Type 0) (n : ℕ) → IsLeafSize n → P 1 → P 2 → P 4 → P n
by_size P n (inl e) one two four = subst P (sym e) one
by_size P n (inr (inl e)) one two four = subst P (sym e) two
by_size P n (inr (inr e)) one two four = subst P (sym e) four

pub number_size : (k : Kind) → IsLeafSize (leaf_size k)
number_size Ubyte = inl refl
number_size Sbyte = inl refl
number_size Uword = inr (inl refl)
number_size Sword = inr (inl refl)
number_size Ulong = inr (inr refl)
number_size Slong = inr (inr refl)

sizes_append : (xs ys : List ℕ) → AreLeafSizes xs → AreLeafSizes ys → AreLeafSizes (xs ++ ys)
sizes_append [] ys left right = right
sizes_append (x ∷ xs) ys left right = (left.0, sizes_append xs ys left.1 right)

mutual
  pub leaves_of : (s : Shape) → AreLeafSizes (leaf_sizes s)
  leaves_of Void = tt
  leaves_of (Number k) = (number_size k, tt)
  leaves_of (Array stride s) = (inr (inl refl), tt)
  leaves_of (Cluster ss) = leaves_among ss
  leaves_of Mutex = (inr (inr refl), tt)

  leaves_among : (ss : Members) → AreLeafSizes (leaves_sizes ss)
  leaves_among no_members = tt
  leaves_among (member s ss) = sizes_append (leaf_sizes s) (leaves_sizes ss) (leaves_of s) (leaves_among ss)

-- ---- bytes

-- the bytes of the leaves of n bytes
abbrev pub bytes : ℕ → List ℕ → ℕ
bytes n xs = bytes_where (λ m. m == n) xs

abbrev pub total : List ℕ → ℕ
total xs = bytes 4 xs + bytes 2 xs + bytes 1 xs

pub bytes_push : (n : ℕ) (xs ys : List ℕ) → bytes n (xs ++ ys) ≡ bytes n xs + bytes n ys
bytes_push n xs ys = bytes_append (λ m. m == n) xs ys

pub total_append : (xs ys : List ℕ) → total (xs ++ ys) ≡ total xs + total ys
total_append xs ys = omega (arith, bytes_push 4 xs ys, bytes_push 2 xs ys, bytes_push 1 xs ys)

-- a leaf of a size in front
pub one_more : (n : ℕ) (xs : List ℕ) → sum (n ∷ xs) ≡ n + sum xs
one_more n xs = sum_by-cons (λ (x : ℕ). x) n xs

number_total : (k : Kind) → total (leaf_size k ∷ []) ≤ 4
number_total Ubyte = omega arith
number_total Sbyte = omega arith
number_total Uword = omega arith
number_total Sword = omega arith
number_total Ulong = omega arith
number_total Slong = omega arith

mutual
  total_small : (s : Shape) → total (leaf_sizes s) ≤ 4 * size s
  total_small Void = omega arith
  total_small (Number k) = number_total k
  total_small (Array stride s) = omega arith
  total_small (Cluster ss) = omega (arith, totals_small ss)
  total_small Mutex = omega arith

  totals_small : (ss : Members) → total (leaves_sizes ss) ≤ 4 * sizes ss
  totals_small no_members = omega arith
  totals_small (member s ss) = omega (arith, total_append (leaf_sizes s) (leaves_sizes ss), total_small s, totals_small ss)

-- the bytes of larger leaves
larger_than_four : (xs : List ℕ) → AreLeafSizes xs → bytes_where (λ m. nat_lt 4 m) xs ≡ 0
larger_than_four [] all = refl
larger_than_four (x ∷ xs) all =
    let rest = larger_than_four xs all.1 in
    by_size (λ n. bytes_where (λ m. nat_lt 4 m) (n ∷ xs) ≡ 0) x all.0 rest rest rest

larger_than_two : (xs : List ℕ) → AreLeafSizes xs → bytes_where (λ m. nat_lt 2 m) xs ≡ bytes 4 xs
larger_than_two [] all = refl
larger_than_two (x ∷ xs) all =
    let rest = larger_than_two xs all.1 in
    by_size (λ n. bytes_where (λ m. nat_lt 2 m) (n ∷ xs) ≡ bytes 4 (n ∷ xs)) x all.0 rest rest
    (one_more 4 (filter (λ m. nat_lt 2 m) xs) ∙ ap (λ k. 4 + k) rest ∙ sym (one_more 4 (filter (λ m. m == 4) xs)))

larger_than_one : (xs : List ℕ) → AreLeafSizes xs → bytes_where (λ m. nat_lt 1 m) xs ≡ bytes 4 xs + bytes 2 xs
larger_than_one [] all = refl
larger_than_one (x ∷ xs) all =
    let rest = larger_than_one xs all.1 in
    by_size (λ n. bytes_where (λ m. nat_lt 1 m) (n ∷ xs) ≡ bytes 4 (n ∷ xs) + bytes 2 (n ∷ xs)) x all.0 rest
    (omega (arith, rest, one_more 2 (filter (λ m. nat_lt 1 m) xs), one_more 2 (filter (λ m. m == 2) xs)))
    (omega (arith, rest, one_more 4 (filter (λ m. nat_lt 1 m) xs), one_more 4 (filter (λ m. m == 4) xs)))

-- ---- places

-- where the next leaves stand behind `before`
abbrev pub counted : List ℕ → List ℕ → NextPlaces
counted all before = record {
  fours = bytes 4 before;
  twos = bytes 4 all + bytes 2 before;
  ones = bytes 4 all + bytes 2 all + bytes 1 before;
}

-- the places of leaves by what is counted
abbrev pub placed : NextPlaces → List ℕ → List ℕ
placed p [] = []
placed p (n ∷ ns) = next_place p n ∷ placed (after p n) ns

place_is : (all before : List ℕ) (n : ℕ) → AreLeafSizes all → IsLeafSize n
    → bytes_where (λ m. nat_lt n m) all + bytes_where (λ m. m == n) before ≡ next_place (counted all before) n
place_is all before n leaves leaf =
    by_size (λ k. bytes_where (λ m. nat_lt k m) all + bytes_where (λ m. m == k) before ≡ next_place (counted all before) k) n leaf
    (omega (arith, larger_than_one all leaves)) (omega (arith, larger_than_two all leaves)) (omega (arith, larger_than_four all leaves))

-- the places behind one leaf more, of which all leaves have as many
abbrev NextIs : List ℕ → List ℕ → ℕ → Type 0
NextIs all before n =
    bytes 4 (before ++ n ∷ []) ≤ bytes 4 all → bytes 2 (before ++ n ∷ []) ≤ bytes 2 all → bytes 1 (before ++ n ∷ []) ≤ bytes 1 all
    → after (counted all before) n ≡ counted all (before ++ n ∷ [])

next_one : (all before : List ℕ) → total all ≤ 2 ^ 64 - 1 → NextIs all before 1
next_one all before small four two one =
    let fours : bytes 4 before ≡ bytes 4 (before ++ 1 ∷ []) = omega (arith, bytes_push 4 before (1 ∷ [])) in
    let twos : bytes 4 all + bytes 2 before ≡ bytes 4 all + bytes 2 (before ++ 1 ∷ []) = omega (arith, bytes_push 2 before (1 ∷ [])) in
    let ones : held (bytes 4 all + bytes 2 all + bytes 1 before + 1) ≡ bytes 4 all + bytes 2 all + bytes 1 (before ++ 1 ∷ []) =
    omega (arith, bytes_push 1 before (1 ∷ [])) in
    λ i. record { fours = fours i; twos = twos i; ones = ones i }

next_two : (all before : List ℕ) → total all ≤ 2 ^ 64 - 1 → NextIs all before 2
next_two all before small four two one =
    let fours : bytes 4 before ≡ bytes 4 (before ++ 2 ∷ []) = omega (arith, bytes_push 4 before (2 ∷ [])) in
    let twos : held (bytes 4 all + bytes 2 before + 2) ≡ bytes 4 all + bytes 2 (before ++ 2 ∷ []) = omega (arith, bytes_push 2 before (2 ∷ [])) in
    let ones : bytes 4 all + bytes 2 all + bytes 1 before ≡ bytes 4 all + bytes 2 all + bytes 1 (before ++ 2 ∷ []) =
    omega (arith, bytes_push 1 before (2 ∷ [])) in
    λ i. record { fours = fours i; twos = twos i; ones = ones i }

next_four : (all before : List ℕ) → total all ≤ 2 ^ 64 - 1 → NextIs all before 4
next_four all before small four two one =
    let fours : held (bytes 4 before + 4) ≡ bytes 4 (before ++ 4 ∷ []) = omega (arith, bytes_push 4 before (4 ∷ [])) in
    let twos : bytes 4 all + bytes 2 before ≡ bytes 4 all + bytes 2 (before ++ 4 ∷ []) = omega (arith, bytes_push 2 before (4 ∷ [])) in
    let ones : bytes 4 all + bytes 2 all + bytes 1 before ≡ bytes 4 all + bytes 2 all + bytes 1 (before ++ 4 ∷ []) =
    omega (arith, bytes_push 1 before (4 ∷ [])) in
    λ i. record { fours = fours i; twos = twos i; ones = ones i }

after_is : (all before : List ℕ) (n : ℕ) → IsLeafSize n → total all ≤ 2 ^ 64 - 1 → NextIs all before n
after_is all before n leaf small =
    by_size (NextIs all before) n leaf (next_one all before small) (next_two all before small) (next_four all before small)

places_from : (all before ns : List ℕ) → all ≡ before ++ ns → AreLeafSizes all → AreLeafSizes ns → total all ≤ 2 ^ 64 - 1
    → places_after all before ns ≡ placed (counted all before) ns
places_from all before [] whole leaves rest small = refl
places_from all before (n ∷ ns) whole leaves rest small =
    let split : all ≡ (before ++ n ∷ []) ++ ns = whole ∙ sym (append_assoc before (n ∷ []) ns) in
    let four : bytes 4 (before ++ n ∷ []) ≤ bytes 4 all = within 4 split in
    let two : bytes 2 (before ++ n ∷ []) ≤ bytes 2 all = within 2 split in
    let one : bytes 1 (before ++ n ∷ []) ≤ bytes 1 all = within 1 split in
    let next = after_is all before n rest.0 small four two one in
    ap₂ (λ k l. k ∷ l) (place_is all before n leaves rest.0)
    (places_from all (before ++ n ∷ []) ns split leaves rest.1 small ∙ ap (λ p. placed p ns) (sym next))
  where
    within : (k : ℕ) → all ≡ (before ++ n ∷ []) ++ ns → bytes k (before ++ n ∷ []) ≤ bytes k all
    within k split = omega (arith, ap (bytes k) split, bytes_push k (before ++ n ∷ []) ns)

first_is : (s : Shape) → total (leaf_sizes s) ≤ 2 ^ 64 - 1 → first_places (measure_of s) ≡ counted (leaf_sizes s) []
first_is s small =
    let twos : held (bytes_of_size 4 s) ≡ bytes 4 (leaf_sizes s) + 0 = omega arith in
    let ones : held (held (bytes_of_size 4 s) + held (bytes_of_size 2 s)) ≡ bytes 4 (leaf_sizes s) + bytes 2 (leaf_sizes s) + 0 = omega arith in
    λ i. record { fours = 0; twos = twos i; ones = ones i }

-- the places of a shape's leaves
places_of : (s : Shape) → size s ≤ 49152 → places (leaf_sizes s) ≡ placed (first_places (measure_of s)) (leaf_sizes s)
places_of s few =
    let sizes : List ℕ = leaf_sizes s in
    let small : total sizes ≤ 2 ^ 64 - 1 = omega (arith, total_small s) in
    places_from sizes [] sizes refl (leaves_of s) (leaves_of s) small ∙ ap (λ p. placed p sizes) (sym (first_is s small))

-- ---- entries

drop_placed : (p : NextPlaces) (xs ys : List ℕ) → drop (length xs) (placed p (xs ++ ys)) ≡ placed (after_all p xs) ys
drop_placed p [] ys = refl
drop_placed p (x ∷ xs) ys = drop_placed (after p x) xs ys

mutual
  entries_placed : (s : Shape) (p : NextPlaces) (more : List ℕ) → size s ≤ 49152 → entries_of s (placed p (leaf_sizes s ++ more)) ≡ entries_at s p
  entries_placed Void p more few = refl
  entries_placed (Number k) p more few = refl
  entries_placed (Array stride s) p more few =
      let less : size s ≤ 49152 = omega arith in
      ap (λ l. entry 7 (next_place p 2) ∷ l)
      (ap (entries_of s) (places_of s less ∙ ap (placed (first_places (measure_of s))) (sym (append-nil (leaf_sizes s))))
      ∙ entries_placed s (first_places (measure_of s)) [] less)
  entries_placed (Cluster ss) p more few = ap (λ l. entry 8 (count ss) ∷ l) (all_placed ss p more (omega arith))
  entries_placed Mutex p more few = refl

  all_placed : (ss : Members) (p : NextPlaces) (more : List ℕ) → sizes ss ≤ 49152 → all_entries ss (placed p (leaves_sizes ss ++ more)) ≡ entries_among ss p
  all_placed no_members p more few = refl
  all_placed (member s ss) p more few =
      let one : List ℕ = leaf_sizes s in
      let rest : List ℕ = leaves_sizes ss ++ more in
      ap (λ l. entries_of s (placed p l) ++ all_entries ss (drop (length one) (placed p l))) (append_assoc one (leaves_sizes ss) more)
      ∙ ap₂ (λ k l. k ++ l) (entries_placed s p rest (omega arith))
      (ap (all_entries ss) (drop_placed p one rest) ∙ all_placed ss (after_all p one) more (omega arith))

-- the table of variables of these shapes
pub table_entries : (ss : Members) → sizes ss ≤ 49151 → all_entries ss (places (leaves_sizes ss)) ≡ entries_among ss (first_places (measure_of (Cluster ss)))
table_entries ss few =
    ap (all_entries ss) (places_of (Cluster ss) (omega arith) ∙ ap (placed (first_places (measure_of (Cluster ss)))) (sym (append-nil (leaves_sizes ss))))
    ∙ all_placed ss (first_places (measure_of (Cluster ss))) [] (omega arith)
