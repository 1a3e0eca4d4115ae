-- The bytes of a list of numbers, cut and joined.
use Rattle.std.proofs.Common.{◌≡◌, ℕ, ◌+◌, ◌-◌, ◌*◌, ◌/◌, ◌%◌, ◌≤◌, min, List, [], ◌∷◌, ◌++◌, map, length, replicate, drop, length-take, length-drop, refl, sym, ap, ap₂, ◌∙◌, subst, arith, length-append, take, zero, suc, ◌⊎◌, inl, inr}
use Rattle.std.specs.Prelude.{pos, slice_range}
use Rattle.std.proofs.lemmas.List.{map-append, replicate_more, replicate-append-replicate, take_min}
use Rattle.nxt_types.specs.Arithmetic.{leaf_size, word}
use Rattle.nxt_types.specs.Shapes.{Number}
use Rattle.nxt_types.specs.declared.kind.Kind.{Kind}
use Rattle.nxt_types.specs.declared.kind.Kind.TheVariants.{Ubyte, Sbyte, Uword, Sword, Ulong, Slong}
use Rattle.nxt_model.specs.Means.Arrays.{overwritten}
use Rattle.nxt_model.specs.Values.{Value, Num, elements, number, stored}
use Rattle.nxt_values.specs.Writes.{bytes_of_number}
use Rattle.nxt_space.specs.Spots.{numbers_in_bytes}
use Rattle.nxt_space.proofs.Laws.InBytes.{numbers_counted, numbers_stored, one_number, number_bytes}
use Rattle.nxt_space.proofs.Laws.JoinedBytes.{numbers_between, numbers_joined}
use Rattle.nxt_space.proofs.Laws.Words.{stored_word}
use Rattle.nxt_lists.specs.InBytes.{AreStored}
use Rattle.nxt_lists.proofs.Between.{overwritten_between}

-- ---- cut

whole_between : (k : Kind) (from to : ℕ) → (to * leaf_size k - from * leaf_size k) % leaf_size k ≡ 0
whole_between Ubyte from to = omega arith
whole_between Sbyte from to = omega arith
whole_between Uword from to = omega arith
whole_between Sword from to = omega arith
whole_between Ulong from to = omega arith
whole_between Slong from to = omega arith

-- numbers end within their bytes
pub numbers_within : (k : Kind) (n long : ℕ) → n ≤ long / leaf_size k → n * leaf_size k ≤ long
numbers_within Ubyte n long few = omega (arith, few)
numbers_within Sbyte n long few = omega (arith, few)
numbers_within Uword n long few = omega (arith, few)
numbers_within Sword n long few = omega (arith, few)
numbers_within Ulong n long few = omega (arith, few)
numbers_within Slong n long few = omega (arith, few)

pub numbers_ordered : (k : Kind) (from to : ℕ) → from ≤ to → from * leaf_size k ≤ to * leaf_size k
numbers_ordered Ubyte from to less = omega (arith, less)
numbers_ordered Sbyte from to less = omega (arith, less)
numbers_ordered Uword from to less = omega (arith, less)
numbers_ordered Sword from to less = omega (arith, less)
numbers_ordered Ulong from to less = omega (arith, less)
numbers_ordered Slong from to less = omega (arith, less)

pub section_stored : (k : Kind) (bytes : List ℕ) (v : Value) (from to : ℕ) → length bytes % leaf_size k ≡ 0 → v ≡ numbers_in_bytes k bytes → from ≤ to → to ≤ length (elements v) → AreStored k (slice_range bytes (from * leaf_size k) (to * leaf_size k)) (slice_range (elements v) from to)
section_stored k bytes v from to whole is ordered few =
    let size = leaf_size k in
    let part = slice_range bytes (from * size) (to * size) in
    let within : to ≤ length (elements (numbers_in_bytes k bytes)) = subst (λ u. to ≤ length (elements u)) is few in
    let reached : to * size ≤ length bytes = numbers_within k to (length bytes) (omega (arith, within, numbers_counted k bytes)) in
    let long : length part ≡ to * size - from * size =
    omega (arith, reached, numbers_ordered k from to ordered, length-take (to * size - from * size) (drop (from * size) bytes), length-drop (from * size) bytes)
    in
    record {
      whole = ap (λ n. n % size) long ∙ whole_between k from to;
      are = sym (numbers_stored k part)
          ∙ ap (map (stored (Number k))) (numbers_between k bytes from to ordered within ∙ ap (λ u. slice_range (elements u) from to) (sym is));
    }

-- the place behind a number is among the bytes
pub section_fits : (k : Kind) (bytes : List ℕ) (v : Value) (size n : ℕ) → v ≡ numbers_in_bytes k bytes → size ≡ leaf_size k → n ≤ length (elements v) → n * size ≤ length bytes
section_fits k bytes v size n is same few =
    let within : n ≤ length bytes / leaf_size k =
    let all = ap (λ u. length (elements u)) is in omega (arith, few, all, numbers_counted k bytes)
    in
    subst (λ m. n * m ≤ length bytes) (sym same) (numbers_within k n (length bytes) within)

-- ---- joined

pub nothing_stored : (k : Kind) → AreStored k [] []
nothing_stored Ubyte = record { whole = refl; are = refl }
nothing_stored Sbyte = record { whole = refl; are = refl }
nothing_stored Uword = record { whole = refl; are = refl }
nothing_stored Sword = record { whole = refl; are = refl }
nothing_stored Ulong = record { whole = refl; are = refl }
nothing_stored Slong = record { whole = refl; are = refl }

pub none_stored : (k : Kind) (bytes : List ℕ) → bytes ≡ [] → AreStored k bytes []
none_stored k bytes none = subst (λ bs. AreStored k bs []) (sym none) (nothing_stored k)

both_whole : (k : Kind) (n m : ℕ) → n % leaf_size k ≡ 0 → m % leaf_size k ≡ 0 → (n + m) % leaf_size k ≡ 0
both_whole Ubyte n m a b = omega (arith, a, b)
both_whole Sbyte n m a b = omega (arith, a, b)
both_whole Uword n m a b = omega (arith, a, b)
both_whole Sword n m a b = omega (arith, a, b)
both_whole Ulong n m a b = omega (arith, a, b)
both_whole Slong n m a b = omega (arith, a, b)

pub more_stored : (k : Kind) (xs ys : List ℕ) (us vs : List Value) → AreStored k xs us → AreStored k ys vs → AreStored k (xs ++ ys) (us ++ vs)
more_stored k xs ys us vs a b =
    record {
      whole = ap (λ n. n % leaf_size k) (length-append xs ys) ∙ both_whole k (length xs) (length ys) a.whole b.whole;
      are = numbers_joined k xs ys a.whole ∙ ap₂ (λ p q. p ++ q) a.are b.are ∙ sym (map-append (stored (Number k)) us vs);
    }

-- the bytes of a number
whole_leaf : (k : Kind) → leaf_size k % leaf_size k ≡ 0
whole_leaf Ubyte = refl
whole_leaf Sbyte = refl
whole_leaf Uword = refl
whole_leaf Sword = refl
whole_leaf Ulong = refl
whole_leaf Slong = refl

pub one_stored : (k : Kind) (w : ℕ) (v : Value) → w ≡ word (number v) → AreStored k (bytes_of_number k (pos w)) (v ∷ [])
one_stored k w v is =
    record {
      whole = ap (λ n. n % leaf_size k) (number_bytes k (pos w)) ∙ whole_leaf k;
      are = ap elements (one_number k (pos w))
          ∙ ap (λ x. x ∷ []) (ap (λ n. stored (Number k) (Num (pos n))) is ∙ stored_word (Number k) (number v) refl);
    }

pub number_stored : (k j : Kind) (w : ℕ) (v : Value) (bytes : List ℕ) → j ≡ k → bytes ≡ bytes_of_number j (pos w) → w ≡ word (number v) → AreStored k bytes (v ∷ [])
number_stored k j w v bytes same are is =
    subst (λ bs. AreStored k bs (v ∷ [])) (sym (are ∙ ap (λ i. bytes_of_number i (pos w)) same)) (one_stored k w v is)

-- the bytes of a list's elements
pub all_stored : (k : Kind) (bytes : List ℕ) (v : Value) → length bytes % leaf_size k ≡ 0 → v ≡ numbers_in_bytes k bytes → AreStored k bytes (elements v)
all_stored k bytes v whole is =
    record { whole = whole; are = sym (numbers_stored k bytes) ∙ ap (λ u. map (stored (Number k)) (elements u)) (sym is) }

-- a list with another one's numbers in place of some of its own
pub overwritten_joined : (xs ys : List Value) (at long from others count : ℕ) → long ≡ length xs → from ≡ min at long → others ≡ length ys → count ≡ min others (long - from) → slice_range xs 0 from ++ slice_range ys 0 count ++ slice_range xs (from + count) long ≡ overwritten xs at ys
overwritten_joined xs ys at long from others count is first all counted =
    let few : count - 0 ≡ min (length xs - from) (length ys) = omega (arith, is, all, counted) in
    let middle : slice_range ys 0 count ≡ take (length xs - from) ys = ap (λ m. take m ys) few ∙ take_min (length xs - from) ys in
    let many : count ≡ length (take (length xs - from) ys) = omega (arith, is, all, counted, length-take (length xs - from) ys) in
    ap₂ (λ us n. slice_range xs 0 from ++ us ++ slice_range xs (from + count) n) middle is
    ∙ overwritten_between xs ys at from count (first ∙ ap (min at) is) many

-- one copy more
pub copy_stored : (k : Kind) (xs ys : List ℕ) (n w : ℕ) (v : Value) → w ≡ word (number v) → AreStored k xs (replicate n v) → ys ≡ xs ++ bytes_of_number k (pos w) → AreStored k ys (replicate (n + 1) v)
copy_stored k xs ys n w v is e more =
    subst
    (λ bytes. AreStored k bytes (replicate (n + 1) v))
    (sym more)
    (subst (AreStored k (xs ++ bytes_of_number k (pos w))) (replicate_more n v) (more_stored k xs (bytes_of_number k (pos w)) (replicate n v) (v ∷ []) e (one_stored k w v is)))

-- a number whose bytes are all alike
pub number_filled : (k : Kind) (w : ℕ) → (leaf_size k ≡ 1) ⊎ (w ≡ 0) → bytes_of_number k (pos w) ≡ replicate (leaf_size k) (w % 256)
number_filled Ubyte w alike = let same : w % 4294967296 % 256 ≡ w % 256 = omega arith in ap (λ b. b ∷ []) same
number_filled Sbyte w alike = let same : w % 4294967296 % 256 ≡ w % 256 = omega arith in ap (λ b. b ∷ []) same
number_filled Uword w (inl not_one) = absurd (omega (arith, not_one))
number_filled Uword w (inr none) = ap (λ n. bytes_of_number Uword (pos n)) none ∙ ap (λ n. replicate 2 (n % 256)) (sym none)
number_filled Sword w (inl not_one) = absurd (omega (arith, not_one))
number_filled Sword w (inr none) = ap (λ n. bytes_of_number Sword (pos n)) none ∙ ap (λ n. replicate 2 (n % 256)) (sym none)
number_filled Ulong w (inl not_one) = absurd (omega (arith, not_one))
number_filled Ulong w (inr none) = ap (λ n. bytes_of_number Ulong (pos n)) none ∙ ap (λ n. replicate 4 (n % 256)) (sym none)
number_filled Slong w (inl not_one) = absurd (omega (arith, not_one))
number_filled Slong w (inr none) = ap (λ n. bytes_of_number Slong (pos n)) none ∙ ap (λ n. replicate 4 (n % 256)) (sym none)

no_bytes : (k : Kind) → 0 * leaf_size k ≡ 0
no_bytes Ubyte = refl
no_bytes Sbyte = refl
no_bytes Uword = refl
no_bytes Sword = refl
no_bytes Ulong = refl
no_bytes Slong = refl

more_bytes : (k : Kind) (n : ℕ) → suc n * leaf_size k ≡ n * leaf_size k + leaf_size k
more_bytes Ubyte n = omega arith
more_bytes Sbyte n = omega arith
more_bytes Uword n = omega arith
more_bytes Sword n = omega arith
more_bytes Ulong n = omega arith
more_bytes Slong n = omega arith

pub copies_filled : (k : Kind) (w n : ℕ) (v : Value) → bytes_of_number k (pos w) ≡ replicate (leaf_size k) (w % 256) → w ≡ word (number v) → AreStored k (replicate (n * leaf_size k) (w % 256)) (replicate n v)
copies_filled k w zero v alike is = subst (λ m. AreStored k (replicate m (w % 256)) []) (sym (no_bytes k)) (nothing_stored k)
copies_filled k w (suc n) v alike is =
    let more : n + 1 ≡ suc n = omega arith in
    subst
    (λ m. AreStored k (replicate (suc n * leaf_size k) (w % 256)) (replicate m v))
    more
    (copy_stored k (replicate (n * leaf_size k) (w % 256)) (replicate (suc n * leaf_size k) (w % 256)) n w v is (copies_filled k w n v alike is)
    (ap (λ m. replicate m (w % 256)) (more_bytes k n)
    ∙ sym (replicate-append-replicate (n * leaf_size k) (leaf_size k) (w % 256))
    ∙ ap (λ bs. replicate (n * leaf_size k) (w % 256) ++ bs) (sym alike)))
