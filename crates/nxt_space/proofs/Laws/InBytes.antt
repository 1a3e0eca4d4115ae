-- Numbers that stand in bytes one behind another.
use Rattle.std.proofs.Common.{◌≡◌, ◌≢◌, ◌⊎◌, inl, inr, set, ℕ, ◌+◌, ◌*◌, ◌/◌, ◌%◌, ◌<◌, ◌≤◌, List, [], ◌∷◌, get_or, pos, map, take, drop, length, sum_by, refl, sym, ap, ap₂, ◌∙◌, arith, add-zero, length-set}
use Rattle.std.specs.Prelude.{ℤ, slice_get}
use Rattle.std.proofs.lemmas.List.{get_or-set_same, get_or-set_other, get_or-map, length-map, ext_get_or}
use Rattle.std.specs.Int.{from_le_bytes}
use Rattle.nxt_facts.specs.Places.{places_from}
use Rattle.nxt_facts.proofs.Places.{length-places}
use Rattle.nxt_types.specs.Arithmetic.{leaf_size, width_of, cut}
use Rattle.std.proofs.lemmas.Bool.{cases_eq, cases_order}
use Rattle.nxt_types.proofs.Laws.Kinds.{cut-extend}
use Rattle.nxt_types.specs.Pool.{round4}
use Rattle.nxt_types.specs.Shapes.{Number, Array}
use Rattle.nxt_types.specs.declared.kind.Kind.{Kind}
use Rattle.nxt_types.specs.declared.kind.Kind.TheVariants.{Ubyte, Sbyte, Uword, Sword, Ulong, Slong}
use Rattle.nxt_types.specs.declared.shape.TocEntry.{TocEntry}
use Rattle.nxt_model.specs.Footprint.{list_bytes}
use Rattle.nxt_model.specs.Means.Text.{number_in}
use Rattle.nxt_model.specs.Reading.{desc_of}
use Rattle.nxt_model.specs.Values.{Value, Num, list_of, elements, stored, values, lists_in, lists_among}
use Rattle.nxt_model.proofs.Laws.Values.{items-values}
use Rattle.nxt_values.specs.Held.{element_starts}
use Rattle.nxt_values.specs.Writes.{put, bytes_of_number}
use Rattle.nxt_values.proofs.Laws.Numbers.{number_put, number_beside, length_put}
use Rattle.nxt_values.specs.Sizes.{size_in}
use Rattle.nxt_values.proofs.Laws.Elements.{nth_place}
use Rattle.nxt_values.proofs.Laws.RowKept.{numbers_there}
use Rattle.nxt_space.specs.Spots.{numbers_in_bytes}
use Rattle.nxt_space.specs.Variables.{list_of_bytes}
use Rattle.nxt_space.proofs.Parts.ByteLists.{bytes_read}

pub whole_numbers : (k : Kind) (n : ℕ) → n % leaf_size k ≡ 0 → n ≡ n / leaf_size k * leaf_size k
whole_numbers Ubyte n e = omega (arith, e)
whole_numbers Sbyte n e = omega (arith, e)
whole_numbers Uword n e = omega (arith, e)
whole_numbers Sword n e = omega (arith, e)
whole_numbers Ulong n e = omega (arith, e)
whole_numbers Slong n e = omega (arith, e)

nothing_more : (k : Kind) (bytes : List ℕ) (places : List ℕ) → map (λ at. Num (number_in k (drop (at + 0) bytes))) places ≡ map (λ at. Num (number_in k (drop at bytes))) places
nothing_more k bytes [] = refl
nothing_more k bytes (p ∷ ps) = ap₂ (λ at rest. Num (number_in k (drop at bytes)) ∷ rest) (add-zero p) (nothing_more k bytes ps)

-- elements that begin with their number
pub tight : (table : List TocEntry) (k : Kind) (i stride : ℕ) (bytes : List ℕ) → desc_of (slice_get table (i + 1)) ≡ 0 → stride ≡ leaf_size k → numbers_there table k i stride bytes ≡ numbers_in_bytes k bytes
tight table k i stride bytes first same =
    ap₂ (λ d n. list_of (map (λ at. Num (number_in k (drop (at + d) bytes))) (element_starts n bytes))) first same
    ∙ ap list_of (nothing_more k bytes (element_starts (leaf_size k) bytes))

no_lists : (f : ℕ → ℤ) (places : List ℕ) → lists_among (values (map (λ at. Num (f at)) places)) ≡ 0
no_lists f [] = refl
no_lists f (p ∷ ps) = let more = no_lists f ps in omega (arith, more)

pub nothing : (f : ℕ → Value) (k : Kind) (places : List ℕ) → sum_by (list_bytes (Number k)) (map f places) ≡ 0
nothing f k [] = refl
nothing f k (p ∷ ps) = let more = nothing f k ps in omega (arith, more)

-- one list, and its bytes
pub numbers_take : (k : Kind) (bytes : List ℕ) → length bytes % leaf_size k ≡ 0 → size_in (Array (leaf_size k) (Number k)) (numbers_in_bytes k bytes) ≡ record { lists = 1; bytes = round4 (length bytes) }
numbers_take k bytes whole =
    let starts = element_starts (leaf_size k) bytes in
    let f : ℕ → Value = λ at. Num (number_in k (drop at bytes)) in
    let lists : lists_in (numbers_in_bytes k bytes) ≡ 1 = ap (λ n. n + 1) (no_lists (λ at. number_in k (drop at bytes)) starts) in
    let many : length (elements (numbers_in_bytes k bytes)) ≡ length bytes / leaf_size k =
    ap length (items-values (map f starts)) ∙ length-map starts f ∙ length-places 0 (leaf_size k) (length bytes / leaf_size k) in
    let sum : sum_by (list_bytes (Number k)) (elements (numbers_in_bytes k bytes)) ≡ 0 =
    ap (sum_by (list_bytes (Number k))) (items-values (map f starts)) ∙ nothing f k starts in
    let all : round4 (length (elements (numbers_in_bytes k bytes)) * leaf_size k) ≡ round4 (length bytes) =
    ap round4 (ap (λ n. n * leaf_size k) many ∙ sym (whole_numbers k (length bytes) whole)) in
    let total : list_bytes (Array (leaf_size k) (Number k)) (numbers_in_bytes k bytes) ≡ round4 (length bytes) = omega (arith, all, sum) in
    ap₂ (λ l b. record { lists = l; bytes = b }) lists total

pub numbers_counted : (k : Kind) (bytes : List ℕ) → length bytes / leaf_size k ≡ length (elements (numbers_in_bytes k bytes))
numbers_counted k bytes =
    let f : ℕ → Value = λ at. Num (number_in k (drop at bytes)) in
    let starts = element_starts (leaf_size k) bytes in
    sym (ap length (items-values (map f starts)) ∙ length-map starts f ∙ length-places 0 (leaf_size k) (length bytes / leaf_size k))

-- bytes by themselves
pub single_bytes : (k : Kind) (bytes : List ℕ) → k ≡ Ubyte → length bytes % leaf_size k ≡ 0
single_bytes k bytes is = let one : length bytes % 1 ≡ 0 = omega arith in ap (λ j. length bytes % leaf_size j) is ∙ one

pub text_numbers : (k : Kind) (bytes : List ℕ) → k ≡ Ubyte → numbers_in_bytes k bytes ≡ list_of_bytes bytes
text_numbers k bytes is =
    let all : length bytes / 1 ≡ length bytes = omega arith in
    ap (λ j. numbers_in_bytes j bytes) is
    ∙ ap
    list_of
    (ap (map (λ at. Num (number_in Ubyte (drop at bytes)))) (ap (places_from 0 1) all)
    ∙ sym (nothing_more Ubyte bytes (places_from 0 1 (length bytes)))
    ∙ bytes_read bytes (length bytes) 0 (omega arith))

abbrev pub element_at : Kind → List ℕ → ℕ → Value
element_at k bytes at = Num (number_in k (drop at bytes))

-- the j-th number stands behind j others
pub numbers_nth : (k : Kind) (bytes : List ℕ) (j : ℕ) → j < length bytes / leaf_size k → get_or (elements (numbers_in_bytes k bytes)) j (Num (pos 0)) ≡ element_at k bytes (j * leaf_size k)
numbers_nth k bytes j less =
    let starts = element_starts (leaf_size k) bytes in
    ap (λ vs. get_or vs j (Num (pos 0))) (items-values (map (element_at k bytes) starts))
    ∙ get_or-map (element_at k bytes) starts j 0 (Num (pos 0)) (omega (arith, less, length-places 0 (leaf_size k) (length bytes / leaf_size k)))
    ∙ ap (element_at k bytes) (nth_place 0 (leaf_size k) (length bytes / leaf_size k) j less ∙ omega arith)

-- and ends among the bytes
pub number_fits : (k : Kind) (j n : ℕ) → j < n / leaf_size k → j * leaf_size k + leaf_size k ≤ n
number_fits Ubyte j n less = omega (arith, less)
number_fits Sbyte j n less = omega (arith, less)
number_fits Uword j n less = omega (arith, less)
number_fits Sword j n less = omega (arith, less)
number_fits Ulong j n less = omega (arith, less)
number_fits Slong j n less = omega (arith, less)

-- two of them share no byte
apart_numbers : (k : Kind) (m j : ℕ) → m ≢ j → (j * leaf_size k + leaf_size k ≤ m * leaf_size k) ⊎ (m * leaf_size k + leaf_size k ≤ j * leaf_size k)
apart_numbers k m j other =
    elim (cases_order m j) [
      | inl same ↦ absurd (other same)
      | inr differ ↦ elim differ [
        | inl less ↦ inr (next_number k m j less)
        | inr less ↦ inl (next_number k j m less)
      ]
    ]
  where
    next_number : (k : Kind) (a b : ℕ) → a < b → a * leaf_size k + leaf_size k ≤ b * leaf_size k
    next_number Ubyte a b less = omega (arith, less)
    next_number Sbyte a b less = omega (arith, less)
    next_number Uword a b less = omega (arith, less)
    next_number Sword a b less = omega (arith, less)
    next_number Ulong a b less = omega (arith, less)
    next_number Slong a b less = omega (arith, less)

-- with another one there
pub numbers_put : (k : Kind) (bytes : List ℕ) (j : ℕ) (x : ℤ) → j < length bytes / leaf_size k → numbers_in_bytes k (put (bytes_of_number k x) (j * leaf_size k) bytes) ≡ list_of (set (elements (numbers_in_bytes k bytes)) j (Num (cut k x)))
numbers_put k bytes j x less =
    let at = j * leaf_size k in
    let bs = bytes_of_number k x in
    let next = put bs at bytes in
    let long : length next ≡ length bytes = length_put bs at bytes in
    let same : length next / leaf_size k ≡ length bytes / leaf_size k = ap (λ n. n / leaf_size k) long in
    let ys = elements (numbers_in_bytes k bytes) in
    let xs = elements (numbers_in_bytes k next) in
    let v = Num (cut k x) in
    let many : length ys ≡ length bytes / leaf_size k = sym (numbers_counted k bytes) in
    let size : length xs ≡ length (set ys j v) = sym (numbers_counted k next) ∙ same ∙ sym many ∙ sym (length-set ys j v) in
    let each : (m : ℕ) → m < length xs → get_or xs m (Num (pos 0)) ≡ get_or (set ys j v) m (Num (pos 0)) = λ m inside.
    let within : m < length bytes / leaf_size k = omega (arith, inside, size, length-set ys j v, many) in
    let here = numbers_nth k next m (omega (arith, within, same)) in
    elim (cases_eq m j) [
      | inl e ↦
          here
          ∙ ap (λ n. element_at k next (n * leaf_size k)) e
          ∙ ap Num (number_put k x at bytes (number_fits k j (length bytes) less))
          ∙ sym (ap (λ n. get_or (set ys j v) n (Num (pos 0))) e ∙ get_or-set_same ys j v (Num (pos 0)) (omega (arith, less, many)))
      | inr other ↦
          here
          ∙ ap Num (number_beside k x at (m * leaf_size k) bytes (apart_numbers k m j other))
          ∙ sym (numbers_nth k bytes m within)
          ∙ sym (get_or-set_other ys j m v (Num (pos 0)) other)
    ] in
    ap list_of (sym (items-values (map (element_at k next) (element_starts (leaf_size k) next))) ∙ ext_get_or (Num (pos 0)) xs (set ys j v) size each)

-- they are a list's elements
pub numbers_listed : (k : Kind) (bytes : List ℕ) → numbers_in_bytes k bytes ≡ list_of (elements (numbers_in_bytes k bytes))
numbers_listed k bytes = ap list_of (sym (items-values (map (element_at k bytes) (element_starts (leaf_size k) bytes))))

-- ---- single numbers

-- the bytes of one number
pub number_bytes : (k : Kind) (x : ℤ) → length (bytes_of_number k x) ≡ leaf_size k
number_bytes Ubyte x = refl
number_bytes Sbyte x = refl
number_bytes Uword x = refl
number_bytes Sword x = refl
number_bytes Ulong x = refl
number_bytes Slong x = refl

pub one_number : (k : Kind) (x : ℤ) → numbers_in_bytes k (bytes_of_number k x) ≡ list_of (Num (cut k x) ∷ [])
one_number Ubyte x = ap (λ z. list_of (Num z ∷ [])) (number_put Ubyte x 0 (bytes_of_number Ubyte x) (omega arith))
one_number Sbyte x = ap (λ z. list_of (Num z ∷ [])) (number_put Sbyte x 0 (bytes_of_number Sbyte x) (omega arith))
one_number Uword x = ap (λ z. list_of (Num z ∷ [])) (number_put Uword x 0 (bytes_of_number Uword x) (omega arith))
one_number Sword x = ap (λ z. list_of (Num z ∷ [])) (number_put Sword x 0 (bytes_of_number Sword x) (omega arith))
one_number Ulong x = ap (λ z. list_of (Num z ∷ [])) (number_put Ulong x 0 (bytes_of_number Ulong x) (omega arith))
one_number Slong x = ap (λ z. list_of (Num z ∷ [])) (number_put Slong x 0 (bytes_of_number Slong x) (omega arith))

-- numbers of a kind are stored as they are
all_stored : (k : Kind) (bytes places : List ℕ) → map (stored (Number k)) (map (element_at k bytes) places) ≡ map (element_at k bytes) places
all_stored k bytes [] = refl
all_stored k bytes (p ∷ ps) =
    ap₂ (λ z rest. Num z ∷ rest) (cut-extend k (from_le_bytes (width_of k) (take (leaf_size k) (drop p bytes)))) (all_stored k bytes ps)

pub numbers_stored : (k : Kind) (bytes : List ℕ) → map (stored (Number k)) (elements (numbers_in_bytes k bytes)) ≡ elements (numbers_in_bytes k bytes)
numbers_stored k bytes =
    let starts = element_starts (leaf_size k) bytes in
    let same = items-values (map (element_at k bytes) starts) in
    ap (map (stored (Number k))) same ∙ all_stored k bytes starts ∙ sym same
