-- What is written reads as the values that were written.
use Rattle.std.proofs.Common.{◌≡◌, ℕ, zero, suc, ◌+◌, ◌%◌, ◌^◌, ◌<◌, ◌≤◌, ◌==◌, false, cond, ℤ, pos, negsuc, List, [], ◌∷◌, ◌++◌, drop, filter, flat_map, length, slice_index, Some, refl, sym, ap, ap₂, subst, ◌∙◌, append_assoc, arith, length-append}
use Rattle.std.specs.Int.{w8, w16, w32, cast_signed, from_le_bytes, to_le_bytes}
use Rattle.std.specs.Prelude.{⊤, slice_get, if◌then◌else◌}
use Rattle.std.proofs.lemmas.Bool.Decides.{nat_tests}
use Rattle.std.proofs.lemmas.List.Elements.{filter-append}
use Rattle.std.proofs.lemmas.Nat.{from_le_bytes-to_le_bytes_4}
use Rattle.nxt_types.specs.Arithmetic.{cut, extend, leaf_size, width_of, word}
use Rattle.nxt_types.specs.Bytes.{u16_at}
use Rattle.nxt_types.specs.Shapes.{Shape, Void, Number, Array, Cluster, Mutex, Members, no_members, member, count, leaf_bytes}
use Rattle.nxt_types.specs.Names.{size}
use Rattle.nxt_types.specs.declared.kind.Kind.{Kind}
use Rattle.nxt_types.specs.declared.kind.Kind.TheVariants.{Ubyte, Sbyte, Uword, Sword, Ulong, Slong}
use Rattle.nxt_types.specs.declared.shape.TocEntry.{TocEntry}
use Rattle.nxt_model.specs.Assembled.{all_entries, entries_of, entry, leaf_sizes, leaves_sizes, places}
use Rattle.nxt_model.specs.Means.Text.{number_in}
use Rattle.nxt_model.specs.Spans as spans
use Rattle.nxt_model.specs.Values.{Value, Num, elements, list_of, number}
use Rattle.nxt_model.specs.Reading.{EachReads, HeldList, Memory, MembersRead, Reads, RowReads, desc_of, dope_row, held, leaf_place, row_count}
use Rattle.nxt_asm_parts.specs.AssembledParts.{Valued, element_of, is_array, leaves_in, leaves_among, number_bytes, place_of}
use Rattle.nxt_asm_parts.specs.Defaults.{array_count}
use Rattle.nxt_asm_parts.specs.Lists.{lists_bytes}
use Rattle.nxt_asm_rules.proofs.Laws.Counts.{entries_length}
use Rattle.nxt_asm_rules.proofs.Laws.StartValues.{length-number}
use Rattle.nxt_facts.proofs.Each.{Each, each_apart}
use Rattle.nxt_asm_laws_layout.proofs.Spots.{spots, spots-append}
use Rattle.nxt_asm_laws_layout.proofs.Laws.Parts.{IsPart, AreParts, IsVariable, AreVariables}
use Rattle.nxt_asm_laws_layout.proofs.Held.{AreHeld, AreItems, IsHeld, IsNumber}
use Rattle.nxt_asm_laws_layout.proofs.Writes.{window, window_there}
use Rattle.nxt_asm_laws_layout.proofs.Written.{AllWritten, Written}
use Rattle.nxt_asm_laws_layout.proofs.RowsRead.{ArrayIs, ArraysAre, arrays_parts, window_read}

-- ---- numbers

word_small : (x : ℤ) → word x < 2 ^ 32
word_small (pos n) = omega arith
word_small (negsuc n) = omega arith

number_back : (k : Kind) (x : ℤ) → extend k (from_le_bytes (width_of k) (to_le_bytes (width_of k) (word x))) ≡ cut k x
number_back Ubyte x = let e : from_le_bytes w8 (to_le_bytes w8 (word x)) % 2 ^ 8 ≡ word x % 2 ^ 8 = omega arith in ap pos e
number_back Sbyte x = let e : from_le_bytes w8 (to_le_bytes w8 (word x)) % 2 ^ 8 ≡ word x % 2 ^ 8 = omega arith in ap (cast_signed w8) e
number_back Uword x = let e : from_le_bytes w16 (to_le_bytes w16 (word x)) % 2 ^ 16 ≡ word x % 2 ^ 16 = omega arith in ap pos e
number_back Sword x = let e : from_le_bytes w16 (to_le_bytes w16 (word x)) % 2 ^ 16 ≡ word x % 2 ^ 16 = omega arith in ap (cast_signed w16) e
number_back Ulong x = ap (λ n. pos (n % 2 ^ 32)) (from_le_bytes-to_le_bytes_4 (word x) (word_small x))
number_back Slong x = ap (λ n. cast_signed w32 (n % 2 ^ 32)) (from_le_bytes-to_le_bytes_4 (word x) (word_small x))

-- a number whose bytes stand at a place reads as the number
number_there : (bytes : List ℕ) (k : Kind) (v : Value) (at : ℕ) → IsNumber k v → window at (leaf_size k) bytes ≡ number_bytes (Number k) v → v ≡ Num (number_in k (drop at bytes))
number_there bytes k v at h e =
    h.0 ∙ ap Num (sym h.1 ∙ sym (number_back k (number v)) ∙ ap (λ l. extend k (from_le_bytes (width_of k) l)) (sym e))

-- ---- tables

got_there : (before : List TocEntry) (e : TocEntry) (behind : List TocEntry) → slice_get (before ++ (e ∷ behind)) (length before) ≡ Some e
got_there [] e behind = refl
got_there (x ∷ before) e behind = got_there before e behind

-- the entry that stands there
pub entry_there : (table before behind : List TocEntry) (i : ℕ) (e : TocEntry) → table ≡ before ++ (e ∷ behind) → length before ≡ i → slice_get table i ≡ Some e
entry_there table before behind i e whole long = ap₂ slice_get whole (sym long) ∙ got_there before e behind

-- ---- lists

-- the lists of arrays, whose rows are numbered from r on
abbrev pub held_from : ℕ → List Valued → List HeldList
held_from r [] = []
held_from r (a ∷ as') = held r (leaf_bytes (element_of a.0)) (length (elements a.1)) ∷ held_from (r + 1) as'

pub held-append : (r : ℕ) (xs ys : List Valued) → held_from r (xs ++ ys) ≡ held_from r xs ++ held_from (r + length xs) ys
held-append r [] ys = let same : r ≡ r + 0 = omega arith in ap (λ n. held_from n ys) same
held-append r (x ∷ xs) ys =
    let same : r + 1 + length xs ≡ r + length (x ∷ xs) = omega arith in
    ap (λ l. held r (leaf_bytes (element_of x.0)) (length (elements x.1)) ∷ l)
    (held-append (r + 1) xs ys ∙ ap (λ n. held_from (r + 1) xs ++ held_from n ys) same)

-- ---- what is read

-- numbers and mutexes, and packed arrays of anything
abbrev mutual
  pub IsRead : Shape → Type 0
  IsRead Void = ⊥
  IsRead (Number k) = ⊤
  IsRead (Array n s) = n ≡ leaf_bytes s
  IsRead (Cluster ss) = AreRead ss
  IsRead Mutex = ⊤

  pub AreRead : Members → Type 0
  AreRead no_members = ⊤
  AreRead (member s ss) = IsRead s × AreRead ss

mutual
  part_read : (s : Shape) → IsPart s → IsRead s
  part_read Void h = absurd h
  part_read (Number k) h = tt
  part_read (Array n s) h = h.0
  part_read (Cluster ss) h = members_read ss h.1
  part_read Mutex h = absurd h

  members_read : (ss : Members) → AreParts ss → AreRead ss
  members_read no_members h = tt
  members_read (member s ss) h = (part_read s h.0, members_read ss h.1)

variable_read : (s : Shape) → IsVariable s → IsRead s
variable_read Void h = absurd h.0
variable_read (Number k) h = tt
variable_read (Array n s) h = h.0.0
variable_read (Cluster ss) h = members_read ss h.0.1
variable_read Mutex h = tt

pub variables_read : (ss : Members) → AreVariables ss → AreRead ss
variables_read no_members h = tt
variables_read (member s ss) h = (variable_read s h.0, variables_read ss h.1)

module _ (m : Memory) where
  -- numbers one after another, where an element's number stands at its beginning
  items_read : (k : Kind) (i at : ℕ) (vs : List Value) (before behind : List ℕ) → ((base : ℕ) → leaf_place m i base ≡ base) → Each (IsNumber k) vs
      → m.bytes ≡ before ++ (flat_map (number_bytes (Number k)) vs ++ behind) → length before ≡ at → EachReads (Reads m i (Number k)) at (leaf_size k) vs []
  items_read k i at [] before behind first h whole long = refl
  items_read k i at (v ∷ vs) before behind first h whole long =
      let one = number_bytes (Number k) v in
      let rest = flat_map (number_bytes (Number k)) vs in
      let n : length one ≡ leaf_size k = length-number k v in
      let here : m.bytes ≡ before ++ (one ++ (rest ++ behind)) = whole ∙ ap (λ l. before ++ l) (append_assoc one rest behind) in
      let later : m.bytes ≡ (before ++ one) ++ (rest ++ behind) = here ∙ sym (append_assoc before one (rest ++ behind)) in
      let longer : length (before ++ one) ≡ at + leaf_size k = length-append before one ∙ ap₂ (λ (a b : ℕ). a + b) long n in
      let total : length m.bytes ≡ length (before ++ one) + length (rest ++ behind) = ap length later ∙ length-append (before ++ one) (rest ++ behind) in
      let there : window at (leaf_size k) m.bytes ≡ one = ap (λ c. window at c m.bytes) (sym n) ∙ window_there at m.bytes before one (rest ++ behind) here long in (
        [],
        [],
        refl,
        subst (λ q. (q + leaf_size k ≤ length m.bytes) × (v ≡ Num (number_in k (drop q m.bytes))) × ◌≡◌ {A = List HeldList} [] []) (sym (first at))
            (omega (arith, total, longer), number_there m.bytes k v at h.0 there, refl),
        items_read k i (at + leaf_size k) vs (before ++ one) behind first h.1 later longer,
      )

  -- what a list's row names, by its place and its stride
  list_read : (s : Shape) (i at : ℕ) (vs : List Value) (place stride : ℕ) (before behind : List ℕ) → ((k : Kind) → s ≡ Number k → (base : ℕ) → leaf_place m i base ≡ base) → AreItems s vs
      → m.bytes ≡ before ++ (flat_map (number_bytes s) vs ++ behind) → length before ≡ at → (0 < length vs → place ≡ at) → stride ≡ leaf_bytes s → EachReads (Reads m i s) place stride vs []
  list_read s i at [] place stride before behind first h whole long here strides = refl
  list_read (Number k) i at (v ∷ vs) place stride before behind first h whole long here strides =
      subst (λ q. EachReads (Reads m i (Number k)) q stride (v ∷ vs) []) (sym (here (omega arith)))
      (subst (λ n. EachReads (Reads m i (Number k)) at n (v ∷ vs) []) (sym strides) (items_read k i at (v ∷ vs) before behind (first k refl) h whole long))
  list_read Void i at (v ∷ vs) place stride before behind first h whole long here strides = cc
  list_read (Array n s) i at (v ∷ vs) place stride before behind first h whole long here strides = cc
  list_read (Cluster ss) i at (v ∷ vs) place stride before behind first h whole long here strides = cc
  list_read Mutex i at (v ∷ vs) place stride before behind first h whole long here strides = cc

  row_reads : (reads : ℕ → Value → List HeldList → Type 0) (stride row : ℕ) (vs : List Value) → 0 < row → row < row_count m → (dope_row m row).count ≡ length vs
      → EachReads reads (dope_row m row).place (dope_row m row).stride vs [] → RowReads m reads stride row vs (held row stride (length vs) ∷ [])
  row_reads reads stride zero vs some below count each = absurd (omega (arith, some))
  row_reads reads stride (suc r) vs some below count each = ([], refl, below, count, each)

  pub place_of_full : (at : ℕ) (n : Shape) (v : Value) → 0 < length (elements v) → place_of at (n, v) ≡ at
  place_of_full at n v some = by (length (elements v)) some
    where
      by : (c : ℕ) → 0 < c → (if c == 0 then 65535 else at) ≡ at
      by zero lt = absurd (omega (arith, lt))
      by (suc c) lt = let e : (suc c == 0) ≡ false = grind (arith, nat_tests) in ap (λ b. cond b 65535 at) e

  -- the place of an entry's leaf
  pub leaf_there : (before behind : List TocEntry) (i : ℕ) (e : TocEntry) (base : ℕ) → m.entries ≡ before ++ (e ∷ behind) → length before ≡ i → leaf_place m i base ≡ base + e.desc
  leaf_there before behind i e base whole long = ap (λ o. base + desc_of o) (entry_there m.entries before behind i e whole long)

  zero_place : (k : Kind) → slice_index (places (leaf_sizes (Number k))) 0 ≡ 0
  zero_place Ubyte = refl
  zero_place Sbyte = refl
  zero_place Uword = refl
  zero_place Sword = refl
  zero_place Ulong = refl
  zero_place Slong = refl

  -- an element that is a number stands at its beginning
  element_first : (s : Shape) (before behind : List TocEntry) (i : ℕ) → m.entries ≡ before ++ (entries_of s (places (leaf_sizes s)) ++ behind) → length before ≡ i
      → (k : Kind) → s ≡ Number k → (base : ℕ) → leaf_place m i base ≡ base
  element_first s before behind i whole long k same base =
      let there : m.entries ≡ before ++ (entries_of (Number k) (places (leaf_sizes (Number k))) ++ behind) = whole ∙ ap (λ q. before ++ (entries_of q (places (leaf_sizes q)) ++ behind)) same in
      let sum : base + 0 ≡ base = omega arith in
      leaf_there before behind i _ base there long ∙ ap (λ n. base + n) (zero_place k) ∙ sum

  array_read : (n : ℕ) (s : Shape) (q i : ℕ) (v : Value) (row at : ℕ) (before behind : List TocEntry)
      → m.entries ≡ before ++ (entry 7 q ∷ (entries_of s (places (leaf_sizes s)) ++ behind)) → length before ≡ i → n ≡ leaf_bytes s → IsHeld (Array n s) v
      → window q 2 m.bytes ≡ to_le_bytes w16 row → ArrayIs m.bytes m.table (row_count m) row at (Array n s, v) → q + 2 ≤ length m.bytes → row < 2 ^ 16
      → Reads m i (Array n s) 0 v (held row (leaf_bytes s) (length (elements v)) ∷ [])
  array_read n s q i v row at before behind whole long packed held' written a ends small =
      let place : leaf_place m i 0 ≡ q = leaf_there before (entries_of s (places (leaf_sizes s)) ++ behind) i (entry 7 q) 0 whole long ∙ zero_plus q in
      let inside : m.entries ≡ (before ++ entry 7 q ∷ []) ++ (entries_of s (places (leaf_sizes s)) ++ behind) = whole ∙ sym (append_assoc before (entry 7 q ∷ []) (entries_of s (places (leaf_sizes s)) ++ behind)) in
      let next : length (before ++ entry 7 q ∷ []) ≡ i + 1 = length-append before (entry 7 q ∷ []) ∙ ap (λ k. k + 1) long in
      let list = a.list in
      let each =
      list_read s (i + 1) at (elements v) (dope_row m row).place (dope_row m row).stride list.before list.behind (element_first s (before ++ entry 7 q ∷ []) behind (i + 1) inside next) held'.1
      list.whole list.long (λ some. a.row.place_is ∙ place_of_full at (Array n s) v some) a.row.stride_is in
      subst (λ k. (k + 2 ≤ length m.bytes) × (v ≡ list_of (elements v)) × RowReads m (Reads m (i + 1) s) n (u16_at m.bytes k) (elements v) (held row (leaf_bytes s) (length (elements v)) ∷ [])) (sym place) (
        ends,
        held'.0,
        subst (λ k. RowReads m (Reads m (i + 1) s) n k (elements v) (held row (leaf_bytes s) (length (elements v)) ∷ [])) (sym (window_read m.bytes q row written small))
            (subst (λ k. RowReads m (Reads m (i + 1) s) n row (elements v) (held row k (length (elements v)) ∷ [])) packed
            (row_reads (Reads m (i + 1) s) n row (elements v) a.some a.below a.row.count_is each)),
      )
    where
      zero_plus : (k : ℕ) → 0 + k ≡ k
      zero_plus k = omega arith

  mutual
    part_reads : (s : Shape) (ps : List ℕ) (i : ℕ) (v : Value) (row at : ℕ) (before behind : List TocEntry) → m.entries ≡ before ++ (entries_of s ps ++ behind) → length before ≡ i
        → IsRead s → IsHeld s v → Written m.bytes s ps v row → ArraysAre m.bytes m.table (row_count m) row at (filter is_array (leaves_in s v))
        → Each (λ p. spans.end_of p ≤ length m.bytes) (spots ps (leaf_sizes s)) → row + array_count (leaves_in s v) ≤ 65536
        → Reads m i s 0 v (held_from row (filter is_array (leaves_in s v)))
    part_reads Void ps i v row at before behind whole long part held' written arrays ends few = absurd part
    part_reads (Number k) ps i v row at before behind whole long part held' written arrays ends few =
        let place : leaf_place m i 0 ≡ slice_index ps 0 = leaf_there before behind i (entry _ (slice_index ps 0)) 0 whole long ∙ zero_plus (slice_index ps 0) in
        subst (λ q. (q + leaf_size k ≤ length m.bytes) × (v ≡ Num (number_in k (drop q m.bytes))) × ◌≡◌ {A = List HeldList} [] []) (sym place)
        (ends.0, number_there m.bytes k v (slice_index ps 0) held' written, refl)
      where
        zero_plus : (k : ℕ) → 0 + k ≡ k
        zero_plus k = omega arith
    part_reads (Array n s) ps i v row at before behind whole long part held' written arrays ends few =
        array_read n s (slice_index ps 0) i v row at before behind whole long part held' written arrays.0 ends.0 (omega (arith, few))
    part_reads (Cluster ss) ps i v row at before behind whole long part held' written arrays ends few =
        let own = entry 8 (count ss) in
        let inside : m.entries ≡ (before ++ own ∷ []) ++ (all_entries ss ps ++ behind) = whole ∙ sym (append_assoc before (own ∷ []) (all_entries ss ps ++ behind)) in
        let next : length (before ++ own ∷ []) ≡ i + 1 = length-append before (own ∷ []) ∙ ap (λ k. k + 1) long in
        (held'.0, parts_read ss ps (i + 1) (elements v) row at (before ++ own ∷ []) behind inside next part held'.1 written arrays ends few)
    part_reads Mutex ps i v row at before behind whole long part held' written arrays ends few = (held', refl)

    pub parts_read : (ss : Members) (ps : List ℕ) (i : ℕ) (vs : List Value) (row at : ℕ) (before behind : List TocEntry) → m.entries ≡ before ++ (all_entries ss ps ++ behind) → length before ≡ i
        → AreRead ss → AreHeld ss vs → AllWritten m.bytes ss ps vs row → ArraysAre m.bytes m.table (row_count m) row at (filter is_array (leaves_among ss vs))
        → Each (λ p. spans.end_of p ≤ length m.bytes) (spots ps (leaves_sizes ss)) → row + array_count (leaves_among ss vs) ≤ 65536
        → MembersRead m i ss 0 vs (held_from row (filter is_array (leaves_among ss vs)))
    parts_read no_members ps i vs row at before behind whole long part held' written arrays ends few = (held', refl)
    parts_read (member s ss) ps i [] row at before behind whole long part held' written arrays ends few = absurd held'
    parts_read (member s ss) ps i (v ∷ vs) row at before behind whole long part held' written arrays ends few =
        let x = filter is_array (leaves_in s v) in
        let y = filter is_array (leaves_among ss vs) in
        let rest = drop (length (leaf_sizes s)) ps in
        let es = entries_of s ps in
        let fs = all_entries ss rest in
        let joined : filter is_array (leaves_in s v ++ leaves_among ss vs) ≡ x ++ y = filter-append is_array (leaves_in s v) (leaves_among ss vs) in
        let here : m.entries ≡ before ++ (es ++ (fs ++ behind)) = whole ∙ ap (λ l. before ++ l) (append_assoc es fs behind) in
        let later : m.entries ≡ (before ++ es) ++ (fs ++ behind) = here ∙ sym (append_assoc before es (fs ++ behind)) in
        let longer : length (before ++ es) ≡ i + size s = length-append before es ∙ ap₂ (λ (a b : ℕ). a + b) long (entries_length s ps) in
        let both = arrays_parts m.bytes m.table (row_count m) row at x y (subst (ArraysAre m.bytes m.table (row_count m) row at) joined arrays) in
        let two = each_apart (λ p. spans.end_of p ≤ length m.bytes) (spots ps (leaf_sizes s)) (spots rest (leaves_sizes ss))
        (subst (Each (λ p. spans.end_of p ≤ length m.bytes)) (spots-append ps (leaf_sizes s) (leaves_sizes ss)) ends) in
        let count : array_count (leaves_in s v ++ leaves_among ss vs) ≡ length x + length y = ap length joined ∙ length-append x y in (
          held_from row x,
          held_from (row + length x) y,
          ap (held_from row) joined ∙ held-append row x y,
          part_reads s ps i v row at before (fs ++ behind) here long part.0 held'.0 written.0 both.0 two.0 (omega (arith, few, count)),
          parts_read ss rest (i + size s) vs (row + length x) (at + length (lists_bytes x)) (before ++ es) behind later longer part.1 held'.1 written.1 both.1 two.1 (omega (arith, few, count)),
        )
