-- Tables whose numbers have 16 bits.
use Rattle.std.proofs.Common.{◌≡◌, ℕ, zero, suc, ◌+◌, ◌<◌, ◌≤◌, ◌^◌, All, List, [], ◌∷◌, ◌++◌, refl, sym, subst, inl, inr, arith}
use Rattle.nxt_types.specs.Arithmetic.{leaf_size}
use Rattle.nxt_types.specs.Shapes.{Shape, Void, Number, Array, Cluster, Mutex, Members, no_members, member, count, leaf_bytes, leaves_bytes}
use Rattle.nxt_types.specs.Names.{size, sizes}
use Rattle.nxt_types.specs.declared.kind.Kind.{Kind}
use Rattle.nxt_types.specs.declared.kind.Kind.TheVariants.{Ubyte, Sbyte, Uword, Sword, Ulong, Slong}
use Rattle.nxt_types.specs.declared.shape.TocEntry.{TocEntry}
use Rattle.nxt_model.specs.Assembled.{all_entries, leaf_sizes, leaves_sizes, places}
use Rattle.nxt_asm_parts.specs.Fitting.{IsNarrow, AreNarrow}
use Rattle.nxt_asm_parts.specs.Measures.{measure_of}
use Rattle.nxt_asm_parts.specs.Places.{EntriesFit, after, after_all, entries_among, entries_at, first_places, next_place}
use Rattle.nxt_asm_parts.specs.declared.table.NextPlaces.{NextPlaces}
use Rattle.nxt_asm_parts.proofs.LeafPlaces.{AreLeafSizes, IsLeafSize, by_size, bytes, bytes_push, leaves_of, number_size, table_entries, total, total_append}

-- ---- bytes

number_bytes : (k : Kind) → total (leaf_size k ∷ []) ≡ leaf_size k
number_bytes Ubyte = refl
number_bytes Sbyte = refl
number_bytes Uword = refl
number_bytes Sword = refl
number_bytes Ulong = refl
number_bytes Slong = refl

mutual
  pub total_is : (s : Shape) → total (leaf_sizes s) ≡ leaf_bytes s
  total_is Void = refl
  total_is (Number k) = number_bytes k
  total_is (Array stride s) = refl
  total_is (Cluster ss) = totals_are ss
  total_is Mutex = refl

  totals_are : (ss : Members) → total (leaves_sizes ss) ≡ leaves_bytes ss
  totals_are no_members = refl
  totals_are (member s ss) = omega (arith, total_append (leaf_sizes s) (leaves_sizes ss), total_is s, totals_are ss)

-- ---- room for leaves

-- leaves of these sizes end within 65535 bytes
abbrev HasRoom : NextPlaces → List ℕ → Type 0
HasRoom p ns = (p.fours + bytes 4 ns ≤ 65535) × (p.twos + bytes 2 ns ≤ 65535) × (p.ones + bytes 1 ns ≤ 65535)

front_room : (p : NextPlaces) (xs ys : List ℕ) → HasRoom p (xs ++ ys) → HasRoom p xs
front_room p xs ys room =
    (omega (arith, bytes_push 4 xs ys, room.0), omega (arith, bytes_push 2 xs ys, room.1), omega (arith, bytes_push 1 xs ys, room.2))

next_room : (p : NextPlaces) (n : ℕ) (ns : List ℕ) → IsLeafSize n → HasRoom p (n ∷ ns) → HasRoom (after p n) ns
next_room p n ns leaf =
    by_size (λ k. HasRoom p (k ∷ ns) → HasRoom (after p k) ns) n leaf
    (λ room. (room.0, room.1, omega (arith, bytes_push 1 (1 ∷ []) ns, room.2)))
    (λ room. (room.0, omega (arith, bytes_push 2 (2 ∷ []) ns, room.1), room.2))
    (λ room. (omega (arith, bytes_push 4 (4 ∷ []) ns, room.0), room.1, room.2))

room_behind : (p : NextPlaces) (xs ys : List ℕ) → AreLeafSizes xs → HasRoom p (xs ++ ys) → HasRoom (after_all p xs) ys
room_behind p [] ys leaves room = room
room_behind p (x ∷ xs) ys leaves room = room_behind (after p x) xs ys leaves.1 (next_room p x (xs ++ ys) leaves.0 room)

place_fits : (p : NextPlaces) (n : ℕ) → IsLeafSize n → HasRoom p (n ∷ []) → next_place p n < 2 ^ 16
place_fits p n leaf =
    by_size (λ k. HasRoom p (k ∷ []) → next_place p k < 2 ^ 16) n leaf
    (λ room. omega (arith, room.2)) (λ room. omega (arith, room.1)) (λ room. omega (arith, room.0))

first_room : (s : Shape) → leaf_bytes s ≤ 65535 → HasRoom (first_places (measure_of s)) (leaf_sizes s)
first_room s narrow = (omega (arith, total_is s), omega (arith, total_is s), omega (arith, total_is s))

-- ---- entries

fit_append : (xs ys : List TocEntry) → EntriesFit xs → EntriesFit ys → EntriesFit (xs ++ ys)
fit_append [] ys front back = back
fit_append (x ∷ xs) ys front back = (front.0, fit_append xs ys front.1 back)

all_fit : (es : List TocEntry) → EntriesFit es → All (λ e. e.desc < 2 ^ 16) es
all_fit [] fits k d under = absurd (omega arith)
all_fit (e ∷ es) fits zero d under = fits.0
all_fit (e ∷ es) fits (suc k) d under = all_fit es fits.1 k d (omega arith)

some_entry : (s : Shape) → 0 < size s
some_entry Void = omega arith
some_entry (Number k) = omega arith
some_entry (Array stride s) = omega arith
some_entry (Cluster ss) = omega arith
some_entry Mutex = omega arith

few_members : (ss : Members) → count ss ≤ sizes ss
few_members no_members = omega arith
few_members (member s ss) = omega (arith, some_entry s, few_members ss)

mutual
  entries_fit : (s : Shape) (p : NextPlaces) → size s ≤ 49152 → IsNarrow s → HasRoom p (leaf_sizes s) → EntriesFit (entries_at s p)
  entries_fit Void p few narrow room = (omega arith, tt)
  entries_fit (Number k) p few narrow room = (place_fits p (leaf_size k) (number_size k) room, tt)
  entries_fit (Array stride s) p few narrow room =
      (place_fits p 2 (inr (inl refl)) room, entries_fit s (first_places (measure_of s)) (omega arith) narrow.1 (first_room s narrow.0))
  entries_fit (Cluster ss) p few narrow room = (omega (arith, few_members ss, few), all_entries_fit ss p (omega arith) narrow room)
  entries_fit Mutex p few narrow room = (place_fits p 4 (inr (inr refl)) room, tt)

  all_entries_fit : (ss : Members) (p : NextPlaces) → sizes ss ≤ 49152 → AreNarrow ss → HasRoom p (leaves_sizes ss) → EntriesFit (entries_among ss p)
  all_entries_fit no_members p few narrow room = tt
  all_entries_fit (member s ss) p few narrow room =
      let one : List ℕ = leaf_sizes s in
      let rest : List ℕ = leaves_sizes ss in
      fit_append (entries_at s p) (entries_among ss (after_all p one))
      (entries_fit s p (omega arith) narrow.0 (front_room p one rest room))
      (all_entries_fit ss (after_all p one) (omega arith) narrow.1 (room_behind p one rest (leaves_of s) room))

-- variables and elements of at most 65535 bytes have a table whose numbers have 16 bits
pub table_fits : (ss : Members) → sizes ss ≤ 49151 → leaves_bytes ss ≤ 65535 → AreNarrow ss
    → All (λ e. e.desc < 2 ^ 16) (all_entries ss (places (leaves_sizes ss)))
table_fits ss few small narrow =
    let group : Shape = Cluster ss in
    all_fit (all_entries ss (places (leaves_sizes ss)))
    (subst EntriesFit (sym (table_entries ss few)) (all_entries_fit ss (first_places (measure_of group)) (omega arith) narrow (first_room group small)))
