-- Where the rules hold of each leaf, each element reads as the value that is found there.
use Rattle.std.proofs.Common.{◌≡◌, ℕ, zero, suc, ◌+◌, ◌*◌, ◌≤◌, ◌<◌, Bool, true, false, ◌&&◌, ◌||◌, not, List, [], ◌∷◌, flat_map, length, refl, sym, ap, subst, arith, leb-true, lt-ltb, zero-lt-suc}
use Rattle.std.proofs.lemmas.Bool.{and_from, and_parts}
use Rattle.nxt_types.specs.Shapes.{Shape, Void, Number, Array, Cluster, Mutex, Members, no_members, member}
use Rattle.nxt_types.specs.Names.{size}
use Rattle.nxt_model.specs.Values.{list_of, group_of, items, values}
use Rattle.nxt_model.specs.Reading.{Reads, MembersRead, RowReads, row_count, leaf_place}
use Rattle.nxt_model.proofs.Laws.Values.{items-values}
use Rattle.nxt_table.specs.Leaves.{Leaf, extent}
use Rattle.nxt_layout.specs.Rows.{Ground, row, row_end, has_elements, names_row, is_placed, is_strided, elements_of, element_places, numbers_at, reached_through}
use Rattle.nxt_facts.specs.Places.{places_from}
use Rattle.nxt_table.specs.Strides.{with_strides, all_with_strides}
use Rattle.nxt_table.proofs.Laws.StrideFree.{size-with_strides}
use Rattle.nxt_facts.proofs.Each.{Each, each_from, each_then, each_both, each_apart, each_part, each_flat, each_map, each_kept, filter_all}
use Rattle.nxt_layout.proofs.Start.ValueAt.{number_at, row_values, row_lists, value_at, values_among, lists_at, lists_among, places_within, row_reads}
use Rattle.nxt_layout.proofs.Start.Leaves.{leaf_in, leaves_in, leaves_among, room, HasFairRows, IsFair, AreFair, HasRoom}

-- ---- rows

-- all rows that are reached are read
pub all_read : (g : Ground) (l : Leaf) → HasFairRows g l → element_places g (l.entry ∷ l.arrays) ≡ flat_map (elements_of g) (reached_through g l)
all_read g l h =
    ap
    (flat_map (elements_of g))
    (filter_all
    (λ r. is_placed g r && is_strided g l.entry (reached_through g l) r)
    (reached_through g l)
    (each_both
    (λ r. is_placed g r ≡ true)
    (λ r. is_strided g l.entry (reached_through g l) r ≡ true)
    (λ r. (is_placed g r && is_strided g l.entry (reached_through g l) r) ≡ true)
    (λ r a b. and_from _ _ a b)
    (reached_through g l)
    h.placed
    h.strided))

places_fit : (room at stride n bytes : ℕ) → (0 < n → (room ≤ stride) × (at + n * stride ≤ bytes)) → Each (λ base. base + room ≤ bytes) (places_from at stride n)
places_fit room at stride zero bytes h = tt
places_fit room at stride (suc n) bytes h =
    let fits = h (zero-lt-suc n) in
    each_then
    (λ base. base + stride ≤ at + suc n * stride)
    (λ base. base + room ≤ bytes)
    (λ base k. omega (arith, fits, k))
    (places_from at stride (suc n))
    (places_within at stride (suc n))

pub when_full : (h a b : Bool) → h ≡ true → (not h || (a && b)) ≡ true → (a ≡ true) × (b ≡ true)
when_full true a b e t = and_parts a b t
when_full false a b e t = let f : ⊥ = cc in absurd f

has_room_from : (g : Ground) (a : ℕ) (rows : List ℕ) (r : ℕ) → is_placed g r ≡ true → is_strided g a rows r ≡ true → Each (λ base. base + extent g.leaves a ≤ length g.memory.bytes) (elements_of g r)
has_room_from g a rows r p s =
    places_fit
    (extent g.leaves a)
    (row g r).place
    (row g r).stride
    (row g r).count
    (length g.memory.bytes)
    (λ some.
    let full : has_elements g r ≡ true = lt-ltb 0 (row g r).count some in
    let in_bytes = when_full (has_elements g r) _ _ full p in
    let long = when_full (has_elements g r) _ _ full s in
    (leb-true (extent g.leaves a) (row g r).stride long.0, leb-true (row_end g r) (length g.memory.bytes) in_bytes.1))

pub has_room_in : (g : Ground) (l : Leaf) → HasFairRows g l → HasRoom g (l.entry ∷ l.arrays)
has_room_in g l h =
    subst
    (Each (λ base. base + extent g.leaves l.entry ≤ length g.memory.bytes))
    (sym (all_read g l h))
    (each_flat
    (λ base. base + extent g.leaves l.entry ≤ length g.memory.bytes)
    (elements_of g)
    (reached_through g l)
    (each_both
    (λ r. is_placed g r ≡ true)
    (λ r. is_strided g l.entry (reached_through g l) r ≡ true)
    (λ r. Each (λ base. base + extent g.leaves l.entry ≤ length g.memory.bytes) (elements_of g r))
    (λ r p s. has_room_from g l.entry (reached_through g l) r p s)
    (reached_through g l)
    h.placed
    h.strided))

-- what holds of each element that is read holds in the row of each number
pub by_number : (g : Ground) (l : Leaf) (P : ℕ → Type 0) → HasFairRows g l → Each P (element_places g (l.entry ∷ l.arrays)) → Each (λ base. names_row g (number_at g l.entry base) ≡ true → Each P (elements_of g (number_at g l.entry base))) (element_places g l.arrays)
by_number g l P h e =
    each_map
    (λ r. names_row g r ≡ true → Each P (elements_of g r))
    (number_at g l.entry)
    (element_places g l.arrays)
    (each_kept
    (λ r. Each P (elements_of g r))
    (names_row g)
    (numbers_at g l.entry (element_places g l.arrays))
    (each_part P (elements_of g) (reached_through g l) (subst (Each P) (all_read g l h) e)))

-- ---- shapes

-- the array's value reads where its row does
array_reads : (g : Ground) (f : ℕ → ℕ) (n : ℕ) (s : Shape) (i base : ℕ) → RowReads g.memory (Reads g.memory (i + 1) (with_strides f (i + 1) s)) (f i) (number_at g i base) (row_values g (value_at g s (i + 1)) (number_at g i base)) (row_lists g (f i) (lists_at g f s (i + 1)) (number_at g i base)) → leaf_place g.memory i base + 2 ≤ length g.memory.bytes → Reads g.memory i (with_strides f i (Array n s)) base (value_at g (Array n s) i base) (lists_at g f (Array n s) i base)
array_reads g f n s i base rows fits =
    let vs = row_values g (value_at g s (i + 1)) (number_at g i base) in
    let same : vs ≡ items (values vs) = sym (items-values vs) in (
      fits,
      ap list_of same,
      subst
          (λ ws.
          RowReads
          g.memory
          (Reads g.memory (i + 1) (with_strides f (i + 1) s))
          (f i)
          (number_at g i base)
          ws
          (row_lists g (f i) (lists_at g f s (i + 1)) (number_at g i base)))
          same
          rows,
    )

number_fits : (desc bytes room base all : ℕ) → desc + bytes ≤ room → base + room ≤ all → base + desc + bytes ≤ all
number_fits desc bytes room base all a b = omega arith

cluster_reads : (g : Ground) (f : ℕ → ℕ) (ss : Members) (i base : ℕ) → MembersRead g.memory (i + 1) (all_with_strides f (i + 1) ss) base (values_among g ss (i + 1) base) (lists_among g f ss (i + 1) base) → Reads g.memory i (with_strides f i (Cluster ss)) base (value_at g (Cluster ss) i base) (lists_at g f (Cluster ss) i base)
cluster_reads g f ss i base h =
    let vs = values_among g ss (i + 1) base in
    let same : vs ≡ items (values vs) = sym (items-values vs) in (
      ap group_of same,
      subst
          (λ ws. MembersRead g.memory (i + 1) (all_with_strides f (i + 1) ss) base ws (lists_among g f ss (i + 1) base))
          same
          h,
    )

member_reads : (g : Ground) (f : ℕ → ℕ) (s : Shape) (ss : Members) (i base : ℕ) → Reads g.memory i (with_strides f i s) base (value_at g s i base) (lists_at g f s i base) → MembersRead g.memory (i + size s) (all_with_strides f (i + size s) ss) base (values_among g ss (i + size s) base) (lists_among g f ss (i + size s) base) → MembersRead g.memory i (all_with_strides f i (member s ss)) base (values_among g (member s ss) i base) (lists_among g f (member s ss) i base)
member_reads g f s ss i base a b = (
  lists_at g f s i base,
  lists_among g f ss (i + size s) base,
  refl,
  a,
  subst
      (λ n. MembersRead g.memory (i + n) (all_with_strides f (i + size s) ss) base (values_among g ss (i + size s) base) (lists_among g f ss (i + size s) base))
      (sym (size-with_strides f i s))
      b,
)

mutual
  pub shape_reads : (g : Ground) (f : ℕ → ℕ) (s : Shape) (i : ℕ) (arrays : List ℕ) → AreFair g (leaves_in g.memory.entries s i arrays) → HasRoom g arrays → Each (λ base. Reads g.memory i (with_strides f i s) base (value_at g s i base) (lists_at g f s i base)) (element_places g arrays)
  shape_reads g f Void i arrays fair has = each_from _ (λ base. (refl, refl)) (element_places g arrays)
  shape_reads g f (Number k) i arrays fair has =
      each_then
      (λ base. base + room g arrays ≤ length g.memory.bytes)
      (λ base. Reads g.memory i (Number k) base (value_at g (Number k) i base) [])
      (λ base h. (number_fits _ _ _ _ _ fair.0.ends h, refl, refl))
      (element_places g arrays)
      has
  shape_reads g f (Array n s) i arrays fair has =
      let l = leaf_in g.memory.entries (Array n s) i arrays in
      let rows : HasFairRows g l = fair.0.rows refl in
      let inner = shape_reads g f s (i + 1) (i ∷ arrays) fair.1 (has_room_in g l rows) in
      let reads = Reads g.memory (i + 1) (with_strides f (i + 1) s) in
      let found = by_number g l (λ base. reads base (value_at g s (i + 1) base) (lists_at g f s (i + 1) base)) rows inner in
      let named = each_map (λ r. r < row_count g.memory) (number_at g i) (element_places g arrays) rows.named in
      each_both
      (λ base. base + room g arrays ≤ length g.memory.bytes)
      (λ base. RowReads g.memory reads (f i) (number_at g i base) (row_values g (value_at g s (i + 1)) (number_at g i base)) (row_lists g (f i) (lists_at g f s (i + 1)) (number_at g i base)))
      (λ base. Reads g.memory i (with_strides f i (Array n s)) base (value_at g (Array n s) i base) (lists_at g f (Array n s) i base))
      (λ base h k. array_reads g f n s i base k (number_fits _ _ _ _ _ fair.0.ends h))
      (element_places g arrays)
      has
      (each_both
      (λ base. number_at g i base < row_count g.memory)
      (λ base. names_row g (number_at g i base) ≡ true → Each (λ at. reads at (value_at g s (i + 1) at) (lists_at g f s (i + 1) at)) (elements_of g (number_at g i base)))
      (λ base. RowReads g.memory reads (f i) (number_at g i base) (row_values g (value_at g s (i + 1)) (number_at g i base)) (row_lists g (f i) (lists_at g f s (i + 1)) (number_at g i base)))
      (λ base within e. row_reads g reads (value_at g s (i + 1)) (lists_at g f s (i + 1)) (f i) (number_at g i base) within e)
      (element_places g arrays)
      named
      found)
  shape_reads g f (Cluster ss) i arrays fair has =
      each_then
      (λ base. MembersRead g.memory (i + 1) (all_with_strides f (i + 1) ss) base (values_among g ss (i + 1) base) (lists_among g f ss (i + 1) base))
      (λ base. Reads g.memory i (with_strides f i (Cluster ss)) base (value_at g (Cluster ss) i base) (lists_at g f (Cluster ss) i base))
      (λ base h. cluster_reads g f ss i base h)
      (element_places g arrays)
      (members_read g f ss (i + 1) arrays fair has)
  shape_reads g f Mutex i arrays fair has = each_from _ (λ base. (refl, refl)) (element_places g arrays)

  pub members_read : (g : Ground) (f : ℕ → ℕ) (ss : Members) (i : ℕ) (arrays : List ℕ) → AreFair g (leaves_among g.memory.entries ss i arrays) → HasRoom g arrays → Each (λ base. MembersRead g.memory i (all_with_strides f i ss) base (values_among g ss i base) (lists_among g f ss i base)) (element_places g arrays)
  members_read g f no_members i arrays fair has = each_from _ (λ base. (refl, refl)) (element_places g arrays)
  members_read g f (member s ss) i arrays fair has =
      let two = each_apart (IsFair g) (leaves_in g.memory.entries s i arrays) (leaves_among g.memory.entries ss (i + size s) arrays) fair in
      each_both
      (λ base. Reads g.memory i (with_strides f i s) base (value_at g s i base) (lists_at g f s i base))
      (λ base. MembersRead g.memory (i + size s) (all_with_strides f (i + size s) ss) base (values_among g ss (i + size s) base) (lists_among g f ss (i + size s) base))
      (λ base. MembersRead g.memory i (all_with_strides f i (member s ss)) base (values_among g (member s ss) i base) (lists_among g f (member s ss) i base))
      (λ base a b. member_reads g f s ss i base a b)
      (element_places g arrays)
      (shape_reads g f s i arrays two.0 has)
      (members_read g f ss (i + size s) arrays two.1 has)
