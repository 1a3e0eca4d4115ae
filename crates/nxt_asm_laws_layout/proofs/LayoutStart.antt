-- The variables of an assembled text have packed lists, and start with their values.
use Rattle.std.proofs.Common.{◌≡◌, ℕ, ◌+◌, ◌<◌, ◌≤◌, Bool, true, false, cond, nat_lt, List, [], ◌∷◌, drop, filter, find, length, Some, None, refl, sym, ap, ap₂, subst, ◌∙◌, arith, eq-eqb, lt-ltb, ne_eqb}
use Rattle.std.proofs.lemmas.Bool.{and_from}
use Rattle.std.proofs.lemmas.List.Elements.{filter-append}
use Rattle.nxt_types.specs.Shapes.{Shape, Void, Number, Array, Cluster, Mutex, Members, no_members, member, bare, bares}
use Rattle.nxt_types.specs.Names.{size}
use Rattle.nxt_rxe.specs.declared.parts.Parts.{Parts}
use Rattle.nxt_model.specs.Assembled.{leaf_sizes, leaves_sizes, places}
use Rattle.nxt_model.specs.Values.{Value, group_of}
use Rattle.nxt_model.specs.Reading.{ReadsAs, row_count}
use Rattle.nxt_table.specs.Leaves.{Leaf, extent, leaf_of}
use Rattle.nxt_table.specs.Strides.{all_with_strides, with_strides}
use Rattle.nxt_table.proofs.Laws.Leaves.{Rising, table_rises}
use Rattle.nxt_layout.specs.Rows.{Ground, has_elements, names_row, numbers_of, reached_through, stride_or}
use Rattle.nxt_layout.specs.Start.{HasShapes, StartsAs, ground, memory, stride_of, stride_through}
use Rattle.nxt_layout.proofs.Laws.OneStart.{memory_with_strides}
use Rattle.nxt_facts.proofs.Each.{Each, each_apart, each_both, each_filter, each_then}
use Rattle.nxt_asm_laws_layout.proofs.Laws.Spelled.{bares-twice}
use Rattle.nxt_asm_laws_layout.proofs.Laws.Parts.{AreParts, AreVariables, IsPart, IsVariable}
use Rattle.nxt_asm_laws_layout.proofs.OwnLeaves.{own, all_own, size-bare}
use Rattle.nxt_asm_laws_layout.proofs.Laws.TableKept.{own_leaves, shapes}
use Rattle.nxt_asm_laws_layout.proofs.Laws.Dataspace.{HasData, all_written}
use Rattle.nxt_asm_laws_layout.proofs.Extents.{AllExtents, Extents, all_extents_are, extent_is, far}
use Rattle.nxt_asm_laws_layout.proofs.Numbers.{AreNumbered, Inside, IsNumbered, Outside, all_numbered, is_list}
use Rattle.nxt_asm_laws_layout.proofs.Starts.{arrays, arrays_there, few, first_list, lists, reads, whole}

-- ---- leaves by their entries

all_later : (i : ℕ) (ls : List Leaf) → Rising i ls → Each (λ l. i ≤ l.entry) ls
all_later i [] r = tt
all_later i (l ∷ ls) r =
    (r.0, each_then (λ (k : Leaf). l.entry + 1 ≤ k.entry) (λ k. i ≤ k.entry) (λ k h. omega (arith, h, r.0)) ls (all_later (l.entry + 1) ls r.1))

-- each is found by its entry
pub each_is_found : (i : ℕ) (ls : List Leaf) → Rising i ls → Each (λ l. leaf_of ls l.entry ≡ Some l) ls
each_is_found i [] r = tt
each_is_found i (l ∷ ls) r = (
  ap (λ b. cond b (Some l) (leaf_of ls l.entry)) (eq-eqb l.entry l.entry refl),
  each_both (λ (k : Leaf). l.entry + 1 ≤ k.entry) (λ k. leaf_of ls k.entry ≡ Some k) (λ k. leaf_of (l ∷ ls) k.entry ≡ Some k)
      (λ k later e. ap (λ b. cond b (Some l) (leaf_of ls k.entry)) (ne_eqb l.entry k.entry (λ same. omega (arith, later, same))) ∙ e)
      ls (all_later (l.entry + 1) ls r.1) (each_is_found (l.entry + 1) ls r.1),
)

-- ---- strides of arrays

module _ (g : Ground) where
  named : (r : ℕ) → 0 < r → r < row_count g.memory → names_row g r ≡ true
  named r some below = and_from (nat_lt 0 r) (nat_lt r (row_count g.memory)) (lt-ltb 0 r some) (lt-ltb r (row_count g.memory) below)

  -- all rows that an array names are reached
  pub reached_all : (l : Leaf) → IsNumbered g l → reached_through g l ≡ numbers_of g l
  reached_all l (Outside h) =
      ap (filter (names_row g)) h.numbers ∙ ap (λ b. cond b (h.number ∷ []) []) (named h.number h.some h.below) ∙ sym h.numbers
  reached_all l (Inside e) = ap (filter (names_row g)) e ∙ sym e

  stride_is : (l : Leaf) → IsNumbered g l → stride_through g (Some l) ≡ extent g.leaves l.entry
  stride_is l (Outside h) =
      ap (λ rs. stride_or g (extent g.leaves l.entry) (find (has_elements g) rs)) (reached_all l (Outside h) ∙ h.numbers) ∙ by (has_elements g h.number)
    where
      by : (b : Bool) → stride_or g (extent g.leaves l.entry) (cond b (Some h.number) None) ≡ extent g.leaves l.entry
      by true = h.stride
      by false = refl
  stride_is l (Inside e) = ap (λ rs. stride_or g (extent g.leaves l.entry) (find (has_elements g) rs)) (reached_all l (Inside e) ∙ e)

  pub all_strides : Each (λ l. leaf_of g.leaves l.entry ≡ Some l) g.leaves → Each (IsNumbered g) (filter is_list g.leaves) → Each (λ l. stride_of g l.entry ≡ extent g.leaves l.entry) (filter is_list g.leaves)
  all_strides found numbered =
      each_both (λ l. leaf_of g.leaves l.entry ≡ Some l) (IsNumbered g) (λ l. stride_of g l.entry ≡ extent g.leaves l.entry)
      (λ l e n. ap (stride_through g) e ∙ stride_is l n)
      (filter is_list g.leaves)
      (each_filter (λ l. leaf_of g.leaves l.entry ≡ Some l) is_list g.leaves
      (each_then (λ l. leaf_of g.leaves l.entry ≡ Some l) (λ l. is_list l ≡ true → leaf_of g.leaves l.entry ≡ Some l) (λ l e _. e) g.leaves found))
      numbered

-- ---- packed lists

module _ (f most : ℕ → ℕ) where
  abbrev IsSame : Leaf → Type 0
  IsSame l = f l.entry ≡ most l.entry

  mutual
    part_packed : (s : Shape) (ps : List ℕ) (i : ℕ) (around : List ℕ) → IsPart s → Extents most s i → Each (λ l. f l.entry ≡ most l.entry) (filter is_list (own s ps i around)) → with_strides f i (bare s) ≡ s
    part_packed Void ps i around h e same = absurd h
    part_packed (Number k) ps i around h e same = refl
    part_packed (Array n s) ps i around h e same =
        ap₂ Array (same.0 ∙ e.0 ∙ sym h.0) (part_packed s (places (leaf_sizes s)) (i + 1) (i ∷ around) h.1 e.1 same.1)
    part_packed (Cluster ss) ps i around h e same = ap Cluster (parts_packed ss ps (i + 1) around h.1 e same)
    part_packed Mutex ps i around h e same = absurd h

    parts_packed : (ss : Members) (ps : List ℕ) (i : ℕ) (around : List ℕ) → AreParts ss → AllExtents most ss i → Each (λ l. f l.entry ≡ most l.entry) (filter is_list (all_own ss ps i around))
        → all_with_strides f i (bares ss) ≡ ss
    parts_packed no_members ps i around h e same = refl
    parts_packed (member s ss) ps i around h e same =
        let rest = drop (length (leaf_sizes s)) ps in
        let two = each_apart IsSame (filter is_list (own s ps i around)) (filter is_list (all_own ss rest (i + size s) around))
        (subst (Each IsSame) (filter-append is_list (own s ps i around) (all_own ss rest (i + size s) around)) same) in
        ap₂ member (part_packed s ps i around h.0 e.0 two.0)
        (ap (λ n. all_with_strides f (i + n) (bares ss)) (size-bare s) ∙ parts_packed ss rest (i + size s) around h.1 e.1 two.1)

  variable_packed : (s : Shape) (ps : List ℕ) (i : ℕ) (around : List ℕ) → IsVariable s → Extents most s i → Each (λ l. f l.entry ≡ most l.entry) (filter is_list (own s ps i around)) → with_strides f i (bare s) ≡ s
  variable_packed Void ps i around h e same = absurd h.0
  variable_packed (Number k) ps i around h e same = refl
  variable_packed (Array n s) ps i around h e same = part_packed (Array n s) ps i around h.0 e same
  variable_packed (Cluster ss) ps i around h e same = part_packed (Cluster ss) ps i around h.0 e same
  variable_packed Mutex ps i around h e same = refl

  pub variables_packed : (ss : Members) (ps : List ℕ) (i : ℕ) (around : List ℕ) → AreVariables ss → AllExtents most ss i → Each (λ l. f l.entry ≡ most l.entry) (filter is_list (all_own ss ps i around))
      → all_with_strides f i (bares ss) ≡ ss
  variables_packed no_members ps i around h e same = refl
  variables_packed (member s ss) ps i around h e same =
      let rest = drop (length (leaf_sizes s)) ps in
      let two = each_apart IsSame (filter is_list (own s ps i around)) (filter is_list (all_own ss rest (i + size s) around))
      (subst (Each IsSame) (filter-append is_list (own s ps i around) (all_own ss rest (i + size s) around)) same) in
      ap₂ member (variable_packed s ps i around h.0 e.0 two.0)
      (ap (λ n. all_with_strides f (i + n) (bares ss)) (size-bare s) ∙ variables_packed ss rest (i + size s) around h.1 e.1 two.1)

-- ---- the start

module _ (p : Parts) (ss : Members) (vs : List Value) (h : HasData p ss vs) where
  abbrev pub g : Ground
  g = ground p (bares ss)

  pub extents : AllExtents (extent g.leaves) ss 0
  extents =
      all_extents_are (extent g.leaves) ss (places (leaves_sizes ss)) 0 [] (λ e low high. extent_is g.leaves e ∙ ap (far e) (own_leaves p ss h.table)) tt

  pub numbered : AreNumbered g g.leaves 1 (length (arrays p ss vs h))
  numbered =
      subst (λ ls. AreNumbered g ls 1 (length (arrays p ss vs h))) (sym (own_leaves p ss h.table))
      (all_numbered g ss (places (leaves_sizes ss)) 0 vs 1 (first_list p ss vs h) [] [] (whole p ss vs h) refl h.held (all_written p ss vs h) (arrays_there p ss vs h) (few p ss vs h) extents)

  strides : ss ≡ all_with_strides (stride_of g) 0 (bares ss)
  strides =
      sym (variables_packed (stride_of g) (extent g.leaves) ss (places (leaves_sizes ss)) 0 [] h.table.variables extents
      (subst (λ ls. Each (λ l. stride_of g l.entry ≡ extent g.leaves l.entry) (filter is_list ls)) (own_leaves p ss h.table)
      (all_strides g (each_is_found 0 g.leaves (table_rises p.toc (bares ss))) numbered.each)))

  pub has_shapes : HasShapes p ss
  has_shapes = record { plain = bares ss; shapes = shapes p ss h.table; strides = strides }

  pub same_memory : memory p ss ≡ memory p (bares ss)
  same_memory = ap (memory p) strides ∙ memory_with_strides p (stride_of g) (bares ss) (bares-twice ss)

  -- the dataspace reads as the starting values
  pub starts : StartsAs p ss (group_of vs)
  starts = record {
    shapes = has_shapes;
    lists = lists p ss vs h;
    reads = subst (λ m. ReadsAs m ss (group_of vs) (lists p ss vs h)) (sym same_memory) (reads p ss vs h);
  }
