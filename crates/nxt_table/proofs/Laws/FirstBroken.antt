-- What the passes over a table find is the first broken rule at its least place.
use Rattle.std.proofs.Common.{◌≡◌, ℕ, ◌+◌, ◌≤◌, Bool, List, [], ◌∷◌, refl, sym, ap, ◌∙◌, subst, arith, ◌&&◌, Option, Some, None}
use Rattle.std.specs.Prelude.{map, nat_lt, ◌==◌, slice_get, IsTrue, if◌then◌else◌}
use Rattle.nxt_types.specs.declared.kind.Kind.TheVariants.{Ubyte, Sbyte, Uword, Sword, Ulong, Slong}
use Rattle.nxt_types.specs.declared.shape.TocEntry.{TocEntry}
use Rattle.nxt_types.specs.Refusals.{passes, comes_first}
use Rattle.nxt_types.specs.Shapes.{Shape, Void, Number, Array, Cluster, Mutex, Members, outline}
use Rattle.nxt_rxe.specs.declared.parts.Parts.{Parts}
use Rattle.nxt_table.specs.declared.fault.TableFault.{TableFault}
use Rattle.nxt_table.specs.declared.fault.TableFault.TheVariants.{TypeCode, TypeOpen, Depth, MutexInside, Place, Overlap, DefaultsShort, NoMemory}
use Rattle.nxt_table.specs.Inside.Items.{first_from, open_from}
use Rattle.nxt_table.specs.Inside.Enclosing.{marks, is_deep, placed_by, placed_entries, is_inner_mutex}
use Rattle.nxt_table.specs.Inside.LeafPasses.{first_leaf, passes_end, first_pair, lacking_from}
use Rattle.nxt_table.specs.Leaves.{Site, Leaf, sites, leaves, leaf_of, is_mutex, AreShapes}
use Rattle.nxt_table.specs.TableRules.{Broken, rank, OfShapes, has_unknown_code, is_too_deep, is_mutex_inside, is_misplaced, share_a_byte, lacks_default}
use Rattle.nxt_table.specs.Inside.Checks.{fault_or, pair_fault_or, leaves_of, leaf_fault, table_fault}
use Rattle.nxt_table.proofs.Entries.Variables.{whole_table, open_is_found}
use Rattle.nxt_table.proofs.Laws.OneTable.{one_table}
use Rattle.nxt_table.proofs.Laws.Enclosed.{mark_of, shape_head, site_head, table_marks, table_heads}
use Rattle.nxt_table.proofs.Entries.First.{first_is_least, none_passes, first_from-map}
use Rattle.nxt_table.proofs.Laws.Leaves.{head_of, tail_of, flat, flat_first, flat_misplaced, table_leaves, table_rises, first_entry, first_leaf_least, no_leaf_passes}
use Rattle.nxt_table.proofs.Placement.FirstOverlap.{first_pair_least, no_pair_passes}
use Rattle.nxt_table.proofs.Placement.Defaults.{lacking_same, behind_all}
use Rattle.nxt_table.proofs.Laws.Passes.{Finds, option_or, past, past_last, same_rule, first_more}

-- ---- mutexes

pub mutex_code : (s : Shape) → ((shape_head s).0 == 9) ≡ is_mutex s
mutex_code Void = refl
mutex_code (Number Ubyte) = refl
mutex_code (Number Sbyte) = refl
mutex_code (Number Uword) = refl
mutex_code (Number Sword) = refl
mutex_code (Number Ulong) = refl
mutex_code (Number Slong) = refl
mutex_code (Array n s) = refl
mutex_code (Cluster ss) = refl
mutex_code Mutex = refl

pub mutexes_same : (es : List TocEntry) (sts : List Site) (i : ℕ) → map outline es ≡ map site_head sts →
    first_from is_inner_mutex i (placed_by es (map mark_of sts)) ≡ first_from is_mutex_inside i sts
mutexes_same [] [] i h = refl
mutexes_same [] (s ∷ sts) i h = cc
mutexes_same (e ∷ es) [] i h = cc
mutexes_same (e ∷ es) (s ∷ sts) i h =
    let code = ap (λ os. (head_of os).0) h in
    let same : (e.code == 9) ≡ is_mutex s.shape = ap (λ c. c == 9) code ∙ mutex_code s.shape in
    ap (λ b. if b && nat_lt 0 s.depth then Some i else first_from is_inner_mutex (i + 1) (placed_by es (map mark_of sts))) same
    ∙ ap (λ o. if is_mutex_inside s then Some i else o) (mutexes_same es sts (i + 1) (ap tail_of h))

-- ---- what each pass finds

-- the tests are of the table's shapes
pub of_shapes : (p : Parts) (ss : Members) (test : Members → Bool) → AreShapes p.toc ss → OfShapes p test → IsTrue (test ss)
of_shapes p ss test h o = subst (λ q. IsTrue (test q)) (one_table p.toc o.0 ss o.1 h) o.2

pub depths : (p : Parts) (ss : Members) → AreShapes p.toc ss → first_from is_deep 0 (marks p.toc) ≡ first_from is_too_deep 0 (sites ss)
depths p ss h = ap (first_from is_deep 0) (table_marks p.toc ss h) ∙ first_from-map is_deep mark_of 0 (sites ss)

pub mutexes : (p : Parts) (ss : Members) → AreShapes p.toc ss → first_from is_inner_mutex 0 (placed_entries p.toc) ≡ first_from is_mutex_inside 0 (sites ss)
mutexes p ss h = ap (λ ms. first_from is_inner_mutex 0 (placed_by p.toc ms)) (table_marks p.toc ss h) ∙ mutexes_same p.toc (sites ss) 0 (table_heads p.toc ss h)

pub misplaced : (p : Parts) (ss : Members) → AreShapes p.toc ss → first_leaf (passes_end p.header.static_size) (leaves_of p) ≡ first_entry (is_misplaced p.header.static_size) (leaves p.toc ss)
misplaced p ss h =
    ap (first_leaf (passes_end p.header.static_size)) (table_leaves p.toc ss h)
    ∙ flat_first (is_misplaced p.header.static_size) (passes_end p.header.static_size) (flat_misplaced p.header.static_size) (leaves p.toc ss)

pub pairs : (p : Parts) (ss : Members) → AreShapes p.toc ss → first_pair (leaves_of p) ≡ first_pair (map flat (leaves p.toc ss))
pairs p ss h = ap first_pair (table_leaves p.toc ss h)

pub defaults : (p : Parts) (ss : Members) → AreShapes p.toc ss → lacking_from p.header.default_size 0 (leaves_of p) ≡ first_entry (lacks_default p (leaves p.toc ss)) (leaves p.toc ss)
defaults p ss h =
    ap (lacking_from p.header.default_size 0) (table_leaves p.toc ss h)
    ∙ lacking_same p (leaves p.toc ss) (leaves p.toc ss) 0 0 (table_rises p.toc ss) (behind_all (leaves p.toc ss))

-- ---- in order

-- the passes in their order
abbrev pub first_fault : Parts → Option TableFault
first_fault p = option_or (table_fault p) (leaf_fault p)

pub past_pair : (o : Option (ℕ × ℕ)) (more : Option TableFault) (g : TableFault) → ((w : ℕ × ℕ) → o ≡ Some w → IsTrue (comes_first (rank (Overlap w.0 w.1)) (rank g))) →
    (o ≡ None → Finds rank more g) → Finds rank (pair_fault_or o more) g
past_pair None more g before next = next refl
past_pair (Some w) more g before next = record { fault = Overlap w.0 w.1; found = refl; order = before w refl }

-- ---- the passes of one file

abbrev pub mutex_pass : Parts → Option TableFault
mutex_pass p = fault_or MutexInside (first_from is_inner_mutex 0 (placed_entries p.toc)) None

abbrev pub depth_pass : Parts → Option TableFault
depth_pass p = fault_or Depth (first_from is_deep 0 (marks p.toc)) (mutex_pass p)

abbrev pub open_pass : Parts → Option TableFault
open_pass p = fault_or TypeOpen (open_from 0 0 0 (map outline p.toc)) (depth_pass p)

abbrev pub default_pass : Parts → Option TableFault
default_pass p = fault_or DefaultsShort (lacking_from p.header.default_size 0 (leaves_of p)) None

abbrev pub overlap_pass : Parts → Option TableFault
overlap_pass p = pair_fault_or (first_pair (leaves_of p)) (default_pass p)

pub past_code : (p : Parts) (g : TableFault) → ((w : ℕ) → first_from has_unknown_code 0 p.toc ≡ Some w → IsTrue (comes_first (5 ∷ w ∷ []) (rank g))) →
    (first_from has_unknown_code 0 p.toc ≡ None → Finds rank (option_or (open_pass p) (leaf_fault p)) g) → Finds rank (first_fault p) g
past_code p g before next = past rank TypeCode (first_from has_unknown_code 0 p.toc) (open_pass p) (leaf_fault p) g before next

pub past_open : (p : Parts) (g : TableFault) → ((w : ℕ) → open_from 0 0 0 (map outline p.toc) ≡ Some w → IsTrue (comes_first (6 ∷ w ∷ []) (rank g))) →
    (open_from 0 0 0 (map outline p.toc) ≡ None → Finds rank (option_or (depth_pass p) (leaf_fault p)) g) → Finds rank (option_or (open_pass p) (leaf_fault p)) g
past_open p g before next = past rank TypeOpen (open_from 0 0 0 (map outline p.toc)) (depth_pass p) (leaf_fault p) g before next

pub past_depth : (p : Parts) (g : TableFault) → ((w : ℕ) → first_from is_deep 0 (marks p.toc) ≡ Some w → IsTrue (comes_first (7 ∷ w ∷ []) (rank g))) →
    (first_from is_deep 0 (marks p.toc) ≡ None → Finds rank (option_or (mutex_pass p) (leaf_fault p)) g) → Finds rank (option_or (depth_pass p) (leaf_fault p)) g
past_depth p g before next = past rank Depth (first_from is_deep 0 (marks p.toc)) (mutex_pass p) (leaf_fault p) g before next

pub past_mutex : (p : Parts) (g : TableFault) → ((w : ℕ) → first_from is_inner_mutex 0 (placed_entries p.toc) ≡ Some w → IsTrue (comes_first (8 ∷ w ∷ []) (rank g))) →
    (first_from is_inner_mutex 0 (placed_entries p.toc) ≡ None → Finds rank (leaf_fault p) g) → Finds rank (option_or (mutex_pass p) (leaf_fault p)) g
past_mutex p g before next = past rank MutexInside (first_from is_inner_mutex 0 (placed_entries p.toc)) None (leaf_fault p) g before next

pub past_place : (p : Parts) (g : TableFault) → ((w : ℕ) → first_leaf (passes_end p.header.static_size) (leaves_of p) ≡ Some w → IsTrue (comes_first (9 ∷ w ∷ []) (rank g))) →
    (first_leaf (passes_end p.header.static_size) (leaves_of p) ≡ None → Finds rank (overlap_pass p) g) → Finds rank (leaf_fault p) g
past_place p g before next = past_last rank Place (first_leaf (passes_end p.header.static_size) (leaves_of p)) (overlap_pass p) g before next

pub past_overlap : (p : Parts) (g : TableFault) → ((w : ℕ × ℕ) → first_pair (leaves_of p) ≡ Some w → IsTrue (comes_first (10 ∷ w.0 ∷ w.1 ∷ []) (rank g))) →
    (first_pair (leaves_of p) ≡ None → Finds rank (default_pass p) g) → Finds rank (overlap_pass p) g
past_overlap p g before next = past_pair (first_pair (leaves_of p)) (default_pass p) g before next

pub past_default : (p : Parts) (g : TableFault) → ((w : ℕ) → lacking_from p.header.default_size 0 (leaves_of p) ≡ Some w → IsTrue (comes_first (11 ∷ w ∷ []) (rank g))) →
    (lacking_from p.header.default_size 0 (leaves_of p) ≡ None → Finds rank None g) → Finds rank (default_pass p) g
past_default p g before next = past_last rank DefaultsShort (lacking_from p.header.default_size 0 (leaves_of p)) None g before next

-- a table of whole variables
pub record Whole (p : Parts) : Type 0 where
  pub shapes : Members
  pub spelled : AreShapes p.toc shapes

pub whole : (p : Parts) → open_from 0 0 0 (map outline p.toc) ≡ None → Whole p
whole p e = let h = whole_table p.toc e in record { shapes = h.0; spelled = h.1 }

pub same_place : (a b : ℕ) → Some a ≡ Some b → a ≤ b
same_place a b e = let same : a ≡ b = cc in omega (arith, same)

pub found_code : (p : Parts) (v : ℕ) → Broken p (TypeCode v) → Finds rank (first_fault p) (TypeCode v)
found_code p v b =
    past_code p (TypeCode v) (λ w e. same_rule 5 w v (first_is_least has_unknown_code p.toc w v e b)) (λ e. absurd (none_passes has_unknown_code p.toc v e b))

pub found_open : (p : Parts) (v : ℕ) → Broken p (TypeOpen v) → Finds rank (first_fault p) (TypeOpen v)
found_open p v b =
    let at = open_is_found p.toc v b in
    past_code p (TypeOpen v) (λ w e. refl) (λ n.
    past_open p (TypeOpen v) (λ w e. same_rule 6 w v (same_place w v (sym e ∙ at))) (λ e. absurd (let s : None ≡ Some v = sym e ∙ at in cc)))

pub found_depth : (p : Parts) (v : ℕ) → Broken p (Depth v) → Finds rank (first_fault p) (Depth v)
found_depth p v b =
    past_code p (Depth v) (λ w e. refl) (λ n. past_open p (Depth v) (λ w e. refl) (λ o.
    let h = whole p o in
    let t = of_shapes p h.shapes (λ ss. passes is_too_deep (slice_get (sites ss) v)) h.spelled b in
    past_depth p (Depth v) (λ w e. same_rule 7 w v (first_is_least is_too_deep (sites h.shapes) w v (sym (depths p h.shapes h.spelled) ∙ e) t))
    (λ e. absurd (none_passes is_too_deep (sites h.shapes) v (sym (depths p h.shapes h.spelled) ∙ e) t))))

pub found_mutex : (p : Parts) (v : ℕ) → Broken p (MutexInside v) → Finds rank (first_fault p) (MutexInside v)
found_mutex p v b =
    past_code p (MutexInside v) (λ w e. refl) (λ n. past_open p (MutexInside v) (λ w e. refl) (λ o. past_depth p (MutexInside v) (λ w e. refl) (λ d.
    let h = whole p o in
    let t = of_shapes p h.shapes (λ ss. passes is_mutex_inside (slice_get (sites ss) v)) h.spelled b in
    past_mutex p (MutexInside v) (λ w e. same_rule 8 w v (first_is_least is_mutex_inside (sites h.shapes) w v (sym (mutexes p h.shapes h.spelled) ∙ e) t))
    (λ e. absurd (none_passes is_mutex_inside (sites h.shapes) v (sym (mutexes p h.shapes h.spelled) ∙ e) t)))))

-- past the table's passes
pub past_table : (p : Parts) (g : TableFault) → ((w : ℕ) → IsTrue (comes_first (5 ∷ w ∷ []) (rank g))) → ((w : ℕ) → IsTrue (comes_first (6 ∷ w ∷ []) (rank g))) →
    ((w : ℕ) → IsTrue (comes_first (7 ∷ w ∷ []) (rank g))) → ((w : ℕ) → IsTrue (comes_first (8 ∷ w ∷ []) (rank g))) → (Whole p → Finds rank (leaf_fault p) g) → Finds rank (first_fault p) g
past_table p g a b c d next =
    past_code p g (λ w e. a w) (λ n. past_open p g (λ w e. b w) (λ o. past_depth p g (λ w e. c w) (λ m. past_mutex p g (λ w e. d w) (λ k. next (whole p o)))))

pub found_place : (p : Parts) (v : ℕ) → Broken p (Place v) → Finds rank (first_fault p) (Place v)
found_place p v b = past_table p (Place v) (λ w. refl) (λ w. refl) (λ w. refl) (λ w. refl) (λ h.
    let ls : List Leaf = leaves p.toc h.shapes in
    let t : IsTrue (passes (is_misplaced p.header.static_size) (leaf_of (leaves p.toc h.shapes) v)) =
    of_shapes p h.shapes (λ ss. passes (is_misplaced p.header.static_size) (leaf_of (leaves p.toc ss) v)) h.spelled b in
    past_place p (Place v)
    (λ w e. same_rule 9 w v (first_leaf_least (is_misplaced p.header.static_size) (leaves p.toc h.shapes) w v (table_rises p.toc h.shapes) (sym (misplaced p h.shapes h.spelled) ∙ e) t))
    (λ e. absurd (no_leaf_passes (is_misplaced p.header.static_size) (leaves p.toc h.shapes) v (table_rises p.toc h.shapes) (sym (misplaced p h.shapes h.spelled) ∙ e) t)))

pub found_overlap : (p : Parts) (u v : ℕ) → Broken p (Overlap u v) → Finds rank (first_fault p) (Overlap u v)
found_overlap p u v b = past_table p (Overlap u v) (λ w. refl) (λ w. refl) (λ w. refl) (λ w. refl) (λ h.
    let t = of_shapes p h.shapes (λ ss. passes (λ l. passes (share_a_byte l) (leaf_of (leaves p.toc ss) v)) (leaf_of (leaves p.toc ss) u)) h.spelled b in
    past_place p (Overlap u v) (λ w e. refl) (λ n.
    past_overlap p (Overlap u v)
    (λ w e. first_more 10 w.0 w.1 u v (first_pair_least (leaves p.toc h.shapes) w.0 w.1 u v (table_rises p.toc h.shapes) (sym (pairs p h.shapes h.spelled) ∙ e) t))
    (λ e. absurd (no_pair_passes (leaves p.toc h.shapes) u v (table_rises p.toc h.shapes) (sym (pairs p h.shapes h.spelled) ∙ e) t))))

pub found_default : (p : Parts) (v : ℕ) → Broken p (DefaultsShort v) → Finds rank (first_fault p) (DefaultsShort v)
found_default p v b = past_table p (DefaultsShort v) (λ w. refl) (λ w. refl) (λ w. refl) (λ w. refl) (λ h.
    let t = of_shapes p h.shapes (λ ss. passes (lacks_default p (leaves p.toc ss)) (leaf_of (leaves p.toc ss) v)) h.spelled b in
    past_place p (DefaultsShort v) (λ w e. refl) (λ n. past_overlap p (DefaultsShort v) (λ w e. refl) (λ m.
    past_default p (DefaultsShort v)
    (λ w e. same_rule 11 w v (first_leaf_least (lacks_default p (leaves p.toc h.shapes)) (leaves p.toc h.shapes) w v (table_rises p.toc h.shapes) (sym (defaults p h.shapes h.spelled) ∙ e) t))
    (λ e. absurd (no_leaf_passes (lacks_default p (leaves p.toc h.shapes)) (leaves p.toc h.shapes) v (table_rises p.toc h.shapes) (sym (defaults p h.shapes h.spelled) ∙ e) t)))))

-- where a rule is broken, the passes find one that comes first
pub finds : (p : Parts) (g : TableFault) → Broken p g → Finds rank (first_fault p) g
finds p (TypeCode e) b = found_code p e b
finds p (TypeOpen e) b = found_open p e b
finds p (Depth e) b = found_depth p e b
finds p (MutexInside e) b = found_mutex p e b
finds p (Place e) b = found_place p e b
finds p (Overlap d e) b = found_overlap p d e b
finds p (DefaultsShort e) b = found_default p e b
finds p NoMemory b = absurd b
