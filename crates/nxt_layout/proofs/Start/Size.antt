-- How many bytes the variables take at the start, by the rows that are reached.
use Rattle.std.proofs.Common.{◌≡◌, ℕ, ◌+◌, ◌*◌, ◌<◌, ◌≤◌, Bool, true, false, ◌||◌, List, [], flat_map, find, max, sum_by, length, Some, if◌then◌else◌, refl, sym, ap, ap₂, ◌∙◌, subst, arith, append-nil, ltb-false}
use Rattle.nxt_types.specs.Shapes.{Shape, Void, Number, Array, Cluster, Mutex, Members, no_members, member, has_list, some_list}
use Rattle.nxt_types.specs.Names.{size}
use Rattle.nxt_rxe.specs.declared.parts.Parts.{Parts}
use Rattle.nxt_model.specs.Values.{Value, group_of, lists_in}
use Rattle.nxt_model.specs.Footprint.{list_bytes}
use Rattle.nxt_types.specs.Pool.{pool_size, round4}
use Rattle.nxt_model.specs.Reading.{Memory, HeldList, ReadsAs, row_count}
use Rattle.nxt_table.specs.declared.fault.TableFault.TheVariants.{Place}
use Rattle.nxt_layout.specs.declared.fault.LayoutFault.TheVariants.{Table, PoolPassed}
use Rattle.nxt_table.specs.Leaves.{Leaf, AreShapes, leaves, leaf_of}
use Rattle.nxt_layout.specs.Rows.{Ground, row, has_elements, is_array, numbers_of, reached_through, reached, arrays_of}
use Rattle.nxt_layout.specs.Start.{ground, stride_of, stride_through, file_rows, start_footprint, StartsAs}
use Rattle.nxt_table.specs.Strides.{with_strides, all_with_strides}
use Rattle.nxt_layout.specs.Inside.RowPasses.{row_bytes}
use Rattle.nxt_layout.specs.LayoutRules.{Broken, PassesPool}
use Rattle.nxt_facts.proofs.Each.{Each, each_then, each_both, each_filter}
use Rattle.nxt_facts.proofs.Sums.{total, total_is, total_one, total_flat, total_same}
use Rattle.nxt_layout.proofs.Start.ValueAt.{values_among, lists_among}
use Rattle.nxt_layout.proofs.Start.Leaves.{leaves_among, HasFairRows, IsFair, AreFair}
use Rattle.nxt_layout.proofs.Dope.Counts.{held_of, weight_of, arrays_among, members_total, named_total}
use Rattle.nxt_layout.proofs.Start.LeafOrder.{leaves_are, leaves_found}
use Rattle.nxt_table.proofs.Laws.StrideFree.{size_of_table}
use Rattle.nxt_layout.proofs.Laws.OneStart.{memory_with_strides, one_start}
use Rattle.nxt_layout.proofs.Start.RulesKept.{AreKept, KeepsRows, are_kept, fair_leaves}
use Rattle.nxt_layout.proofs.Start.Exists.{reads_from}
use Rattle.nxt_layout.proofs.Start.Strides.{bytes_held, lists_counted, lists_sized, one_stride}

-- ---- rows

-- the row numbers of all arrays, one for each list; 0 is an empty list
abbrev pub numbers : Ground → List ℕ
numbers g = flat_map (numbers_of g) (arrays_of g)

pub no_product : (n : ℕ) → 0 * n ≡ 0
no_product n = omega arith

pub no_bytes : (n : ℕ) → round4 (0 * n) ≡ 0
no_bytes n = ap round4 (no_product n)

pub no_count : (g : Ground) (r : ℕ) → has_elements g r ≡ false → (row g r).count ≡ 0
no_count g r e = let least : (row g r).count ≤ 0 = ltb-false 0 (row g r).count e in omega (arith, least)

pub same_bytes : (g : Ground) (stride r : ℕ) (has : Bool) → has_elements g r ≡ has → (has_elements g r ≡ true → (row g r).stride ≡ stride) → round4 ((row g r).count * stride) ≡ row_bytes g r
same_bytes g stride r true e h = ap (λ n. round4 ((row g r).count * n)) (sym (h e))
same_bytes g stride r false e h =
    let none : (row g r).count ≡ 0 = no_count g r e in
    ap (λ n. round4 (n * stride)) none
    ∙ no_bytes stride
    ∙ sym (ap (λ n. round4 (n * (row g r).stride)) none ∙ no_bytes (row g r).stride)

pub leaf_total : (g : Ground) (l : Leaf) → leaf_of g.leaves l.entry ≡ Some l → HasFairRows g l → weight_of bytes_held g (stride_of g) l ≡ total (row_bytes g) (reached_through g l)
leaf_total g l found rows =
    let stride = stride_through g (Some l) in
    ap (λ o. total (λ r. bytes_held (held_of g (stride_through g o) r)) (numbers_of g l)) found
    ∙ named_total bytes_held g stride (numbers_of g l) (no_bytes stride) rows.named
    ∙ total_same
    (λ r. round4 ((row g r).count * stride))
    (row_bytes g)
    (reached_through g l)
    (each_then
    (λ r. has_elements g r ≡ true → (row g r).stride ≡ stride)
    (λ r. round4 ((row g r).count * stride) ≡ row_bytes g r)
    (λ r h. same_bytes g stride r (has_elements g r) refl h)
    (reached_through g l)
    (one_stride g l.entry (reached_through g l) (find (has_elements g) (reached_through g l)) refl rows.strided))

-- ---- the whole

-- the bytes of the variables at the start
abbrev pub start_bytes : Parts → Members → ℕ
start_bytes p plain =
    let g = ground p plain in
    round4 p.header.static_size
    + round4 (10 * max (file_rows p plain) (length (numbers g) + 1))
    + sum_by (row_bytes g) (reached g)

mutual
  has_list-with_strides : (f : ℕ → ℕ) (i : ℕ) (s : Shape) → has_list (with_strides f i s) ≡ has_list s
  has_list-with_strides f i Void = refl
  has_list-with_strides f i (Number k) = refl
  has_list-with_strides f i (Array n s) = refl
  has_list-with_strides f i (Cluster ss) = some_list-with_strides f (i + 1) ss
  has_list-with_strides f i Mutex = refl

  some_list-with_strides : (f : ℕ → ℕ) (i : ℕ) (ss : Members) → some_list (all_with_strides f i ss) ≡ some_list ss
  some_list-with_strides f i no_members = refl
  some_list-with_strides f i (member s ss) =
      ap₂ (λ (a b : Bool). a || b) (has_list-with_strides f i s) (some_list-with_strides f (i + size s) ss)

pub rows_with_strides : (p : Parts) (f : ℕ → ℕ) (plain : Members) → AreShapes p.toc plain → file_rows p (all_with_strides f 0 plain) ≡ file_rows p plain
rows_with_strides p f plain shapes =
    ap₂
    (λ (b : Bool) (m : Memory). if b then row_count m else 1)
    (some_list-with_strides f 0 plain)
    (memory_with_strides p f plain shapes.strides)

-- the lists that are found, as many as there are numbers, and their bytes, which are those of the rows that are reached
pub lists_found : (p : Parts) (plain : Members) → AreShapes p.toc plain → ((e : ℕ) → Broken p (Table (Place e)) → ⊥) → AreKept (ground p plain) → (length (lists_among (ground p plain) (stride_of (ground p plain)) plain 0 0) ≡ length (numbers (ground p plain))) × (sum_by bytes_held (lists_among (ground p plain) (stride_of (ground p plain)) plain 0 0) ≡ sum_by (row_bytes (ground p plain)) (reached (ground p plain)))
lists_found p plain shapes place kept =
    let g = ground p plain in
    let f = stride_of g in
    let lists = lists_among g f plain 0 0 in
    let order : leaves p.toc plain ≡ leaves_among p.toc plain 0 [] = leaves_are p.toc plain (size_of_table p.toc plain shapes.spelled) in
    let fair : AreFair g (leaves p.toc plain) = fair_leaves p plain shapes place kept in
    let weights : (w : HeldList → ℕ) → total w lists ≡ total (weight_of w g f) (arrays_of g) =
    λ w.
    ap (total w) (sym (append-nil lists))
    ∙ members_total w g f plain 0 [] (subst (Each (IsFair g)) order fair)
    ∙ ap (λ ls. total (weight_of w g f) (arrays_among ls)) (sym order)
    in
    let each : Each (λ l. weight_of bytes_held g f l ≡ total (row_bytes g) (reached_through g l)) (arrays_of g) =
    each_filter
    (λ l. weight_of bytes_held g f l ≡ total (row_bytes g) (reached_through g l))
    (λ l. is_array l.shape)
    (leaves p.toc plain)
    (each_both
    (IsFair g)
    (λ l. leaf_of g.leaves l.entry ≡ Some l)
    (λ l. is_array l.shape ≡ true → weight_of bytes_held g f l ≡ total (row_bytes g) (reached_through g l))
    (λ l h found it. leaf_total g l found (h.rows it))
    (leaves p.toc plain)
    fair
    (leaves_found p.toc plain))
    in (
      sym (total_one lists)
          ∙ weights (λ l. 1)
          ∙ sym (total_flat (λ r. 1) (numbers_of g) (arrays_of g))
          ∙ total_one (numbers g),
      total_is bytes_held lists
          ∙ weights bytes_held
          ∙ total_same (weight_of bytes_held g f) (λ l. total (row_bytes g) (reached_through g l)) (arrays_of g) each
          ∙ sym (total_flat (row_bytes g) (reached_through g) (arrays_of g))
          ∙ sym (total_is (row_bytes g) (reached g)),
    )

-- where none of the rules 9 and 13 to 17 is broken
pub start_size : (p : Parts) (plain : Members) → AreShapes p.toc plain → ((e : ℕ) → Broken p (Table (Place e)) → ⊥) → KeepsRows p → start_footprint p (all_with_strides (stride_of (ground p plain)) 0 plain) (group_of (values_among (ground p plain) plain 0 0)) ≡ start_bytes p plain
start_size p plain shapes place rules =
    let g = ground p plain in
    let f = stride_of g in
    let ss = all_with_strides f 0 plain in
    let vars = group_of (values_among g plain 0 0) in
    let lists = lists_among g f plain 0 0 in
    let order : leaves p.toc plain ≡ leaves_among p.toc plain 0 [] = leaves_are p.toc plain (size_of_table p.toc plain shapes.spelled) in
    let kept = are_kept p plain shapes order rules in
    let reads = reads_from p f plain shapes place kept in
    let found = lists_found p plain shapes place kept in
    let rows = rows_with_strides p f plain shapes in
    let many : lists_in vars ≡ length (numbers g) = lists_counted g.memory ss vars lists reads ∙ found.0 in
    let bytes : list_bytes (Cluster ss) vars ≡ sum_by (row_bytes g) (reached g) = lists_sized g.memory ss vars lists reads ∙ found.1 in
    ap₂ (λ (n k : ℕ). round4 p.header.static_size + round4 (10 * max n (k + 1)) + list_bytes (Cluster ss) vars) rows many
    ∙ ap (λ n. round4 p.header.static_size + round4 (10 * max (file_rows p plain) (length (numbers g) + 1)) + n) bytes

-- the start that is found
pub found_start : (p : Parts) (plain : Members) → AreShapes p.toc plain → ((e : ℕ) → Broken p (Table (Place e)) → ⊥) → KeepsRows p → StartsAs p (all_with_strides (stride_of (ground p plain)) 0 plain) (group_of (values_among (ground p plain) plain 0 0))
found_start p plain shapes place rules =
    let g = ground p plain in
    let f = stride_of g in
    let order : leaves p.toc plain ≡ leaves_among p.toc plain 0 [] = leaves_are p.toc plain (size_of_table p.toc plain shapes.spelled) in
    let reads = reads_from p f plain shapes place (are_kept p plain shapes order rules) in
    let ss = all_with_strides f 0 plain in
    let vars = group_of (values_among g plain 0 0) in
    let lists = lists_among g f plain 0 0 in
    record {
      shapes = record { plain = plain; shapes = shapes; strides = refl };
      lists = lists;
      reads = subst (λ m. ReadsAs m ss vars lists) (sym (memory_with_strides p f plain shapes.strides)) reads;
    }

-- whatever values they start as
pub size_at_start : (p : Parts) (plain : Members) → AreShapes p.toc plain → ((e : ℕ) → Broken p (Table (Place e)) → ⊥) → KeepsRows p → (ss : Members) (vars : Value) → StartsAs p ss vars → start_footprint p ss vars ≡ start_bytes p plain
size_at_start p plain shapes place rules ss vars starts_so =
    let g = ground p plain in
    let qs = all_with_strides (stride_of g) 0 plain in
    let found = group_of (values_among g plain 0 0) in
    let start : StartsAs p qs found = found_start p plain shapes place rules in
    let same = one_start p ss qs vars found starts_so start in
    ap (λ ts. start_footprint p ts vars) same.0
    ∙ ap (start_footprint p qs) same.1
    ∙ start_size p plain shapes place rules

-- so the pool is passed where these bytes are too many, and the fault tells them
pub passes_pool : (p : Parts) (plain : Members) → AreShapes p.toc plain → ((e : ℕ) → Broken p (Table (Place e)) → ⊥) → KeepsRows p → pool_size < start_bytes p plain → Broken p (PoolPassed (start_bytes p plain))
passes_pool p plain shapes place rules more =
    let passed : PassesPool p (start_bytes p plain) = record {
      shapes = all_with_strides (stride_of (ground p plain)) 0 plain;
      vars = group_of (values_among (ground p plain) plain 0 0);
      starts = found_start p plain shapes place rules;
      size_is = sym (start_size p plain shapes place rules);
      passed = more;
    } in
    passed

pub pool_passed : (p : Parts) (plain : Members) → AreShapes p.toc plain → ((e : ℕ) → Broken p (Table (Place e)) → ⊥) → KeepsRows p → (size : ℕ) → Broken p (PoolPassed size) → (size ≡ start_bytes p plain) × (pool_size < size)
pool_passed p plain shapes place rules size broken =
    let b : PassesPool p size = broken in
    (b.size_is ∙ size_at_start p plain shapes place rules b.shapes b.vars b.starts, b.passed)
