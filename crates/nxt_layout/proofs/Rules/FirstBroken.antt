-- Where the table breaks no rule, the passes over rows and pool find the first broken rule at its least place.
use Rattle.std.proofs.Common.{◌≡◌, ℕ, ◌<◌, ◌≤◌, List, [], ◌∷◌, refl, sym, ap, ◌∙◌, subst, arith, Bool, true, false, inl, inr, Option, Some, None, true≢false, lt-ltb}
use Rattle.std.proofs.lemmas.Bool.{and_parts, and_from, cases_Bool}
use Rattle.std.specs.Prelude.{nat_lt, IsTrue, if◌then◌else◌}
use Rattle.nxt_types.specs.Refusals.{passes, comes_first, IsRefusal}
use Rattle.nxt_types.specs.Shapes.{Members, some_list}
use Rattle.nxt_rxe.specs.declared.parts.Parts.{Parts}
use Rattle.nxt_types.specs.Pool.{pool_size}
use Rattle.nxt_table.specs.declared.fault.TableFault.{TableFault}
use Rattle.nxt_table.specs.declared.fault.TableFault.TheVariants as table
use Rattle.nxt_table.specs.Leaves.{leaf_of, AreShapes}
use Rattle.nxt_table.specs.TableRules as table_rules
use Rattle.nxt_table.specs.TableRules.{OfShapes}
use Rattle.nxt_table.specs.Inside.Checks.{fault_or}
use Rattle.nxt_table.specs.KeptTables.{KeepsTable}
use Rattle.nxt_table.proofs.Laws.StrideFree.{size_of_table}
use Rattle.nxt_table.proofs.Laws.Passes.{Finds, option_or, past, same_rule, first_more, later_rule}
use Rattle.nxt_table.proofs.Laws.FirstBroken.{of_shapes}
use Rattle.nxt_layout.specs.declared.fault.LayoutFault.{LayoutFault}
use Rattle.nxt_layout.specs.declared.fault.LayoutFault.TheVariants.{Table, RowZero, RowIndex, RowShared, Stride, RowPlace, RowOverlap, PoolPassed, NoMemory}
use Rattle.nxt_layout.specs.Rows.{Ground, arrays_of}
use Rattle.nxt_layout.specs.Start.{ground}
use Rattle.nxt_layout.specs.LayoutRules.{Broken, rank, of_rows, lacks_table, names_no_row, is_shared, is_missstrided, is_row_misplaced, rows_share_a_byte}
use Rattle.nxt_layout.specs.Inside.Passes.{overlap_fault, size_of_start, pool_fault, row_fault}
use Rattle.nxt_layout.proofs.Start.LeafOrder.{leaves_are}
use Rattle.nxt_layout.proofs.Start.RulesKept.{AreKept, KeepsRows, kept_without_list}
use Rattle.nxt_layout.proofs.Start.Size.{pool_passed}
use Rattle.nxt_layout.proofs.Rules.Rows.{rows_read, arrays_rise, beyond_at, beyond_first, shared_at, shared_first}
use Rattle.nxt_layout.proofs.Rules.RowBytes.{misstrided_at, misstrided_first, misplaced_at, misplaced_first, sharing_at, sharing_first}
use Rattle.nxt_layout.proofs.Start.ByPasses.{size_same}

-- ---- faults of the table

-- each comes before those of rows and of the pool
pub table_first : (p : Parts) (f : TableFault) → table_rules.Broken p f → (k : ℕ) (place : List ℕ) → 12 ≤ k → IsTrue (comes_first (table_rules.rank f) (k ∷ place))
table_first p (table.TypeCode e) b k place from = later_rule k place 5 (e ∷ []) (omega (arith, from))
table_first p (table.TypeOpen e) b k place from = later_rule k place 6 (e ∷ []) (omega (arith, from))
table_first p (table.Depth e) b k place from = later_rule k place 7 (e ∷ []) (omega (arith, from))
table_first p (table.MutexInside e) b k place from = later_rule k place 8 (e ∷ []) (omega (arith, from))
table_first p (table.Place e) b k place from = later_rule k place 9 (e ∷ []) (omega (arith, from))
table_first p (table.Overlap d e) b k place from = later_rule k place 10 (d ∷ e ∷ []) (omega (arith, from))
table_first p (table.DefaultsShort e) b k place from = later_rule k place 11 (e ∷ []) (omega (arith, from))
table_first p table.NoMemory b k place from = absurd b

pub least_of_all : (p : Parts) (f : TableFault) → IsRefusal (table_rules.Broken p) table_rules.rank f → (g : LayoutFault) → Broken p g → IsTrue (comes_first (table_rules.rank f) (rank g))
least_of_all p f h (Table g) b = h.least g b
least_of_all p f h RowZero b = table_first p f h.broken 12 [] (omega arith)
least_of_all p f h (RowIndex e) b = table_first p f h.broken 13 (e ∷ []) (omega arith)
least_of_all p f h (RowShared r) b = table_first p f h.broken 14 (r ∷ []) (omega arith)
least_of_all p f h (Stride r) b = table_first p f h.broken 15 (r ∷ []) (omega arith)
least_of_all p f h (RowPlace r) b = table_first p f h.broken 16 (r ∷ []) (omega arith)
least_of_all p f h (RowOverlap q r) b = table_first p f h.broken 17 (q ∷ r ∷ []) (omega arith)
least_of_all p f h (PoolPassed size) b = table_first p f h.broken 18 (size ∷ []) (omega arith)
least_of_all p f h NoMemory b = absurd b

pub table_refused : (p : Parts) (f : TableFault) → IsRefusal (table_rules.Broken p) table_rules.rank f → IsRefusal (Broken p) rank (Table f)
table_refused p f h = record { broken = h.broken; least = least_of_all p f h }

-- ---- tests of rows

-- a test of the file's rows, of those of the table's shapes
pub of_ground : (p : Parts) (ss : Members) (test : Ground → Bool) → AreShapes p.toc ss → OfShapes p (of_rows p test) → test (ground p ss) ≡ true
of_ground p ss test h o = (and_parts (some_list ss) (test (ground p ss)) (of_shapes p ss (of_rows p test) h o)).1

-- what a test of rows finds is there, for where there is no list it finds nothing
pub on_ground : (p : Parts) (ss : Members) (test : Ground → Bool) → AreShapes p.toc ss → (AreKept (ground p ss) → test (ground p ss) ≡ false) → test (ground p ss) ≡ true → OfShapes p (of_rows p test)
on_ground p ss test h kept t =
    elim (cases_Bool (some_list ss)) [
      | inl some ↦ (ss, h, and_from (some_list ss) (test (ground p ss)) some t)
      | inr none ↦ absurd (true≢false (sym t ∙ kept (kept_without_list p ss (leaves_are p.toc ss (size_of_table p.toc ss h.spelled)) none)))
    ]

-- ---- in order

-- the passes over rows, and that over the pool
abbrev pub first_fault : Parts → Option LayoutFault
first_fault p = option_or (row_fault p) (pool_fault p)

pub past_rows : (o : Option (ℕ × ℕ)) (later : Option LayoutFault) (g : LayoutFault) → ((w : ℕ × ℕ) → o ≡ Some w → IsTrue (comes_first (rank (RowOverlap w.0 w.1)) (rank g))) →
    (o ≡ None → Finds rank later g) → Finds rank (option_or (overlap_fault o) later) g
past_rows None later g before next = next refl
past_rows (Some w) later g before next = record { fault = RowOverlap w.0 w.1; found = refl; order = before w refl }

-- ---- the passes over rows

abbrev pub sharing_pass : Ground → Option LayoutFault
sharing_pass g = overlap_fault (sharing_at g)

abbrev pub row_place_pass : Ground → Option LayoutFault
row_place_pass g = fault_or RowPlace (misplaced_at g) (sharing_pass g)

abbrev pub stride_pass : Ground → Option LayoutFault
stride_pass g = fault_or Stride (misstrided_at g) (row_place_pass g)

abbrev pub shared_pass : Ground → Option LayoutFault
shared_pass g = fault_or RowShared (shared_at g) (stride_pass g)

abbrev pub index_pass : Ground → Option LayoutFault
index_pass g = fault_or RowIndex (beyond_at g) (shared_pass g)

-- none of them finds a fault
pub record NoRowFault (g : Ground) : Type 0 where
  pub index : beyond_at g ≡ None
  pub shared : shared_at g ≡ None
  pub stride : misstrided_at g ≡ None
  pub placed : misplaced_at g ≡ None
  pub apart : sharing_at g ≡ None

-- past these passes
module _ (g : Ground) (pool : Option LayoutFault) (f : LayoutFault) where
  past_index : ((w : ℕ) → beyond_at g ≡ Some w → IsTrue (comes_first (13 ∷ w ∷ []) (rank f))) →
      (beyond_at g ≡ None → Finds rank (option_or (shared_pass g) pool) f) → Finds rank (option_or (index_pass g) pool) f
  past_index before next = past rank RowIndex (beyond_at g) (shared_pass g) pool f before next

  past_shared : ((w : ℕ) → shared_at g ≡ Some w → IsTrue (comes_first (14 ∷ w ∷ []) (rank f))) →
      (shared_at g ≡ None → Finds rank (option_or (stride_pass g) pool) f) → Finds rank (option_or (shared_pass g) pool) f
  past_shared before next = past rank RowShared (shared_at g) (stride_pass g) pool f before next

  past_stride : ((w : ℕ) → misstrided_at g ≡ Some w → IsTrue (comes_first (15 ∷ w ∷ []) (rank f))) →
      (misstrided_at g ≡ None → Finds rank (option_or (row_place_pass g) pool) f) → Finds rank (option_or (stride_pass g) pool) f
  past_stride before next = past rank Stride (misstrided_at g) (row_place_pass g) pool f before next

  past_row_place : ((w : ℕ) → misplaced_at g ≡ Some w → IsTrue (comes_first (16 ∷ w ∷ []) (rank f))) →
      (misplaced_at g ≡ None → Finds rank (option_or (sharing_pass g) pool) f) → Finds rank (option_or (row_place_pass g) pool) f
  past_row_place before next = past rank RowPlace (misplaced_at g) (sharing_pass g) pool f before next

  past_sharing : ((w : ℕ × ℕ) → sharing_at g ≡ Some w → IsTrue (comes_first (17 ∷ w.0 ∷ w.1 ∷ []) (rank f))) →
      (sharing_at g ≡ None → Finds rank pool f) → Finds rank (option_or (sharing_pass g) pool) f
  past_sharing before next = past_rows (sharing_at g) pool f before next

pub past_zero : (p : Parts) (h : KeepsTable p) (f : LayoutFault) → IsTrue (comes_first (12 ∷ []) (rank f)) → (lacks_table p h.shapes ≡ false → Finds rank (option_or (index_pass (ground p h.shapes)) (pool_fault p)) f) → Finds rank (first_fault p) f
past_zero p h f before next =
    subst (λ o. Finds rank (option_or o (pool_fault p)) f) (sym (rows_read p h.shapes h.spelled)) (at (lacks_table p h.shapes) refl)
  where
    at : (b : Bool) → lacks_table p h.shapes ≡ b → Finds rank (option_or (if b then Some RowZero else index_pass (ground p h.shapes)) (pool_fault p)) f
    at true e = record { fault = RowZero; found = refl; order = before }
    at false e = next e

pub found_zero : (p : Parts) (h : KeepsTable p) → Broken p RowZero → Finds rank (first_fault p) RowZero
found_zero p h b =
    let t : lacks_table p h.shapes ≡ true = of_shapes p h.shapes (lacks_table p) h.spelled b in
    past_zero p h RowZero refl (λ z. absurd (true≢false (sym t ∙ z)))

pub found_index : (p : Parts) (h : KeepsTable p) (v : ℕ) → Broken p (RowIndex v) → Finds rank (first_fault p) (RowIndex v)
found_index p h v b =
    let g = ground p h.shapes in
    let first = beyond_first g (arrays_rise p h.shapes) in
    let t : passes (names_no_row g) (leaf_of (arrays_of g) v) ≡ true =
    of_ground p h.shapes (λ g. passes (names_no_row g) (leaf_of (arrays_of g) v)) h.spelled b in
    past_zero p h (RowIndex v) refl (λ z.
    past_index g (pool_fault p) (RowIndex v) (λ w e. same_rule 13 w v (first.least w v e t)) (λ e. absurd (first.none v e t)))

pub found_shared : (p : Parts) (h : KeepsTable p) (v : ℕ) → Broken p (RowShared v) → Finds rank (first_fault p) (RowShared v)
found_shared p h v b =
    let g = ground p h.shapes in
    let first = shared_first g in
    let t : is_shared g v ≡ true = of_ground p h.shapes (λ g. is_shared g v) h.spelled b in
    past_zero p h (RowShared v) refl (λ z. past_index g (pool_fault p) (RowShared v) (λ w e. refl) (λ i.
    past_shared g (pool_fault p) (RowShared v) (λ w e. same_rule 14 w v (first.least w v e t)) (λ e. absurd (first.none v e t))))

pub found_stride : (p : Parts) (h : KeepsTable p) (v : ℕ) → Broken p (Stride v) → Finds rank (first_fault p) (Stride v)
found_stride p h v b =
    let g = ground p h.shapes in
    let first = misstrided_first g in
    let t : is_missstrided g v ≡ true = of_ground p h.shapes (λ g. is_missstrided g v) h.spelled b in
    past_zero p h (Stride v) refl (λ z. past_index g (pool_fault p) (Stride v) (λ w e. refl) (λ i. past_shared g (pool_fault p) (Stride v) (λ w e. refl) (λ j.
    past_stride g (pool_fault p) (Stride v) (λ w e. same_rule 15 w v (first.least w v e t)) (λ e. absurd (first.none v e t)))))

pub found_row_place : (p : Parts) (h : KeepsTable p) (v : ℕ) → Broken p (RowPlace v) → Finds rank (first_fault p) (RowPlace v)
found_row_place p h v b =
    let g = ground p h.shapes in
    let first = misplaced_first g in
    let t : is_row_misplaced g v ≡ true = of_ground p h.shapes (λ g. is_row_misplaced g v) h.spelled b in
    past_zero p h (RowPlace v) refl (λ z. past_index g (pool_fault p) (RowPlace v) (λ w e. refl) (λ i. past_shared g (pool_fault p) (RowPlace v) (λ w e. refl) (λ j.
    past_stride g (pool_fault p) (RowPlace v) (λ w e. refl) (λ k.
    past_row_place g (pool_fault p) (RowPlace v) (λ w e. same_rule 16 w v (first.least w v e t)) (λ e. absurd (first.none v e t))))))

pub found_row_overlap : (p : Parts) (h : KeepsTable p) (u v : ℕ) → Broken p (RowOverlap u v) → Finds rank (first_fault p) (RowOverlap u v)
found_row_overlap p h u v b =
    let g = ground p h.shapes in
    let first = sharing_first g in
    let t : rows_share_a_byte g u v ≡ true = of_ground p h.shapes (λ g. rows_share_a_byte g u v) h.spelled b in
    past_zero p h (RowOverlap u v) refl (λ z. past_index g (pool_fault p) (RowOverlap u v) (λ w e. refl) (λ i. past_shared g (pool_fault p) (RowOverlap u v) (λ w e. refl) (λ j.
    past_stride g (pool_fault p) (RowOverlap u v) (λ w e. refl) (λ k. past_row_place g (pool_fault p) (RowOverlap u v) (λ w e. refl) (λ m.
    past_sharing g (pool_fault p) (RowOverlap u v) (λ w e. first_more 17 w.0 w.1 u v (first.least w u v e t)) (λ e. absurd (first.none u v e t)))))))

-- ---- the start

-- where the passes over rows find no fault, no rule of rows is broken
pub keeps_rules : (p : Parts) (ss : Members) → AreShapes p.toc ss → NoRowFault (ground p ss) → KeepsRows p
keeps_rules p ss h none =
    let g = ground p ss in
    record {
      index = λ e b. (beyond_first g (arrays_rise p ss)).none e none.index (of_ground p ss (λ g. passes (names_no_row g) (leaf_of (arrays_of g) e)) h b);
      shared = λ r b. (shared_first g).none r none.shared (of_ground p ss (λ g. is_shared g r) h b);
      stride = λ r b. (misstrided_first g).none r none.stride (of_ground p ss (λ g. is_missstrided g r) h b);
      placed = λ r b. (misplaced_first g).none r none.placed (of_ground p ss (λ g. is_row_misplaced g r) h b);
      apart = λ q r b. (sharing_first g).none q r none.apart (of_ground p ss (λ g. rows_share_a_byte g q r) h b);
    }

pub found_passed : (p : Parts) (h : KeepsTable p) (size : ℕ) → Broken p (PoolPassed size) → Finds rank (first_fault p) (PoolPassed size)
found_passed p h size b =
    let g = ground p h.shapes in
    past_zero p h (PoolPassed size) refl (λ z. past_index g (pool_fault p) (PoolPassed size) (λ w e. refl) (λ i. past_shared g (pool_fault p) (PoolPassed size) (λ w e. refl) (λ j.
    past_stride g (pool_fault p) (PoolPassed size) (λ w e. refl) (λ k. past_row_place g (pool_fault p) (PoolPassed size) (λ w e. refl) (λ m.
    past_sharing g (pool_fault p) (PoolPassed size) (λ w e. refl) (λ a.
    at (record { index = i; shared = j; stride = k; placed = m; apart = a })))))))
  where
    at : NoRowFault (ground p h.shapes) → Finds rank (pool_fault p) (PoolPassed size)
    at none =
        let rules = keeps_rules p h.shapes h.spelled none in
        let x = pool_passed p h.shapes h.spelled (λ e. h.rules (table.Place e)) rules size b in
        let same : size ≡ size_of_start p = x.0 ∙ sym (size_same p h.shapes h.spelled rules) in
        let t : nat_lt pool_size (size_of_start p) ≡ true = lt-ltb pool_size (size_of_start p) (subst (λ n. pool_size < n) same x.1) in
        record {
          fault = PoolPassed (size_of_start p);
          found = ap (λ q. if q then Some (PoolPassed (size_of_start p)) else None) t;
          order = same_rule 18 (size_of_start p) size (equal_le (size_of_start p) size (sym same));
        }
      where
        equal_le : (a b : ℕ) → a ≡ b → a ≤ b
        equal_le a b e = omega (arith, e)

-- where a rule is broken, the passes find one that comes first
pub finds : (p : Parts) → KeepsTable p → (g : LayoutFault) → Broken p g → Finds rank (first_fault p) g
finds p h (Table f) b = absurd (h.rules f b)
finds p h RowZero b = found_zero p h b
finds p h (RowIndex e) b = found_index p h e b
finds p h (RowShared r) b = found_shared p h r b
finds p h (Stride r) b = found_stride p h r b
finds p h (RowPlace r) b = found_row_place p h r b
finds p h (RowOverlap q r) b = found_row_overlap p h q r b
finds p h (PoolPassed size) b = found_passed p h size b
finds p h NoMemory b = absurd b
