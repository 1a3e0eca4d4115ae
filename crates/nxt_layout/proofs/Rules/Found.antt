-- What the passes find is broken, and an accepted file has its layout.
use Rattle.std.proofs.Common.{map, ◌≡◌, ℕ, ◌<◌, List, refl, sym, ap, ◌∙◌, subst, Bool, true, false, ◌⊎◌, inl, inr, ⊎_elim, Option, Some, None, ltb-true}
use Rattle.std.specs.Prelude.{nat_lt, slice_index, IsTrue, if◌then◌else◌}
use Rattle.nxt_types.specs.Refusals.{passes, comes_first, IsRefusal, IsAccepted}
use Rattle.nxt_types.specs.Shapes.{Members}
use Rattle.nxt_rxe.specs.declared.parts.Parts.{Parts}
use Rattle.nxt_model.specs.Values.{group_of}
use Rattle.nxt_types.specs.Pool.{pool_size}
use Rattle.nxt_table.specs.declared.fault.TableFault.{TableFault}
use Rattle.nxt_table.specs.declared.fault.TableFault.TheVariants as table
use Rattle.nxt_table.specs.Leaves.{leaf_of, AreShapes}
use Rattle.nxt_table.specs.Strides.{all_with_strides}
use Rattle.nxt_table.specs.TableRules as table_rules
use Rattle.nxt_table.specs.Inside.Checks.{bytes_of_parts}
use Rattle.nxt_table.specs.KeptTables.{KeepsTable}
use Rattle.nxt_table.proofs.Laws.Passes.{option_or, by_pass, nothing}
use Rattle.nxt_layout.specs.declared.fault.LayoutFault.{LayoutFault}
use Rattle.nxt_layout.specs.declared.fault.LayoutFault.TheVariants.{Table, RowZero, RowIndex, RowShared, Stride, RowPlace, RowOverlap, PoolPassed, NoMemory}
use Rattle.nxt_layout.specs.Rows.{Ground, arrays_of}
use Rattle.nxt_layout.specs.Inside.RowPasses.{told, HaveStrides}
use Rattle.nxt_layout.specs.Start.{ground, stride_of, StartsAs}
use Rattle.nxt_layout.specs.LayoutRules.{Broken, rank, of_table, lacks_table, names_no_row, is_shared, is_missstrided, is_row_misplaced, rows_share_a_byte}
use Rattle.nxt_layout.specs.Layouts.{layout_of}
use Rattle.nxt_layout.specs.Inside.Passes.{IsFound, overlap_fault, ground_in, arrays_in, rows_in_file, size_of_start, pool_fault, row_fault}
use Rattle.nxt_layout.proofs.Start.ValueAt.{values_among}
use Rattle.nxt_layout.proofs.Start.RulesKept.{KeepsRows}
use Rattle.nxt_layout.proofs.Start.Size.{start_bytes, found_start, passes_pool}
use Rattle.nxt_layout.proofs.Rules.Rows.{rows_read, arrays_rise, beyond_at, beyond_first, shared_at, shared_first}
use Rattle.nxt_layout.proofs.Rules.RowBytes.{misstrided_at, misstrided_first, misplaced_at, misplaced_first, sharing_at, sharing_first}
use Rattle.nxt_layout.proofs.Start.ByPasses.{size_same, layout_same}
use Rattle.nxt_layout.proofs.Rules.FirstBroken.{table_refused, on_ground, first_fault, sharing_pass, row_place_pass, stride_pass, shared_pass, index_pass, NoRowFault, keeps_rules, finds}

-- ---- what is found is broken

by_rows : (P : LayoutFault → Type 0) (o : Option (ℕ × ℕ)) (f : LayoutFault) → overlap_fault o ≡ Some f → ((w : ℕ × ℕ) → o ≡ Some w → P (RowOverlap w.0 w.1)) → P f
by_rows P None f e here = cc
by_rows P (Some w) f e here = let same : RowOverlap w.0 w.1 ≡ f = cc in subst P same (here w refl)

-- what the passes over rows find on the ground of the table's shapes
index_broken : (p : Parts) (f : LayoutFault) (ss : Members) → AreShapes p.toc ss → index_pass (ground p ss) ≡ Some f → Broken p f
index_broken p f ss h e =
    let g = ground p ss in
    by_pass (Broken p) RowIndex (beyond_at g) (shared_pass g) f e
    (λ w k. on_ground p ss (λ g. passes (names_no_row g) (leaf_of (arrays_of g) w)) h (λ kept. kept.index w) ((beyond_first g (arrays_rise p ss)).here w k)) (λ i e2.
    by_pass (Broken p) RowShared (shared_at g) (stride_pass g) f e2
    (λ w k. on_ground p ss (λ g. is_shared g w) h (λ kept. kept.shared w) ((shared_first g).here w k)) (λ j e3.
    by_pass (Broken p) Stride (misstrided_at g) (row_place_pass g) f e3
    (λ w k. on_ground p ss (λ g. is_missstrided g w) h (λ kept. kept.stride w) ((misstrided_first g).here w k)) (λ s e4.
    by_pass (Broken p) RowPlace (misplaced_at g) (sharing_pass g) f e4
    (λ w k. on_ground p ss (λ g. is_row_misplaced g w) h (λ kept. kept.placed w) ((misplaced_first g).here w k)) (λ m e5.
    by_rows (Broken p) (sharing_at g) f e5
    (λ w k. on_ground p ss (λ g. rows_share_a_byte g w.0 w.1) h (λ kept. kept.apart w.0 w.1) ((sharing_first g).here w k))))))

row_broken : (p : Parts) (f : LayoutFault) → KeepsTable p → row_fault p ≡ Some f → Broken p f
row_broken p f h e = at (lacks_table p h.shapes) refl (sym (rows_read p h.shapes h.spelled) ∙ e)
  where
    at : (b : Bool) → lacks_table p h.shapes ≡ b → (if b then Some RowZero else index_pass (ground p h.shapes)) ≡ Some f → Broken p f
    at true t s = let same : RowZero ≡ f = cc in subst (Broken p) same (h.shapes, h.spelled, t)
    at false t s = index_broken p f h.shapes h.spelled s

no_sharing : (o : Option (ℕ × ℕ)) → overlap_fault o ≡ None → o ≡ None
no_sharing None e = refl
no_sharing (Some w) e = cc

no_row_fault : (g : Ground) → index_pass g ≡ None → NoRowFault g
no_row_fault g e =
    let a = nothing RowIndex (beyond_at g) (shared_pass g) e in
    let b = nothing RowShared (shared_at g) (stride_pass g) a.1 in
    let c = nothing Stride (misstrided_at g) (row_place_pass g) b.1 in
    let d = nothing RowPlace (misplaced_at g) (sharing_pass g) c.1 in
    record { index = a.0; shared = b.0; stride = c.0; placed = d.0; apart = no_sharing (sharing_at g) d.1 }

-- where the rows have no fault, no rule of them is broken
pub keeps_rows : (p : Parts) (ss : Members) → AreShapes p.toc ss → row_fault p ≡ None → KeepsRows p
keeps_rows p ss h e = at (lacks_table p ss) (sym (rows_read p ss h) ∙ e)
  where
    at : (b : Bool) → (if b then Some RowZero else index_pass (ground p ss)) ≡ None → KeepsRows p
    at true s = cc
    at false s = keeps_rules p ss h (no_row_fault (ground p ss) s)

pool_broken : (p : Parts) (f : LayoutFault) → KeepsTable p → row_fault p ≡ None → pool_fault p ≡ Some f → Broken p f
pool_broken p f h r e = at (nat_lt pool_size (size_of_start p)) refl e
  where
    at : (b : Bool) → nat_lt pool_size (size_of_start p) ≡ b → (if b then Some (PoolPassed (size_of_start p)) else None) ≡ Some f → Broken p f
    at true t s =
        let rules = keeps_rows p h.shapes h.spelled r in
        let size : size_of_start p ≡ start_bytes p h.shapes = size_same p h.shapes h.spelled rules in
        let more : pool_size < start_bytes p h.shapes = subst (λ n. pool_size < n) size (ltb-true pool_size (size_of_start p) t) in
        let same : PoolPassed (size_of_start p) ≡ f = cc in
        subst (Broken p) (sym (ap PoolPassed size) ∙ same) (passes_pool p h.shapes h.spelled (λ e. h.rules (table.Place e)) rules more)
    at false t s = cc

-- ---- refusals

refused : (p : Parts) (f : LayoutFault) → KeepsTable p → first_fault p ≡ Some f → Broken p f → IsRefusal (Broken p) rank f
refused p f h e b =
    record {
      broken = b;
      least = λ g c.
          let x = finds p h g c in
          let s : Some x.fault ≡ Some f = sym x.found ∙ e in
          let same : x.fault ≡ f = cc in
          subst (λ q. IsTrue (comes_first (rank q) (rank g))) same x.order;
    }

-- what the pass over the pool finds, where those over rows find no fault
past_rows_none : (p : Parts) → row_fault p ≡ None → first_fault p ≡ pool_fault p
past_rows_none p r = ap (λ o. option_or o (pool_fault p)) r

pub row_refused : (p : Parts) (f : LayoutFault) → KeepsTable p → row_fault p ≡ Some f → IsRefusal (Broken p) rank f
row_refused p f h e = refused p f h (ap (λ o. option_or o (pool_fault p)) e) (row_broken p f h e)

pub pool_refused : (p : Parts) (f : LayoutFault) → KeepsTable p → row_fault p ≡ None → pool_fault p ≡ Some f → IsRefusal (Broken p) rank f
pool_refused p f h r e = refused p f h (past_rows_none p r ∙ e) (pool_broken p f h r e)

-- ---- accepted files

pub accepted : (p : Parts) → KeepsTable p → row_fault p ≡ None → pool_fault p ≡ None → IsAccepted (Broken p)
accepted p h r e g b =
    let x = finds p h g b in
    let s : None ≡ Some x.fault = sym (past_rows_none p r ∙ e) ∙ x.found in cc

-- the layout that the passes give is the file's
pub laid_out : (p : Parts) (h : KeepsTable p) → row_fault p ≡ None → (strides : List ℕ) → HaveStrides strides (map (told (ground_in p)) (arrays_in p)) →
    StartsAs p (all_with_strides (stride_of (ground p h.shapes)) 0 h.shapes) (group_of (values_among (ground p h.shapes) h.shapes 0 0))
    × (record { entries = p.toc; shapes = all_with_strides (slice_index strides) 0 h.shapes; dataspace = bytes_of_parts p; static_size = p.header.static_size; dope_at = p.header.dope_at; rows = rows_in_file p; footprint = size_of_start p }
    ≡ layout_of p (all_with_strides (stride_of (ground p h.shapes)) 0 h.shapes) (group_of (values_among (ground p h.shapes) h.shapes 0 0)))
laid_out p h r strides have =
    let place : (e : ℕ) → Broken p (Table (table.Place e)) → ⊥ = λ e. h.rules (table.Place e) in
    let rules = keeps_rows p h.shapes h.spelled r in
    (found_start p h.shapes h.spelled place rules, layout_same p h.shapes h.spelled place rules strides have)

-- ---- answers

-- a fault of the table, or of the rows, or want of memory
pub table_answer : (p : Parts) (f : TableFault) → (f ≡ table.NoMemory) ⊎ IsRefusal (table_rules.Broken p) table_rules.rank f → (of_table f ≡ NoMemory) ⊎ IsRefusal (Broken p) rank (of_table f)
table_answer p f (inl e) = inl (ap of_table e)
table_answer p table.NoMemory (inr h) = inl refl
table_answer p (table.TypeCode e) (inr h) = inr (table_refused p (table.TypeCode e) h)
table_answer p (table.TypeOpen e) (inr h) = inr (table_refused p (table.TypeOpen e) h)
table_answer p (table.Depth e) (inr h) = inr (table_refused p (table.Depth e) h)
table_answer p (table.MutexInside e) (inr h) = inr (table_refused p (table.MutexInside e) h)
table_answer p (table.Place e) (inr h) = inr (table_refused p (table.Place e) h)
table_answer p (table.Overlap d e) (inr h) = inr (table_refused p (table.Overlap d e) h)
table_answer p (table.DefaultsShort e) (inr h) = inr (table_refused p (table.DefaultsShort e) h)

pub row_answer : (p : Parts) (f : LayoutFault) → KeepsTable p → IsFound (row_fault p) f → (f ≡ NoMemory) ⊎ IsRefusal (Broken p) rank f
row_answer p f h found = ⊎_elim (λ e. inl e) (λ e. inr (row_refused p f h e)) found
