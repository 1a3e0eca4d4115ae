-- The leaves of an accepted file are apart and fit.
use Rattle.std.proofs.Common.{◌≡◌, ℕ, ◌+◌, ◌<◌, ◌≤◌, inl, inr, Bool, true, false, ◌&&◌, not, nat_lt, List, [], ◌∷◌, fold, max, sum_by, if◌then◌else◌, refl, sym, ap, ◌∙◌, subst, arith, true≢false, lt-ltb, ltb-false}
use Rattle.std.proofs.lemmas.Bool.{and_parts, cases_lt, false_from_ne_true}
use Rattle.nxt_types.specs.Arithmetic.{leaf_size}
use Rattle.nxt_types.specs.Refusals.{IsAccepted, passes}
use Rattle.nxt_types.specs.Shapes.{Shape, Void, Number, Array, Cluster, Mutex, Members, no_members, member, count, is_filled, are_filled}
use Rattle.nxt_types.specs.Names.{size}
use Rattle.nxt_types.specs.declared.kind.Kind.{Kind}
use Rattle.nxt_types.specs.declared.kind.Kind.TheVariants.{Ubyte, Sbyte, Uword, Sword, Ulong, Slong}
use Rattle.nxt_types.specs.declared.shape.TocEntry.{TocEntry}
use Rattle.nxt_rxe.specs.declared.parts.Parts.{Parts}
use Rattle.nxt_types.specs.Pool.{pool_size}
use Rattle.nxt_table.specs.declared.fault.TableFault.TheVariants.{Place, Overlap}
use Rattle.nxt_layout.specs.declared.fault.LayoutFault.TheVariants.{Table, PoolPassed}
use Rattle.nxt_table.specs.Leaves.{Site, sites_in, sites_among, is_void, AreShapes, Leaf, leaves, end_of, is_outside, stands_in, extent}
use Rattle.nxt_layout.specs.LayoutRules.{Broken}
use Rattle.nxt_table.specs.TableRules.{is_misplaced}
use Rattle.nxt_layout.specs.Rows.{Ground, is_array, reached_through, reached}
use Rattle.nxt_layout.specs.Inside.RowPasses.{row_bytes}
use Rattle.nxt_layout.specs.Start.{ground, stride_of, HasShapes}
use Rattle.nxt_table.specs.Strides.{with_strides, all_with_strides}
use Rattle.nxt_facts.proofs.Each.{Each, each_then, each_both, each_apart, each_passes}
use Rattle.nxt_layout.proofs.Start.Leaves.{leaves_in, leaves_among, room, IsFair}
use Rattle.nxt_layout.proofs.Start.LeafOrder.{leaves_are, leaves_found}
use Rattle.nxt_table.proofs.Laws.StrideFree.{size-with_strides, size_of_table}
use Rattle.nxt_layout.proofs.Start.RulesKept.{KeepsRows, are_kept, fair_leaves, keeps_rows}
use Rattle.nxt_layout.proofs.Start.Size.{start_bytes, passes_pool}
use Rattle.nxt_facts.specs.Pairs.{EachPair}
use Rattle.nxt_model.specs.Spans.{AreApart, FitsIn, FitAll, HasSpans}
use Rattle.nxt_facts.proofs.Pairs.{pair_parts}
use Rattle.nxt_layout.proofs.Laws.LeafSpans.{spans-with_strides, all_spans-with_strides, AreBeside, spans_apart, all_spans_apart}
use Rattle.nxt_layout.proofs.Start.Apart.{IsFound, leaves_apart, Suits, array_suits, small_rows}

-- ---- extents

abbrev farther : ℕ → ℕ → Leaf → ℕ
farther a most l = if stands_in a l.arrays then max most (end_of l) else most

no_farther : (b : Bool) (most end n : ℕ) → most ≤ n → (b ≡ true → end ≤ n) → (if b then max most end else most) ≤ n
no_farther true most end n h k = omega (arith, h, k refl)
no_farther false most end n h k = h

within : (a n : ℕ) (ls : List Leaf) → Each (λ l. stands_in a l.arrays ≡ true → end_of l ≤ n) ls → (most : ℕ) → most ≤ n → fold (farther a) most ls ≤ n
within a n [] e most h = h
within a n (l ∷ ls) e most h =
    within a n ls e.1 (farther a most l) (no_farther (stands_in a l.arrays) most (end_of l) n h e.0)

inner_end : (n end a : ℕ) (arrays : List ℕ) → nat_lt (if is_outside arrays then n else pool_size) end ≡ false → stands_in a arrays ≡ true → end ≤ pool_size
inner_end n end a [] e h = absurd (true≢false (sym h))
inner_end n end a (b ∷ around) e h = ltb-false pool_size end e

-- no element is longer than the pool
extents_fit : (p : Parts) (plain : Members) → AreShapes p.toc plain → ((e : ℕ) → Broken p (Table (Place e)) → ⊥) → (a : ℕ) → extent (leaves p.toc plain) a ≤ pool_size
extents_fit p plain shapes rule a =
    let ls = leaves p.toc plain in
    within
    a
    pool_size
    ls
    (each_then
    (IsFound ls)
    (λ l. stands_in a l.arrays ≡ true → end_of l ≤ pool_size)
    (λ l found.
    inner_end
    p.header.static_size
    (end_of l)
    a
    l.arrays
    (false_from_ne_true
    (is_misplaced p.header.static_size l)
    (λ h. rule l.entry (plain, shapes, ap (passes (is_misplaced p.header.static_size)) found ∙ h))))
    ls
    (leaves_found p.toc plain))
    0
    (omega arith)

-- ---- leaves that fit

-- it ends outside, or in its element, and an array's stride suits
record IsFit (g : Ground) (l : Leaf) : Type 0 where
  ends : end_of l ≤ room g l.arrays
  stride : is_array l.shape ≡ true → Suits g l.entry (stride_of g l.entry)

fit_leaves : (g : Ground) → Each (IsFair g) g.leaves → Each (IsFound g.leaves) g.leaves → sum_by (row_bytes g) (reached g) ≤ pool_size → ((a : ℕ) → extent g.leaves a ≤ pool_size) → Each (IsFit g) g.leaves
fit_leaves g fair found less extents =
    each_both
    (λ l. IsFound g.leaves l)
    (λ l. IsFair g l × (is_array l.shape ≡ true → Each (λ r. row_bytes g r ≤ pool_size) (reached_through g l)))
    (IsFit g)
    (λ l a b. let fit : IsFit g l = record { ends = b.0.ends; stride = λ it. array_suits g l a (b.0.rows it) (b.1 it) (extents l.entry) } in fit)
    g.leaves
    found
    (each_both
    (IsFair g)
    (λ l. is_array l.shape ≡ true → Each (λ r. row_bytes g r ≤ pool_size) (reached_through g l))
    (λ l. IsFair g l × (is_array l.shape ≡ true → Each (λ r. row_bytes g r ≤ pool_size) (reached_through g l)))
    (λ l a b. (a, b))
    g.leaves
    fair
    (small_rows g less))

-- ---- elements

-- no void in an array or a cluster
abbrev IsSolid : Site → Type 0
IsSolid t = not (is_void t.shape && nat_lt 0 t.depth) ≡ true

some_bytes : (k : Kind) → 1 ≤ leaf_size k
some_bytes Ubyte = omega arith
some_bytes Sbyte = omega arith
some_bytes Uword = omega arith
some_bytes Sword = omega arith
some_bytes Ulong = omega arith
some_bytes Slong = omega arith

-- an element has some leaf, so it is no shorter than a byte
mutual
  has_leaf : (g : Ground) (table : List TocEntry) (s : Shape) (i depth : ℕ) (arrays : List ℕ) → 0 < depth → Each IsSolid (sites_in s i depth arrays) → is_filled s ≡ true → Each (IsFit g) (leaves_in table s i arrays) → 1 ≤ room g arrays
  has_leaf g table Void i depth arrays inside solid filled fit =
      absurd (true≢false (sym solid.0 ∙ ap not (lt-ltb 0 depth inside)))
  has_leaf g table (Number k) i depth arrays inside solid filled fit = omega (arith, fit.0.ends, some_bytes k)
  has_leaf g table (Array n s) i depth arrays inside solid filled fit = omega (arith, fit.0.ends)
  has_leaf g table (Cluster ss) i depth arrays inside solid filled fit =
      let two = and_parts (nat_lt 0 (count ss)) (are_filled ss) filled in
      has_leaf_among g table ss (i + 1) (depth + 1) arrays (omega arith) solid.1 two.0 two.1 fit
  has_leaf g table Mutex i depth arrays inside solid filled fit = omega (arith, fit.0.ends)

  has_leaf_among : (g : Ground) (table : List TocEntry) (ss : Members) (i depth : ℕ) (arrays : List ℕ) → 0 < depth → Each IsSolid (sites_among ss i depth arrays) → nat_lt 0 (count ss) ≡ true → are_filled ss ≡ true → Each (IsFit g) (leaves_among table ss i arrays) → 1 ≤ room g arrays
  has_leaf_among g table no_members i depth arrays inside solid some filled fit = absurd (true≢false (sym some))
  has_leaf_among g table (member s ss) i depth arrays inside solid some filled fit =
      let sites = each_apart IsSolid (sites_in s i depth arrays) (sites_among ss (i + size s) depth arrays) solid in
      let leaves = each_apart (IsFit g) (leaves_in table s i arrays) (leaves_among table ss (i + size s) arrays) fit in
      has_leaf g table s i depth arrays inside sites.0 (and_parts (is_filled s) (are_filled ss) filled).0 leaves.0

-- ---- shapes

mutual
  shape_fits : (g : Ground) (table : List TocEntry) (s : Shape) (i depth : ℕ) (arrays : List ℕ) (most : ℕ) → room g arrays ≤ most → Each IsSolid (sites_in s i depth arrays) → is_filled s ≡ true → Each (IsFit g) (leaves_in table s i arrays) → EachPair AreBeside (leaves_in table s i arrays) → FitsIn table (with_strides (stride_of g) i s) i most
  shape_fits g table Void i depth arrays most enough solid filled fit apart = tt
  shape_fits g table (Number k) i depth arrays most enough solid filled fit apart = omega (arith, fit.0.ends, enough)
  shape_fits g table (Array n s) i depth arrays most enough solid filled fit apart =
      let f = stride_of g in
      let suits = fit.0.stride refl in
      let some = has_leaf g table s (i + 1) (depth + 1) (i ∷ arrays) (omega arith) solid.1 filled fit.1 in (
        omega (arith, fit.0.ends, enough),
        omega (arith, some, suits.0),
        omega (arith, suits.1),
        subst AreApart (sym (spans-with_strides table f (i + 1) s)) (spans_apart table s (i + 1) (i ∷ arrays) apart.1),
        shape_fits g table s (i + 1) (depth + 1) (i ∷ arrays) (f i) suits.0 solid.1 filled fit.1 apart.1,
      )
  shape_fits g table (Cluster ss) i depth arrays most enough solid filled fit apart =
      all_fit g table ss (i + 1) (depth + 1) arrays most enough solid.1 (and_parts (nat_lt 0 (count ss)) (are_filled ss) filled).1 fit apart
  shape_fits g table Mutex i depth arrays most enough solid filled fit apart = omega (arith, fit.0.ends, enough)

  all_fit : (g : Ground) (table : List TocEntry) (ss : Members) (i depth : ℕ) (arrays : List ℕ) (most : ℕ) → room g arrays ≤ most → Each IsSolid (sites_among ss i depth arrays) → are_filled ss ≡ true → Each (IsFit g) (leaves_among table ss i arrays) → EachPair AreBeside (leaves_among table ss i arrays) → FitAll table (all_with_strides (stride_of g) i ss) i most
  all_fit g table no_members i depth arrays most enough solid filled fit apart = tt
  all_fit g table (member s ss) i depth arrays most enough solid filled fit apart =
      let f = stride_of g in
      let here = leaves_in table s i arrays in
      let rest = leaves_among table ss (i + size s) arrays in
      let sites = each_apart IsSolid (sites_in s i depth arrays) (sites_among ss (i + size s) depth arrays) solid in
      let full = and_parts (is_filled s) (are_filled ss) filled in
      let fits = each_apart (IsFit g) here rest fit in
      let pairs = pair_parts AreBeside here rest apart in (
        shape_fits g table s i depth arrays most enough sites.0 full.0 fits.0 pairs.first,
        subst
            (λ n. FitAll table (all_with_strides f (i + size s) ss) (i + n) most)
            (sym (size-with_strides f i s))
            (all_fit g table ss (i + size s) depth arrays most enough sites.1 full.1 fits.1 pairs.rest),
      )

-- ---- the whole

-- by the rule of the pool, the rows that are reached take no more bytes than the pool has
rows_fit : (p : Parts) (plain : Members) → AreShapes p.toc plain → ((e : ℕ) → Broken p (Table (Place e)) → ⊥) → KeepsRows p → ((size : ℕ) → Broken p (PoolPassed size) → ⊥) → sum_by (row_bytes (ground p plain)) (reached (ground p plain)) ≤ pool_size
rows_fit p plain shapes place rules pool =
    elim (cases_lt pool_size (start_bytes p plain)) [
      | inl more ↦ absurd (pool (start_bytes p plain) (passes_pool p plain shapes place rules more))
      | inr less ↦ omega (arith, less)
    ]

pub accepted_spans : (p : Parts) (ss : Members) → IsAccepted (Broken p) → HasShapes p ss → HasSpans p.toc ss p.header.static_size
accepted_spans p ss accepted has =
    let plain = has.plain in
    let shapes = has.shapes in
    let g = ground p plain in
    let f = stride_of g in
    let place : (e : ℕ) → Broken p (Table (Place e)) → ⊥ = λ e. accepted (Table (Place e)) in
    let rules = keeps_rows p accepted in
    let order : leaves p.toc plain ≡ leaves_among p.toc plain 0 [] = leaves_are p.toc plain (size_of_table p.toc plain shapes.spelled) in
    let fair = fair_leaves p plain shapes place (are_kept p plain shapes order rules) in
    let rows = rows_fit p plain shapes place rules (λ n. accepted (PoolPassed n)) in
    let fit = fit_leaves g fair (leaves_found p.toc plain) rows (extents_fit p plain shapes place) in
    let solid = each_passes (λ t. not (is_void t.shape && nat_lt 0 t.depth)) (sites_among plain 0 0 []) shapes.voids in
    let apart : EachPair AreBeside (leaves_among p.toc plain 0 []) = subst (EachPair AreBeside) order (leaves_apart p plain shapes (λ a b. accepted (Table (Overlap a b)))) in
    let spans : HasSpans p.toc (all_with_strides f 0 plain) p.header.static_size = record {
      apart = subst AreApart (sym (all_spans-with_strides p.toc f 0 plain)) (all_spans_apart p.toc plain 0 [] apart);
      fit = all_fit g p.toc plain 0 0 [] p.header.static_size (omega arith) solid shapes.spelled.filled (subst (Each (IsFit g)) order fit) apart;
    } in
    subst (λ qs. HasSpans p.toc qs p.header.static_size) (sym has.strides) spans
