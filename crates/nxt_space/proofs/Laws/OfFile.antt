-- What an accepted file tells of its variables at the start.
use Rattle.std.proofs.Common.{◌≡◌, ℕ, zero, suc, ◌+◌, ◌*◌, ◌^◌, ◌<◌, ◌≤◌, Bool, true, false, ◌&&◌, not, ◌==◌, nat_le, nat_lt, List, [], ◌∷◌, map, length, if◌then◌else◌, inl, inr, refl, sym, ap, ap₂, ◌∙◌, subst, arith, append-nil, ltb-true}
use Rattle.std.specs.Prelude.{ℤ}
use Rattle.std.specs.List.{list_all}
use Rattle.std.proofs.lemmas.Bool.{and_parts, and_from, cases_lt}
use Rattle.nxt_types.specs.Bytes.{u16_at}
use Rattle.nxt_types.specs.Names.{size, sizes}
use Rattle.nxt_types.specs.Shapes.{Shape, Void, Number, Array, Cluster, Mutex, Members, no_members, member, members, tree, some_list, SpellsAll}
use Rattle.nxt_types.specs.declared.shape.Shape as seen
use Rattle.nxt_types.specs.Tables.{Table}
use Rattle.nxt_rxe.specs.declared.parts.Parts.{Parts}
use Rattle.nxt_model.specs.Values.{Value, GroupOf, values, items, elements, flats, is_of, are_of, lists_in}
use Rattle.nxt_model.specs.Footprint.{footprint, rows_for}
use Rattle.nxt_types.specs.Pool.{pool_size}
use Rattle.nxt_model.specs.Reading.{Memory, HeldList, EachReads, RowReads, Reads, MembersRead, ReadsAs, leaf_place, row_count}
use Rattle.nxt_model.proofs.Laws.Values.{items-values}
use Rattle.nxt_layout.specs.declared.fault.LayoutFault.TheVariants.{RowZero, PoolPassed}
use Rattle.nxt_layout.specs.Start.{memory, ground, stride_of, HasShapes, StartsAs, file_rows, start_footprint}
use Rattle.nxt_table.specs.Leaves.{AreShapes}
use Rattle.nxt_layout.specs.Rows.{row}
use Rattle.nxt_layout.specs.LayoutRules.{Broken, has_table, PassesPool}
use Rattle.nxt_layout.specs.Layouts.{FileLayout, layout_of, IsLayout}
use Rattle.nxt_table.proofs.Laws.StrideFree.{size_of_table}
use Rattle.nxt_layout.proofs.Laws.Rows.{same_rows}
use Rattle.nxt_space.specs.Inside.Starts.{memory_of}
use Rattle.nxt_model.specs.Spans.{HasSpans}
use Rattle.nxt_space.specs.Inside.Kept.{started_as}
use Rattle.nxt_layout.proofs.Laws.Spans.{accepted_spans}
use Rattle.nxt_values.proofs.Laws.Filled.{all_own}
use Rattle.nxt_model.proofs.Laws.Numbers.{number_of_kind}

-- ---- what a memory reads as is of its shape

abbrev AreOf : (ℕ → Value → List HeldList → Type 0) → (Value → Bool) → Type 0
AreOf reads of = (place : ℕ) (v : Value) (ls : List HeldList) → reads place v ls → of v ≡ true

each_of : (reads : ℕ → Value → List HeldList → Type 0) (of : Value → Bool) → AreOf reads of → (place stride : ℕ) (vs : List Value) (ls : List HeldList) → EachReads reads place stride vs ls → list_all of vs ≡ true
each_of reads of h place stride [] ls e = refl
each_of reads of h place stride (v ∷ vs) ls e =
    and_from (of v) (list_all of vs) (h place v e.0 e.3) (each_of reads of h (place + stride) stride vs e.1 e.4)

row_of : (m : Memory) (reads : ℕ → Value → List HeldList → Type 0) (of : Value → Bool) → AreOf reads of → (stride r : ℕ) (vs : List Value) (ls : List HeldList) → RowReads m reads stride r vs ls → list_all of vs ≡ true
row_of m reads of h stride zero vs ls e = ap (list_all of) e.0
row_of m reads of h stride (suc r) vs ls e = each_of reads of h _ _ vs e.0 e.4

mutual
  read_of : (m : Memory) (i : ℕ) (s : Shape) → AreOf (Reads m i s) (is_of s)
  read_of m i Void base v ls e = ap (is_of Void) e.0
  read_of m i (Number k) base v ls e = ap (is_of (Number k)) e.1 ∙ number_of_kind k _
  read_of m i (Array stride s) base v ls e =
      ap (is_of (Array stride s)) e.1
      ∙ ap (list_all (is_of s)) (items-values (elements v))
      ∙ row_of m (Reads m (i + 1) s) (is_of s) (read_of m (i + 1) s) stride (u16_at m.bytes (leaf_place m i base)) (elements v) ls e.2
  read_of m i (Cluster ss) base v ls e =
      ap (is_of (Cluster ss)) e.0
      ∙ ap (are_of ss) (items-values (elements v))
      ∙ members_of m (i + 1) ss base (elements v) ls e.1
  read_of m i Mutex base v ls e = ap (is_of Mutex) e.0

  pub members_of : (m : Memory) (i : ℕ) (ss : Members) (base : ℕ) (vs : List Value) (ls : List HeldList) → MembersRead m i ss base vs ls → are_of ss vs ≡ true
  members_of m i no_members base vs ls e = ap (are_of no_members) e.0
  members_of m i (member s ss) base [] ls e = absurd e
  members_of m i (member s ss) base (v ∷ vs) ls e =
      and_from (is_of s v) (are_of ss vs) (read_of m i s base v e.0 e.3) (members_of m (i + size s) ss base vs e.1 e.4)

-- so the flat forms of what a memory reads as give the values back
read_back : (m : Memory) (ss : Members) (vars : Value) (ls : List HeldList) → ReadsAs m ss vars ls → started_as ss (flats (values (elements vars))) ≡ vars
read_back m ss vars ls e =
    let vs = values (elements vars) in
    let own : are_of ss (items vs) ≡ true = ap (are_of ss) (items-values (elements vars)) ∙ members_of m 0 ss 0 (elements vars) ls e.variables in
    ap (λ zs. started_as ss zs) (sym (append-nil (flats vs)))
    ∙ ap (λ found. GroupOf found.0) (all_own ss vs [] own)
    ∙ sym e.values

-- ---- what an accepted file's layout tells

-- the leaves have their spans, there is a row, the dataspace reads as the values, and the pool holds them
record Begins (l : FileLayout) (vars : Value) : Type 0 where
  spans : HasSpans l.entries l.shapes l.static_size
  some : 1 ≤ l.rows
  lists : List HeldList
  reads : ReadsAs (memory_of l) l.shapes vars lists
  fits : footprint l.static_size (rows_for l.rows (lists_in vars)) l.shapes vars ≤ pool_size

-- the fourth of five tests
fourth : (a b c d e : Bool) → (a && b && c && d && e) ≡ true → d ≡ true
fourth a b c d e h = (and_parts (a && b && c) d (and_parts (a && b && c && d) e h).0).1

plain_rows : (p : Parts) (plain : Members) → AreShapes p.toc plain → (Broken p RowZero → ⊥) → (some : Bool) → some_list plain ≡ some → 1 ≤ (if some then row_count (memory p plain) else 1)
plain_rows p plain shapes rule false e = omega arith
plain_rows p plain shapes rule true e = at (has_table p.header (ground p plain)) refl
  where
    at : (has : Bool) → has_table p.header (ground p plain) ≡ has → 1 ≤ row_count (memory p plain)
    at true h =
        let n = row_count (memory p plain) in
        let some : nat_lt 0 n ≡ true = fourth (nat_le p.header.static_size p.header.dope_at) (nat_le (p.header.dope_at + 10) p.header.initial) ((row (ground p plain) 0).stride == 10) (nat_lt 0 n) (nat_le (p.header.dope_at + 10 * n) p.header.initial) h in
        ltb-true 0 n some
    at false h = absurd (rule (plain, shapes, ap₂ (λ a b. a && not b) e h))

rows_some : (p : Parts) (ss : Members) → (Broken p RowZero → ⊥) → HasShapes p ss → 1 ≤ file_rows p ss
rows_some p ss rule has =
    subst
    (λ qs. 1 ≤ file_rows p qs)
    (sym has.strides)
    (subst
    (λ n. 1 ≤ n)
    (sym (same_rows p (stride_of (ground p has.plain)) has.plain has.shapes))
    (plain_rows p has.plain has.shapes rule (some_list has.plain) refl))

pool_holds : (p : Parts) (ss : Members) (vars : Value) → ((n : ℕ) → Broken p (PoolPassed n) → ⊥) → StartsAs p ss vars → start_footprint p ss vars ≤ pool_size
pool_holds p ss vars rule starts =
    elim (cases_lt pool_size (start_footprint p ss vars)) [
      | inl more ↦
          let passed : PassesPool p (start_footprint p ss vars) = record { shapes = ss; vars = vars; starts = starts; size_is = refl; passed = more } in
          absurd (rule (start_footprint p ss vars) passed)
      | inr less ↦ less
    ]

begins : (p : Parts) (l : FileLayout) (made : IsLayout p l) → Begins l made.vars
begins p l made =
    let ss = made.shapes in
    let vars = made.vars in
    let starts = made.starts in
    let told : Begins (layout_of p ss vars) vars = record {
      spans = accepted_spans p ss made.accepted starts.shapes;
      some = rows_some p ss (made.accepted RowZero) starts.shapes;
      lists = starts.lists;
      reads = starts.reads;
      fits = pool_holds p ss vars (λ n. made.accepted (PoolPassed n)) starts;
    } in
    subst (λ k. Begins k vars) (sym made.layout) told

-- ---- the table, and the numbers of the start

abbrev pub table_of : FileLayout → Table
table_of l = record { entries = l.entries; shapes = l.shapes }

-- some file has the layout
abbrev pub HasFile : FileLayout → Type 0
HasFile l = (p : Parts) × IsLayout p l

-- the numbers are the flat forms of what the dataspace reads as
abbrev pub IsStart : FileLayout → Members → List ℤ → Type 0
IsStart l ss start = (vars : Value) (lists : List HeldList) → ReadsAs (memory_of l) ss vars lists → start ≡ flats (values (elements vars))

pub same_trees : {xs ys : List seen.Shape} {ss : Members} → xs ≡ ys → members (map tree ys) ≡ ss → members (map tree xs) ≡ ss
same_trees e shapes = ap (λ zs. members (map tree zs)) e ∙ shapes

-- the shapes have no more entries than the table
pub sizes_small : {t toc : Table} (l : FileLayout) → HasFile l → t ≡ toc → length t.entries < 2 ^ 16 → toc ≡ table_of l → sizes toc.shapes < 2 ^ 16
sizes_small {t} l file same few table =
    let b = begins file.0 l file.1 in
    let spelled : SpellsAll t.entries t.shapes = subst (λ (u : Table). SpellsAll u.entries u.shapes) (sym (same ∙ table)) b.reads.spelled in
    omega (arith, few, size_of_table t.entries t.shapes spelled, ap (λ (u : Table). sizes u.shapes) same)

pub started : {toc : Table} {ss : Members} {start : List ℤ} (p : Parts) (l : FileLayout) (made : IsLayout p l) → toc ≡ table_of l → ss ≡ toc.shapes → IsStart l ss start → started_as toc.shapes start ≡ made.vars
started {toc} {ss} {start} p l made table shapes told =
    let b = begins p l made in
    let m = memory_of l in
    let all : ss ≡ l.shapes = shapes ∙ ap (λ (u : Table). u.shapes) table in
    let reads : ReadsAs m ss made.vars b.lists = subst (λ ts. ReadsAs m ts made.vars b.lists) (sym all) b.reads in
    subst
    (λ ts. started_as ts start ≡ made.vars)
    shapes
    (ap (started_as ss) (told made.vars b.lists reads) ∙ read_back m ss made.vars b.lists reads)

-- the table has the spans of the variables that the numbers spell, and the pool holds them
pub record Starting (toc : Table) (static_size rows : ℕ) (start : List ℤ) : Type 0 where
  pub entries : length toc.entries < 2 ^ 16
  pub spelled : SpellsAll toc.entries toc.shapes
  pub spans : HasSpans toc.entries toc.shapes static_size
  pub some : 1 ≤ rows
  pub fits : footprint static_size (rows_for rows (lists_in (started_as toc.shapes start))) toc.shapes (started_as toc.shapes start) ≤ pool_size

pub starting : {t toc : Table} {ss : Members} {start : List ℤ} (l : FileLayout) → HasFile l → t ≡ toc → length t.entries < 2 ^ 16 → toc ≡ table_of l → ss ≡ toc.shapes → IsStart l ss start → Starting toc l.static_size l.rows start
starting {t} {toc} {ss} {start} l file same few table shapes told =
    let b = begins file.0 l file.1 in
    let vars = file.1.vars in
    let is : started_as toc.shapes start ≡ vars = started file.0 l file.1 table shapes told in
    record {
      entries = subst (λ (u : Table). length u.entries < 2 ^ 16) same few;
      spelled = subst (λ (u : Table). SpellsAll u.entries u.shapes) (sym table) b.reads.spelled;
      spans = subst (λ (u : Table). HasSpans u.entries u.shapes l.static_size) (sym table) b.spans;
      some = b.some;
      fits = subst
          (λ v. footprint l.static_size (rows_for l.rows (lists_in v)) toc.shapes v ≤ pool_size)
          (sym is)
          (subst (λ (u : Table). footprint l.static_size (rows_for l.rows (lists_in vars)) u.shapes vars ≤ pool_size) (sym table) b.fits);
    }
