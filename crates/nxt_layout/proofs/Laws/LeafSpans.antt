-- The spans of an element are those of its leaves, whatever the strides of its lists.
use Rattle.std.proofs.Common.{◌≡◌, ℕ, ◌+◌, true, List, [], ◌∷◌, ◌++◌, refl, ap, ap₂, ◌∙◌, eq-eqb}
use Rattle.nxt_types.specs.Shapes.{Shape, Void, Number, Array, Cluster, Mutex, Members, no_members, member}
use Rattle.nxt_types.specs.Names.{size}
use Rattle.nxt_types.specs.declared.shape.TocEntry.{TocEntry}
use Rattle.nxt_table.specs.Leaves.{Leaf, width, are_together}
use Rattle.nxt_table.specs.Strides.{with_strides, all_with_strides}
use Rattle.nxt_facts.proofs.Each.{Each, each_apart, each_join}
use Rattle.nxt_layout.proofs.Start.Leaves.{leaf_in, leaves_in, leaves_among}
use Rattle.nxt_table.proofs.Laws.StrideFree.{size-with_strides}
use Rattle.nxt_model.specs.Spans.{Span, spans, spans_among, IsApart, AreApart}
use Rattle.nxt_facts.specs.Pairs.{EachPair}
use Rattle.nxt_facts.proofs.Pairs.{pair_parts}
use Rattle.nxt_facts.proofs.Pairs.{pair_join}

-- ---- strides

mutual
  pub spans-with_strides : (table : List TocEntry) (f : ℕ → ℕ) (i : ℕ) (s : Shape) → spans table (with_strides f i s) i ≡ spans table s i
  spans-with_strides table f i Void = refl
  spans-with_strides table f i (Number k) = refl
  spans-with_strides table f i (Array n s) = refl
  spans-with_strides table f i (Cluster ss) = all_spans-with_strides table f (i + 1) ss
  spans-with_strides table f i Mutex = refl

  pub all_spans-with_strides : (table : List TocEntry) (f : ℕ → ℕ) (i : ℕ) (ss : Members) → spans_among table (all_with_strides f i ss) i ≡ spans_among table ss i
  all_spans-with_strides table f i no_members = refl
  all_spans-with_strides table f i (member s ss) =
      ap₂
      (λ (a b : List Span). a ++ b)
      (spans-with_strides table f i s)
      (ap (λ n. spans_among table (all_with_strides f (i + size s) ss) (i + n)) (size-with_strides f i s)
      ∙ all_spans-with_strides table f (i + size s) ss)

-- ---- leaves

abbrev pub span_of : Leaf → Span
span_of l = record { place = l.place; width = width l }

-- what the leaves of one element tell of their spans holds of each span
mutual
  each_span : (P : Span → Type 0) (Q : Leaf → Type 0) (table : List TocEntry) (s : Shape) (i : ℕ) (arrays : List ℕ) → ((l : Leaf) → l.arrays ≡ arrays → Q l → P (span_of l)) → Each Q (leaves_in table s i arrays) → Each P (spans table s i)
  each_span P Q table Void i arrays h e = tt
  each_span P Q table (Number k) i arrays h e = (h (leaf_in table (Number k) i arrays) refl e.0, tt)
  each_span P Q table (Array n s) i arrays h e = (h (leaf_in table (Array n s) i arrays) refl e.0, tt)
  each_span P Q table (Cluster ss) i arrays h e = each_span_among P Q table ss (i + 1) arrays h e
  each_span P Q table Mutex i arrays h e = (h (leaf_in table Mutex i arrays) refl e.0, tt)

  each_span_among : (P : Span → Type 0) (Q : Leaf → Type 0) (table : List TocEntry) (ss : Members) (i : ℕ) (arrays : List ℕ) → ((l : Leaf) → l.arrays ≡ arrays → Q l → P (span_of l)) → Each Q (leaves_among table ss i arrays) → Each P (spans_among table ss i)
  each_span_among P Q table no_members i arrays h e = tt
  each_span_among P Q table (member s ss) i arrays h e =
      let two = each_apart Q (leaves_in table s i arrays) (leaves_among table ss (i + size s) arrays) e in
      each_join
      P
      (spans table s i)
      (spans_among table ss (i + size s))
      (each_span P Q table s i arrays h two.0)
      (each_span_among P Q table ss (i + size s) arrays h two.1)

-- ---- apart

-- if both are outside, or in the element of one array, they share no byte
abbrev pub AreBeside : Leaf → Leaf → Type 0
AreBeside a b = are_together a.arrays b.arrays ≡ true → IsApart (span_of a) (span_of b)

with_itself : (arrays : List ℕ) → are_together arrays arrays ≡ true
with_itself [] = refl
with_itself (a ∷ around) = eq-eqb a a refl

in_one : (a b : Leaf) (arrays : List ℕ) → a.arrays ≡ arrays → b.arrays ≡ arrays → AreBeside a b → IsApart (span_of a) (span_of b)
in_one a b arrays p q h = h (ap₂ are_together p q ∙ with_itself arrays)

mutual
  pub spans_apart : (table : List TocEntry) (s : Shape) (i : ℕ) (arrays : List ℕ) → EachPair AreBeside (leaves_in table s i arrays) → AreApart (spans table s i)
  spans_apart table Void i arrays e = tt
  spans_apart table (Number k) i arrays e = (tt, tt)
  spans_apart table (Array n s) i arrays e = (tt, tt)
  spans_apart table (Cluster ss) i arrays e = all_spans_apart table ss (i + 1) arrays e
  spans_apart table Mutex i arrays e = (tt, tt)

  pub all_spans_apart : (table : List TocEntry) (ss : Members) (i : ℕ) (arrays : List ℕ) → EachPair AreBeside (leaves_among table ss i arrays) → AreApart (spans_among table ss i)
  all_spans_apart table no_members i arrays e = tt
  all_spans_apart table (member s ss) i arrays e =
      let here = leaves_in table s i arrays in
      let rest = leaves_among table ss (i + size s) arrays in
      let later = spans_among table ss (i + size s) in
      let parts = pair_parts AreBeside here rest e in
      pair_join
      IsApart
      (spans table s i)
      later
      (spans_apart table s i arrays parts.first)
      (all_spans_apart table ss (i + size s) arrays parts.rest)
      (each_span
      (λ p. Each (IsApart p) later)
      (λ a. Each (AreBeside a) rest)
      table
      s
      i
      arrays
      (λ a one across. each_span_among (IsApart (span_of a)) (AreBeside a) table ss (i + size s) arrays (λ b two h. in_one a b arrays one two h) across)
      parts.across)
