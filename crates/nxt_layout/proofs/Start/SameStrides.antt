-- Strides that agree at the arrays' entries give the same shapes.
use Rattle.std.proofs.Common.{◌≡◌, ℕ, ◌+◌, List, ◌∷◌, refl, ap, ap₂, subst}
use Rattle.std.proofs.lemmas.List.Elements.{filter-append}
use Rattle.nxt_types.specs.Shapes.{Shape, Void, Number, Array, Cluster, Mutex, Members, no_members, member}
use Rattle.nxt_types.specs.Names.{size}
use Rattle.nxt_types.specs.declared.shape.TocEntry.{TocEntry}
use Rattle.nxt_table.specs.Leaves.{Leaf}
use Rattle.nxt_layout.specs.Rows.{is_array}
use Rattle.nxt_table.specs.Strides.{with_strides, all_with_strides}
use Rattle.nxt_facts.proofs.Each.{Each, each_apart}
use Rattle.nxt_layout.proofs.Start.Leaves.{leaves_in, leaves_among}
use Rattle.nxt_layout.proofs.Dope.Counts.{arrays_among}

-- f and h give the leaf's entry the same stride
abbrev Agrees : (ℕ → ℕ) → (ℕ → ℕ) → Leaf → Type 0
Agrees f h l = f l.entry ≡ h l.entry

mutual
  same_stride : (table : List TocEntry) (f h : ℕ → ℕ) (s : Shape) (i : ℕ) (arrays : List ℕ) → Each (Agrees f h) (arrays_among (leaves_in table s i arrays)) → with_strides f i s ≡ with_strides h i s
  same_stride table f h Void i arrays e = refl
  same_stride table f h (Number k) i arrays e = refl
  same_stride table f h (Array n s) i arrays e = ap₂ Array e.0 (same_stride table f h s (i + 1) (i ∷ arrays) e.1)
  same_stride table f h (Cluster ss) i arrays e = ap Cluster (same_strides table f h ss (i + 1) arrays e)
  same_stride table f h Mutex i arrays e = refl

  pub same_strides : (table : List TocEntry) (f h : ℕ → ℕ) (ss : Members) (i : ℕ) (arrays : List ℕ) → Each (λ l. f l.entry ≡ h l.entry) (arrays_among (leaves_among table ss i arrays)) → all_with_strides f i ss ≡ all_with_strides h i ss
  same_strides table f h no_members i arrays e = refl
  same_strides table f h (member s ss) i arrays e =
      let here = leaves_in table s i arrays in
      let rest = leaves_among table ss (i + size s) arrays in
      let parts = subst (Each (Agrees f h)) (filter-append (λ l. is_array l.shape) here rest) e in
      let two = each_apart (Agrees f h) (arrays_among here) (arrays_among rest) parts in
      ap₂ member (same_stride table f h s i arrays two.0) (same_strides table f h ss (i + size s) arrays two.1)
