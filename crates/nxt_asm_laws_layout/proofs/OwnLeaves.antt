-- The leaves of a table whose leaves stand by size, by recursion on the shapes.
use Rattle.std.proofs.Common.{◌≡◌, ℕ, ◌+◌, true, ◌&&◌, List, [], ◌∷◌, ◌++◌, flat_map, zip, drop, length, slice_index, refl, sym, ap, ap₂, ◌∙◌, append_assoc, append-nil, arith}
use Rattle.std.specs.List.{enumerate_from}
use Rattle.nxt_types.specs.Shapes.{Shape, Void, Number, Array, Cluster, Mutex, Members, no_members, member, bare, bares}
use Rattle.nxt_types.specs.Names.{size, sizes}
use Rattle.nxt_types.specs.declared.shape.TocEntry.{TocEntry}
use Rattle.nxt_model.specs.Assembled.{all_entries, entries_of, leaf_sizes, places}
use Rattle.nxt_table.specs.Leaves.{Leaf, Site, leaves, sites, sites_in, sites_among, is_outside}
use Rattle.nxt_table.proofs.Laws.Leaves.{leaf_here}

-- ---- leaves

abbrev pub leaf : Shape → ℕ → ℕ → List ℕ → Leaf
leaf s place i arrays = record { entry = i; place = place; shape = s; arrays = arrays; has_default = is_outside arrays && true }

-- the leaves of a shape whose first entry is entry i, where those that stand together have these places
abbrev mutual
  pub own : Shape → List ℕ → ℕ → List ℕ → List Leaf
  own Void ps i arrays = []
  own (Number k) ps i arrays = leaf (Number k) (slice_index ps 0) i arrays ∷ []
  own (Array n s) ps i arrays =
      leaf (Array 0 (bare s)) (slice_index ps 0) i arrays ∷ own s (places (leaf_sizes s)) (i + 1) (i ∷ arrays)
  own (Cluster ss) ps i arrays = all_own ss ps (i + 1) arrays
  own Mutex ps i arrays = leaf Mutex (slice_index ps 0) i arrays ∷ []

  pub all_own : Members → List ℕ → ℕ → List ℕ → List Leaf
  all_own no_members ps i arrays = []
  all_own (member s ss) ps i arrays = own s ps i arrays ++ all_own ss (drop (length (leaf_sizes s)) ps) (i + size s) arrays

-- ---- the table's leaves

mutual
  pub size-bare : (s : Shape) → size (bare s) ≡ size s
  size-bare Void = refl
  size-bare (Number k) = refl
  size-bare (Array n s) = ap (λ n. n + 1) (size-bare s)
  size-bare (Cluster ss) = ap (λ n. n + 1) (sizes-bares ss)
  size-bare Mutex = refl

  pub sizes-bares : (ss : Members) → sizes (bares ss) ≡ sizes ss
  sizes-bares no_members = refl
  sizes-bares (member s ss) = ap₂ (λ (a b : ℕ). a + b) (size-bare s) (sizes-bares ss)

abbrev seen : ℕ → List TocEntry → List Site → List Leaf
seen i es sts = flat_map leaf_here (enumerate_from i (zip es sts))

inner : (i n : ℕ) → i + 1 + n ≡ i + (n + 1)
inner i n = omega arith

behind : (i m n : ℕ) → i + m + n ≡ i + (m + n)
behind i m n = omega arith

here : (i : ℕ) → i ≡ i + 0
here i = omega arith

mutual
  shape_seen : (s : Shape) (ps : List ℕ) (i d : ℕ) (arrays : List ℕ) (es : List TocEntry) (sts : List Site)
      → seen i (entries_of s ps ++ es) (sites_in (bare s) i d arrays ++ sts) ≡ own s ps i arrays ++ seen (i + size s) es sts
  shape_seen Void ps i d arrays es sts = refl
  shape_seen (Number k) ps i d arrays es sts = refl
  shape_seen (Array n s) ps i d arrays es sts =
      ap (λ ls. leaf (Array 0 (bare s)) (slice_index ps 0) i arrays ∷ ls)
      (shape_seen s (places (leaf_sizes s)) (i + 1) (d + 1) (i ∷ arrays) es sts
      ∙ ap (λ k. own s (places (leaf_sizes s)) (i + 1) (i ∷ arrays) ++ seen k es sts) (inner i (size s)))
  shape_seen (Cluster ss) ps i d arrays es sts =
      members_seen ss ps (i + 1) (d + 1) arrays es sts ∙ ap (λ k. all_own ss ps (i + 1) arrays ++ seen k es sts) (inner i (sizes ss))
  shape_seen Mutex ps i d arrays es sts = refl

  members_seen : (ss : Members) (ps : List ℕ) (i d : ℕ) (arrays : List ℕ) (es : List TocEntry) (sts : List Site)
      → seen i (all_entries ss ps ++ es) (sites_among (bares ss) i d arrays ++ sts) ≡ all_own ss ps i arrays ++ seen (i + sizes ss) es sts
  members_seen no_members ps i d arrays es sts = ap (λ k. seen k es sts) (here i)
  members_seen (member s ss) ps i d arrays es sts =
      let rest = drop (length (leaf_sizes s)) ps in
      let first = own s ps i arrays in
      let later = all_own ss rest (i + size s) arrays in
      ap (λ l. seen i l (sites_among (bares (member s ss)) i d arrays ++ sts)) (append_assoc (entries_of s ps) (all_entries ss rest) es)
      ∙ ap (seen i (entries_of s ps ++ (all_entries ss rest ++ es)))
      (append_assoc (sites_in (bare s) i d arrays) (sites_among (bares ss) (i + size (bare s)) d arrays) sts
      ∙ ap (λ k. sites_in (bare s) i d arrays ++ (sites_among (bares ss) (i + k) d arrays ++ sts)) (size-bare s))
      ∙ shape_seen s ps i d arrays (all_entries ss rest ++ es) (sites_among (bares ss) (i + size s) d arrays ++ sts)
      ∙ ap (λ l. first ++ l) (members_seen ss rest (i + size s) d arrays es sts)
      ∙ sym (append_assoc first later (seen (i + size s + sizes ss) es sts))
      ∙ ap (λ k. (first ++ later) ++ seen k es sts) (behind i (size s) (sizes ss))

-- the leaves of a table with these places
pub leaves_are : (ss : Members) (ps : List ℕ) → leaves (all_entries ss ps) (bares ss) ≡ all_own ss ps 0 []
leaves_are ss ps =
    ap₂ (seen 0) (sym (append-nil (all_entries ss ps))) (sym (append-nil (sites (bares ss))))
    ∙ members_seen ss ps 0 0 [] [] []
    ∙ append-nil (all_own ss ps 0 [])
