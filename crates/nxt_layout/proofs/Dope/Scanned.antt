-- The pass over a file's arrays finds what is read through each, where each row is kept at most twice.
use Rattle.std.proofs.Common.{◌≡◌, ℕ, ◌+◌, ◌<◌, Bool, true, false, cond, List, [], ◌∷◌, ◌++◌, map, fold, max, Some, if◌then◌else◌, refl, sym, ap, ap₂, ◌∙◌, arith, append_assoc, append-nil, eq-eqb, ne_eqb}
use Rattle.std.proofs.lemmas.List.{map-append}
use Rattle.std.proofs.lemmas.List.Elements.{filter-append}
use Rattle.nxt_types.specs.Shapes.{Shape, Void, Number, Array, Cluster, Mutex, Members, no_members, member}
use Rattle.nxt_types.specs.Names.{size}
use Rattle.nxt_rxe.specs.declared.parts.Parts.{Parts}
use Rattle.nxt_table.specs.declared.leaves.PlacedLeaf as flats
use Rattle.nxt_table.specs.Leaves.{Leaf, AreShapes, leaves, end_of, extent, stands_in}
use Rattle.nxt_table.specs.Dataspace.{dataspace}
use Rattle.nxt_table.specs.Inside.LeafPasses.{same_array}
use Rattle.nxt_layout.specs.Rows.{Ground, read_by, is_array, arrays_of}
use Rattle.nxt_layout.specs.Inside.RowPasses.{Opened, Through, bare_ground, is_array_item, array_leaves, wider, extent_in, back_to, places_in, through_by, open_by, through_from}
use Rattle.nxt_layout.specs.Start.{ground}
use Rattle.nxt_facts.proofs.Each.{Each, each_then, each_join}
use Rattle.nxt_layout.proofs.Start.Leaves.{leaf_in, leaves_in, leaves_among}
use Rattle.nxt_table.proofs.Laws.Enclosed.{next_of}
use Rattle.nxt_table.proofs.Laws.Leaves.{item_of_shape, flat, flat_end}
use Rattle.nxt_layout.proofs.Start.LeafOrder.{leaves_are}
use Rattle.nxt_layout.proofs.Dope.Counts.{arrays_among}
use Rattle.nxt_table.proofs.Laws.StrideFree.{size_of_table}
use Rattle.nxt_layout.proofs.Dope.Reached.{few_places, few_rows, few_through}

-- ---- open arrays

-- the array of entry a in the elements that are read through these
abbrev pub opened : Ground → ℕ → List ℕ → Opened
opened g a around = record { entry = a; read = read_by g (extent g.leaves a) (few_rows g a around) }

-- the open arrays in the element of the first of these
abbrev pub chain : Ground → List ℕ → List Opened
chain g [] = []
chain g (a ∷ around) = opened g a around ∷ chain g around

abbrev pub bare : Ground → Ground
bare g = bare_ground g.memory.bytes g.memory.table g.static_size

places_chain : (g : Ground) (arrays : List ℕ) → places_in (bare g) (chain g arrays) ≡ few_places g arrays
places_chain g [] = refl
places_chain g (a ∷ around) = refl

-- the entry is behind that of the first of these arrays
abbrev pub IsBehind : List ℕ → ℕ → Type 0
IsBehind [] i = Unit {0}
IsBehind (a ∷ around) i = a < i

behind_more : (arrays : List ℕ) (i k : ℕ) → IsBehind arrays i → i < k → IsBehind arrays k
behind_more [] i k h less = tt
behind_more (a ∷ around) i k h less = omega (arith, h, less)

behind_least : (arrays : List ℕ) (i k n : ℕ) → IsBehind arrays i → k ≡ i + n → IsBehind arrays k
behind_least [] i k n h e = tt
behind_least (a ∷ around) i k n h e = omega (arith, h, e)

abbrev pub AreBehind : List ℕ → List Opened → Type 0
AreBehind arrays os = Each (λ o. IsBehind arrays o.entry) os

-- only those of the chain stay open
back_past : (g : Ground) (a : ℕ) (around : List ℕ) (more : List Opened) → AreBehind (a ∷ around) more → back_to (Some a) (more ++ chain g (a ∷ around)) ≡ chain g (a ∷ around)
back_past g a around [] h =
    ap (λ b. if b then chain g (a ∷ around) else back_to (Some a) (chain g around)) (eq-eqb a a refl)
back_past g a around (o ∷ more) h =
    ap
    (λ b. if b then o ∷ (more ++ chain g (a ∷ around)) else back_to (Some a) (more ++ chain g (a ∷ around)))
    (ne_eqb o.entry a (λ e. omega (arith, h.0, e)))
    ∙ back_past g a around more h.1

back_chain : (g : Ground) (arrays : List ℕ) (more : List Opened) → AreBehind arrays more → back_to (next_of arrays) (more ++ chain g arrays) ≡ chain g arrays
back_chain g [] more h = refl
back_chain g (a ∷ around) more h = back_past g a around more h

-- ---- one array

-- what the pass finds from this leaf on, where these arrays are open around it
abbrev step_by : Ground → (ℕ → ℕ) → flats.PlacedLeaf → List flats.PlacedLeaf → List Opened → List Through
step_by g ext l rest around =
    let t = through_by g ext l (places_in g around) in
    t ∷ through_from g ext (open_by g t ∷ around) rest

one_array : (g : Ground) (ext : ℕ → ℕ) → ((a : ℕ) → ext a ≡ extent g.leaves a) → (n : ℕ) (s : Shape) (i : ℕ) (arrays : List ℕ) (more : List Opened) (rest : List flats.PlacedLeaf) → AreBehind arrays more → through_from (bare g) ext (more ++ chain g arrays) (flat (leaf_in g.memory.entries (Array n s) i arrays) ∷ rest) ≡ few_through g (leaf_in g.memory.entries (Array n s) i arrays) ∷ through_from (bare g) ext (chain g (i ∷ arrays)) rest
one_array g ext same n s i arrays more rest h =
    let l = leaf_in g.memory.entries (Array n s) i arrays in
    let found = λ (bytes : ℕ) (places : List ℕ). record (through_by (bare g) ext (flat l) places) { bytes = bytes } in
    ap (step_by (bare g) ext (flat l) rest) (back_chain g arrays more h)
    ∙ ap₂
    (λ (bytes : ℕ) (places : List ℕ). found bytes places ∷ through_from (bare g) ext (open_by (bare g) (found bytes places) ∷ chain g arrays) rest)
    (same i)
    (places_chain g arrays)

-- ---- shapes

-- the pass over the arrays among these leaves finds them, and goes on with some more that are open
pub record Finds (g : Ground) (ext : ℕ → ℕ) (arrays : List ℕ) (os : List Opened) (ls : List Leaf) (rest : List flats.PlacedLeaf) : Type 0 where
  pub more : List Opened
  pub behind : AreBehind arrays more
  pub found : through_from (bare g) ext os (map flat (arrays_among ls) ++ rest) ≡ map (few_through g) (arrays_among ls) ++ through_from (bare g) ext (more ++ chain g arrays) rest

finds_none : (g : Ground) (ext : ℕ → ℕ) (arrays : List ℕ) (more : List Opened) (ls : List Leaf) (rest : List flats.PlacedLeaf) → arrays_among ls ≡ [] → AreBehind arrays more → Finds g ext arrays (more ++ chain g arrays) ls rest
finds_none g ext arrays more ls rest none h =
    record {
      more = more;
      behind = h;
      found = ap (λ ks. through_from (bare g) ext (more ++ chain g arrays) (map flat ks ++ rest)) none
          ∙ sym (ap (λ ks. map (few_through g) ks ++ through_from (bare g) ext (more ++ chain g arrays) rest) none);
    }

mutual
  pub shape_found : (g : Ground) (ext : ℕ → ℕ) → ((a : ℕ) → ext a ≡ extent g.leaves a) → (s : Shape) (i : ℕ) (arrays : List ℕ) (more : List Opened) (rest : List flats.PlacedLeaf) → IsBehind arrays i → AreBehind arrays more → Finds g ext arrays (more ++ chain g arrays) (leaves_in g.memory.entries s i arrays) rest
  shape_found g ext same Void i arrays more rest b h = finds_none g ext arrays more [] rest refl h
  shape_found g ext same (Number k) i arrays more rest b h =
      finds_none g ext arrays more (leaves_in g.memory.entries (Number k) i arrays) rest refl h
  shape_found g ext same (Array n s) i arrays more rest b h =
      let l = leaf_in g.memory.entries (Array n s) i arrays in
      let inside = leaves_in g.memory.entries s (i + 1) (i ∷ arrays) in
      let deeper : Finds g ext (i ∷ arrays) (chain g (i ∷ arrays)) inside rest =
      shape_found g ext same s (i + 1) (i ∷ arrays) [] rest (omega arith) tt in
      record {
        more = deeper.more ++ opened g i arrays ∷ [];
        behind = each_join
            (λ o. IsBehind arrays o.entry)
            deeper.more
            (opened g i arrays ∷ [])
            (each_then (λ o. i < o.entry) (λ o. IsBehind arrays o.entry) (λ o less. behind_more arrays i o.entry b less) deeper.more deeper.behind)
            (b, tt);
        found = one_array g ext same n s i arrays more (map flat (arrays_among inside) ++ rest) h
            ∙ ap (λ ts. few_through g l ∷ ts) deeper.found
            ∙ ap
            (λ os. few_through g l ∷ (map (few_through g) (arrays_among inside) ++ through_from (bare g) ext os rest))
            (sym (append_assoc deeper.more (opened g i arrays ∷ []) (chain g arrays)));
      }
  shape_found g ext same (Cluster ss) i arrays more rest b h =
      members_found g ext same ss (i + 1) arrays more rest (behind_least arrays i (i + 1) 1 b refl) h
  shape_found g ext same Mutex i arrays more rest b h =
      finds_none g ext arrays more (leaves_in g.memory.entries Mutex i arrays) rest refl h

  pub members_found : (g : Ground) (ext : ℕ → ℕ) → ((a : ℕ) → ext a ≡ extent g.leaves a) → (ss : Members) (i : ℕ) (arrays : List ℕ) (more : List Opened) (rest : List flats.PlacedLeaf) → IsBehind arrays i → AreBehind arrays more → Finds g ext arrays (more ++ chain g arrays) (leaves_among g.memory.entries ss i arrays) rest
  members_found g ext same no_members i arrays more rest b h = finds_none g ext arrays more [] rest refl h
  members_found g ext same (member s ss) i arrays more rest b h =
      let here = leaves_in g.memory.entries s i arrays in
      let others = leaves_among g.memory.entries ss (i + size s) arrays in
      let first : Finds g ext arrays (more ++ chain g arrays) here (map flat (arrays_among others) ++ rest) =
      shape_found g ext same s i arrays more (map flat (arrays_among others) ++ rest) b h in
      let second : Finds g ext arrays (first.more ++ chain g arrays) others rest =
      members_found g ext same ss (i + size s) arrays first.more rest (behind_least arrays i (i + size s) (size s) b refl) first.behind in
      let both : arrays_among (here ++ others) ≡ arrays_among here ++ arrays_among others = filter-append (λ l. is_array l.shape) here others in
      record {
        more = second.more;
        behind = second.behind;
        found = ap (λ ks. through_from (bare g) ext (more ++ chain g arrays) (map flat ks ++ rest)) both
            ∙ ap
            (λ ks. through_from (bare g) ext (more ++ chain g arrays) (ks ++ rest))
            (map-append flat (arrays_among here) (arrays_among others))
            ∙ ap
            (through_from (bare g) ext (more ++ chain g arrays))
            (append_assoc (map flat (arrays_among here)) (map flat (arrays_among others)) rest)
            ∙ first.found
            ∙ ap (λ ts. map (few_through g) (arrays_among here) ++ ts) second.found
            ∙ sym (append_assoc
            (map (few_through g) (arrays_among here))
            (map (few_through g) (arrays_among others))
            (through_from (bare g) ext (second.more ++ chain g arrays) rest))
            ∙ sym (ap
            (λ ts. ts ++ through_from (bare g) ext (second.more ++ chain g arrays) rest)
            (map-append (few_through g) (arrays_among here) (arrays_among others)))
            ∙ sym (ap
            (λ ks. map (few_through g) ks ++ through_from (bare g) ext (second.more ++ chain g arrays) rest)
            both);
      }

-- ---- the leaves as the pass sees them

array_item : (s : Shape) → is_array_item (item_of_shape s) ≡ is_array s
array_item Void = refl
array_item (Number k) = refl
array_item (Array n s) = refl
array_item (Cluster ss) = refl
array_item Mutex = refl

one_flat : (l : Leaf) (ls : List Leaf) (b : Bool) → cond b (flat l ∷ map flat ls) (map flat ls) ≡ map flat (cond b (l ∷ ls) ls)
one_flat l ls true = refl
one_flat l ls false = refl

pub flat_arrays : (ls : List Leaf) → array_leaves (map flat ls) ≡ map flat (arrays_among ls)
flat_arrays [] = refl
flat_arrays (l ∷ ls) =
    ap₂ (λ (b : Bool) (ks : List flats.PlacedLeaf). cond b (flat l ∷ ks) ks) (array_item l.shape) (flat_arrays ls)
    ∙ one_flat l (arrays_among ls) (is_array l.shape)

in_next : (a : ℕ) (arrays : List ℕ) → same_array (Some a) (next_of arrays) ≡ stands_in a arrays
in_next a [] = refl
in_next a (b ∷ bs) = refl

flat_wider : (a most : ℕ) (l : Leaf) → wider a most (flat l) ≡ (if stands_in a l.arrays then max most (end_of l) else most)
flat_wider a most l =
    ap₂ (λ (b : Bool) (end : ℕ). if b then max most end else most) (in_next a l.arrays) (flat_end l)

extent_from : (a most : ℕ) (ls : List Leaf) → fold (wider a) most (map flat ls) ≡ fold (λ most l. if stands_in a l.arrays then max most (end_of l) else most) most ls
extent_from a most [] = refl
extent_from a most (l ∷ ls) =
    ap (λ n. fold (wider a) n (map flat ls)) (flat_wider a most l) ∙ extent_from a (if stands_in a l.arrays then max most (end_of l) else most) ls

pub flat_extent : (ls : List Leaf) (a : ℕ) → extent_in (map flat ls) a ≡ extent ls a
flat_extent ls a = extent_from a 0 ls

-- ---- the whole

pub through_is : (p : Parts) (plain : Members) → AreShapes p.toc plain → through_from (bare_ground (dataspace p plain) p.header.dope_at p.header.static_size) (extent_in (map flat (leaves p.toc plain))) [] (array_leaves (map flat (leaves p.toc plain))) ≡ map (few_through (ground p plain)) (arrays_of (ground p plain))
through_is p plain shapes =
    let g = ground p plain in
    let ls = leaves p.toc plain in
    let ext = extent_in (map flat ls) in
    let order : ls ≡ leaves_among p.toc plain 0 [] = leaves_are p.toc plain (size_of_table p.toc plain shapes.spelled) in
    let all : Finds g ext [] [] (leaves_among p.toc plain 0 []) [] = members_found g ext (flat_extent ls) plain 0 [] [] [] tt tt in
    ap (through_from (bare g) ext []) (flat_arrays ls ∙ sym (append-nil (map flat (arrays_among ls))))
    ∙ ap (λ ks. through_from (bare g) ext [] (map flat (arrays_among ks) ++ [])) order
    ∙ all.found
    ∙ append-nil (map (few_through g) (arrays_among (leaves_among p.toc plain 0 [])))
    ∙ sym (ap (λ ks. map (few_through g) (arrays_among ks)) order)
