-- The rows that are found through arrays, where each is kept at most twice, agree with those that are reached.
use Rattle.std.proofs.Common.{◌≡◌, ℕ, ◌+◌, ◌≤◌, ◌&&◌, ◌||◌, not, cond, ◌==◌, nat_lt, nat_le, List, [], ◌∷◌, ◌++◌, map, filter, flat_map, length, refl, sym, ap, ◌∙◌, subst}
use Rattle.std.specs.List.{list_any}
use Rattle.std.proofs.lemmas.List.Elements.{filter-append, filter_agree}
use Rattle.nxt_types.specs.Shapes.{Shape, Void, Number, Array, Cluster, Mutex, Members, no_members, member}
use Rattle.nxt_types.specs.Names.{size}
use Rattle.nxt_table.specs.Leaves.{Leaf, extent}
use Rattle.nxt_layout.specs.Rows.{Ground, row, has_elements, is_placed, is_strided_by, is_array, names_row, is_beyond, numbers_at, read_by, elements_of, element_places, numbers_of, reached_through}
use Rattle.nxt_layout.specs.Inside.RowPasses.{Through, rows_of, all_rows}
use Rattle.nxt_facts.proofs.Each.{Each, each_apart, each_join}
use Rattle.nxt_model.specs.Reading.{row_count}
use Rattle.nxt_facts.proofs.Sums.{total, total_one, total_flat, total_every, tally, is_it}
use Rattle.nxt_layout.proofs.Start.Leaves.{leaf_in, leaves_in, leaves_among}
use Rattle.nxt_layout.proofs.Start.ValueAt.{number_at}
use Rattle.nxt_layout.proofs.Dope.Counts.{arrays_among}
use Rattle.nxt_layout.proofs.Dope.NoneOneMany.{AreAlike, alike_then, alike-append, alike-map, alike-filter, alike-flat_map, alike_any, alike_all, rows_alike, rows_below, named_below, total_alike, total-filter}

-- ---- what is found

-- where the elements stand that are read, where each row is kept at most twice
abbrev pub few_places : Ground → List ℕ → List ℕ
few_places g [] = 0 ∷ []
few_places g (a ∷ around) =
    flat_map (elements_of g) (read_by g (extent g.leaves a) (rows_of g (numbers_at g a (few_places g around))))

-- the rows that entry a names in them
abbrev pub few_rows : Ground → ℕ → List ℕ → List ℕ
few_rows g a around = rows_of g (numbers_at g a (few_places g around))

-- what is found through the array of a leaf
abbrev pub few_through : Ground → Leaf → Through
few_through g l =
    record {
      entry = l.entry;
      bytes = extent g.leaves l.entry;
      rows = few_rows g l.entry l.arrays;
      lists = length (few_places g l.arrays);
      beyond = list_any (is_beyond g) (numbers_at g l.entry (few_places g l.arrays));
    }

-- ---- they are alike

same_test : (g : Ground) (bytes : ℕ) (xs ys : List ℕ) → AreAlike xs ys → (r : ℕ) → (is_placed g r && is_strided_by g bytes xs r) ≡ (is_placed g r && is_strided_by g bytes ys r)
same_test g bytes xs ys h r =
    ap
    (λ b. is_placed g r && (not (has_elements g r) || (nat_le bytes (row g r).stride && b)))
    (alike_all (λ q. not (nat_lt q r && has_elements g q) || ((row g q).stride == (row g r).stride)) xs ys h)

pub read_alike : (g : Ground) (bytes : ℕ) (xs ys : List ℕ) → AreAlike xs ys → AreAlike (read_by g bytes xs) (read_by g bytes ys)
read_alike g bytes xs ys h =
    let test = λ (r : ℕ). is_placed g r && is_strided_by g bytes ys r in
    subst
    (λ zs. AreAlike zs (filter test ys))
    (filter_agree test (λ r. is_placed g r && is_strided_by g bytes xs r) (λ r. same_test g bytes ys xs (λ p. sym (h p)) r) xs)
    (alike-filter test xs ys h)

-- the rows that entry a names in elements
rows_named_alike : (g : Ground) (a : ℕ) (xs ys : List ℕ) → AreAlike xs ys → AreAlike (rows_of g (numbers_at g a xs)) (filter (names_row g) (numbers_at g a ys))
rows_named_alike g a xs ys h =
    alike_then
    (rows_of g (numbers_at g a xs))
    (filter (names_row g) (numbers_at g a xs))
    (filter (names_row g) (numbers_at g a ys))
    (rows_alike g (numbers_at g a xs))
    (alike-filter (names_row g) (numbers_at g a xs) (numbers_at g a ys) (alike-map (number_at g a) xs ys h))

pub places_alike : (g : Ground) (arrays : List ℕ) → AreAlike (few_places g arrays) (element_places g arrays)
places_alike g [] = λ p. refl
places_alike g (a ∷ around) =
    let few = few_rows g a around in
    let all = filter (names_row g) (numbers_at g a (element_places g around)) in
    alike-flat_map
    (elements_of g)
    (read_by g (extent g.leaves a) few)
    (read_by g (extent g.leaves a) all)
    (read_alike
    g
    (extent g.leaves a)
    few
    all
    (rows_named_alike g a (few_places g around) (element_places g around) (places_alike g around)))

-- the rows of a leaf
pub leaf_rows_alike : (g : Ground) (l : Leaf) → AreAlike (few_rows g l.entry l.arrays) (reached_through g l)
leaf_rows_alike g l =
    rows_named_alike g l.entry (few_places g l.arrays) (element_places g l.arrays) (places_alike g l.arrays)

-- a number is past the table's rows, as by the rule
pub beyond_same : (g : Ground) (l : Leaf) → (few_through g l).beyond ≡ list_any (is_beyond g) (numbers_of g l)
beyond_same g l =
    alike_any
    (is_beyond g)
    (numbers_at g l.entry (few_places g l.arrays))
    (numbers_of g l)
    (alike-map (number_at g l.entry) (few_places g l.arrays) (element_places g l.arrays) (places_alike g l.arrays))

-- the rows of all leaves
pub all_rows_alike : (g : Ground) (ls : List Leaf) → AreAlike (all_rows (map (few_through g) ls)) (flat_map (reached_through g) ls)
all_rows_alike g [] = λ p. refl
all_rows_alike g (l ∷ ls) =
    alike-append
    (few_rows g l.entry l.arrays)
    (reached_through g l)
    (all_rows (map (few_through g) ls))
    (flat_map (reached_through g) ls)
    (leaf_rows_alike g l)
    (all_rows_alike g ls)

-- ---- as many elements, where no row is named twice

-- no row is reached twice through the leaf
abbrev pub NamesOnce : Ground → Leaf → Type 0
NamesOnce g l = (r : ℕ) → tally (is_it r) (reached_through g l) ≤ 1

abbrev pub CountsAll : Ground → Leaf → Type 0
CountsAll g l = length (few_places g l.arrays) ≡ length (element_places g l.arrays)

-- the elements of those that are read
elements_read : (g : Ground) (bytes : ℕ) (all : List ℕ) → length (flat_map (elements_of g) (read_by g bytes all)) ≡ total (λ r. cond (is_placed g r && is_strided_by g bytes all r) (total (λ q. 1) (elements_of g r)) 0) all
elements_read g bytes all =
    let test = λ (r : ℕ). is_placed g r && is_strided_by g bytes all r in
    let w = λ (r : ℕ). total (λ q. 1) (elements_of g r) in
    sym (total_one (flat_map (elements_of g) (filter test all)))
    ∙ total_flat (λ q. 1) (elements_of g) (filter test all)
    ∙ total-filter w test all

places_counted : (g : Ground) (l : Leaf) → NamesOnce g l → length (few_places g (l.entry ∷ l.arrays)) ≡ length (element_places g (l.entry ∷ l.arrays))
places_counted g l once =
    let bytes = extent g.leaves l.entry in
    let xs = few_rows g l.entry l.arrays in
    let ys = reached_through g l in
    let alike = leaf_rows_alike g l in
    let w = λ (r : ℕ). total (λ q. 1) (elements_of g r) in
    elements_read g bytes xs
    ∙ total_every (λ r. cond (is_placed g r && is_strided_by g bytes xs r) (w r) 0) (λ r. cond (is_placed g r && is_strided_by g bytes ys r) (w r) 0) (λ r. ap (λ b. cond b (w r) 0) (same_test g bytes xs ys alike r)) xs
    ∙ total_alike (λ r. cond (is_placed g r && is_strided_by g bytes ys r) (w r) 0) (row_count g.memory) xs ys alike once (rows_below g (numbers_at g l.entry (few_places g l.arrays))) (named_below g (numbers_of g l))
    ∙ sym (elements_read g bytes ys)

mutual
  pub shape_counted : (g : Ground) (s : Shape) (i : ℕ) (arrays : List ℕ) → length (few_places g arrays) ≡ length (element_places g arrays) → Each (NamesOnce g) (arrays_among (leaves_in g.memory.entries s i arrays)) → Each (CountsAll g) (arrays_among (leaves_in g.memory.entries s i arrays))
  shape_counted g Void i arrays same once = tt
  shape_counted g (Number k) i arrays same once = tt
  shape_counted g (Array n s) i arrays same once =
      let l = leaf_in g.memory.entries (Array n s) i arrays in
      (same, shape_counted g s (i + 1) (i ∷ arrays) (places_counted g l once.0) once.1)
  shape_counted g (Cluster ss) i arrays same once = members_counted g ss (i + 1) arrays same once
  shape_counted g Mutex i arrays same once = tt

  pub members_counted : (g : Ground) (ss : Members) (i : ℕ) (arrays : List ℕ) → length (few_places g arrays) ≡ length (element_places g arrays) → Each (NamesOnce g) (arrays_among (leaves_among g.memory.entries ss i arrays)) → Each (CountsAll g) (arrays_among (leaves_among g.memory.entries ss i arrays))
  members_counted g no_members i arrays same once = tt
  members_counted g (member s ss) i arrays same once =
      let here = leaves_in g.memory.entries s i arrays in
      let rest = leaves_among g.memory.entries ss (i + size s) arrays in
      let both : arrays_among (here ++ rest) ≡ arrays_among here ++ arrays_among rest = filter-append (λ l. is_array l.shape) here rest in
      let two = each_apart (NamesOnce g) (arrays_among here) (arrays_among rest) (subst (Each (NamesOnce g)) both once) in
      subst
      (Each (CountsAll g))
      (sym both)
      (each_join
      (CountsAll g)
      (arrays_among here)
      (arrays_among rest)
      (shape_counted g s i arrays same two.0)
      (members_counted g ss (i + size s) arrays same two.1))
