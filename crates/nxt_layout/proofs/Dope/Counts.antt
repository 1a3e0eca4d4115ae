-- The lists that are found, by the rows that the arrays' numbers name: each row that is reached is held as often.
use Rattle.std.proofs.Common.{◌≡◌, ℕ, zero, suc, ◌+◌, ◌<◌, Bool, true, cond, ◌==◌, List, [], ◌∷◌, ◌++◌, filter, flat_map, refl, sym, ap, ◌∙◌, subst, arith, ne_eqb}
use Rattle.std.proofs.lemmas.List.Concat.{flat_map-append}
use Rattle.std.proofs.lemmas.List.Elements.{filter-append}
use Rattle.std.proofs.lemmas.List.Folds.{flat_map-map}
use Rattle.nxt_types.specs.Shapes.{Shape, Void, Number, Array, Cluster, Mutex, Members, no_members, member}
use Rattle.nxt_types.specs.Names.{size}
use Rattle.nxt_model.specs.Reading.{HeldList, held, row_count}
use Rattle.nxt_table.specs.Leaves.{Leaf}
use Rattle.nxt_layout.specs.Rows.{Ground, row, names_row, is_array, elements_of, element_places, numbers_of, reached_through}
use Rattle.nxt_facts.proofs.Each.{Each, each_then, each_apart, each_filter}
use Rattle.nxt_facts.proofs.Sums.{total, total-append, total_two, total_none, total_flat, total_same, bit, tally, is_it}
use Rattle.nxt_layout.proofs.Start.ValueAt.{number_at, row_lists, lists_at, lists_among, names_it}
use Rattle.nxt_layout.proofs.Start.Leaves.{leaf_in, leaves_in, leaves_among, HasFairRows, IsFair, AreFair}
use Rattle.nxt_layout.proofs.Start.Reads.{all_read}

abbrev pub is_row : ℕ → HeldList → Bool
is_row r l = l.row == r

-- ---- the lists that are found

-- the list that a number names
abbrev pub held_of : Ground → ℕ → ℕ → HeldList
held_of g stride zero = held 0 stride 0
held_of g stride (suc r) = held (suc r) stride (row g (suc r)).count

-- the lists in the elements of these rows
abbrev inner : Ground → (ℕ → List HeldList) → List ℕ → List HeldList
inner g lists rows = flat_map lists (flat_map (elements_of g) rows)

regroup : (one all here rest named others both : ℕ) → all ≡ here + rest → rest ≡ named + others → both ≡ here + others → one + all ≡ (one + named) + both
regroup one all here rest named others both a b c = omega arith

numbers_total : (w : HeldList → ℕ) (g : Ground) (stride : ℕ) (lists : ℕ → List HeldList) (ns : List ℕ) → Each (λ n. n < row_count g.memory) ns → total w (flat_map (row_lists g stride lists) ns) ≡ total (λ r. w (held_of g stride r)) ns + total w (inner g lists (filter (names_row g) ns))
numbers_total w g stride lists [] h = refl
numbers_total w g stride lists (zero ∷ ns) h = omega (arith, numbers_total w g stride lists ns h.1)
numbers_total w g stride lists (suc q ∷ ns) h =
    let kept : filter (names_row g) (suc q ∷ ns) ≡ suc q ∷ filter (names_row g) ns =
    ap (λ b. cond b (suc q ∷ filter (names_row g) ns) (filter (names_row g) ns)) (names_it g q h.0) in
    let rest = numbers_total w g stride lists ns h.1 in
    let here = elements_of g (suc q) in
    let others = flat_map (elements_of g) (filter (names_row g) ns) in
    subst
    (λ rows. total w (flat_map (row_lists g stride lists) (suc q ∷ ns)) ≡ total (λ r. w (held_of g stride r)) (suc q ∷ ns) + total w (inner g lists rows))
    (sym kept)
    (regroup
    (w (held_of g stride (suc q)))
    (total w (flat_map lists here ++ flat_map (row_lists g stride lists) ns))
    (total w (flat_map lists here))
    (total w (flat_map (row_lists g stride lists) ns))
    (total (λ r. w (held_of g stride r)) ns)
    (total w (flat_map lists others))
    (total w (flat_map lists (here ++ others)))
    (total-append w (flat_map lists here) (flat_map (row_lists g stride lists) ns))
    rest
    (ap (total w) (flat_map-append lists here others) ∙ total-append w (flat_map lists here) (flat_map lists others)))

abbrev pub arrays_among : List Leaf → List Leaf
arrays_among ls = filter (λ l. is_array l.shape) ls

-- the weight of the lists that an array's entry names
abbrev pub weight_of : (HeldList → ℕ) → Ground → (ℕ → ℕ) → Leaf → ℕ
weight_of w g f l = total (λ r. w (held_of g (f l.entry) r)) (numbers_of g l)

array_step : (all by_number here deep found others : ℕ) → all ≡ by_number → by_number ≡ here + deep → found ≡ deep → found ≡ others → all ≡ here + others
array_step all by_number here deep found others a b c d = omega arith

member_step : (all a b c d both : ℕ) → all ≡ a + b → a ≡ c → b ≡ d → both ≡ c + d → all ≡ both
member_step all a b c d both h k l m = omega arith

mutual
  shape_total : (w : HeldList → ℕ) (g : Ground) (f : ℕ → ℕ) (s : Shape) (i : ℕ) (arrays : List ℕ) → AreFair g (leaves_in g.memory.entries s i arrays) → total w (flat_map (lists_at g f s i) (element_places g arrays)) ≡ total (weight_of w g f) (arrays_among (leaves_in g.memory.entries s i arrays))
  shape_total w g f Void i arrays fair = total_none w (element_places g arrays)
  shape_total w g f (Number k) i arrays fair = total_none w (element_places g arrays)
  shape_total w g f (Array n s) i arrays fair =
      let l = leaf_in g.memory.entries (Array n s) i arrays in
      let rows : HasFairRows g l = fair.0.rows refl in
      let lists = lists_at g f s (i + 1) in
      array_step
      (total w (flat_map (lists_at g f (Array n s) i) (element_places g arrays)))
      (total w (flat_map (row_lists g (f i) lists) (numbers_of g l)))
      (weight_of w g f l)
      (total w (inner g lists (reached_through g l)))
      (total w (flat_map lists (element_places g (i ∷ arrays))))
      (total (weight_of w g f) (arrays_among (leaves_in g.memory.entries s (i + 1) (i ∷ arrays))))
      (ap (total w) (sym (flat_map-map (row_lists g (f i) lists) (number_at g i) (element_places g arrays))))
      (numbers_total w g (f i) lists (numbers_of g l) rows.named)
      (ap (λ ps. total w (flat_map lists ps)) (all_read g l rows))
      (shape_total w g f s (i + 1) (i ∷ arrays) fair.1)
  shape_total w g f (Cluster ss) i arrays fair = members_total w g f ss (i + 1) arrays fair
  shape_total w g f Mutex i arrays fair = total_none w (element_places g arrays)

  pub members_total : (w : HeldList → ℕ) (g : Ground) (f : ℕ → ℕ) (ss : Members) (i : ℕ) (arrays : List ℕ) → AreFair g (leaves_among g.memory.entries ss i arrays) → total w (flat_map (lists_among g f ss i) (element_places g arrays)) ≡ total (weight_of w g f) (arrays_among (leaves_among g.memory.entries ss i arrays))
  members_total w g f no_members i arrays fair = total_none w (element_places g arrays)
  members_total w g f (member s ss) i arrays fair =
      let here = leaves_in g.memory.entries s i arrays in
      let rest = leaves_among g.memory.entries ss (i + size s) arrays in
      let two = each_apart (IsFair g) here rest fair in
      member_step
      _
      _
      _
      _
      _
      _
      (total_two w (lists_at g f s i) (lists_among g f ss (i + size s)) (element_places g arrays))
      (shape_total w g f s i arrays two.0)
      (members_total w g f ss (i + size s) arrays two.1)
      (ap (total (weight_of w g f)) (filter-append (λ l. is_array l.shape) here rest)
      ∙ total-append (weight_of w g f) (arrays_among here) (arrays_among rest))

-- ---- by row

-- the numbers that name no row are of empty lists
pub named_total : (w : HeldList → ℕ) (g : Ground) (stride : ℕ) (ns : List ℕ) → w (held 0 stride 0) ≡ 0 → Each (λ n. n < row_count g.memory) ns → total (λ r. w (held_of g stride r)) ns ≡ total (λ r. w (held r stride (row g r).count)) (filter (names_row g) ns)
named_total w g stride [] none h = refl
named_total w g stride (zero ∷ ns) none h = omega (arith, none, named_total w g stride ns none h.1)
named_total w g stride (suc q ∷ ns) none h =
    ap (λ n. w (held (suc q) stride (row g (suc q)).count) + n) (named_total w g stride ns none h.1)
    ∙ ap
    (λ b. total (λ r. w (held r stride (row g r).count)) (cond b (suc q ∷ filter (names_row g) ns) (filter (names_row g) ns)))
    (sym (names_it g q h.0))

pub members_tally : (g : Ground) (f : ℕ → ℕ) (r : ℕ) (ss : Members) (i : ℕ) (arrays : List ℕ) → 0 < r → AreFair g (leaves_among g.memory.entries ss i arrays) → tally (is_row r) (flat_map (lists_among g f ss i) (element_places g arrays)) ≡ tally (is_it r) (flat_map (reached_through g) (arrays_among (leaves_among g.memory.entries ss i arrays)))
members_tally g f r ss i arrays some fair =
    let w = λ (l : HeldList). bit (is_row r l) in
    let leaves = leaves_among g.memory.entries ss i arrays in
    let none : w (held 0 0 0) ≡ 0 = ap bit (ne_eqb 0 r (λ e. omega (arith, e, some))) in
    members_total w g f ss i arrays fair
    ∙ total_same
    (weight_of w g f)
    (λ l. tally (is_it r) (reached_through g l))
    (arrays_among leaves)
    (each_filter
    (λ l. weight_of w g f l ≡ tally (is_it r) (reached_through g l))
    (λ l. is_array l.shape)
    leaves
    (each_then
    (IsFair g)
    (λ l. is_array l.shape ≡ true → weight_of w g f l ≡ tally (is_it r) (reached_through g l))
    (λ l h it. named_total w g (f l.entry) (numbers_of g l) none (h.rows it).named)
    leaves
    fair))
    ∙ sym (total_flat (λ q. bit (is_it r q)) (reached_through g) (arrays_among leaves))
