-- What a pool reads as, where it holds a heap that holds the variables.
use Rattle.std.proofs.Common.{◌≡◌, ℕ, zero, suc, ◌+◌, ◌-◌, ◌*◌, ◌/◌, ◌<◌, ◌≤◌, List, ◌∷◌, map, flat_map, take, drop, length, None, refl, sym, ap, ap₂, ◌∙◌, subst, arith, mul-div_cancel}
use Rattle.std.specs.Int.{from_le_bytes}
use Rattle.std.proofs.lemmas.List.{drop-drop, drop-take, take-take, length-map, map-append}
use Rattle.nxt_types.specs.Arithmetic.{width_of, leaf_size, extend}
use Rattle.nxt_types.specs.Bytes.{u16_at}
use Rattle.nxt_types.specs.Shapes.{Shape, Void, Number, Array, Cluster, Mutex, Members, no_members, member}
use Rattle.nxt_types.specs.Names.{size}
use Rattle.nxt_types.proofs.Laws.Bytes.{u16_at-same}
use Rattle.nxt_model.specs.Values.{Value, Num, list_of, group_of, elements}
use Rattle.nxt_model.specs.Reading.{Memory, HeldList, held, dope_row, EachReads, RowReads, Reads, MembersRead}
use Rattle.nxt_model.specs.Reading.{leaf_place as pool_place}
use Rattle.nxt_model.proofs.Laws.Values.{items-values}
use Rattle.nxt_facts.specs.Places.{places_from}
use Rattle.nxt_facts.proofs.Each.{Each, each_then}
use Rattle.nxt_facts.proofs.Places.{length-places}
use Rattle.nxt_heap.specs.Dumps.{StandAt, HoldHeap}
use Rattle.nxt_heap.specs.Lists.{Lists, list_at, bytes_at, bytes_of, stride_at, stride_of}
use Rattle.nxt_values.specs.Held.{leaf_place, row_in, element_starts, value_at, values_among, rows_at, rows_among, HasElements, Holds, HoldAll}
use Rattle.nxt_values.proofs.Laws.HeldSizes.{held_elements}

-- the list in a row of the heap
abbrev pub list_in : Lists → ℕ → HeldList
list_in h row = held row (stride_at h row) (length (bytes_at h row) / stride_at h row)

abbrev pub lists_in : Lists → List ℕ → List HeldList
lists_in h rows = map (list_in h) rows

-- ---- windows

-- bytes in a part of the pool
window : (pool bytes : List ℕ) (place at n : ℕ) → StandAt pool place bytes → at + n ≤ length bytes → take n (drop (place + at) pool) ≡ take n (drop at bytes)
window pool bytes place at n stand fits =
    let m = length bytes - at in
    let whole : at + m ≡ length bytes = omega (arith, fits) in
    let part : bytes ≡ take (at + m) (drop place pool) = sym stand.are ∙ ap (λ k. take k (drop place pool)) (sym whole) in
    sym (ap (λ xs. take n (drop at xs)) part
    ∙ ap (take n) (drop-take at m (drop place pool))
    ∙ take-take n m (drop at (drop place pool)) (omega (arith, fits))
    ∙ ap (take n) (drop-drop at place pool))

-- ---- elements

each_read : (h : Lists) (reads : ℕ → Value → List HeldList → Type 0) (value : ℕ → Value) (rows : ℕ → List ℕ) (place at stride n : ℕ) → Each (λ base. reads (place + base) (value base) (lists_in h (rows base))) (places_from at stride n) → EachReads reads (place + at) stride (map value (places_from at stride n)) (lists_in h (flat_map rows (places_from at stride n)))
each_read h reads value rows place at stride zero e = refl
each_read h reads value rows place at stride (suc n) e =
    let next = places_from (at + stride) stride n in
    let there : place + (at + stride) ≡ (place + at) + stride = omega arith in (
      lists_in h (rows at),
      lists_in h (flat_map rows next),
      map-append (list_in h) (rows at) (flat_map rows next),
      e.0,
      subst
          (λ p. EachReads reads p stride (map value next) (lists_in h (flat_map rows next)))
          there
          (each_read h reads value rows place (at + stride) stride n e.1),
    )

-- it is enough to know it where there are elements
where_some : (P : ℕ → Type 0) (at stride n : ℕ) → (0 < n → Each P (places_from at stride n)) → Each P (places_from at stride n)
where_some P at stride zero h = tt
where_some P at stride (suc n) h = h (omega arith)

pub count_of : (count stride n : ℕ) → 1 ≤ stride → count * stride ≡ n → n / stride ≡ count
count_of count stride n some e = ap (λ k. k / stride) (sym e) ∙ mul-div_cancel count some

-- a row's elements, as a number in the pool names it
row_reads : (m : Memory) (h : Lists) (reads : ℕ → Value → List HeldList → Type 0) (value : ℕ → Value) (rows : ℕ → List ℕ) (holds : List ℕ → ℕ → Type 0) (stride row : ℕ) → HoldHeap m.bytes m.table h → list_at h 0 ≡ None → HasElements h row stride holds → (StandAt m.bytes (dope_row m row).place (bytes_at h row) → Each (λ at. reads ((dope_row m row).place + at) (value at) (lists_in h (rows at))) (element_starts stride (bytes_at h row))) → RowReads m reads stride row (map value (element_starts stride (bytes_at h row))) (list_in h row ∷ lists_in h (flat_map rows (element_starts stride (bytes_at h row))))
row_reads m h reads value rows holds stride zero pool first has e = let f : ⊥ = cc (first, has.here) in absurd f
row_reads m h reads value rows holds stride (suc r) pool first has e =
    let row = suc r in
    let place = (dope_row m row).place in
    let bytes = bytes_at h row in
    let n = length bytes / stride in
    let starts = element_starts stride bytes in
    let lists = lists_in h (flat_map rows starts) in
    let is = pool.lists row (record { stride = stride; bytes = has.bytes }) has.here in
    let own : stride_at h row ≡ stride = ap stride_of has.here in
    let same : bytes ≡ has.bytes = ap bytes_of has.here in
    let counted : n ≡ (dope_row m row).count = ap (λ xs. length xs / stride) same ∙ count_of (dope_row m row).count stride (length has.bytes) has.some is.whole in
    let long : length (map value starts) ≡ n = length-map starts value ∙ length-places 0 stride n in
    let none : place + 0 ≡ place = omega arith in
    let inside : Each (λ at. reads (place + at) (value at) (lists_in h (rows at))) starts =
    where_some (λ at. reads (place + at) (value at) (lists_in h (rows at))) 0 stride n (λ some. e (subst (StandAt m.bytes place) (sym same) (is.there (subst (λ k. 0 < k) counted some)))) in (
      lists,
      ap₂ (λ s k. held row s k ∷ lists) own (ap (λ s. length bytes / s) own ∙ sym long),
      is.within,
      sym (long ∙ counted),
      subst
          (λ p. EachReads reads p (dope_row m row).stride (map value starts) lists)
          none
          (subst (λ s. EachReads reads (place + 0) s (map value starts) lists) (sym is.stride) (each_read h reads value rows place 0 stride n inside)),
    )

-- ---- the whole

module _ (m : Memory) (h : Lists) (pool : HoldHeap m.bytes m.table h) (first : list_at h 0 ≡ None) where
  leaf_there : (i place base : ℕ) → pool_place m i (place + base) ≡ place + leaf_place m.entries i base
  leaf_there i place base = omega arith

  -- what stands in bytes that stand in the pool
  mutual
    pub value_reads : (s : Shape) (i : ℕ) (bytes : List ℕ) (base place : ℕ) → StandAt m.bytes place bytes → Holds m.entries h s i bytes base → Reads m i s (place + base) (value_at m.entries h s i bytes base) (lists_in h (rows_at m.entries h s i bytes base))
    value_reads Void i bytes base place stand e = (refl, refl)
    value_reads (Number k) i bytes base place stand e =
        let there = leaf_there i place base in (
          omega (arith, there, e, stand.within),
          ap (λ xs. Num (extend k (from_le_bytes (width_of k) xs))) (sym (ap (λ at. take (leaf_size k) (drop at m.bytes)) there ∙ window m.bytes bytes place (leaf_place m.entries i base) (leaf_size k) stand e)),
          refl,
        )
    value_reads (Array stride s) i bytes base place stand e =
        let there = leaf_there i place base in
        let row = row_in m.entries i bytes base in
        let own = bytes_at h row in
        let starts = element_starts stride own in
        let value = value_at m.entries h s (i + 1) own in
        let rows = rows_at m.entries h s (i + 1) own in
        let lists = list_in h row ∷ lists_in h (flat_map rows starts) in
        let at = (dope_row m row).place in
        let named : u16_at m.bytes (pool_place m i (place + base)) ≡ row =
        u16_at-same m.bytes bytes _ _ (ap (λ at. take 2 (drop at m.bytes)) there ∙ window m.bytes bytes place (leaf_place m.entries i base) 2 stand e.0) in
        let reads : RowReads m (Reads m (i + 1) s) stride row (map value starts) lists =
        row_reads m h (Reads m (i + 1) s) value rows (Holds m.entries h s (i + 1)) stride row pool first e.1 (λ here.
        each_then
        (Holds m.entries h s (i + 1) own)
        (λ b. Reads m (i + 1) s (at + b) (value b) (lists_in h (rows b)))
        (λ b k. value_reads s (i + 1) own b at here k)
        starts
        (held_elements h row stride (Holds m.entries h s (i + 1)) e.1)) in (
          omega (arith, there, e.0, stand.within),
          ap list_of (sym (items-values (map value starts))),
          subst
              (λ q. RowReads m (Reads m (i + 1) s) stride q (elements (list_of (map value starts))) lists)
              (sym named)
              (subst (λ vs. RowReads m (Reads m (i + 1) s) stride row vs lists) (sym (items-values (map value starts))) reads),
        )
    value_reads (Cluster ss) i bytes base place stand e =
        let vs = values_among m.entries h ss (i + 1) bytes base in (
          ap group_of (sym (items-values vs)),
          subst
              (λ ws. MembersRead m (i + 1) ss (place + base) ws (lists_in h (rows_among m.entries h ss (i + 1) bytes base)))
              (sym (items-values vs))
              (members_read ss (i + 1) bytes base place stand e),
        )
    value_reads Mutex i bytes base place stand e = (refl, refl)

    pub members_read : (ss : Members) (i : ℕ) (bytes : List ℕ) (base place : ℕ) → StandAt m.bytes place bytes → HoldAll m.entries h ss i bytes base → MembersRead m i ss (place + base) (values_among m.entries h ss i bytes base) (lists_in h (rows_among m.entries h ss i bytes base))
    members_read no_members i bytes base place stand e = (refl, refl)
    members_read (member s ss) i bytes base place stand e =
        let here = rows_at m.entries h s i bytes base in
        let rest = rows_among m.entries h ss (i + size s) bytes base in (
          lists_in h here,
          lists_in h rest,
          map-append (list_in h) here rest,
          value_reads s i bytes base place stand e.0,
          members_read ss (i + size s) bytes base place stand e.1,
        )
