-- How many lists the variables have, and how many bytes these take, by the rows of the heap.
use Rattle.std.proofs.Common.{◌≡◌, ℕ, ◌+◌, ◌*◌, ◌/◌, ◌≤◌, List, [], ◌∷◌, map, flat_map, sum_by, length, refl, sym, ap, ap₂, ◌∙◌, subst, arith, length-append, mul-div_cancel}
use Rattle.std.proofs.lemmas.List.{length-map}
use Rattle.std.proofs.lemmas.List.Sums.{sum_by-cons, sum_by-append}
use Rattle.nxt_types.specs.Shapes.{Shape, Void, Number, Array, Cluster, Mutex, Members, no_members, member}
use Rattle.nxt_types.specs.Names.{size}
use Rattle.nxt_types.specs.declared.shape.TocEntry.{TocEntry}
use Rattle.nxt_model.specs.Values.{Value, values, items, lists_in, lists_among as lists_within}
use Rattle.nxt_model.specs.Footprint.{list_bytes, member_bytes}
use Rattle.nxt_types.specs.Pool.{round4}
use Rattle.nxt_model.proofs.Laws.Values.{items-values}
use Rattle.nxt_facts.specs.Places.{places_from}
use Rattle.nxt_facts.proofs.Each.{Each, each_then}
use Rattle.nxt_facts.proofs.Places.{length-places}
use Rattle.nxt_heap.specs.Lists.{Lists, bytes_at, bytes_of}
use Rattle.nxt_values.specs.Held.{row_in, element_starts, value_at, values_among, values_in, rows_at, rows_among, HasElements, Holds, HoldAll, IsHeld}

-- ---- counts

pub each_counted : (value : ℕ → Value) (rows : ℕ → List ℕ) → ((base : ℕ) → lists_in (value base) ≡ length (rows base)) → (places : List ℕ) → lists_within (values (map value places)) ≡ length (flat_map rows places)
each_counted value rows h [] = refl
each_counted value rows h (p ∷ ps) =
    omega (arith, h p, each_counted value rows h ps, length-append (rows p) (flat_map rows ps))

-- as many lists stand in a value as it has rows
mutual
  pub value_counted : (table : List TocEntry) (h : Lists) (s : Shape) (i : ℕ) (bytes : List ℕ) (base : ℕ) → lists_in (value_at table h s i bytes base) ≡ length (rows_at table h s i bytes base)
  value_counted table h Void i bytes base = refl
  value_counted table h (Number k) i bytes base = refl
  value_counted table h (Array stride s) i bytes base =
      let held = bytes_at h (row_in table i bytes base) in
      let e =
      each_counted (value_at table h s (i + 1) held) (rows_at table h s (i + 1) held) (value_counted table h s (i + 1) held) (element_starts stride held)
      in
      omega (arith, e)
  value_counted table h (Cluster ss) i bytes base = values_counted table h ss (i + 1) bytes base
  value_counted table h Mutex i bytes base = refl

  pub values_counted : (table : List TocEntry) (h : Lists) (ss : Members) (i : ℕ) (bytes : List ℕ) (base : ℕ) → lists_within (values (values_among table h ss i bytes base)) ≡ length (rows_among table h ss i bytes base)
  values_counted table h no_members i bytes base = refl
  values_counted table h (member s ss) i bytes base =
      omega (
        arith,
        value_counted table h s i bytes base,
        values_counted table h ss (i + size s) bytes base,
        length-append (rows_at table h s i bytes base) (rows_among table h ss (i + size s) bytes base),
      )

pub lists_counted : (table : List TocEntry) (ss : Members) (h : Lists) → lists_in (values_in table ss h) ≡ length (rows_among table h ss 0 h.static_bytes 0)
lists_counted table ss h = values_counted table h ss 0 h.static_bytes 0

-- ---- lists with their rows

-- as many elements as the row's bytes are long
pub count_is : (n stride count : ℕ) → 1 ≤ stride → n ≡ count * stride → n / stride ≡ count
count_is n stride count some e = ap (λ m. m / stride) e ∙ mul-div_cancel count some

-- the bytes of the row are those that hold the elements
pub row_bytes : (h : Lists) (row stride : ℕ) (holds : List ℕ → ℕ → Type 0) → (e : HasElements h row stride holds) → bytes_at h row ≡ e.bytes
row_bytes h row stride holds e = ap bytes_of e.here

pub starts_are : (h : Lists) (row stride : ℕ) (holds : List ℕ → ℕ → Type 0) → (e : HasElements h row stride holds) → length (bytes_at h row) / stride ≡ e.count
starts_are h row stride holds e =
    ap (λ bytes. length bytes / stride) (row_bytes h row stride holds e)
    ∙ count_is (length e.bytes) stride e.count e.some e.whole

-- what holds in the elements, at the places where they begin
pub held_elements : (h : Lists) (row stride : ℕ) (holds : List ℕ → ℕ → Type 0) → HasElements h row stride holds → Each (holds (bytes_at h row)) (element_starts stride (bytes_at h row))
held_elements h row stride holds e =
    subst
    (λ n. Each (holds (bytes_at h row)) (places_from 0 stride n))
    (sym (starts_are h row stride holds e))
    (subst (λ bytes. Each (holds bytes) (places_from 0 stride e.count)) (sym (row_bytes h row stride holds e)) e.elements)

-- the elements fill the row's bytes
pub elements_fill : (h : Lists) (row stride : ℕ) (holds : List ℕ → ℕ → Type 0) → HasElements h row stride holds → length (element_starts stride (bytes_at h row)) * stride ≡ length (bytes_at h row)
elements_fill h row stride holds e =
    ap (λ n. n * stride) (length-places 0 stride (length (bytes_at h row) / stride) ∙ starts_are h row stride holds e)
    ∙ sym e.whole
    ∙ ap length (sym (row_bytes h row stride holds e))

-- ---- bytes

-- the bytes that a row's list takes
abbrev pub row_size : Lists → ℕ → ℕ
row_size h row = round4 (length (bytes_at h row))

pub each_sized : (bytes : Value → ℕ) (w : ℕ → ℕ) (value : ℕ → Value) (rows : ℕ → List ℕ) (places : List ℕ) → Each (λ base. bytes (value base) ≡ sum_by w (rows base)) places → sum_by bytes (map value places) ≡ sum_by w (flat_map rows places)
each_sized bytes w value rows [] e = refl
each_sized bytes w value rows (p ∷ ps) e =
    omega (
      arith,
      sum_by-cons bytes (value p) (map value ps),
      e.0,
      each_sized bytes w value rows ps e.1,
      sum_by-append w (rows p) (flat_map rows ps),
    )

pub list_sized : (bytes : Value → ℕ) (stride : ℕ) (vs : List Value) (all inner : ℕ) → length vs * stride ≡ all → sum_by bytes vs ≡ inner → round4 (length (items (values vs)) * stride) + sum_by bytes (items (values vs)) ≡ round4 all + inner
list_sized bytes stride vs all inner long sized =
    ap (λ ws. round4 (length ws * stride) + sum_by bytes ws) (items-values vs)
    ∙ ap₂ (λ (n k : ℕ). round4 n + k) long sized

-- a value's lists take as many bytes as those of its rows
mutual
  pub value_sized : (table : List TocEntry) (h : Lists) (s : Shape) (i : ℕ) (bytes : List ℕ) (base : ℕ) → Holds table h s i bytes base → list_bytes s (value_at table h s i bytes base) ≡ sum_by (row_size h) (rows_at table h s i bytes base)
  value_sized table h Void i bytes base e = refl
  value_sized table h (Number k) i bytes base e = refl
  value_sized table h (Array stride s) i bytes base e =
      let row = row_in table i bytes base in
      let held = bytes_at h row in
      let holds = Holds table h s (i + 1) in
      let starts = element_starts stride held in
      let value = value_at table h s (i + 1) held in
      let rows = rows_at table h s (i + 1) held in
      (list_sized
      (list_bytes s)
      stride
      (map value starts)
      (length held)
      (sum_by (row_size h) (flat_map rows starts))
      (ap (λ n. n * stride) (length-map starts value) ∙ elements_fill h row stride holds e.1)
      (each_sized
      (list_bytes s)
      (row_size h)
      value
      rows
      starts
      (each_then
      (holds held)
      (λ at. list_bytes s (value at) ≡ sum_by (row_size h) (rows at))
      (λ at k. value_sized table h s (i + 1) held at k)
      starts
      (held_elements h row stride holds e.1))))
      ∙ sym (sum_by-cons (row_size h) row (flat_map rows starts))
  value_sized table h (Cluster ss) i bytes base e =
      ap (member_bytes ss) (items-values (values_among table h ss (i + 1) bytes base)) ∙ values_sized table h ss (i + 1) bytes base e
  value_sized table h Mutex i bytes base e = refl

  pub values_sized : (table : List TocEntry) (h : Lists) (ss : Members) (i : ℕ) (bytes : List ℕ) (base : ℕ) → HoldAll table h ss i bytes base → member_bytes ss (values_among table h ss i bytes base) ≡ sum_by (row_size h) (rows_among table h ss i bytes base)
  values_sized table h no_members i bytes base e = refl
  values_sized table h (member s ss) i bytes base e =
      omega (
        arith,
        value_sized table h s i bytes base e.0,
        values_sized table h ss (i + size s) bytes base e.1,
        sum_by-append (row_size h) (rows_at table h s i bytes base) (rows_among table h ss (i + size s) bytes base),
      )

pub lists_sized : (table : List TocEntry) (ss : Members) (h : Lists) → IsHeld table ss h → list_bytes (Cluster ss) (values_in table ss h) ≡ sum_by (row_size h) (rows_among table h ss 0 h.static_bytes 0)
lists_sized table ss h e =
    ap (member_bytes ss) (items-values (values_among table h ss 0 h.static_bytes 0))
    ∙ values_sized table h ss 0 h.static_bytes 0 e.holds
