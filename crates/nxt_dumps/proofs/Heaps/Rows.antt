-- The lists of a heap that holds values: whole elements, and lengths.
use Rattle.std.proofs.Common.{◌≡◌, ℕ, ◌+◌, ◌*◌, ◌/◌, ◌≤◌, List, [], ◌∷◌, ◌++◌, map, flat_map, length, refl, sym, ap, ap₂, ◌∙◌, arith}
use Rattle.std.proofs.lemmas.List.{length-map, map-append}
use Rattle.nxt_facts.proofs.Each.{Each, each_then, each_flat, each_join}
use Rattle.nxt_types.specs.Names.{size}
use Rattle.nxt_types.specs.Pool.{round4}
use Rattle.nxt_types.specs.Shapes.{Shape, Void, Number, Array, Cluster, Mutex, Members, no_members, member}
use Rattle.nxt_types.specs.declared.shape.TocEntry.{TocEntry}
use Rattle.nxt_model.specs.Values.{Value}
use Rattle.nxt_model.proofs.Laws.Values.{items-values}
use Rattle.nxt_heap.specs.Lists.{Lists, bytes_at, stride_at, stride_of}
use Rattle.nxt_values.specs.Held.{row_in, element_starts, value_at, values_among, rows_at, rows_among, HasElements, Holds, HoldAll}
use Rattle.nxt_values.proofs.Laws.HeldSizes.{held_elements, elements_fill, starts_are, row_bytes}
use Rattle.nxt_dumps.specs.Lengths.{lengths_in, lengths_among}

-- ---- whole elements

-- the row's list has a stride, and whole elements
pub record IsWhole (h : Lists) (r : ℕ) : Type 0 where
  pub some : 1 ≤ stride_at h r
  pub whole : length (bytes_at h r) / stride_at h r * stride_at h r ≡ length (bytes_at h r)

whole_row : (h : Lists) (row stride : ℕ) (holds : List ℕ → ℕ → Type 0) → HasElements h row stride holds → IsWhole h row
whole_row h row stride holds e =
    let wide : stride_at h row ≡ stride = ap stride_of e.here in
    record {
      some = omega (arith, wide, e.some);
      whole =
          ap (λ n. length (bytes_at h row) / n * n) wide
          ∙ ap (λ n. n * stride) (starts_are h row stride holds e)
          ∙ sym e.whole
          ∙ sym (ap length (row_bytes h row stride holds e));
    }

mutual
  rows_whole : (table : List TocEntry) (h : Lists) (s : Shape) (i : ℕ) (bytes : List ℕ) (base : ℕ) → Holds table h s i bytes base → Each (IsWhole h) (rows_at table h s i bytes base)
  rows_whole table h Void i bytes base e = tt
  rows_whole table h (Number k) i bytes base e = tt
  rows_whole table h (Array stride s) i bytes base e =
      let row = row_in table i bytes base in
      let held = bytes_at h row in
      let holds = Holds table h s (i + 1) in
      let rows = rows_at table h s (i + 1) held in (
        whole_row h row stride holds e.1,
        each_flat (IsWhole h) rows (element_starts stride held)
            (each_then (holds held) (λ at. Each (IsWhole h) (rows at)) (λ at k. rows_whole table h s (i + 1) held at k) (element_starts stride held) (held_elements h row stride holds e.1)),
      )
  rows_whole table h (Cluster ss) i bytes base e = all_whole table h ss (i + 1) bytes base e
  rows_whole table h Mutex i bytes base e = tt

  pub all_whole : (table : List TocEntry) (h : Lists) (ss : Members) (i : ℕ) (bytes : List ℕ) (base : ℕ) → HoldAll table h ss i bytes base → Each (IsWhole h) (rows_among table h ss i bytes base)
  all_whole table h no_members i bytes base e = tt
  all_whole table h (member s ss) i bytes base e =
      each_join (IsWhole h) (rows_at table h s i bytes base) (rows_among table h ss (i + size s) bytes base) (rows_whole table h s i bytes base e.0) (all_whole table h ss (i + size s) bytes base e.1)

-- ---- lengths

-- the bytes of a row's block
abbrev pub size_of : Lists → ℕ → ℕ
size_of h r = round4 (length (bytes_at h r))

each_lengths : (h : Lists) (s : Shape) (value : ℕ → Value) (rows : ℕ → List ℕ) (places : List ℕ) → Each (λ at. lengths_in s (value at) ≡ map (size_of h) (rows at)) places
    → flat_map (lengths_in s) (map value places) ≡ map (size_of h) (flat_map rows places)
each_lengths h s value rows [] e = refl
each_lengths h s value rows (at ∷ more) e =
    ap₂ (λ ms ns. ms ++ ns) e.0 (each_lengths h s value rows more e.1) ∙ sym (map-append (size_of h) (rows at) (flat_map rows more))

mutual
  rows_lengths : (table : List TocEntry) (h : Lists) (s : Shape) (i : ℕ) (bytes : List ℕ) (base : ℕ) → Holds table h s i bytes base → lengths_in s (value_at table h s i bytes base) ≡ map (size_of h) (rows_at table h s i bytes base)
  rows_lengths table h Void i bytes base e = refl
  rows_lengths table h (Number k) i bytes base e = refl
  rows_lengths table h (Array stride s) i bytes base e =
      let row = row_in table i bytes base in
      let held = bytes_at h row in
      let holds = Holds table h s (i + 1) in
      let starts = element_starts stride held in
      let value = value_at table h s (i + 1) held in
      let rows = rows_at table h s (i + 1) held in
      let long : length (map value starts) * stride ≡ length held = ap (λ n. n * stride) (length-map starts value) ∙ elements_fill h row stride holds e.1 in
      ap (λ vs. round4 (length vs * stride) ∷ flat_map (lengths_in s) vs) (items-values (map value starts))
      ∙ ap₂ (λ n ns. round4 n ∷ ns) long
      (each_lengths h s value rows starts
      (each_then (holds held) (λ at. lengths_in s (value at) ≡ map (size_of h) (rows at)) (λ at k. rows_lengths table h s (i + 1) held at k) starts (held_elements h row stride holds e.1)))
  rows_lengths table h (Cluster ss) i bytes base e =
      ap (lengths_among ss) (items-values (values_among table h ss (i + 1) bytes base)) ∙ all_lengths table h ss (i + 1) bytes base e
  rows_lengths table h Mutex i bytes base e = refl

  -- the lists of the values take the bytes of their rows
  pub all_lengths : (table : List TocEntry) (h : Lists) (ss : Members) (i : ℕ) (bytes : List ℕ) (base : ℕ) → HoldAll table h ss i bytes base → lengths_among ss (values_among table h ss i bytes base) ≡ map (size_of h) (rows_among table h ss i bytes base)
  all_lengths table h no_members i bytes base e = refl
  all_lengths table h (member s ss) i bytes base e =
      ap₂ (λ ms ns. ms ++ ns) (rows_lengths table h s i bytes base e.0) (all_lengths table h ss (i + size s) bytes base e.1)
      ∙ sym (map-append (size_of h) (rows_at table h s i bytes base) (rows_among table h ss (i + size s) bytes base))
