-- The elements of each list of the variables are apart.
use Rattle.std.proofs.Common.{ℕ, ◌+◌, ◌≤◌, List, sym, ap, subst}
use Rattle.nxt_types.specs.Names.{size}
use Rattle.nxt_types.specs.Shapes.{Shape, Void, Number, Array, Cluster, Mutex, Members, no_members, member}
use Rattle.nxt_types.specs.declared.shape.TocEntry.{TocEntry}
use Rattle.nxt_facts.proofs.Each.{Each, each_then, each_flat, each_join}
use Rattle.nxt_heap.specs.Lists.{Lists, bytes_at, stride_at, stride_of}
use Rattle.nxt_values.specs.Held.{row_in, element_starts, rows_at, rows_among, Holds, HoldAll}
use Rattle.nxt_values.proofs.Laws.HeldSizes.{held_elements}

abbrev HasStride : Lists → ℕ → Type 0
HasStride h r = 1 ≤ stride_at h r

mutual
  pub rows_strided : (table : List TocEntry) (h : Lists) (s : Shape) (i : ℕ) (bytes : List ℕ) (base : ℕ) → Holds table h s i bytes base → Each (HasStride h) (rows_at table h s i bytes base)
  rows_strided table h Void i bytes base e = tt
  rows_strided table h (Number k) i bytes base e = tt
  rows_strided table h (Array stride s) i bytes base e =
      let row = row_in table i bytes base in
      let held = bytes_at h row in
      let holds = Holds table h s (i + 1) in
      let rows = rows_at table h s (i + 1) held in (
        subst (λ n. 1 ≤ n) (sym (ap stride_of e.1.here)) e.1.some,
        each_flat
            (HasStride h)
            rows
            (element_starts stride held)
            (each_then
            (holds held)
            (λ at. Each (HasStride h) (rows at))
            (λ at k. rows_strided table h s (i + 1) held at k)
            (element_starts stride held)
            (held_elements h row stride holds e.1)),
      )
  rows_strided table h (Cluster ss) i bytes base e = all_strided table h ss (i + 1) bytes base e
  rows_strided table h Mutex i bytes base e = tt

  pub all_strided : (table : List TocEntry) (h : Lists) (ss : Members) (i : ℕ) (bytes : List ℕ) (base : ℕ) → HoldAll table h ss i bytes base → Each (HasStride h) (rows_among table h ss i bytes base)
  all_strided table h no_members i bytes base e = tt
  all_strided table h (member s ss) i bytes base e =
      each_join
      (HasStride h)
      (rows_at table h s i bytes base)
      (rows_among table h ss (i + size s) bytes base)
      (rows_strided table h s i bytes base e.0)
      (all_strided table h ss (i + size s) bytes base e.1)
