-- What the heap holds are values of the variables' shapes.
use Rattle.std.proofs.Common.{◌≡◌, ℕ, Bool, true, ◌+◌, List, [], ◌∷◌, map, drop, refl}
use Rattle.std.specs.List.{list_all}
use Rattle.std.proofs.lemmas.Bool.{and_from}
use Rattle.nxt_model.proofs.Laws.Numbers.{number_of_kind}
use Rattle.nxt_types.specs.Shapes.{Shape, Void, Number, Array, Cluster, Mutex, Members, no_members, member}
use Rattle.nxt_types.specs.Names.{size}
use Rattle.nxt_types.specs.declared.shape.TocEntry.{TocEntry}
use Rattle.nxt_model.specs.Values.{Value, values, items, is_of, are_of}
use Rattle.nxt_heap.specs.Lists.{Lists, bytes_at}
use Rattle.nxt_values.specs.Held.{leaf_place, row_in, element_starts, value_at, values_among, values_in}

-- ---- values

pub each_of : (of : Value → Bool) (value : ℕ → Value) → ((base : ℕ) → of (value base) ≡ true) → (places : List ℕ) → list_all of (items (values (map value places))) ≡ true
each_of of value h [] = refl
each_of of value h (p ∷ ps) =
    and_from (of (value p)) (list_all of (items (values (map value ps)))) (h p) (each_of of value h ps)

mutual
  pub value_of : (table : List TocEntry) (h : Lists) (s : Shape) (i : ℕ) (bytes : List ℕ) (base : ℕ) → is_of s (value_at table h s i bytes base) ≡ true
  value_of table h Void i bytes base = refl
  value_of table h (Number k) i bytes base = number_of_kind k (drop (leaf_place table i base) bytes)
  value_of table h (Array stride s) i bytes base =
      let held = bytes_at h (row_in table i bytes base) in
      each_of (is_of s) (value_at table h s (i + 1) held) (value_of table h s (i + 1) held) (element_starts stride held)
  value_of table h (Cluster ss) i bytes base = values_of table h ss (i + 1) bytes base
  value_of table h Mutex i bytes base = refl

  pub values_of : (table : List TocEntry) (h : Lists) (ss : Members) (i : ℕ) (bytes : List ℕ) (base : ℕ) → are_of ss (items (values (values_among table h ss i bytes base))) ≡ true
  values_of table h no_members i bytes base = refl
  values_of table h (member s ss) i bytes base =
      and_from
      (is_of s (value_at table h s i bytes base))
      (are_of ss (items (values (values_among table h ss (i + size s) bytes base))))
      (value_of table h s i bytes base)
      (values_of table h ss (i + size s) bytes base)

pub held_of : (table : List TocEntry) (ss : Members) (h : Lists) → is_of (Cluster ss) (values_in table ss h) ≡ true
held_of table ss h = values_of table h ss 0 h.static_bytes 0
