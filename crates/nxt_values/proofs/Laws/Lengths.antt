-- How many members groups have.
use Rattle.std.proofs.Common.{◌≡◌, ℕ, suc, ◌+◌, ◌≤◌, List, [], ◌∷◌, length, refl, sym, ap, ◌∙◌, arith}
use Rattle.nxt_types.specs.Shapes.{Shape, members, cluster_of}
use Rattle.nxt_types.specs.Names.{size, sizes}
use Rattle.nxt_types.specs.declared.shape.TocEntry.{TocEntry}
use Rattle.nxt_types.proofs.Laws.Shapes.{size_positive}
use Rattle.nxt_model.specs.Values.{elements}
use Rattle.nxt_model.proofs.Laws.Values.{items-values}
use Rattle.nxt_heap.specs.Lists.{Lists}
use Rattle.nxt_values.specs.Held.{values_among}
use Rattle.nxt_values.specs.Regions.{bytes_in, value_there}
use Rattle.nxt_values.specs.declared.reading.Place.{Place}

count_among : (table : List TocEntry) (h : Lists) (ss : List Shape) (i : ℕ) (bytes : List ℕ) (base : ℕ) → length (values_among table h (members ss) i bytes base) ≡ length ss
count_among table h [] i bytes base = refl
count_among table h (s ∷ ss) i bytes base = ap suc (count_among table h ss (i + size s) bytes base)

-- a group has as many members as its shape
pub group_length : (table : List TocEntry) (h : Lists) (ss : List Shape) (whole : Shape) (at : Place) (n : ℕ) → whole ≡ cluster_of ss → n ≡ length ss → n ≡ length (elements (value_there table h whole at))
group_length table h ss whole at n is counted =
    let values = values_among table h (members ss) (at.entry + 1) (bytes_in h at.region) at.base in
    counted
    ∙ sym (count_among table h ss (at.entry + 1) (bytes_in h at.region) at.base)
    ∙ sym (ap length (items-values values))
    ∙ ap (λ w. length (elements (value_there table h w at))) (sym is)

-- each member takes an entry at least
pub few_members : (ss : List Shape) → length ss ≤ sizes (members ss)
few_members [] = omega arith
few_members (s ∷ ss) = omega (arith, size_positive s, few_members ss)
