-- A number whose bytes are stored.
use Rattle.std.proofs.Common.{◌≡◌, ◌⊎◌, inl, inr, take, ap, subst, arith, [], ◌∷◌, ℕ, ◌+◌, ◌≤◌, List, drop, length, refl}
use Rattle.std.specs.Prelude.{ℤ}
use Rattle.nxt_types.specs.Arithmetic.{leaf_size, cut, extend, width_of}
use Rattle.nxt_model.specs.Spans.{Span}
use Rattle.std.specs.Int.{from_le_bytes}
use Rattle.nxt_types.specs.Shapes.{Number}
use Rattle.nxt_types.specs.declared.kind.Kind.{Kind}
use Rattle.nxt_types.specs.declared.shape.TocEntry.{TocEntry}
use Rattle.nxt_heap.specs.Lists.{Lists, footprint}
use Rattle.nxt_values.specs.Held.{leaf_place}
use Rattle.nxt_values.specs.Regions.{bytes_in, IsRegion}
use Rattle.nxt_values.specs.Writes.{with_bytes, put, bytes_of_number}
use Rattle.nxt_values.specs.Fills.{Fills, first_of}
use Rattle.nxt_values.specs.declared.reading.Region.{Region}
use Rattle.nxt_model.specs.Means.Text.{number_in}
use Rattle.nxt_values.proofs.Fill.Bytes.{number_stored, number_size, length-put, put_same}
use Rattle.nxt_values.proofs.Laws.Opened.{footprint_put}
use Rattle.nxt_values.proofs.Laws.Steps.{number_filled}

-- they fill its place with it
pub number_fills : (table : List TocEntry) (h g : Lists) (k : Kind) (i : ℕ) (region : Region) (base at : ℕ) (zs : List ℤ) → IsRegion h region → at ≡ leaf_place table i base → at + leaf_size k ≤ length (bytes_in h region) → g ≡ with_bytes h region (put (bytes_of_number k (first_of zs)) at (bytes_in h region)) → Fills table h g (Number k) i region base zs (drop 1 zs)
number_fills table h g k i region base at zs there place within is =
    number_filled table h g k i region base at (first_of zs) zs (drop 1 zs) there place within refl refl is

-- and the heap takes as much of the pool as before
pub bytes_put_fit : (h : Lists) (region : Region) (bs : List ℕ) (at : ℕ) → IsRegion h region → footprint (with_bytes h region (put bs at (bytes_in h region))) ≡ footprint h
bytes_put_fit h region bs at there = footprint_put h region bs at there

-- the number at its place is the one that was stored, and those beside it stay
pub number_put : (k : Kind) (x : ℤ) (at : ℕ) (xs : List ℕ) → at + leaf_size k ≤ length xs → number_in k (drop at (put (bytes_of_number k x) at xs)) ≡ cut k x
number_put k x at xs within = number_stored k x at xs within

pub number_beside : (k : Kind) (x : ℤ) (at other : ℕ) (xs : List ℕ) → (at + leaf_size k ≤ other) ⊎ (other + leaf_size k ≤ at) → number_in k (drop other (put (bytes_of_number k x) at xs)) ≡ number_in k (drop other xs)
number_beside k x at other xs apart =
    let bs = bytes_of_number k x in
    let wide = number_size k x in
    let p : Span = record { place = other; width = leaf_size k } in
    let there : 0 + other ≡ other = omega arith in
    let beside : (at + length bs ≤ 0 + other) ⊎ (0 + other + leaf_size k ≤ at) =
    elim apart [
      | inl before ↦ inl (omega (arith, before, wide))
      | inr behind ↦ inr (omega (arith, behind))
    ] in
    let same = (put_same bs at xs 0 (p ∷ []) (beside, tt)).0 in
    ap
    (λ window. extend k (from_le_bytes (width_of k) window))
    (subst (λ o. take (leaf_size k) (drop o (put bs at xs)) ≡ take (leaf_size k) (drop o xs)) there same)

pub length_put : (bs : List ℕ) (at : ℕ) (xs : List ℕ) → length (put bs at xs) ≡ length xs
length_put bs at xs = length-put bs at xs
