-- A part that is stored and keeps its rows.
use Rattle.std.proofs.Common.{◌≡◌, ℕ, ◌+◌, ◌≤◌, true, List, map, drop, length, nat_abs, refl, ap, ◌∙◌, subst, arith}
use Rattle.std.specs.Prelude.{ℤ}
use Rattle.std.proofs.lemmas.List.{length-map}
use Rattle.std.proofs.lemmas.Nat.{mul-le}
use Rattle.nxt_types.specs.Shapes.{Shape, Void, Number, Array, Cluster, Mutex, is_numbers}
use Rattle.nxt_types.specs.Tables.{Table}
use Rattle.nxt_types.specs.declared.shape.TocEntry.{TocEntry}
use Rattle.nxt_model.specs.Values.{elements}
use Rattle.nxt_model.proofs.Laws.Values.{items-values}
use Rattle.nxt_heap.specs.Lists.{Lists, bytes_at}
use Rattle.nxt_values.specs.Held.{row_in, element_starts, value_at, rows_at, Holds}
use Rattle.nxt_values.specs.Elements.{GetsNoLonger}
use Rattle.nxt_values.specs.Fills.{first_of, filled, Fills}
use Rattle.nxt_values.specs.Writes.{without}
use Rattle.nxt_values.specs.declared.reading.Region.TheVariants.{Static}
use Rattle.nxt_values.proofs.Laws.FilledElements.{items_many}
use Rattle.nxt_values.proofs.Laws.HeldSizes.{elements_fill}
use Rattle.nxt_values.proofs.Laws.StoredHeld.{stored_rows}
use Rattle.nxt_space.specs.Inside.Kept.{Stand, rows_of}
use Rattle.nxt_space.proofs.Parts.Named.{name_stands}
use Rattle.nxt_space.proofs.Parts.Standing.{Stands}

-- then all variables keep theirs
pub put_rows : (toc : Table) (h g : Lists) (s : Shape) (i : ℕ) (zs rest : List ℤ) → Stand toc h → Stands toc h s i → Fills toc.entries (without h (rows_at toc.entries h s i h.static_bytes 0)) g s i Static 0 zs rest → rows_at toc.entries g s i g.static_bytes 0 ≡ rows_at toc.entries h s i h.static_bytes 0 → rows_of toc g ≡ rows_of toc h
put_rows toc h g s i zs rest e is fills same =
    let n = is.name in
    stored_rows toc.entries toc.shapes h g n.shape i zs rest e.held e.spans (name_stands toc.shapes i n is.named)
    (subst (λ w. Fills toc.entries (without h (rows_at toc.entries h w i h.static_bytes 0)) g w i Static 0 zs rest) is.shape_is fills)
    (subst (λ w. rows_at toc.entries g w i g.static_bytes 0 ≡ rows_at toc.entries h w i h.static_bytes 0) is.shape_is same)

-- ---- lists of numbers

-- one that gets no more elements gets no more bytes
pub fewer_bytes : (table : List TocEntry) (h : Lists) (s : Shape) (i : ℕ) (zs : List ℤ) → is_numbers s ≡ true → Holds table h s i h.static_bytes 0 → length (elements (filled s zs).0) ≤ length (elements (value_at table h s i h.static_bytes 0)) → GetsNoLonger table h s (record { region = Static; entry = i; base = 0 }) zs
fewer_bytes table h Void i zs is holds less = let f : ⊥ = cc in absurd f
fewer_bytes table h (Number k) i zs is holds less = let f : ⊥ = cc in absurd f
fewer_bytes table h (Array stride Void) i zs is holds less = let f : ⊥ = cc in absurd f
fewer_bytes table h (Array stride (Number k)) i zs is holds less =
    let row = row_in table i h.static_bytes 0 in
    let starts = element_starts stride (bytes_at h row) in
    let vs = map (value_at table h (Number k) (i + 1) (bytes_at h row)) starts in
    let had : length (elements (value_at table h (Array stride (Number k)) i h.static_bytes 0)) ≡ length starts =
    ap length (items-values vs) ∙ length-map starts (value_at table h (Number k) (i + 1) (bytes_at h row)) in
    let has = items_many (filled (Number k)) (nat_abs (first_of zs)) (drop 1 zs) in
    let bytes = elements_fill h row stride (Holds table h (Number k) (i + 1)) holds.1 in
    (refl, omega (arith, mul-le (nat_abs (first_of zs)) stride (length starts) stride (omega (arith, less, had, has)) (omega arith), bytes))
fewer_bytes table h (Array stride (Array more s)) i zs is holds less = let f : ⊥ = cc in absurd f
fewer_bytes table h (Array stride (Cluster ss)) i zs is holds less = let f : ⊥ = cc in absurd f
fewer_bytes table h (Array stride Mutex) i zs is holds less = let f : ⊥ = cc in absurd f
fewer_bytes table h (Cluster ss) i zs is holds less = let f : ⊥ = cc in absurd f
fewer_bytes table h Mutex i zs is holds less = let f : ⊥ = cc in absurd f
