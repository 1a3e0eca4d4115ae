-- Bytes in which the rows and lists of a heap stand hold it.
use Rattle.std.proofs.Common.{◌≡◌, ◌≢◌, ℕ, zero, suc, ◌+◌, ◌*◌, ◌/◌, ◌<◌, ◌≤◌, nat_lt, nat_le, nat_eq, if◌then◌else◌, List, [], ◌∷◌, map, drop, length, All, Option, Some, None, is_some, is_none, inl, inr, refl, sym, ap, ap₂, ◌∙◌, subst, arith, lt-ltb, le-leb, eq-eqb, zero-mul, length-drop}
use Rattle.std.specs.List.{list_any}
use Rattle.std.proofs.lemmas.Bool.{or_left, or_right}
use Rattle.std.proofs.lemmas.Nat.{mul-le}
use Rattle.std.proofs.lemmas.List.{get_or-drop}
use Rattle.nxt_facts.proofs.Each.{Each, each_map}
use Rattle.nxt_facts.specs.Pairs.{EachPair}
use Rattle.nxt_types.specs.Pool.{round4, pool_size}
use Rattle.nxt_types.proofs.Laws.Pool.{le-round4}
use Rattle.nxt_model.specs.Reading.{Block, DopeRow, AreApart}
use Rattle.nxt_blocks.specs.Standing.{IsApart, Stand}
use Rattle.nxt_blocks.proofs.Laws.Packing.{turned}
use Rattle.nxt_blocks.proofs.Laws.Sums.{In, each_at, pair_at}
use Rattle.nxt_rows.specs.declared.DopeRow.{DopeRow as Row}
use Rattle.nxt_rows.specs.Rows.{dope_row, row_count}
use Rattle.nxt_compact.specs.Pools.{block_bytes, block_of, IsFull, IsSound}
use Rattle.nxt_heap.specs.Dumps.{StandAt, IsRowOf, IsFilled, HoldHeap, IsDopeTable, row_of, rows_of, row_block, table_block}
use Rattle.nxt_heap.specs.Lists.{Lists, ByteList, list_at, bytes_at, stride_at, bytes_of, stride_of, IsAlive, base_of}
use Rattle.nxt_values.proofs.Laws.HeldRows.{alive_within}
use Rattle.nxt_dumps.proofs.Heaps.Bytes.{AreRows, full_rows, Standing, row, block, above}
use Rattle.nxt_dumps.proofs.Heaps.Chain.{frees_behind, frees_from, frees_to, frees_once, frees_are, none_below, chained, next_free}
use Rattle.nxt_dumps.proofs.Heaps.Placed.{row_for, some_at, none_at, link_at, back_at, named_in, named_at}
use Rattle.nxt_dumps.proofs.Heaps.Rows.{IsWhole}

-- a row, as a memory shows it
abbrev pub seen_as : Row → DopeRow
seen_as d = record { place = d.place; stride = d.stride; count = d.count; back = d.back; link = d.link }

seen_row : (pool : List ℕ) (table r : ℕ) → row_of pool table r ≡ seen_as (dope_row pool table r)
unfolding dope_row
seen_row pool table r = refl

block_is : (pool : List ℕ) (table r : ℕ) (d : Row) → dope_row pool table r ≡ d → block_of pool table r ≡ record { place = d.place; bytes = round4 (d.count * d.stride) }
unfolding block_bytes
block_is pool table r d e = ap (λ (x : Row). record { place = x.place; bytes = round4 (x.count * x.stride) }) e

all_of_each : {X : Type 0} (P : X → Type 0) (xs : List X) → Each P xs → All P xs
all_of_each P [] e k d less = absurd (omega (arith, less))
all_of_each P (x ∷ xs) e zero d less = e.0
all_of_each P (x ∷ xs) e (suc k) d less = all_of_each P xs e.1 k d (omega (arith, less))

module _ (h : Lists) (rows : List ℕ) (are : AreRows h rows) (table : ℕ) (place : ℕ → ℕ) (top : ℕ) (small : top ≤ pool_size)
    (s : Stand (base_of h) top (map (block h rows are table place) (0 ∷ full_rows h rows))) (stand : Standing h rows are table place top) where
  abbrev pub n : ℕ
  n = length h.by_row

  abbrev pub bytes : List ℕ
  bytes = stand.pool

  abbrev pub own_row : ℕ → Row
  own_row r = row h rows are table place r

  abbrev pub own_block : ℕ → Block
  own_block r = block h rows are table place r

  pub is_row : (r : ℕ) → r < n → row_of bytes table r ≡ seen_as (own_row r)
  is_row r less = seen_row bytes table r ∙ ap seen_as (stand.rows_are r less)

  first_row : row_of bytes table 0 ≡ seen_as (own_row 0)
  first_row = is_row 0 (omega (arith, are.some))

  many : rows_of bytes table ≡ n
  many = ap (λ (d : DopeRow). d.count) first_row

  -- ---- blocks

  -- a row whose block has bytes is the table's or that of a list
  full_by : (r : ℕ) (o : Option ByteList) → list_at h r ≡ o → 0 < r → 0 < (own_block r).bytes → In r (full_rows h rows)
  full_by r None is above_0 some =
      let bare : (own_row r).count * (own_row r).stride ≡ 0 = ap (λ (d : Row). d.count * d.stride) (none_at h table place r above_0 is) in
      absurd (omega (arith, some, bare))
  full_by r (Some l) is above_0 some =
      let alive : IsAlive h r = ap is_some is in
      let whole = named_at (IsWhole h) rows r are.whole (are.named r alive) in
      let held : (own_row r).count * (own_row r).stride ≡ length (bytes_at h r) =
      ap (λ (d : Row). d.count * d.stride) (some_at h table place r l above_0 is)
      ∙ ap₂ (λ m k. m / k * k) (sym (ap (λ o. length (bytes_of o)) is)) (sym (ap stride_of is))
      ∙ whole.whole in
      named_in (λ q. nat_lt 0 (length (bytes_at h q))) rows r (are.named r alive) (lt-ltb 0 (length (bytes_at h r)) (omega (arith, some, held)))

  full_in : (r : ℕ) → 0 < (own_block r).bytes → In r (0 ∷ full_rows h rows)
  full_in zero some = inl refl
  full_in (suc r) some = inr (full_by (suc r) (list_at h (suc r)) refl (omega arith) some)

  two_pairs : (rs : List ℕ) → EachPair IsApart (map own_block rs) → EachPair (λ a b. IsApart (own_block a) (own_block b)) rs
  two_pairs [] e = tt
  two_pairs (r ∷ rs) e = (each_map (IsApart (own_block r)) own_block rs e.0, two_pairs rs e.1)

  two_apart : (q r : ℕ) → 0 < (own_block q).bytes → 0 < (own_block r).bytes → q ≢ r → IsApart (own_block q) (own_block r)
  two_apart q r f g other =
      elim (pair_at (λ a b. IsApart (own_block a) (own_block b)) (λ a b. turned (own_block a) (own_block b)) (0 ∷ full_rows h rows) q r (two_pairs (0 ∷ full_rows h rows) s.apart) (full_in q f) (full_in r g)) [
        | inl same ↦ absurd (other same)
        | inr apart ↦ apart
      ]

  pool_block : (r : ℕ) → r < n → block_of bytes table r ≡ own_block r
  pool_block r less = block_is bytes table r (own_row r) (stand.rows_are r less)

  pub count_is : row_count bytes table ≡ n
  count_is = ap (λ (d : Row). d.count) (stand.rows_are 0 (omega (arith, are.some)))

  full_some : (r : ℕ) → IsFull bytes table r → (r < n) × (0 < (own_block r).bytes)
  full_some r f = let less : r < n = omega (arith, f.within, count_is) in (less, omega (arith, f.some, ap (λ (b : Block). b.bytes) (pool_block r less)))

  -- the blocks of the bytes share no byte
  pub sound : IsSound bytes table (base_of h)
  sound = record {
    size = omega (arith, stand.long, small);
    some = omega (arith, count_is, are.some);
    place = ap (λ (d : Row). d.place) (stand.rows_are 0 (omega (arith, are.some)));
    stride = ap (λ (d : Row). d.stride) (stand.rows_are 0 (omega (arith, are.some)));
    apart = λ q r f g other.
        let a = full_some q f in
        let b = full_some r g in
        subst (λ x. IsApart x (block_of bytes table r)) (sym (pool_block q a.0)) (subst (IsApart (own_block q)) (sym (pool_block r b.0)) (two_apart q r a.1 b.1 other));
    above = λ r f.
        let a = full_some r f in
        omega (arith, ap (λ (b : Block). b.place) (pool_block r a.0), each_at (λ q. base_of h ≤ (own_block q).place) (0 ∷ full_rows h rows) r (each_map (λ b. base_of h ≤ b.place) own_block (0 ∷ full_rows h rows) s.above) (full_in r a.1));
    within = λ r f.
        let a = full_some r f in
        omega (
          arith,
          stand.long,
          ap (λ (b : Block). b.place + b.bytes) (pool_block r a.0),
          each_at (λ q. (own_block q).place + (own_block q).bytes ≤ top) (0 ∷ full_rows h rows) r (each_map (λ b. b.place + b.bytes ≤ top) own_block (0 ∷ full_rows h rows) s.within) (full_in r a.1),
        );
  }

  -- ---- rows with elements

  -- a row that is filled has a block
  filled_by : (r : ℕ) (o : Option ByteList) → list_at h r ≡ o → r < n → IsFilled bytes table r → 0 < (own_block r).bytes
  filled_by r None is less f =
      let none : (row_of bytes table r).count ≡ 0 = ap (λ (d : DopeRow). d.count) (is_row r less) ∙ ap (λ (d : Row). d.count) (none_at h table place r f.above is) in
      absurd (omega (arith, f.some, none))
  filled_by r (Some l) is less f =
      let whole = named_at (IsWhole h) rows r are.whole (are.named r (ap is_some is)) in
      let d = own_row r in
      let counted : (row_of bytes table r).count ≡ d.count = ap (λ (x : DopeRow). x.count) (is_row r less) in
      let wide : d.stride ≡ stride_at h r = ap (λ (x : Row). x.stride) (some_at h table place r l f.above is) ∙ sym (ap stride_of is) in
      omega (arith, mul-le 1 1 d.count d.stride (omega (arith, f.some, counted)) (omega (arith, wide, whole.some)))

  filled_some : (r : ℕ) → IsFilled bytes table r → (r < n) × (0 < (own_block r).bytes)
  filled_some r f = let less : r < n = omega (arith, f.within, many) in (less, filled_by r (list_at h r) refl less f)

  -- a block of no more bytes at the same place
  apart_from : (a b c d : Block) → a.place ≡ c.place → a.bytes ≤ c.bytes → b.place ≡ d.place → b.bytes ≤ d.bytes → IsApart c d → AreApart a b
  apart_from a b c d e l f m (inl low) = or_left (nat_le (a.place + a.bytes) b.place) (nat_le (b.place + b.bytes) a.place) (le-leb (a.place + a.bytes) b.place (omega (arith, e, l, f, low)))
  apart_from a b c d e l f m (inr low) = or_right (nat_le (a.place + a.bytes) b.place) (nat_le (b.place + b.bytes) a.place) (le-leb (b.place + b.bytes) a.place (omega (arith, e, m, f, low)))

  shown_bytes : (r : ℕ) → r < n → (row_block bytes table r).bytes ≤ (own_block r).bytes
  shown_bytes r less = omega (arith, ap (λ (d : DopeRow). d.count * d.stride) (is_row r less), le-round4 ((own_row r).count * (own_row r).stride))

  shown_place : (r : ℕ) → r < n → (row_block bytes table r).place ≡ (own_block r).place
  shown_place r less = ap (λ (d : DopeRow). d.place) (is_row r less)

  list_row : (r : ℕ) (l : ByteList) → list_at h r ≡ Some l → IsRowOf bytes table r l
  list_row r l is =
      let alive : IsAlive h r = ap is_some is in
      let above_0 : 0 < r = above h rows are table place r alive in
      let less : r < n = alive_within h r alive in
      let whole = named_at (IsWhole h) rows r are.whole (are.named r alive) in
      let same : row_of bytes table r ≡ seen_as (row_for (Some l) (place r) (next_free h r)) = is_row r less ∙ ap seen_as (some_at h table place r l above_0 is) in
      let held : bytes_at h r ≡ l.bytes = ap bytes_of is in
      let whole_l : length l.bytes / l.stride * l.stride ≡ length l.bytes = ap₂ (λ m k. m / k * k) (sym (ap length held)) (sym (ap stride_of is)) ∙ whole.whole ∙ ap length held in
      record {
        above = above_0;
        within = omega (arith, less, many);
        stride = ap (λ (d : DopeRow). d.stride) same;
        whole = ap (λ (d : DopeRow). d.count * l.stride) same ∙ whole_l;
        there = λ some.
            let f : IsFilled bytes table r = record { above = above_0; within = omega (arith, less, many); some = some } in
            let i = full_by r (Some l) is above_0 (filled_by r (Some l) is less f) in
            let at = each_at (λ q. StandAt bytes (own_row q).place (bytes_at h q)) (full_rows h rows) r stand.lists i in
            subst (λ p. StandAt bytes p l.bytes) (sym (shown_place r less)) (subst (StandAt bytes (own_row r).place) held at);
      }

  table_bytes : (table_block bytes table).bytes ≤ (own_block 0).bytes
  table_bytes = omega (arith, many)

  pub holds : HoldHeap bytes table h
  holds = record {
    static = stand.static;
    rows = many;
    fits = omega (arith, many, stand.long, s.within.0);
    lists = list_row;
    from_table = λ r f.
        let a = filled_some r f in
        apart_from (table_block bytes table) (row_block bytes table r) (own_block 0) (own_block r) refl table_bytes (shown_place r a.0) (shown_bytes r a.0)
        (two_apart 0 r (omega (arith, are.some)) a.1 (λ e. omega (arith, e, f.above)));
    apart = λ q r other f g.
        let a = filled_some q f in
        let b = filled_some r g in
        apart_from (row_block bytes table q) (row_block bytes table r) (own_block q) (own_block r) (shown_place q a.0) (shown_bytes q a.0) (shown_place r b.0) (shown_bytes r b.0) (two_apart q r a.1 b.1 other);
  }

  -- ---- other rows

  none_place : (r : ℕ) (o : Option ByteList) → list_at h r ≡ o → 0 < r → r < n → (own_row r).count ≡ 0 → (own_row r).place ≡ 65535
  none_place r None is above_0 less none = ap (λ (d : Row). d.place) (none_at h table place r above_0 is)
  none_place r (Some l) is above_0 less none =
      let whole = named_at (IsWhole h) rows r are.whole (are.named r (ap is_some is)) in
      let count : length l.bytes / l.stride ≡ 0 = sym (ap (λ (d : Row). d.count) (some_at h table place r l above_0 is)) ∙ none in
      let held : length l.bytes / l.stride * l.stride ≡ length l.bytes = ap₂ (λ m k. m / k * k) (sym (ap (λ o. length (bytes_of o)) is)) (sym (ap stride_of is)) ∙ whole.whole ∙ ap (λ o. length (bytes_of o)) is in
      let no_bytes : length l.bytes ≡ 0 = sym held ∙ ap (λ k. k * l.stride) count ∙ zero-mul l.stride in
      ap (λ (d : Row). d.place) (some_at h table place r l above_0 is) ∙ ap (λ b. if b then 65535 else place r) (eq-eqb (length l.bytes) 0 no_bytes)

  member_is : (r : ℕ) → 0 < r → r < n → list_any (nat_eq r) (frees_behind h 0) ≡ is_none (list_at h r)
  member_is zero above_0 less = absurd (omega (arith, above_0))
  member_is (suc r) above_0 less =
      let there : 1 + r ≡ suc r = omega arith in
      ap (λ k. list_any (nat_eq k) (frees_behind h 0)) (sym there)
      ∙ frees_are 1 (drop 1 h.by_row) r (omega (arith, length-drop 1 h.by_row, less))
      ∙ ap is_none (get_or-drop 1 h.by_row r None)
      ∙ ap (λ k. is_none (list_at h k)) there

  pub dope_table : IsDopeTable bytes table h
  dope_table = record {
    place = ap (λ (d : DopeRow). d.place) first_row;
    stride = ap (λ (d : DopeRow). d.stride) first_row;
    empty = λ r above_0 less none.
        let below : r < n = omega (arith, less, many) in
        shown_place r below ∙ none_place r (list_at h r) refl above_0 below (sym (ap (λ (d : DopeRow). d.count) (is_row r below)) ∙ none);
    bare = λ r above_0 less none. ap (λ (d : DopeRow). d.count) (is_row r (omega (arith, less, many))) ∙ ap (λ (d : Row). d.count) (none_at h table place r above_0 none);
    backs = λ r less. ap (λ (d : DopeRow). d.back) (is_row r (omega (arith, less, many))) ∙ back_at h table place r;
    free = frees_behind h 0;
    links = chained (record { entries = []; bytes = bytes; table = table }) h (λ r less. ap (λ (d : DopeRow). d.link) (is_row r less) ∙ link_at h table place r) are.some;
    within = all_of_each (λ r. r < rows_of bytes table) (frees_behind h 0) (frees_to 1 (rows_of bytes table) (drop 1 h.by_row) (omega (arith, many, length-drop 1 h.by_row, are.some)));
    above = none_below 0 (frees_behind h 0) (frees_from 1 (drop 1 h.by_row));
    once = frees_once 1 (drop 1 h.by_row);
    members = λ r above_0 less. member_is r above_0 (omega (arith, less, many));
  }
