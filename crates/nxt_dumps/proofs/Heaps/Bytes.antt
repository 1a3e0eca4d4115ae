-- Bytes in which the rows and lists of a heap stand.
use Rattle.std.proofs.Common.{◌≡◌, ◌≢◌, ℕ, zero, suc, ◌+◌, ◌*◌, ◌/◌, ◌<◌, ◌≤◌, Bool, true, false, cond, ◌==◌, nat_lt, List, [], ◌∷◌, map, filter, length, get_or, Option, Some, None, is_some, inl, inr, refl, sym, ap, ap₂, ◌∙◌, arith, lt-ltb, ltb-true}
use Rattle.std.specs.List.{list_any}
use Rattle.nxt_facts.specs.Pairs.{EachPair}
use Rattle.nxt_facts.proofs.Each.{Each, each_then, each_both, each_filter, each_map, each_mapped}
use Rattle.nxt_types.specs.Pool.{round4}
use Rattle.nxt_types.proofs.Laws.Pool.{le-round4}
use Rattle.nxt_model.specs.Reading.{Block}
use Rattle.nxt_blocks.specs.Blocks.{has_bytes}
use Rattle.nxt_blocks.specs.Standing.{IsApart, Stand}
use Rattle.nxt_rows.specs.declared.DopeRow.{DopeRow}
use Rattle.nxt_rows.specs.Rows.{dope_row}
use Rattle.nxt_heap.specs.Dumps.{StandAt}
use Rattle.nxt_heap.specs.Lists.{Lists, ByteList, list_at, bytes_at, stride_at, bytes_of, stride_of, IsAlive, base_of}
use Rattle.nxt_dumps.proofs.Heaps.Pieces.{Piece, StandsIn, Parted, Together, together, stand_at}
use Rattle.nxt_dumps.proofs.Heaps.Placed.{block_at, row_at, block_of_row, some_at, list_block}
use Rattle.nxt_dumps.proofs.Heaps.Rows.{IsWhole, size_of}
use Rattle.nxt_dumps.proofs.Heaps.Table.{bytes_of_row, bytes_of_rows, length_rows, byte_of_row, row_stands}

-- what is known of the rows of a heap's lists, in reading order
pub record AreRows (h : Lists) (rows : List ℕ) : Type 0 where
  pub first : list_at h 0 ≡ None
  pub some : 1 ≤ length h.by_row
  pub alive : Each (IsAlive h) rows
  pub whole : Each (IsWhole h) rows
  pub own : EachPair (λ a b. a ≢ b) rows
  pub named : (r : ℕ) → IsAlive h r → list_any (λ q. q == r) rows ≡ true

-- rows whose lists have bytes
abbrev pub full_rows : Lists → List ℕ → List ℕ
full_rows h rows = filter (λ r. nat_lt 0 (length (bytes_at h r))) rows

module _ (h : Lists) (rows : List ℕ) (are : AreRows h rows) (table : ℕ) (place : ℕ → ℕ) where
  abbrev pub row : ℕ → DopeRow
  row r = row_at h table place r

  abbrev pub block : ℕ → Block
  block r = block_of_row h table place r

  -- ---- rows

  pub above : (r : ℕ) → IsAlive h r → 0 < r
  above zero a = let f : ⊥ = cc (a, ap is_some are.first) in absurd f
  above (suc r) a = omega arith

  pub record IsPart (r : ℕ) : Type 0 where
    pub bytes : (row r).count * (row r).stride ≡ length (bytes_at h r)

  part_by : (r : ℕ) (o : Option ByteList) → list_at h r ≡ o → IsAlive h r → IsWhole h r → IsPart r
  part_by r None is a w = let f : ⊥ = cc (a, ap is_some is) in absurd f
  part_by r (Some l) is a w =
      let long : length (bytes_at h r) ≡ length l.bytes = ap (λ o. length (bytes_of o)) is in
      let wide : stride_at h r ≡ l.stride = ap stride_of is in
      record {
        bytes = ap (λ (d : DopeRow). d.count * d.stride) (some_at h table place r l (above r a) is)
            ∙ ap₂ (λ n s. n / s * s) (sym long) (sym wide)
            ∙ w.whole;
      }

  -- a row's list has the bytes that its row tells
  pub all_parts : Each IsPart rows
  all_parts = each_both (IsAlive h) (IsWhole h) IsPart (λ r a w. part_by r (list_at h r) refl a w) rows are.alive are.whole

  pub full_parts : Each IsPart (full_rows h rows)
  full_parts = each_filter IsPart (λ r. nat_lt 0 (length (bytes_at h r))) rows (each_then IsPart (λ r. nat_lt 0 (length (bytes_at h r)) ≡ true → IsPart r) (λ r e t. e) rows all_parts)

  pub block_by : (r : ℕ) (o : Option ByteList) → list_at h r ≡ o → IsAlive h r → IsWhole h r → 0 < length (bytes_at h r) → block_at (size_of h) place r ≡ block r
  block_by r None is a w some = let f : ⊥ = cc (a, ap is_some is) in absurd f
  block_by r (Some l) is a w some = list_block h table place r l (above r a) is w some

  kept_by : (r : ℕ) (xs : List Block) (ys : List ℕ) (t : Bool) → nat_lt 0 (length (bytes_at h r)) ≡ t → IsAlive h r → IsWhole h r → xs ≡ map block ys
      → cond t (block_at (size_of h) place r ∷ xs) xs ≡ map block (cond t (r ∷ ys) ys)
  kept_by r xs ys true is a w e = ap₂ (λ (b : Block) (bs : List Block). b ∷ bs) (block_by r (list_at h r) refl a w (ltb-true 0 (length (bytes_at h r)) is)) e
  kept_by r xs ys false is a w e = e

  round_some : (n : ℕ) → nat_lt 0 (round4 n) ≡ nat_lt 0 n
  round_some zero = refl
  round_some (suc n) = lt-ltb 0 (round4 (suc n)) (omega arith) ∙ sym (lt-ltb 0 (suc n) (omega arith))

  some_blocks : (rs : List ℕ) → Each (IsAlive h) rs → Each (IsWhole h) rs → filter has_bytes (map (block_at (size_of h) place) rs) ≡ map block (full_rows h rs)
  some_blocks [] a w = refl
  some_blocks (r ∷ rs) a w =
      ap (λ t. cond t (block_at (size_of h) place r ∷ filter has_bytes (map (block_at (size_of h) place) rs)) (filter has_bytes (map (block_at (size_of h) place) rs))) (round_some (length (bytes_at h r)))
      ∙ kept_by r (filter has_bytes (map (block_at (size_of h) place) rs)) (full_rows h rs) (nat_lt 0 (length (bytes_at h r))) refl a.0 w.0 (some_blocks rs a.1 w.1)

  -- the table and the lists that have bytes
  pub all_blocks : filter has_bytes (record { place = table; bytes = round4 (10 * length h.by_row) } ∷ map (block_at (size_of h) place) rows) ≡ map block (0 ∷ full_rows h rows)
  all_blocks =
      let t : Block = record { place = table; bytes = round4 (10 * length h.by_row) } in
      let more = filter has_bytes (map (block_at (size_of h) place) rows) in
      let some = are.some in
      let many : 10 * length h.by_row ≡ length h.by_row * 10 = omega arith in
      ap (λ b. cond b (t ∷ more) more) (lt-ltb 0 t.bytes (omega (arith, some)))
      ∙ ap₂ (λ (n : ℕ) (xs : List Block). record { place = table; bytes = round4 n } ∷ xs) many (some_blocks rows are.alive are.whole)

  -- ---- bytes

  pub record Standing (top : ℕ) : Type 0 where
    pub pool : List ℕ
    pub long : length pool ≡ top
    pub static : StandAt pool 0 h.static_bytes
    pub rows_are : (r : ℕ) → r < length h.by_row → dope_row pool table r ≡ row r
    pub lists : Each (λ r. StandAt pool (row r).place (bytes_at h r)) (full_rows h rows)

  abbrev list_piece : ℕ → Piece
  list_piece r = record { place = (row r).place; bytes = bytes_at h r }

  abbrev table_piece : Piece
  table_piece = record { place = table; bytes = bytes_of_rows row 0 (length h.by_row) }

  abbrev static_piece : Piece
  static_piece = record { place = 0; bytes = h.static_bytes }

  table_long : length table_piece.bytes ≡ 10 * length h.by_row
  table_long = length_rows row 0 (length h.by_row)

  parted : (p q : Piece) (a b : Block) → p.place ≡ a.place → length p.bytes ≤ a.bytes → q.place ≡ b.place → length q.bytes ≤ b.bytes → IsApart a b → Parted p q
  parted p q a b e l f m (inl low) = inl (omega (arith, e, l, f, low))
  parted p q a b e l f m (inr low) = inr (omega (arith, e, m, f, low))

  pub part_below : (r : ℕ) → IsPart r → length (bytes_at h r) ≤ (block r).bytes
  part_below r p = omega (arith, p.bytes, le-round4 ((row r).count * (row r).stride))

  row_there : (top : ℕ) (all : Together top (static_piece ∷ table_piece ∷ map list_piece (full_rows h rows))) (r k : ℕ) → r < length h.by_row → k < 10
      → get_or all.pool (table + 10 * r + k) 0 ≡ get_or (bytes_of_row (row r)) k 0
  row_there top all r k less small =
      ap (λ i. get_or all.pool i 0) (omega arith)
      ∙ all.stand.1.0.are (10 * r + k) (omega (arith, table_long, less, small))
      ∙ byte_of_row row 0 (length h.by_row) r k less small
      ∙ ap (λ i. get_or (bytes_of_row (row i)) k 0) (omega arith)

  from_pieces : (top : ℕ) → Together top (static_piece ∷ table_piece ∷ map list_piece (full_rows h rows)) → Standing top
  from_pieces top all =
      record {
        pool = all.pool;
        long = all.size;
        static = stand_at all.pool static_piece all.stand.0;
        rows_are = λ r less. row_stands all.pool table r (row r) (λ k small. row_there top all r k less small);
        lists = each_then (λ r. StandsIn all.pool (list_piece r)) (λ r. StandAt all.pool (row r).place (bytes_at h r)) (λ r s. stand_at all.pool (list_piece r) s) (full_rows h rows)
            (each_map (StandsIn all.pool) list_piece (full_rows h rows) all.stand.1.1);
      }

  pub standing : (top : ℕ) → Stand (base_of h) top (map block (0 ∷ full_rows h rows)) → Standing top
  standing top s =
      let full = full_rows h rows in
      let base = base_of h in
      let static_below : length h.static_bytes ≤ base = le-round4 (length h.static_bytes) in
      let starts = each_map (λ b. base ≤ b.place) block full s.above.1 in
      let ends = each_map (λ b. b.place + b.bytes ≤ top) block full s.within.1 in
      let table_below : length table_piece.bytes ≤ (block 0).bytes = omega (arith, table_long) in
      let pieces = static_piece ∷ table_piece ∷ map list_piece full in
      let from_static : Each (Parted static_piece) (map list_piece full) =
      each_mapped (Parted static_piece) list_piece full (each_then (λ r. base ≤ (block r).place) (λ r. Parted static_piece (list_piece r)) (λ r low. inl (omega (arith, static_below, low))) full starts) in
      let from_table : Each (Parted table_piece) (map list_piece full) =
      each_mapped (Parted table_piece) list_piece full
      (each_both (λ r. IsApart (block 0) (block r)) IsPart (λ r. Parted table_piece (list_piece r))
      (λ r apart p. parted table_piece (list_piece r) (block 0) (block r) refl table_below refl (part_below r p) apart)
      full (each_map (IsApart (block 0)) block full s.apart.0) full_parts) in
      let apart : EachPair Parted pieces = ((inl (omega (arith, static_below, s.above.0)), from_static), (from_table, list_pairs full full_parts s.apart.1)) in
      let within : Each (λ p. p.place + length p.bytes ≤ top) pieces = (
        omega (arith, static_below, s.above.0, s.within.0),
        (
          omega (arith, table_below, s.within.0),
          each_mapped (λ p. p.place + length p.bytes ≤ top) list_piece full
              (each_both (λ r. (block r).place + (block r).bytes ≤ top) IsPart (λ r. (list_piece r).place + length (list_piece r).bytes ≤ top) (λ r low p. omega (arith, low, part_below r p)) full ends full_parts),
        ),
      ) in
      from_pieces top (together top pieces apart within)
    where
      pairs_by : (r : ℕ) (rs : List ℕ) → IsPart r → Each IsPart rs → Each (λ q. IsApart (block r) (block q)) rs → Each (Parted (list_piece r)) (map list_piece rs)
      pairs_by r rs p ps e =
          each_mapped (Parted (list_piece r)) list_piece rs
          (each_both (λ q. IsApart (block r) (block q)) IsPart (λ q. Parted (list_piece r) (list_piece q))
          (λ q apart other. parted (list_piece r) (list_piece q) (block r) (block q) refl (part_below r p) refl (part_below q other) apart) rs e ps)

      list_pairs : (rs : List ℕ) → Each IsPart rs → EachPair IsApart (map block rs) → EachPair Parted (map list_piece rs)
      list_pairs [] ps e = tt
      list_pairs (r ∷ rs) ps e = (pairs_by r rs ps.0 ps.1 (each_map (IsApart (block r)) block rs e.0), list_pairs rs ps.1 e.1)
