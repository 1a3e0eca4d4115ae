-- A dump of the pool is right for the variables.
use Rattle.std.proofs.Common.{◌≡◌, ◌≢◌, ℕ, ◌+◌, ◌-◌, ◌*◌, ◌/◌, ◌<◌, ◌≤◌, ◌||◌, ◌==◌, Bool, true, false, nat_lt, nat_le, List, [], ◌∷◌, ◌++◌, map, length, sum_by, count_by, All, AllPairs, Option, Some, None, is_some, is_none, inl, inr, refl, sym, ap, ap₂, ◌∙◌, subst, arith, ltb-true, le-leb, ne_eqb, zero, suc}
use Rattle.std.specs.List.{list_any}
use Rattle.std.specs.Prelude.{if◌then◌else◌}
use Rattle.std.proofs.lemmas.Bool.{cases_eq, or_right, false≢true}
use Rattle.std.proofs.lemmas.Nat.{mul-le}
use Rattle.nxt_facts.specs.Pairs.{EachPair}
use Rattle.nxt_facts.proofs.Each.{Each, each_then, each_both, each_mapped, each_filter}
use Rattle.nxt_facts.proofs.Pairs.{all_pairs, each_pair}
use Rattle.nxt_facts.proofs.Sums.{bit, is_it, tally_is, total_is, total_every}
use Rattle.nxt_types.specs.Pool.{round4, pool_size}
use Rattle.nxt_model.specs.Dump.{RowFits, EachOnce, BlocksFit, pool_blocks, is_unsettled, greatest_end}
use Rattle.nxt_model.specs.Reading.{Block, DopeRow, Memory, HeldList, AreApart, non_empty}
use Rattle.nxt_model.specs.Reading.{dope_row as memory_row}
use Rattle.nxt_blocks.specs.Blocks.{unsettled}
use Rattle.nxt_blocks.specs.Standing.{IsApart}
use Rattle.nxt_rows.specs.Rows.{dope_row, row_count}
use Rattle.nxt_compact.specs.Pools.{block_of, blocks_in, IsFull, IsSound}
use Rattle.nxt_compact.proofs.Laws.Going.{first_full}
use Rattle.nxt_heap.specs.Dumps.{row_of, HoldHeap, IsDopeTable}
use Rattle.nxt_heap.specs.Lists.{Lists, ByteList, list_at, bytes_at, stride_at, IsAlive}
use Rattle.nxt_values.proofs.Laws.HeldRows.{alive_within}
use Rattle.nxt_space.specs.Dumping.{place_in}
use Rattle.nxt_space.proofs.Pool.Apart.{pairs_mapped, pairs_filter}
use Rattle.nxt_space.proofs.Laws.Counted.{list_part, counts, list_block, table_block, same_sums, not_first}
use Rattle.nxt_space.proofs.Laws.Ends.{same_end}
use Rattle.nxt_space.proofs.Pool.Once.{each_once}
use Rattle.nxt_space.proofs.Laws.Reads.{list_in, lists_in}

-- ---- lists

all_of_each : {X : Type 0} (P : X → Type 0) (xs : List X) → Each P xs → All P xs
all_of_each P [] e k d less = absurd (omega (arith, less))
all_of_each P (x ∷ xs) e zero d less = e.0
all_of_each P (x ∷ xs) e (suc k) d less = all_of_each P xs e.1 k d (omega (arith, less))

-- a row that is named is alive
alive_there : (h : Lists) (rows : List ℕ) (r : ℕ) → Each (IsAlive h) rows → list_any (is_it r) rows ≡ true → IsAlive h r
alive_there h [] r e is = absurd (false≢true is)
alive_there h (x ∷ xs) r e is = elim (cases_eq x r) [
  | inl here ↦ subst (IsAlive h) here e.0
  | inr other ↦ alive_there h xs r e.1 (ap (λ b. b || list_any (is_it r) xs) (sym (ne_eqb x r other)) ∙ is)
]

none_first : (rows : List ℕ) → Each (λ r. 0 ≢ r) rows → list_any (is_it 0) rows ≡ false
none_first [] e = refl
none_first (x ∷ xs) e = ap₂ (λ (a b : Bool). a || b) (ne_eqb x 0 (λ same. e.0 (sym same))) (none_first xs e.1)

-- two blocks that share no byte
apart_is : (a b : Block) → IsApart a b → AreApart a b
apart_is a b (inl l) = ap (λ t. t || nat_le (b.place + b.bytes) a.place) (le-leb (a.place + a.bytes) b.place l)
apart_is a b (inr l) = or_right (nat_le (a.place + a.bytes) b.place) (nat_le (b.place + b.bytes) a.place) (le-leb (b.place + b.bytes) a.place l)

-- ---- what a memory shows

module _ (m : Memory) (pool : List ℕ) (base : ℕ) (h : Lists) (rows : List ℕ)
    (holds : HoldHeap m.bytes m.table h) (dope : IsDopeTable m.bytes m.table h) (sound : IsSound pool m.table base)
    (counted : row_count pool m.table ≡ length h.by_row)
    (same : (r : ℕ) → r < length h.by_row → row_of m.bytes m.table r ≡ row_of pool m.table r)
    (first : list_at h 0 ≡ None)
    (strides : Each (λ r. 1 ≤ stride_at h r) rows)
    (alive : Each (IsAlive h) rows)
    (named : (r : ℕ) → IsAlive h r → list_any (λ q. q == r) rows ≡ true)
    (own : AllPairs (λ a b. a ≢ b) rows) where
  abbrev pub n : ℕ
  n = length h.by_row

  abbrev pub lists : List HeldList
  lists = lists_in h rows

  abbrev pub blocks : List Block
  blocks = pool_blocks m n lists

  -- ---- rows

  row_fits : (r : ℕ) → 1 ≤ stride_at h r → IsAlive h r → RowFits m (list_in h r)
  row_fits r some a =
      let c = counts m pool base h rows holds dope sound counted same first strides alive named own r some a in
      let above : 0 < r = omega (arith, not_first m pool base h rows holds dope sound counted same first strides alive named own r a) in
      (above, c.1, c.0, λ none. dope.empty r above (omega (arith, c.2, holds.rows)) (c.0 ∙ none))

  pub own_rows : All (RowFits m) lists
  own_rows = all_of_each (RowFits m) lists (each_mapped (RowFits m) (list_in h) rows (each_both (λ r. 1 ≤ stride_at h r) (IsAlive h) (λ r. RowFits m (list_in h r)) row_fits rows strides alive))

  gone : (r : ℕ) → is_none (list_at h r) ≡ true → list_any (is_it r) rows ≡ false
  gone r none = by (list_any (is_it r) rows) refl
    where
      by : (b : Bool) → list_any (is_it r) rows ≡ b → list_any (is_it r) rows ≡ false
      by true is = let a = alive_there h rows r alive is in let f : ⊥ = not_none (list_at h r) none a in absurd f
        where
          not_none : (o : Option ByteList) → is_none o ≡ true → is_some o ≡ true → ⊥
          not_none None e f = false≢true f
          not_none (Some l) e f = false≢true e
      by false is = is

  there : (r : ℕ) (o : Option ByteList) → list_at h r ≡ o → is_none o ≡ false → list_any (is_it r) rows ≡ true
  there r None is none = absurd (false≢true (sym none))
  there r (Some l) is none = named r (ap is_some is)

  pub rows_once : EachOnce n (rows ++ dope.free)
  rows_once =
      each_once n rows dope.free (omega (arith, sound.some, counted)) own dope.once (each_then (IsAlive h) (λ r. r < n) (alive_within h) rows alive)
      (λ k d less. omega (arith, dope.within k d less, holds.rows))
      (none_first rows (each_then (IsAlive h) (λ r. 0 ≢ r) (not_first m pool base h rows holds dope sound counted same first strides alive named own) rows alive))
      dope.above
      (λ r above less is. gone r (sym (dope.members r above (omega (arith, less, holds.rows))) ∙ is))
      (λ r above less is. there r (list_at h r) refl (sym (dope.members r above (omega (arith, less, holds.rows))) ∙ is))

  -- ---- blocks

  -- a list with elements has a block
  record Stands (l : HeldList) : Type 0 where
    part : list_part m l ≡ block_of pool m.table l.row
    full : nat_lt 0 l.count ≡ true → IsFull pool m.table l.row
    above : 0 < l.row

  list_stands : (r : ℕ) → 1 ≤ stride_at h r → IsAlive h r → Stands (list_in h r)
  list_stands r some a =
      let c = counts m pool base h rows holds dope sound counted same first strides alive named own r some a in
      let part = list_block m pool base h rows holds dope sound counted same first strides alive named own r some a in
      record {
        part = part;
        full = λ has.
            let count = length (bytes_at h r) / stride_at h r in
            record { within = omega (arith, c.2, counted); some = omega (arith, mul-le 1 1 count (stride_at h r) (omega (arith, ltb-true 0 count has)) some, ap (λ (b : Block). b.bytes) part) };
        above = omega (arith, not_first m pool base h rows holds dope sound counted same first strides alive named own r a);
      }

  all_stand : Each Stands lists
  all_stand = each_mapped Stands (list_in h) rows (each_both (λ r. 1 ≤ stride_at h r) (IsAlive h) (λ r. Stands (list_in h r)) list_stands rows strides alive)

  full_table : IsFull pool m.table 0
  full_table = first_full pool m.table base sound

  abbrev tb : Block
  tb = record { place = m.table; bytes = round4 (10 * n) }

  tb_is : tb ≡ block_of pool m.table 0
  tb_is = table_block m pool base h rows holds dope sound counted same first strides alive named own

  abbrev has_elements : HeldList → Bool
  has_elements l = nat_lt 0 l.count

  from_table : (l : HeldList) → Stands l → has_elements l ≡ true → AreApart tb (list_part m l)
  from_table l s has =
      apart_is tb (list_part m l)
      (subst (λ b. IsApart b (list_part m l)) (sym tb_is) (subst (IsApart (block_of pool m.table 0)) (sym s.part) (sound.apart 0 l.row full_table (s.full has) (λ e. omega (arith, e, s.above)))))

  two : (a b : HeldList) → Stands a → Stands b → has_elements a ≡ true → has_elements b ≡ true → a.row ≢ b.row → AreApart (list_part m a) (list_part m b)
  two a b s t has more other =
      apart_is (list_part m a) (list_part m b)
      (subst (λ c. IsApart c (list_part m b)) (sym s.part) (subst (IsApart (block_of pool m.table a.row)) (sym t.part) (sound.apart a.row b.row (s.full has) (t.full more) other)))

  above_base : (l : HeldList) → Stands l → has_elements l ≡ true → base ≤ (list_part m l).place
  above_base l s has = omega (arith, sound.above l.row (s.full has), ap (λ (b : Block). b.place) s.part)

  -- of each list with elements
  of_some : (P : Block → Type 0) → ((l : HeldList) → Stands l → has_elements l ≡ true → P (list_part m l)) → Each P (map (list_part m) (non_empty lists))
  of_some P each =
      each_mapped P (list_part m) (non_empty lists) (each_filter (λ l. P (list_part m l)) has_elements lists (each_then Stands (λ l. has_elements l ≡ true → P (list_part m l)) each lists all_stand))

  pairs : EachPair AreApart (map (list_part m) (non_empty lists))
  pairs =
      pairs_mapped AreApart (list_part m) (non_empty lists)
      (pairs_filter Stands (λ a b. a.row ≢ b.row) (λ a b. AreApart (list_part m a) (list_part m b)) has_elements two lists all_stand
      (pairs_mapped (λ a b. a.row ≢ b.row) (list_in h) rows (each_pair (λ a b. a ≢ b) rows own)))

  sums : (w : Block → ℕ) → sum_by w blocks ≡ sum_by w (blocks_in pool m.table)
  sums = same_sums m pool base h rows holds dope sound counted same first strides alive named own

  unsettled_is : unsettled base (blocks_in pool m.table) ≡ count_by (is_unsettled base blocks) blocks
  unsettled_is =
      let by_rows = blocks_in pool m.table in
      let p = is_unsettled base by_rows in
      let q = is_unsettled base blocks in
      let low : Block → Block → ℕ = λ b other. if nat_lt other.place b.place then other.bytes else 0 in
      tally_is p by_rows
      ∙ sym (total_is (λ b. bit (p b)) by_rows)
      ∙ sym (sums (λ b. bit (p b)))
      ∙ total_is (λ b. bit (p b)) blocks
      ∙ total_every (λ b. bit (p b)) (λ b. bit (q b)) (λ b. ap (λ k. bit (nat_lt k (b.place - base))) (sym (sums (low b)))) blocks
      ∙ sym (tally_is q blocks)

  pub blocks_fit : (rs : ℕ) → length m.bytes ≡ greatest_end (blocks_in pool m.table) → length m.bytes ≤ pool_size
      → BlocksFit base blocks (record { table = m.table; rows = rs; unsettled = unsettled base (blocks_in pool m.table); bytes = m.bytes })
  blocks_fit rs long short = record {
    apart = all_pairs AreApart blocks (of_some (AreApart tb) from_table, pairs);
    above = all_of_each (λ b. base ≤ b.place) blocks (omega (arith, sound.above 0 full_table, ap (λ (b : Block). b.place) tb_is), of_some (λ b. base ≤ b.place) above_base);
    end = long ∙ sym (same_end blocks (blocks_in pool m.table) sums);
    inside = short;
    unsettled = unsettled_is;
  }

  -- ---- places

  abbrev place_by : HeldList → Option ℕ
  place_by l = if l.count == 0 then None else Some (memory_row m l.row).place

  row_there : (r : ℕ) → row_of pool m.table r ≡ (let d = dope_row pool m.table r in record { place = d.place; stride = d.stride; count = d.count; back = d.back; link = d.link })
  unfolding dope_row
  row_there r = refl

  -- a list stands where its row says
  place_there : (r : ℕ) → 1 ≤ stride_at h r → IsAlive h r → place_by (list_in h r) ≡ place_in (record { bytes = pool; table = m.table }) r
  place_there r some a =
      let c = counts m pool base h rows holds dope sound counted same first strides alive named own r some a in
      ap (λ n. if n == 0 then None else Some (memory_row m r).place) (sym c.0)
      ∙ ap (λ (d : DopeRow). if d.count == 0 then None else Some d.place) (same r c.2 ∙ row_there r)

  placed : (rs : List ℕ) → Each (λ r. place_by (list_in h r) ≡ place_in (record { bytes = pool; table = m.table }) r) rs → map place_by (map (list_in h) rs) ≡ map (place_in (record { bytes = pool; table = m.table })) rs
  placed [] e = refl
  placed (r ∷ rs) e = ap₂ (λ p ps. p ∷ ps) e.0 (placed rs e.1)

  pub places : map place_by lists ≡ map (place_in (record { bytes = pool; table = m.table })) rows
  places = placed rows (each_both (λ r. 1 ≤ stride_at h r) (IsAlive h) (λ r. place_by (list_in h r) ≡ place_in (record { bytes = pool; table = m.table }) r) place_there rows strides alive)
