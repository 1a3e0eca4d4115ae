-- Bytes that are stored in a list, or below all blocks.
use Rattle.std.proofs.Common.{◌≡◌, ◌≢◌, ℕ, zero, suc, ◌+◌, ◌/◌, ◌%◌, ◌<◌, ◌≤◌, inl, inr, List, length, take, drop, get_or, nat_eq, Some, refl, ap, sym, ◌∙◌, arith}
use Rattle.std.specs.List.{list_any}
use Rattle.std.proofs.lemmas.Bool.{cases_eq}
use Rattle.nxt_facts.specs.PutAt.{put_at}
use Rattle.nxt_facts.proofs.PutAt.{length-put_at, put_at-before, put_at-behind, put_at-empty, window-put_at}
use Rattle.nxt_blocks.specs.Blocks.{total}
use Rattle.nxt_rows.specs.Rows.{dope_row, row_count}
use Rattle.nxt_rows.proofs.Laws.Writes.{dope_row-kept}
use Rattle.nxt_compact.specs.Pools.{block_bytes, blocks_in, IsFull, IsSound}
use Rattle.nxt_compact.proofs.Laws.Going.{first_full}
use Rattle.nxt_compact.proofs.Laws.Opening.{bytes_before, before_next, before_all}
use Rattle.nxt_compact.proofs.Laws.Shifted.{bytes_of_table}
use Rattle.nxt_heap.specs.declared.blocks.BlockState.{BlockState}
use Rattle.nxt_heap.specs.Moves.{RowsStay}
use Rattle.nxt_heap.specs.Inside.Pool.{row_bytes, list_in, lists_in, lists_with_bytes, IsPool, AreBlocks}
use Rattle.nxt_heap.proofs.Begins.{table_inside}
use Rattle.nxt_heap.proofs.ListsKept.{free_rows-kept, IsFreeChain-kept, list_in-first, list_in-some, list_in-moved, lists_in-set, same_lists_in}
use Rattle.nxt_heap.proofs.Searched.{searched_still}
use Rattle.nxt_heap.proofs.Windows.{le-block}

-- ---- the rows stay

module _ (old new fronts : List ℕ) (q : BlockState) (b : AreBlocks old fronts q) (size : length new ≡ length old) (rows : (r : ℕ) → r < row_count old q.table → dope_row new q.table r ≡ dope_row old q.table r) where
  same_count : row_count new q.table ≡ row_count old q.table
  same_count = ap (λ d. d.count) (rows 0 b.is_pool.sound.some)

  full_was : (r : ℕ) → IsFull new q.table r → IsFull old q.table r
  full_was r f = let less : r < row_count old q.table = omega (arith, f.within, same_count) in record { within = less; some = omega (arith, f.some, ap block_bytes (rows r less)) }

  full_is : (r : ℕ) → IsFull old q.table r → IsFull new q.table r
  full_is r f = record { within = omega (arith, f.within, same_count); some = omega (arith, f.some, ap block_bytes (rows r f.within)) }

  place_is : (r : ℕ) → IsFull old q.table r → (dope_row new q.table r).place ≡ (dope_row old q.table r).place
  place_is r f = ap (λ d. d.place) (rows r f.within)

  bytes_are : (r : ℕ) → IsFull old q.table r → block_bytes (dope_row new q.table r) ≡ block_bytes (dope_row old q.table r)
  bytes_are r f = ap block_bytes (rows r f.within)

  rows_sound : IsSound new q.table q.base
  rows_sound =
      let s = b.is_pool.sound in
      record {
        size = omega (arith, size, s.size);
        some = omega (arith, same_count, s.some);
        place = ap (λ d. d.place) (rows 0 s.some) ∙ s.place;
        stride = ap (λ d. d.stride) (rows 0 s.some) ∙ s.stride;
        apart = λ r t f g other. elim (s.apart r t (full_was r f) (full_was t g) other) [
          | inl l ↦ inl (omega (arith, l, place_is r (full_was r f), bytes_are r (full_was r f), place_is t (full_was t g)))
          | inr l ↦ inr (omega (arith, l, place_is t (full_was t g), bytes_are t (full_was t g), place_is r (full_was r f)))
        ];
        above = λ r f. omega (arith, s.above r (full_was r f), place_is r (full_was r f));
        within = λ r f. omega (arith, s.within r (full_was r f), place_is r (full_was r f), bytes_are r (full_was r f), size);
      }

  rows_pool : IsPool new q.table q.base
  rows_pool =
      let p = b.is_pool in
      let chain = free_rows-kept old new q.table q.table p.chain p.sound.some same_count (λ r less. ap (λ d. d.link) (rows r less)) in
      record {
        size = size ∙ p.size;
        sound = rows_sound;
        words = λ r f. ap (λ n. n % 4) (place_is r (full_was r f)) ∙ p.words r (full_was r f);
        empty = λ r above within none.
            let less : r < row_count old q.table = omega (arith, within, same_count) in
            ap (λ d. d.place) (rows r less) ∙ p.empty r above less (ap (λ d. d.count) (sym (rows r less)) ∙ none);
        bare = λ r above within none.
            let less : r < row_count old q.table = omega (arith, within, same_count) in
            ap (λ d. d.count) (rows r less) ∙ p.bare r above less (ap (λ d. d.stride) (sym (rows r less)) ∙ none);
        backs = λ r within. let less : r < row_count old q.table = omega (arith, within, same_count) in ap (λ d. d.back) (rows r less) ∙ p.backs r less;
        chain = IsFreeChain-kept old new q.table q.table p.chain same_count chain;
        free = λ r above within.
            let less : r < row_count old q.table = omega (arith, within, same_count) in
            ap (list_any (nat_eq r)) chain ∙ p.free r above less ∙ ap (λ n. nat_eq n 0) (sym (ap (λ d. d.stride) (rows r less)));
      }

  rows_bytes : (n : ℕ) → n ≤ row_count old q.table → bytes_before new q.table n ≡ bytes_before old q.table n
  rows_bytes zero most = refl
  rows_bytes (suc n) most = omega (arith, rows_bytes n (omega (arith, most)), step new n, step old n, ap block_bytes (rows n (omega (arith, most))))
    where
      step : (pool : List ℕ) (m : ℕ) → bytes_before pool q.table (suc m) ≡ bytes_before pool q.table m + block_bytes (dope_row pool q.table m)
      step pool m = omega (arith, before_next pool q.table m, ap (bytes_before pool q.table) (next m))
        where
          next : (m : ℕ) → suc m ≡ m + 1
          next m = omega arith

  rows_total : total (blocks_in new q.table) ≡ total (blocks_in old q.table)
  rows_total = omega (arith, before_all new q.table, before_all old q.table, rows_bytes (row_count old q.table) (omega arith), ap (bytes_before new q.table) same_count)

  pub rows_blocks : AreBlocks new fronts q
  rows_blocks = record {
    is_pool = rows_pool;
    word = b.word;
    are_fronts = record {
      size = b.are_fronts.size;
      told = λ r f. ap (λ n. get_or fronts (n / 4) 0) (place_is r (full_was r f)) ∙ b.are_fronts.told r (full_was r f);
      real = λ w less there. let found = b.are_fronts.real w less there in (full_is (get_or fronts w 0) found.0, place_is (get_or fronts w 0) found.0 ∙ found.1);
    };
    end_is = record {
      most = λ r f. omega (arith, b.end_is.most r (full_was r f), place_is r (full_was r f), bytes_are r (full_was r f));
      is = (b.end_is.is.0, full_is b.end_is.is.0 b.end_is.is.1, omega (arith, b.end_is.is.2, place_is b.end_is.is.0 b.end_is.is.1, bytes_are b.end_is.is.0 b.end_is.is.1));
    };
    footprint_is = b.footprint_is ∙ ap (λ n. q.base + n) (sym rows_total);
    searched = searched_still old new q.table q.table q.base q.searched q.sought size
        (λ r f less. (full_was r f, place_is r (full_was r f), bytes_are r (full_was r f)))
        (λ r f. (full_is r f, place_is r f, λ less. omega (arith, bytes_are r f)))
        b.searched;
  }

  -- a list whose bytes stay
  pub list_stays : (r : ℕ) → r < row_count old q.table → ((k : ℕ) → IsFull old q.table r → 0 < r → k < block_bytes (dope_row old q.table r) → get_or new ((dope_row old q.table r).place + k) 0 ≡ get_or old ((dope_row old q.table r).place + k) 0) → list_in new q.table r ≡ list_in old q.table r
  list_stays r less same = elim (cases_eq r 0) [
    | inl first ↦ ap (list_in new q.table) first ∙ list_in-first new q.table ∙ sym (ap (list_in old q.table) first ∙ list_in-first old q.table)
    | inr some ↦ list_in-moved old new q.table q.table r (ap (λ d. d.stride) (rows r less)) (ap (λ d. d.count) (rows r less)) (λ has.
        let f : IsFull old q.table r = record { within = less; some = has } in
        record {
          from = b.is_pool.sound.within r f;
          to = omega (arith, b.is_pool.sound.within r f, place_is r f, size);
          bytes = λ k low. ap (λ n. get_or new (n + k) 0) (place_is r f) ∙ same k f (omega (arith, some)) low;
        })
  ]

  pub rows_count : row_count new q.table ≡ row_count old q.table
  rows_count = same_count

-- ---- bytes of one list

module _ (xs fronts : List ℕ) (q : BlockState) (b : AreBlocks xs fronts q) (row at : ℕ) (bs : List ℕ) (above : 0 < row) (within : row < row_count xs q.table) (alive : (dope_row xs q.table row).stride ≢ 0) (some : 0 < length bs) (fits : at + length bs ≤ row_bytes (dope_row xs q.table row)) where
  abbrev pub after_bytes : List ℕ
  after_bytes = put_at ((dope_row xs q.table row).place + at) bs xs

  own : IsFull xs q.table row
  own = record { within = within; some = omega (arith, some, fits, le-block (dope_row xs q.table row)) }

  pub inside : (dope_row xs q.table row).place + at + length bs ≤ length xs
  inside = omega (arith, b.is_pool.sound.within row own, fits, le-block (dope_row xs q.table row))

  -- the row's block, and the table, are apart
  stored_rows : (r : ℕ) → r < row_count xs q.table → dope_row after_bytes q.table r ≡ dope_row xs q.table r
  stored_rows r less =
      let p = b.is_pool in
      let big = bytes_of_table (dope_row xs q.table 0) p.sound.stride in
      dope_row-kept xs after_bytes q.table r (λ k low high. elim (p.sound.apart 0 row (first_full xs q.table q.base p.sound) own (λ e. omega (arith, e, above))) [
        | inl l ↦ put_at-before ((dope_row xs q.table row).place + at) bs xs k 0 inside (omega (arith, l, high, less, big, p.sound.place))
        | inr l ↦ put_at-behind ((dope_row xs q.table row).place + at) bs xs k 0 inside (omega (arith, l, low, fits, le-block (dope_row xs q.table row), p.sound.place))
      ])

  size_same : length after_bytes ≡ length xs
  size_same = length-put_at ((dope_row xs q.table row).place + at) bs xs inside

  pub stored_blocks : AreBlocks after_bytes fronts q
  stored_blocks = rows_blocks xs after_bytes fronts q b size_same stored_rows

  pub stored_stay : RowsStay (record { bytes = xs; table = q.table }) (record { bytes = after_bytes; table = q.table })
  stored_stay = record { table = refl; count = rows_count xs after_bytes fronts q b size_same stored_rows; rows = stored_rows }

  pub stored_lists : lists_in after_bytes q.table ≡ lists_with_bytes xs q.table row at bs
  stored_lists =
      let x = dope_row xs q.table row in
      let is = stored_rows row within in
      let fit : x.place + row_bytes x ≤ length xs = omega (arith, b.is_pool.sound.within row own, le-block x) in
      lists_in-set xs after_bytes q.table row (Some (record { stride = x.stride; bytes = put_at at bs (take (row_bytes x) (drop x.place xs)) }))
      (rows_count xs after_bytes fronts q b size_same stored_rows) within
      (list_in-some after_bytes q.table row above (λ none. alive (sym (ap (λ d. d.stride) is) ∙ none))
      ∙ rw is (rw (window-put_at x.place (row_bytes x) at bs xs fit fits) refl))
      (λ r less other. list_stays xs after_bytes fronts q b size_same stored_rows r less (λ k f some_row low. elim (b.is_pool.sound.apart r row f own other) [
        | inl l ↦ put_at-before (x.place + at) bs xs ((dope_row xs q.table r).place + k) 0 inside (omega (arith, l, low))
        | inr l ↦ put_at-behind (x.place + at) bs xs ((dope_row xs q.table r).place + k) 0 inside (omega (arith, l, fits, le-block x))
      ]))

  pub stored_below : (k : ℕ) → k < q.base → get_or after_bytes k 0 ≡ get_or xs k 0
  stored_below k low = put_at-before ((dope_row xs q.table row).place + at) bs xs k 0 inside (omega (arith, low, b.is_pool.sound.above row own))

-- no bytes change nothing
pub stored_none : (xs : List ℕ) (table row at : ℕ) (bs : List ℕ) → 0 < row → row < row_count xs table → (dope_row xs table row).stride ≢ 0 → length bs ≡ 0
    → lists_in xs table ≡ lists_with_bytes xs table row at bs
stored_none xs table row at bs above within stride none =
    let x = dope_row xs table row in
    let bytes = take (row_bytes x) (drop x.place xs) in
    lists_in-set xs xs table row (Some (record { stride = x.stride; bytes = put_at at bs bytes })) refl within
    (list_in-some xs table row above stride ∙ ap (λ ys. Some (record { stride = x.stride; bytes = ys })) (sym (put_at-empty at bs bytes none)))
    (λ q below other. refl)

-- ---- bytes below all blocks

module _ (xs fronts : List ℕ) (q : BlockState) (b : AreBlocks xs fronts q) (at : ℕ) (bs : List ℕ) (fits : at + length bs ≤ q.base) where
  base_inside : q.base ≤ q.table
  base_inside = omega (arith, b.is_pool.sound.above 0 (first_full xs q.table q.base b.is_pool.sound), b.is_pool.sound.place)

  pub below_inside : at + length bs ≤ length xs
  below_inside = omega (arith, fits, base_inside, table_inside xs q.table q.base b.is_pool)

  below_rows : (r : ℕ) → r < row_count xs q.table → dope_row (put_at at bs xs) q.table r ≡ dope_row xs q.table r
  below_rows r less = dope_row-kept xs (put_at at bs xs) q.table r (λ k low high. put_at-behind at bs xs k 0 below_inside (omega (arith, low, fits, base_inside)))

  pub below_blocks : AreBlocks (put_at at bs xs) fronts q
  below_blocks = rows_blocks xs (put_at at bs xs) fronts q b (length-put_at at bs xs below_inside) below_rows

  pub below_stay : RowsStay (record { bytes = xs; table = q.table }) (record { bytes = put_at at bs xs; table = q.table })
  below_stay = record { table = refl; count = rows_count xs (put_at at bs xs) fronts q b (length-put_at at bs xs below_inside) below_rows; rows = below_rows }

  pub below_lists : lists_in (put_at at bs xs) q.table ≡ lists_in xs q.table
  below_lists = same_lists_in xs (put_at at bs xs) q.table q.table (rows_count xs (put_at at bs xs) fronts q b (length-put_at at bs xs below_inside) below_rows)
      (λ r less. list_stays xs (put_at at bs xs) fronts q b (length-put_at at bs xs below_inside) below_rows r less (λ k f some low.
      put_at-behind at bs xs ((dope_row xs q.table r).place + k) 0 below_inside (omega (arith, fits, b.is_pool.sound.above r f))))
