-- A pool where one row's list has other bytes, or none.
use Rattle.std.proofs.Common.{◌≡◌, ◌≢◌, ℕ, zero, suc, ◌+◌, ◌-◌, ◌*◌, ◌<◌, ◌≤◌, ◌⊎◌, inl, inr, List, get_or, refl, ap, sym, ◌∙◌, arith}
use Rattle.std.proofs.lemmas.Bool.{cases_eq}
use Rattle.nxt_blocks.specs.Blocks.{total}
use Rattle.nxt_rows.specs.Rows.{dope_row, row_count, free_rows}
use Rattle.nxt_compact.specs.Pools.{block_bytes, blocks_in, IsFull}
use Rattle.nxt_compact.proofs.Laws.Going.{first_full}
use Rattle.nxt_compact.proofs.Laws.Opening.{bytes_before, before_next, before_all}
use Rattle.nxt_compact.proofs.Laws.Shifted.{bytes_of_table}
use Rattle.nxt_heap.specs.Inside.Pool.{list_in, IsPool, Relists}
use Rattle.nxt_heap.proofs.Begins.{SameOthers}
use Rattle.nxt_heap.proofs.ListsKept.{free_rows-kept, list_in-first, list_in-moved}

module _ (old new : List ℕ) (table base row place count room : ℕ) (p : IsPool old table base) (above : 0 < row) (within : row < row_count old table) (alive : (dope_row old table row).stride ≢ 0) (r : Relists old new table row place count room) where
  pub count_kept : row_count new table ≡ row_count old table
  count_kept = ap (λ d. d.count) (r.others 0 p.sound.some (λ e. omega (arith, e, above)))

  pub strides : (q : ℕ) → q < row_count old table → (dope_row new table q).stride ≡ (dope_row old table q).stride
  strides q less = elim (cases_eq q row) [
    | inl same ↦ ap (λ k. (dope_row new table k).stride) same ∙ ap (λ d. d.stride) r.own ∙ ap (λ k. (dope_row old table k).stride) (sym same)
    | inr other ↦ ap (λ d. d.stride) (r.others q less other)
  ]

  links : (q : ℕ) → q < row_count old table → (dope_row new table q).link ≡ (dope_row old table q).link
  links q less = elim (cases_eq q row) [
    | inl same ↦ ap (λ k. (dope_row new table k).link) same ∙ ap (λ d. d.link) r.own ∙ ap (λ k. (dope_row old table k).link) (sym same)
    | inr other ↦ ap (λ d. d.link) (r.others q less other)
  ]

  pub chain_kept : free_rows new table ≡ free_rows old table
  chain_kept = free_rows-kept old new table table p.chain p.sound.some count_kept links

  pub others_kept : SameOthers old new table table row
  others_kept = record {
    then = λ q other f. record { within = omega (arith, f.within, count_kept); some = omega (arith, f.some, ap block_bytes (r.others q f.within other)) };
    before = λ q other f. let less : q < row_count old table = omega (arith, f.within, count_kept) in record { within = less; some = omega (arith, f.some, ap block_bytes (r.others q less other)) };
    place = λ q other f. ap (λ d. d.place) (r.others q f.within other);
    bytes = λ q other f. ap block_bytes (r.others q f.within other);
  }

  step : (pool : List ℕ) (m : ℕ) → bytes_before pool table (suc m) ≡ bytes_before pool table m + block_bytes (dope_row pool table m)
  step pool m = omega (arith, before_next pool table m, ap (bytes_before pool table) (next m))
    where
      next : (m : ℕ) → suc m ≡ m + 1
      next m = omega arith

  lower : (m : ℕ) → m ≤ row → bytes_before new table m ≡ bytes_before old table m
  lower zero most = refl
  lower (suc m) most = omega (arith, step new m, step old m, lower m (omega (arith, most)), ap block_bytes (r.others m (omega (arith, most, within)) (λ e. omega (arith, e, most))))

  -- the bytes of all blocks, with those of the row's
  sums : (n : ℕ) → row + 1 + n ≤ row_count old table → bytes_before new table (row + 1 + n) + block_bytes (dope_row old table row) ≡ bytes_before old table (row + 1 + n) + block_bytes (dope_row new table row)
  sums zero most = omega (arith, before_next new table row, before_next old table row, lower row (omega arith), ap (bytes_before new table) (none (row + 1)), ap (bytes_before old table) (none (row + 1)))
    where
      none : (n : ℕ) → n + 0 ≡ n
      none n = omega arith
  sums (suc n) most = omega (
    arith,
    sums n (omega (arith, most)),
    before_next new table (row + 1 + n),
    before_next old table (row + 1 + n),
    ap block_bytes (r.others (row + 1 + n) (omega (arith, most)) (λ e. omega (arith, e))),
    ap (bytes_before new table) (next n),
    ap (bytes_before old table) (next n),
  )
    where
      next : (n : ℕ) → row + 1 + suc n ≡ row + 1 + n + 1
      next n = omega arith

  pub total_kept : total (blocks_in new table) + block_bytes (dope_row old table row) ≡ total (blocks_in old table) + block_bytes (dope_row new table row)
  total_kept = omega (
    arith,
    sums (row_count old table - (row + 1)) (omega (arith, within)),
    ap (bytes_before new table) rest,
    ap (bytes_before old table) rest,
    ap (bytes_before new table) (sym count_kept),
    before_all new table,
    before_all old table,
  )
    where
      rest : row + 1 + (row_count old table - (row + 1)) ≡ row_count old table
      rest = omega (arith, within)

  -- another list's bytes are outside
  pub other_list : (q : ℕ) → q < row_count old table → q ≢ row → ((k : ℕ) → IsFull old table q → k < block_bytes (dope_row old table q) → ((dope_row old table q).place + k < place) ⊎ (place + room ≤ (dope_row old table q).place + k)) → list_in new table q ≡ list_in old table q
  other_list q less other away = elim (cases_eq q 0) [
    | inl first ↦ ap (list_in new table) first ∙ list_in-first new table ∙ sym (ap (list_in old table) first ∙ list_in-first old table)
    | inr some ↦ list_in-moved old new table table q (strides q less) (ap (λ d. d.count) (r.others q less other)) (λ has.
        let full : IsFull old table q = record { within = less; some = has } in
        let at : (dope_row new table q).place ≡ (dope_row old table q).place = ap (λ d. d.place) (r.others q less other) in
        let inside = p.sound.within q full in
        record {
          from = inside;
          to = omega (arith, inside, at, r.size);
          bytes = λ k low. ap (λ n. get_or new (n + k) 0) at ∙ r.outside ((dope_row old table q).place + k) (away k full low) (beside q full (λ e. some e) k low);
        })
  ]
    where
      -- and outside of the table
      beside : (q : ℕ) → IsFull old table q → q ≢ 0 → (k : ℕ) → k < block_bytes (dope_row old table q) → ((dope_row old table q).place + k < table + 10 * row) ⊎ (table + 10 * row + 10 ≤ (dope_row old table q).place + k)
      beside q f some k low =
          let rows = bytes_of_table (dope_row old table 0) p.sound.stride in
          elim (p.sound.apart 0 q (first_full old table base p.sound) f (λ e. some (sym e))) [
            | inl l ↦ inr (omega (arith, l, rows, within, p.sound.place))
            | inr l ↦ inl (omega (arith, l, low, p.sound.place))
          ]
