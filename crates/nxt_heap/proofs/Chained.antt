-- A row without bytes is freed, or taken for an empty list.
use Rattle.std.proofs.Common.{◌≡◌, ◌≢◌, ℕ, zero, suc, ◌+◌, ◌%◌, ◌<◌, ◌||◌, List, ◌∷◌, length, set, nat_eq, Option, get_or, refl, ap, sym, ◌∙◌, arith, inl, inr}
use Rattle.std.proofs.lemmas.Bool.{cases_eq, ne_eqb, eq-eqb}
use Rattle.std.proofs.lemmas.Map.Keys.{IsDistinct-head}
use Rattle.std.specs.List.{list_any}
use Rattle.nxt_blocks.specs.Blocks.{total}
use Rattle.nxt_rows.specs.declared.DopeRow.{DopeRow}
use Rattle.nxt_rows.specs.Rows.{dope_row, row_count, no_place, free_rows, IsFreeChain, IsTable, IsAlive, KeepsOthers, KeepsOutside}
use Rattle.nxt_rows.proofs.Laws.Chains.{none_passes}
use Rattle.nxt_compact.specs.Pools.{block_bytes, blocks_in, IsFull, IsSound}
use Rattle.nxt_compact.proofs.Laws.Going.{first_full}
use Rattle.nxt_compact.proofs.Laws.Opening.{bytes_before, before_next, before_all}
use Rattle.nxt_compact.proofs.Laws.Shifted.{bytes_of_table}
use Rattle.nxt_heap.specs.Lists.{ByteList}
use Rattle.nxt_heap.specs.declared.blocks.BlockState.{BlockState}
use Rattle.nxt_heap.specs.Inside.Pool.{row_bytes, list_in, lists_in, IsPool, IsEnd, AreFronts, AreBlocks}
use Rattle.nxt_heap.proofs.Begins.{SameOthers, no_front_before, fronts_kept, no_front_then, table_inside}
use Rattle.nxt_heap.proofs.ListsKept.{list_in-first, list_in-moved, lists_in-set}
use Rattle.nxt_heap.proofs.Searched.{searched_still}
use Rattle.nxt_heap.proofs.Windows.{block-none, row_bytes-none}

pub record Swaps (old new : List ℕ) (table row : ℕ) : Type 0 where
  pub size : length new ≡ length old
  pub above : 0 < row
  pub within : row < row_count old table
  pub no_bytes : row_bytes (dope_row old table row) ≡ 0
  pub count : (dope_row new table row).count ≡ 0
  pub place : (dope_row new table row).place ≡ no_place
  pub back : (dope_row new table row).back ≡ 0
  pub others : KeepsOthers old new table row
  pub outside : KeepsOutside old new table
  pub chain : IsFreeChain new table
  pub free : (q : ℕ) → 0 < q → q < row_count old table → list_any (nat_eq q) (free_rows new table) ≡ nat_eq (dope_row new table q).stride 0

-- what a row other than this one keeps
pub record KeepsRow (old new : DopeRow) : Type 0 where
  pub place : new.place ≡ old.place
  pub stride : new.stride ≡ old.stride
  pub count : new.count ≡ old.count
  pub back : new.back ≡ old.back

module _ (old new : List ℕ) (table base row : ℕ) (p : IsPool old table base) (s : Swaps old new table row) where
  keeps : (q : ℕ) → q ≢ row → KeepsRow (dope_row old table q) (dope_row new table q)
  keeps q other = elim (cases_eq q 0) [
    | inl first ↦ record {
      place = ap (λ k. (dope_row new table k).place) first ∙ ap (λ r. r.place) s.others.first ∙ ap (λ k. (dope_row old table k).place) (sym first);
      stride = ap (λ k. (dope_row new table k).stride) first ∙ ap (λ r. r.stride) s.others.first ∙ ap (λ k. (dope_row old table k).stride) (sym first);
      count = ap (λ k. (dope_row new table k).count) first ∙ ap (λ r. r.count) s.others.first ∙ ap (λ k. (dope_row old table k).count) (sym first);
      back = ap (λ k. (dope_row new table k).back) first ∙ ap (λ r. r.back) s.others.first ∙ ap (λ k. (dope_row old table k).back) (sym first);
    }
    | inr some ↦
        let same = s.others.others q some other in
        record { place = ap (λ r. r.place) same; stride = ap (λ r. r.stride) same; count = ap (λ r. r.count) same; back = ap (λ r. r.back) same }
  ]

  pub swapped_count : row_count new table ≡ row_count old table
  swapped_count = (keeps 0 (λ e. omega (arith, e, s.above))).count

  swapped_block : (q : ℕ) → block_bytes (dope_row new table q) ≡ block_bytes (dope_row old table q)
  unfolding block_bytes
  swapped_block q = elim (cases_eq q row) [
    | inl same ↦
        ap (λ k. block_bytes (dope_row new table k)) same
        ∙ block-none (dope_row new table row) (row_bytes-none (dope_row new table row) s.count)
        ∙ sym (ap (λ k. block_bytes (dope_row old table k)) same ∙ block-none (dope_row old table row) s.no_bytes)
    | inr other ↦ let k = keeps q other in rw (k.count, k.stride) refl
  ]

  -- the row has no block
  none_old : IsFull old table row → ⊥
  none_old f = omega (arith, f.some, block-none (dope_row old table row) s.no_bytes)

  not_own : (q : ℕ) → IsFull old table q → q ≢ row
  not_own q f e = omega (arith, f.some, block-none (dope_row old table row) s.no_bytes, ap (λ k. block_bytes (dope_row old table k)) e)

  was : (q : ℕ) → IsFull new table q → IsFull old table q
  was q f = record { within = omega (arith, f.within, swapped_count); some = omega (arith, f.some, swapped_block q) }

  pub full_still : (q : ℕ) → IsFull old table q → IsFull new table q
  full_still q f = record { within = omega (arith, f.within, swapped_count); some = omega (arith, f.some, swapped_block q) }

  pub stands : (q : ℕ) → IsFull old table q → (dope_row new table q).place ≡ (dope_row old table q).place
  stands q f = (keeps q (not_own q f)).place

  pub swapped_others : SameOthers old new table table row
  swapped_others = record {
    then = λ q other f. record { within = omega (arith, f.within, swapped_count); some = omega (arith, f.some, swapped_block q) };
    before = λ q other f. was q f;
    place = λ q other f. stands q f;
    bytes = λ q other f. swapped_block q;
  }

  swapped_sound : IsSound new table base
  swapped_sound =
      let first = keeps 0 (λ e. omega (arith, e, s.above)) in
      record {
        size = omega (arith, s.size, p.sound.size);
        some = omega (arith, swapped_count, p.sound.some);
        place = first.place ∙ p.sound.place;
        stride = first.stride ∙ p.sound.stride;
        apart = λ q r f g other. elim (p.sound.apart q r (was q f) (was r g) other) [
          | inl l ↦ inl (omega (arith, l, stands q (was q f), swapped_block q, stands r (was r g)))
          | inr l ↦ inr (omega (arith, l, stands r (was r g), swapped_block r, stands q (was q f)))
        ];
        above = λ q f. omega (arith, p.sound.above q (was q f), stands q (was q f));
        within = λ q f. omega (arith, p.sound.within q (was q f), stands q (was q f), swapped_block q, s.size);
      }

  pub swapped_pool : IsPool new table base
  swapped_pool = record {
    size = s.size ∙ p.size;
    sound = swapped_sound;
    words = λ q f. ap (λ n. n % 4) (stands q (was q f)) ∙ p.words q (was q f);
    empty = λ q above within none. elim (cases_eq q row) [
      | inl same ↦ ap (λ k. (dope_row new table k).place) same ∙ s.place
      | inr other ↦ let k = keeps q other in k.place ∙ p.empty q above (omega (arith, within, swapped_count)) (sym k.count ∙ none)
    ];
    bare = λ q above within none. elim (cases_eq q row) [
      | inl same ↦ ap (λ k. (dope_row new table k).count) same ∙ s.count
      | inr other ↦ let k = keeps q other in k.count ∙ p.bare q above (omega (arith, within, swapped_count)) (sym k.stride ∙ none)
    ];
    backs = λ q within. elim (cases_eq q row) [
      | inl same ↦ ap (λ k. (dope_row new table k).back) same ∙ s.back
      | inr other ↦ (keeps q other).back ∙ p.backs q (omega (arith, within, swapped_count))
    ];
    chain = s.chain;
    free = λ q above within. s.free q above (omega (arith, swapped_count, within));
  }

  pub swapped_fronts : (fronts : List ℕ) → AreFronts old table fronts → AreFronts new table fronts
  swapped_fronts fronts fs = no_front_then new table fronts row (fronts_kept old new table table fronts row (no_front_before old table fronts row fs none_old) swapped_others) (λ f. none_old (was row f))

  pub swapped_end : (end : ℕ) → IsEnd old table end → IsEnd new table end
  swapped_end end e = record {
    most = λ q f. omega (arith, e.most q (was q f), stands q (was q f), swapped_block q);
    is = (
      e.is.0,
      swapped_others.then e.is.0 (not_own e.is.0 e.is.1) e.is.1,
      omega (arith, e.is.2, stands e.is.0 e.is.1, swapped_block e.is.0),
    );
  }

  same_bytes : (n : ℕ) → bytes_before new table n ≡ bytes_before old table n
  same_bytes zero = refl
  same_bytes (suc n) = omega (arith, same_bytes n, step new n, step old n, swapped_block n)
    where
      step : (pool : List ℕ) (m : ℕ) → bytes_before pool table (suc m) ≡ bytes_before pool table m + block_bytes (dope_row pool table m)
      step pool m = omega (arith, before_next pool table m, ap (bytes_before pool table) (next m))
        where
          next : (m : ℕ) → suc m ≡ m + 1
          next m = omega arith

  pub swapped_total : total (blocks_in new table) ≡ total (blocks_in old table)
  swapped_total = omega (arith, before_all new table, before_all old table, same_bytes (row_count old table), ap (bytes_before new table) swapped_count)

  swapped_other : (q : ℕ) → q < row_count old table → q ≢ row → list_in new table q ≡ list_in old table q
  swapped_other q less other =
      let k = keeps q other in
      elim (cases_eq q 0) [
        | inl first ↦ ap (list_in new table) first ∙ list_in-first new table ∙ sym (ap (list_in old table) first ∙ list_in-first old table)
        | inr above ↦ list_in-moved old new table table q k.stride k.count (λ some.
            let f : IsFull old table q = record { within = less; some = some } in
            let inside = p.sound.within q f in
            record {
              from = inside;
              to = omega (arith, inside, k.place, s.size);
              bytes = λ i low. ap (λ n. get_or new (n + i) 0) k.place ∙ elim (p.sound.apart 0 q (first_full old table base p.sound) f (λ e. above (sym e))) [
                | inl l ↦ s.outside.above ((dope_row old table q).place + i) 0 (omega (arith, l, p.sound.place, bytes_of_table (dope_row old table 0) p.sound.stride))
                | inr l ↦ s.outside.below ((dope_row old table q).place + i) 0 (omega (arith, l, low, p.sound.place))
              ];
            })
      ]

  pub swapped_lists : (l : Option ByteList) → list_in new table row ≡ l → lists_in new table ≡ set (lists_in old table) row l
  swapped_lists l here = lists_in-set old new table row l swapped_count s.within here swapped_other

-- ---- what nxt_rows asks

pub pool_table : (pool : List ℕ) (table base : ℕ) → IsPool pool table base → IsTable pool table
pool_table pool table base p = record { some = p.sound.some; within = table_inside pool table base p }

pub pool_alive : (pool : List ℕ) (table base row : ℕ) → IsPool pool table base → 0 < row → row < row_count pool table
    → (dope_row pool table row).stride ≢ 0 → IsAlive pool table row
pool_alive pool table base row p above within stride = record {
  above = above;
  within = within;
  unchained = p.free row above within ∙ ne_eqb (dope_row pool table row).stride 0 stride;
}

-- ---- the chain and the strides

pub freed_free : (old new : List ℕ) (table base row q : ℕ) → IsPool old table base → free_rows new table ≡ row ∷ free_rows old table
    → (dope_row new table row).stride ≡ 0 → (q ≢ row → (dope_row new table q).stride ≡ (dope_row old table q).stride)
    → 0 < q → q < row_count old table → list_any (nat_eq q) (free_rows new table) ≡ nat_eq (dope_row new table q).stride 0
freed_free old new table base row q d front none others above below =
    ap (list_any (nat_eq q)) front ∙ elim (cases_eq q row) [
      | inl same ↦
          ap (λ b. b || list_any (nat_eq q) (free_rows old table)) (eq-eqb q row same)
          ∙ sym (eq-eqb (dope_row new table q).stride 0 (ap (λ k. (dope_row new table k).stride) same ∙ none))
      | inr other ↦
          ap (λ b. b || list_any (nat_eq q) (free_rows old table)) (ne_eqb q row other)
          ∙ d.free q above below ∙ ap (λ n. nat_eq n 0) (sym (others other))
    ]

pub taken_free : (old new : List ℕ) (table base row q : ℕ) → IsPool old table base → free_rows old table ≡ row ∷ free_rows new table
    → (dope_row new table row).stride ≢ 0 → (q ≢ row → (dope_row new table q).stride ≡ (dope_row old table q).stride)
    → 0 < q → q < row_count old table → list_any (nat_eq q) (free_rows new table) ≡ nat_eq (dope_row new table q).stride 0
taken_free old new table base row q d front some others above below = elim (cases_eq q row) [
  | inl same ↦
      ap (λ k. list_any (nat_eq k) (free_rows new table)) same
      ∙ none_passes (nat_eq row) (free_rows new table) (IsDistinct-head nat_eq row (free_rows new table) (rw front at d.chain.once))
      ∙ sym (ap (λ k. nat_eq (dope_row new table k).stride 0) same ∙ ne_eqb (dope_row new table row).stride 0 some)
  | inr other ↦
      sym (ap (λ b. b || list_any (nat_eq q) (free_rows new table)) (ne_eqb q row other))
      ∙ sym (ap (list_any (nat_eq q)) front)
      ∙ d.free q above below ∙ ap (λ n. nat_eq n 0) (sym (others other))
]

-- ---- the places stay as they were

pub swapped_blocks : (old new : List ℕ) (fronts : List ℕ) (q : BlockState) (row : ℕ) → AreBlocks old fronts q → Swaps old new q.table row → AreBlocks new fronts q
swapped_blocks old new fronts q row b s = record {
  is_pool = swapped_pool old new q.table q.base row b.is_pool s;
  word = b.word;
  are_fronts = swapped_fronts old new q.table q.base row b.is_pool s fronts b.are_fronts;
  end_is = swapped_end old new q.table q.base row b.is_pool s q.end b.end_is;
  footprint_is = b.footprint_is ∙ ap (λ n. q.base + n) (sym (swapped_total old new q.table q.base row b.is_pool s));
  searched = searched_still old new q.table q.table q.base q.searched q.sought s.size
      (λ r f less. let g = was old new q.table q.base row b.is_pool s r f in (g, stands old new q.table q.base row b.is_pool s r g, swapped_block old new q.table q.base row b.is_pool s r))
      (λ r f. (full_still old new q.table q.base row b.is_pool s r f, stands old new q.table q.base row b.is_pool s r f, λ less. omega (arith, swapped_block old new q.table q.base row b.is_pool s r)))
      b.searched;
}
