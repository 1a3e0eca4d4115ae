-- The table gets a row more.
use Rattle.std.proofs.Common.{◌≡◌, ◌≢◌, ℕ, zero, suc, ◌+◌, ◌-◌, ◌*◌, ◌/◌, ◌%◌, ◌<◌, ◌≤◌, inl, inr, List, [], ◌∷◌, ◌++◌, length, get_or, nat_eq, refl, ap, sym, subst, ◌∙◌, arith, length-append}
use Rattle.std.specs.Prelude.{max}
use Rattle.std.specs.List.{list_any}
use Rattle.std.proofs.Math.Seq.{get_or-append_seam}
use Rattle.std.proofs.lemmas.Bool.{cases_eq, cases_lt, ne_eqb}
use Rattle.std.proofs.lemmas.List.{same_lists, get_or_append_left}
use Rattle.nxt_types.specs.Pool.{round4}
use Rattle.nxt_types.proofs.Laws.Pool.{le-round4}
use Rattle.nxt_blocks.specs.Blocks.{total}
use Rattle.nxt_blocks.specs.Standing.{IsApart}
use Rattle.nxt_rows.specs.Rows.{dope_row, row_count, link_of, chain, free_rows}
use Rattle.nxt_rows.proofs.Laws.Chains.{chain-step}
use Rattle.nxt_rows.proofs.Laws.FreeRows.{free_rows-none, IsFreeChain-none}
use Rattle.nxt_compact.specs.Pools.{block_bytes, block_of, blocks_in, IsFull, IsSound}
use Rattle.nxt_compact.proofs.Laws.Going.{first_full}
use Rattle.nxt_compact.proofs.Laws.Opening.{bytes_before, before_next, before_all}
use Rattle.nxt_heap.specs.Lists.{empty_list}
use Rattle.nxt_heap.specs.Inside.Pool.{row_bytes, list_in, lists_in, IsPool, IsRoom, IsEnd, AreFronts, IsSearched, AddsRow}
use Rattle.nxt_heap.proofs.Begins.{SameOthers}
use Rattle.nxt_heap.proofs.ListsKept.{list_in-first, list_in-some, list_in-moved, length-lists_in, lists_in-at}
use Rattle.nxt_heap.proofs.Searched.{searched_others}
use Rattle.nxt_heap.proofs.Windows.{block_is, block-none, row_bytes-none}

-- no row is free where the first link is 0, and only there
no_link : (pool : List ℕ) (table : ℕ) → 0 < row_count pool table → free_rows pool table ≡ [] → link_of pool table 0 ≡ 0
unfolding free_rows
no_link pool table some none = elim (cases_eq (link_of pool table 0) 0) [
  | inl zero_link ↦ zero_link
  | inr link ↦
      let n = row_count pool table in
      let split : n ≡ suc (n - 1) = omega (arith, some) in
      let first = chain-step (link_of pool table) (n - 1) (link_of pool table 0) (omega (arith, link)) in
      let whole = ap (λ k. chain (link_of pool table) k (link_of pool table 0)) split in
      absurd (cc (whole, first, none))
]

module _ (old new : List ℕ) (table base stride : ℕ) (p : IsPool old table base) (none : free_rows old table ≡ []) (some : 1 ≤ stride) (room : IsRoom old table base 0 table (round4 (10 * (row_count old table + 1)))) (a : AddsRow old new table stride) where
  n : ℕ
  n = row_count old table

  pub added_count : row_count new table ≡ row_count old table + 1
  added_count = ap (λ d. d.count) a.first

  -- the table's block
  pub table_block : block_bytes (dope_row new table 0) ≡ round4 (10 * (row_count old table + 1))
  table_block = block_is (dope_row new table 0) ∙ ap round4 (ap row_bytes a.first ∙ ap (λ s. (row_count old table + 1) * s) p.sound.stride ∙ omega arith)

  pub table_was : block_bytes (dope_row old table 0) ≡ round4 (10 * row_count old table)
  table_was = block_is (dope_row old table 0) ∙ ap round4 (ap (λ s. row_count old table * s) p.sound.stride ∙ omega arith)

  pub no_block : block_bytes (dope_row new table (row_count old table)) ≡ 0
  no_block = block-none (dope_row new table (row_count old table)) (row_bytes-none (dope_row new table (row_count old table)) (ap (λ d. d.count) a.added))

  -- a full row above the first was one, and stands as it stood
  was : (q : ℕ) → IsFull new table q → q ≢ 0 → IsFull old table q
  was q f other = elim (cases_lt q (row_count old table)) [
    | inl less ↦ record { within = less; some = omega (arith, f.some, ap block_bytes (a.others q (omega (arith, other)) less)) }
    | inr more ↦ absurd (omega (arith, f.some, no_block, ap (λ k. block_bytes (dope_row new table k)) (last q f.within more)))
  ]
    where
      last : (q : ℕ) → q < row_count new table → row_count old table ≤ q → q ≡ row_count old table
      last q less more = omega (arith, less, more, added_count)

  row_was : (q : ℕ) → IsFull old table q → q ≢ 0 → dope_row new table q ≡ dope_row old table q
  row_was q f other = a.others q (omega (arith, other)) f.within

  first_place : (dope_row new table 0).place ≡ table
  first_place = ap (λ d. d.place) a.first ∙ p.sound.place

  from_table : (q : ℕ) → IsFull new table q → q ≢ 0 → IsApart (block_of new table 0) (block_of new table q)
  from_table q f other =
      let g = was q f other in
      let same = row_was q g other in
      elim (room.others q g other) [
        | inl l ↦ inl (omega (arith, l, first_place, table_block, ap (λ d. d.place) same))
        | inr l ↦ inr (omega (arith, l, first_place, ap (λ d. d.place) same, ap block_bytes same))
      ]

  pub added_sound : IsSound new table base
  added_sound = record {
    size = omega (arith, a.size, p.sound.size);
    some = omega (arith, added_count);
    place = first_place;
    stride = ap (λ d. d.stride) a.first ∙ p.sound.stride;
    apart = λ q r f g other. elim (cases_eq q 0) [
      | inl here ↦ elim (from_table r g (λ e. other (here ∙ sym e))) [
        | inl l ↦ inl (omega (arith, l, ap (λ k. (dope_row new table k).place + block_bytes (dope_row new table k)) here))
        | inr l ↦ inr (omega (arith, l, ap (λ k. (dope_row new table k).place) here))
      ]
      | inr there ↦ elim (cases_eq r 0) [
        | inl here ↦ elim (from_table q f there) [
          | inl l ↦ inr (omega (arith, l, ap (λ k. (dope_row new table k).place + block_bytes (dope_row new table k)) here))
          | inr l ↦ inl (omega (arith, l, ap (λ k. (dope_row new table k).place) here))
        ]
        | inr else ↦
            let b = was q f there in
            let c = was r g else in
            let one = row_was q b there in
            let two = row_was r c else in
            elim (p.sound.apart q r b c other) [
              | inl l ↦ inl (omega (arith, l, ap (λ d. d.place) one, ap block_bytes one, ap (λ d. d.place) two))
              | inr l ↦ inr (omega (arith, l, ap (λ d. d.place) two, ap block_bytes two, ap (λ d. d.place) one))
            ]
      ]
    ];
    above = λ q f. elim (cases_eq q 0) [
      | inl here ↦ omega (arith, room.above, first_place, ap (λ k. (dope_row new table k).place) here)
      | inr there ↦ let b = was q f there in omega (arith, p.sound.above q b, ap (λ d. d.place) (row_was q b there))
    ];
    within = λ q f. elim (cases_eq q 0) [
      | inl here ↦ omega (arith, room.within, first_place, table_block, a.size, ap (λ k. (dope_row new table k).place + block_bytes (dope_row new table k)) here)
      | inr there ↦ let b = was q f there in omega (arith, p.sound.within q b, ap (λ d. d.place) (row_was q b there), ap block_bytes (row_was q b there), a.size)
    ];
  }

  still_none : free_rows new table ≡ []
  still_none = free_rows-none new table (ap (λ d. d.link) a.first ∙ no_link old table p.sound.some none)

  pub added_pool : IsPool new table base
  added_pool = record {
    size = a.size ∙ p.size;
    sound = added_sound;
    words = λ q f. elim (cases_eq q 0) [
      | inl here ↦ ap (λ k. (dope_row new table k).place % 4) here ∙ ap (λ m. m % 4) first_place ∙ room.word
      | inr there ↦ let b = was q f there in ap (λ d. d.place % 4) (row_was q b there) ∙ p.words q b
    ];
    empty = λ q above within zero_count. elim (cases_lt q (row_count old table)) [
      | inl less ↦ let same = a.others q above less in ap (λ d. d.place) same ∙ p.empty q above less (ap (λ d. d.count) (sym same) ∙ zero_count)
      | inr more ↦ ap (λ k. (dope_row new table k).place) (last q within more) ∙ ap (λ d. d.place) a.added
    ];
    bare = λ q above within zero_stride. elim (cases_lt q (row_count old table)) [
      | inl less ↦ let same = a.others q above less in ap (λ d. d.count) same ∙ p.bare q above less (ap (λ d. d.stride) (sym same) ∙ zero_stride)
      | inr more ↦ ap (λ k. (dope_row new table k).count) (last q within more) ∙ ap (λ d. d.count) a.added
    ];
    backs = λ q within. elim (cases_eq q 0) [
      | inl here ↦ ap (λ k. (dope_row new table k).back) here ∙ ap (λ d. d.back) a.first ∙ p.backs 0 p.sound.some
      | inr there ↦ elim (cases_lt q (row_count old table)) [
        | inl less ↦ ap (λ d. d.back) (a.others q (omega (arith, there)) less) ∙ p.backs q less
        | inr more ↦ ap (λ k. (dope_row new table k).back) (last q within more) ∙ ap (λ d. d.back) a.added
      ]
    ];
    chain = IsFreeChain-none new table still_none;
    free = λ q above within. ap (list_any (nat_eq q)) still_none ∙ elim (cases_lt q (row_count old table)) [
      | inl less ↦ sym (ap (list_any (nat_eq q)) none) ∙ p.free q above less ∙ ap (λ s. nat_eq s 0) (sym (ap (λ d. d.stride) (a.others q above less)))
      | inr more ↦
          let is : (dope_row new table q).stride ≡ stride = ap (λ k. (dope_row new table k).stride) (last q within more) ∙ ap (λ d. d.stride) a.added in
          sym (ne_eqb (dope_row new table q).stride 0 (λ e. omega (arith, e, is, some)))
    ];
  }
    where
      last : (q : ℕ) → q < row_count new table → row_count old table ≤ q → q ≡ row_count old table
      last q less more = omega (arith, less, more, added_count)

  -- ---- what it holds

  new_list : list_in new table (row_count old table) ≡ empty_list stride
  new_list =
      let row = dope_row new table (row_count old table) in
      let zero_bytes : row_bytes row ≡ 0 = row_bytes-none row (ap (λ d. d.count) a.added) in
      let is : row.stride ≡ stride = ap (λ d. d.stride) a.added in
      list_in-some new table (row_count old table) p.sound.some (λ e. omega (arith, e, is, some)) ∙ rw (zero_bytes, is) refl

  old_list : (q : ℕ) → q < row_count old table → list_in new table q ≡ list_in old table q
  old_list q less = elim (cases_eq q 0) [
    | inl first ↦ ap (list_in new table) first ∙ list_in-first new table ∙ sym (ap (list_in old table) first ∙ list_in-first old table)
    | inr there ↦
        let same = a.others q (omega (arith, there)) less in
        list_in-moved old new table table q (ap (λ d. d.stride) same) (ap (λ d. d.count) same) (λ has.
        let f : IsFull old table q = record { within = less; some = has } in
        let inside = p.sound.within q f in
        record {
          from = inside;
          to = omega (arith, inside, ap (λ d. d.place) same, a.size);
          bytes = λ k low. ap (λ d. get_or new (d.place + k) 0) same ∙ a.outside ((dope_row old table q).place + k) (elim (room.others q f there) [
            | inl l ↦ inr (omega (arith, l, le-round4 (10 * (row_count old table + 1))))
            | inr l ↦ inl (omega (arith, l, low))
          ]);
        })
  ]

  pub added_lists : lists_in new table ≡ lists_in old table ++ empty_list stride ∷ []
  added_lists =
      let xs = lists_in old table in
      let long : length xs ≡ row_count old table = length-lists_in old table in
      same_lists (lists_in new table) (xs ++ empty_list stride ∷ [])
      (length-lists_in new table ∙ added_count ∙ sym (length-append xs (empty_list stride ∷ []) ∙ ap (λ k. k + 1) long))
      (λ k d below.
      let within : k < row_count new table = omega (arith, below, length-lists_in new table) in
      lists_in-at new table k d within ∙ elim (cases_lt k (row_count old table)) [
        | inl less ↦ old_list k less ∙ sym (lists_in-at old table k d less) ∙ sym (get_or_append_left xs (empty_list stride ∷ []) d k (omega (arith, less, long)))
        | inr more ↦
            let is : k ≡ row_count old table = omega (arith, within, added_count, more) in
            ap (list_in new table) is ∙ new_list
            ∙ sym (ap (λ i. get_or (xs ++ empty_list stride ∷ []) i d) (is ∙ sym long) ∙ get_or-append_seam xs (empty_list stride) [] d)
      ])

  -- ---- where blocks begin and end

  full_then : (q : ℕ) → IsFull old table q → IsFull new table q
  full_then q f = elim (cases_eq q 0) [
    | inl here ↦ record { within = omega (arith, f.within, added_count); some = omega (arith, table_block, le-round4 (10 * (row_count old table + 1)), ap (λ k. block_bytes (dope_row new table k)) here) }
    | inr there ↦ record { within = omega (arith, f.within, added_count); some = omega (arith, f.some, ap block_bytes (row_was q f there)) }
  ]

  full_before : (q : ℕ) → IsFull new table q → IsFull old table q
  full_before q f = elim (cases_eq q 0) [
    | inl here ↦ subst (IsFull old table) (sym here) (first_full old table base p.sound)
    | inr there ↦ was q f there
  ]

  place_same : (q : ℕ) → IsFull old table q → (dope_row new table q).place ≡ (dope_row old table q).place
  place_same q f = elim (cases_eq q 0) [
    | inl here ↦ ap (λ k. (dope_row new table k).place) here ∙ ap (λ d. d.place) a.first ∙ ap (λ k. (dope_row old table k).place) (sym here)
    | inr there ↦ ap (λ d. d.place) (row_was q f there)
  ]

  -- but for the table, the blocks stay
  added_others : SameOthers old new table table 0
  added_others = record {
    then = λ q other f. full_then q f;
    before = λ q other f. was q f other;
    place = λ q other f. place_same q f;
    bytes = λ q other f. ap block_bytes (row_was q f other);
  }

  pub added_searched : (searched sought : ℕ) → searched ≤ table → IsSearched old table base searched sought → IsSearched new table base searched sought
  added_searched searched sought low s =
      searched_others old new table table base searched sought 0 a.size added_others
      (λ f. (full_then 0 f, place_same 0 f, omega (arith, low, p.sound.place)))
      (λ f. omega (arith, low, first_place))
      s

  pub added_fronts : (fronts : List ℕ) → AreFronts old table fronts → AreFronts new table fronts
  added_fronts fronts fs = record {
    size = fs.size;
    told = λ q f. let g = full_before q f in ap (λ m. get_or fronts (m / 4) 0) (place_same q g) ∙ fs.told q g;
    real = λ w less there. let found = fs.real w less there in (full_then (get_or fronts w 0) found.0, place_same (get_or fronts w 0) found.0 ∙ found.1);
  }

  pub added_last : (end : ℕ) → IsEnd old table end → table + block_bytes (dope_row old table 0) ≡ end → IsEnd new table (table + round4 (10 * (row_count old table + 1)))
  added_last end e last = record {
    most = λ q f. elim (cases_eq q 0) [
      | inl here ↦ omega (arith, first_place, table_block, ap (λ k. (dope_row new table k).place + block_bytes (dope_row new table k)) here)
      | inr there ↦
          let g = was q f there in
          let same = row_was q g there in
          elim (p.sound.apart 0 q (first_full old table base p.sound) g (λ h. there (sym h))) [
            | inl l ↦ absurd (omega (arith, l, p.sound.place, last, e.most q g, g.some))
            | inr l ↦ omega (arith, l, p.sound.place, ap (λ d. d.place) same, ap block_bytes same)
          ]
    ];
    is = (0, full_then 0 (first_full old table base p.sound), omega (arith, first_place, table_block));
  }

  pub added_most : (end : ℕ) → IsEnd old table end → (table + block_bytes (dope_row old table 0) ≡ end → ⊥) → IsEnd new table (max end (table + round4 (10 * (row_count old table + 1))))
  added_most end e not_last = record {
    most = λ q f. elim (cases_eq q 0) [
      | inl here ↦ omega (arith, first_place, table_block, ap (λ k. (dope_row new table k).place + block_bytes (dope_row new table k)) here)
      | inr there ↦ let g = was q f there in let same = row_was q g there in omega (arith, e.most q g, ap (λ d. d.place) same, ap block_bytes same)
    ];
    is = elim (cases_lt (table + round4 (10 * (row_count old table + 1))) end) [
      | inl less ↦ elim (cases_eq e.is.0 0) [
        | inl here ↦ absurd (not_last (omega (arith, e.is.2, p.sound.place, ap (λ k. (dope_row old table k).place + block_bytes (dope_row old table k)) here)))
        | inr there ↦ let same = row_was e.is.0 e.is.1 there in (e.is.0, full_then e.is.0 e.is.1, omega (arith, less, e.is.2, ap (λ d. d.place) same, ap block_bytes same))
      ]
      | inr more ↦ (0, full_then 0 (first_full old table base p.sound), omega (arith, first_place, table_block, more))
    ];
  }

  step : (pool : List ℕ) (m : ℕ) → bytes_before pool table (suc m) ≡ bytes_before pool table m + block_bytes (dope_row pool table m)
  step pool m = omega (arith, before_next pool table m, ap (bytes_before pool table) (next m))
    where
      next : (m : ℕ) → suc m ≡ m + 1
      next m = omega arith

  sums : (m : ℕ) → suc m ≤ row_count old table → bytes_before new table (suc m) + block_bytes (dope_row old table 0) ≡ bytes_before old table (suc m) + block_bytes (dope_row new table 0)
  sums zero most = omega (arith, step new 0, step old 0)
  sums (suc m) most = omega (arith, sums m (omega (arith, most)), step new (suc m), step old (suc m), ap block_bytes (a.others (suc m) (omega arith) (omega (arith, most))))

  pub added_total : total (blocks_in new table) + round4 (10 * row_count old table) ≡ total (blocks_in old table) + round4 (10 * (row_count old table + 1))
  added_total = omega (
    arith,
    sums (row_count old table - 1) (omega (arith, p.sound.some)),
    ap (bytes_before new table) whole,
    ap (bytes_before old table) whole,
    before_next new table (row_count old table),
    no_block,
    ap (bytes_before new table) (sym added_count),
    before_all new table,
    before_all old table,
    table_block,
    table_was,
  )
    where
      whole : suc (row_count old table - 1) ≡ row_count old table
      whole = omega (arith, p.sound.some)
