-- A list that has another number of bytes, at a place that has room for them.
use Rattle.std.proofs.Common.{◌≡◌, ◌≢◌, ℕ, ◌+◌, ◌*◌, ◌/◌, ◌%◌, ◌<◌, ◌≤◌, inl, inr, List, length, take, drop, get_or, set, nat_eq, Some, refl, ap, sym, subst, ◌∙◌, arith, length-take}
use Rattle.std.specs.List.{list_any}
use Rattle.std.specs.Prelude.{max}
use Rattle.std.proofs.lemmas.Bool.{cases_eq, cases_lt}
use Rattle.std.proofs.lemmas.Grind.{same_number_lists}
use Rattle.std.proofs.lemmas.List.{get_or-take, get_or-drop, set-set}
use Rattle.nxt_types.specs.Pool.{round4}
use Rattle.nxt_types.proofs.Laws.Pool.{le-round4}
use Rattle.nxt_blocks.specs.Standing.{IsApart}
use Rattle.nxt_rows.specs.Rows.{dope_row, row_count}
use Rattle.nxt_compact.specs.Pools.{block_bytes, block_of, IsFull, IsSound}
use Rattle.nxt_heap.specs.Lists.{of_length}
use Rattle.nxt_heap.specs.Inside.Pool.{row_bytes, lists_in, lists_with_length, IsPool, IsRoom, IsEnd, AreFronts, IsSearched, Relists, no_row}
use Rattle.nxt_heap.proofs.Begins.{SameOthers, drop_front, no_front_before, fronts_kept, put_front}
use Rattle.nxt_heap.proofs.Laws.Lengths.{length-of_length, of_length-front, of_length-back}
use Rattle.nxt_heap.proofs.ListsKept.{IsFreeChain-kept, list_in-some, lists_in-set}
use Rattle.nxt_heap.proofs.OneRow.{count_kept, strides, chain_kept, others_kept, other_list}
use Rattle.nxt_heap.proofs.Searched.{searched_others}
use Rattle.nxt_heap.proofs.Windows.{length-window, block_is, row_bytes-none}

module _ (old new : List ℕ) (table base row place bytes : ℕ) (p : IsPool old table base) (above : 0 < row) (within : row < row_count old table) (alive : (dope_row old table row).stride ≢ 0)
    (some : 0 < bytes) (whole : bytes / (dope_row old table row).stride * (dope_row old table row).stride ≡ bytes) (room : IsRoom old table base row place (round4 bytes))
    (r : Relists old new table row place (bytes / (dope_row old table row).stride) (round4 bytes)) where
  own_bytes : row_bytes (dope_row new table row) ≡ bytes
  own_bytes = ap row_bytes r.own ∙ whole

  own_block : block_bytes (dope_row new table row) ≡ round4 bytes
  own_block = block_is (dope_row new table row) ∙ ap round4 own_bytes

  own_place : (dope_row new table row).place ≡ place
  own_place = ap (λ d. d.place) r.own

  same : SameOthers old new table table row
  same = others_kept old new table base row place (bytes / (dope_row old table row).stride) (round4 bytes) p above within alive r

  pub longer_full : IsFull new table row
  longer_full = record { within = omega (arith, within, count_kept old new table base row place (bytes / (dope_row old table row).stride) (round4 bytes) p above within alive r); some = omega (arith, own_block, some, le-round4 bytes) }

  pub longer_block : block_bytes (dope_row new table row) ≡ round4 bytes
  longer_block = own_block

  -- the row's block is apart from another
  apart_from : (q : ℕ) → IsFull new table q → q ≢ row → IsApart (block_of new table row) (block_of new table q)
  apart_from q f other =
      let g = same.before q other f in
      elim (room.others q g other) [
        | inl l ↦ inl (omega (arith, l, own_place, own_block, same.place q other g))
        | inr l ↦ inr (omega (arith, l, own_place, same.place q other g, same.bytes q other g))
      ]

  pub longer_sound : IsSound new table base
  longer_sound =
      let first : 0 ≢ row = λ e. omega (arith, e, above) in
      record {
        size = omega (arith, r.size, p.sound.size);
        some = omega (arith, p.sound.some, count_kept old new table base row place (bytes / (dope_row old table row).stride) (round4 bytes) p above within alive r);
        place = ap (λ d. d.place) (r.others 0 p.sound.some first) ∙ p.sound.place;
        stride = ap (λ d. d.stride) (r.others 0 p.sound.some first) ∙ p.sound.stride;
        apart = λ q s f g other. elim (cases_eq q row) [
          | inl here ↦ elim (apart_from s g (λ e. other (here ∙ sym e))) [
            | inl l ↦ inl (omega (arith, l, ap (λ k. (dope_row new table k).place + block_bytes (dope_row new table k)) here))
            | inr l ↦ inr (omega (arith, l, ap (λ k. (dope_row new table k).place) here))
          ]
          | inr there ↦ elim (cases_eq s row) [
            | inl here ↦ elim (apart_from q f there) [
              | inl l ↦ inr (omega (arith, l, ap (λ k. (dope_row new table k).place + block_bytes (dope_row new table k)) here))
              | inr l ↦ inl (omega (arith, l, ap (λ k. (dope_row new table k).place) here))
            ]
            | inr else ↦
                let a = same.before q there f in
                let b = same.before s else g in
                elim (p.sound.apart q s a b other) [
                  | inl l ↦ inl (omega (arith, l, same.place q there a, same.bytes q there a, same.place s else b))
                  | inr l ↦ inr (omega (arith, l, same.place s else b, same.bytes s else b, same.place q there a))
                ]
          ]
        ];
        above = λ q f. elim (cases_eq q row) [
          | inl here ↦ omega (arith, room.above, own_place, ap (λ k. (dope_row new table k).place) here)
          | inr there ↦ let a = same.before q there f in omega (arith, p.sound.above q a, same.place q there a)
        ];
        within = λ q f. elim (cases_eq q row) [
          | inl here ↦ omega (arith, room.within, own_place, own_block, r.size, ap (λ k. (dope_row new table k).place + block_bytes (dope_row new table k)) here)
          | inr there ↦ let a = same.before q there f in omega (arith, p.sound.within q a, same.place q there a, same.bytes q there a, r.size)
        ];
      }

  pub longer_pool : IsPool new table base
  longer_pool =
      let count = count_kept old new table base row place (bytes / (dope_row old table row).stride) (round4 bytes) p above within alive r in
      let stride = strides old new table base row place (bytes / (dope_row old table row).stride) (round4 bytes) p above within alive r in
      let chain = chain_kept old new table base row place (bytes / (dope_row old table row).stride) (round4 bytes) p above within alive r in
      record {
        size = r.size ∙ p.size;
        sound = longer_sound;
        words = λ q f. elim (cases_eq q row) [
          | inl here ↦ ap (λ k. (dope_row new table k).place % 4) here ∙ ap (λ n. n % 4) own_place ∙ room.word
          | inr there ↦ let a = same.before q there f in ap (λ n. n % 4) (same.place q there a) ∙ p.words q a
        ];
        empty = λ q some_row less none. elim (cases_eq q row) [
          | inl here ↦ absurd (omega (arith, some, own_bytes, row_bytes-none (dope_row new table row) (ap (λ k. (dope_row new table k).count) (sym here) ∙ none)))
          | inr there ↦
              let old_row : q < row_count old table = omega (arith, less, count) in
              ap (λ d. d.place) (r.others q old_row there) ∙ p.empty q some_row old_row (ap (λ d. d.count) (sym (r.others q old_row there)) ∙ none)
        ];
        bare = λ q some_row less none.
            let old_row : q < row_count old table = omega (arith, less, count) in
            elim (cases_eq q row) [
              | inl here ↦ absurd (alive (ap (λ k. (dope_row old table k).stride) (sym here) ∙ sym (stride q old_row) ∙ none))
              | inr there ↦ ap (λ d. d.count) (r.others q old_row there) ∙ p.bare q some_row old_row (ap (λ d. d.stride) (sym (r.others q old_row there)) ∙ none)
            ];
        backs = λ q less. elim (cases_eq q row) [
          | inl here ↦ ap (λ k. (dope_row new table k).back) here ∙ ap (λ d. d.back) r.own ∙ p.backs row within
          | inr there ↦
              let old_row : q < row_count old table = omega (arith, less, count) in
              ap (λ d. d.back) (r.others q old_row there) ∙ p.backs q old_row
        ];
        chain = IsFreeChain-kept old new table table p.chain count chain;
        free = λ q some_row less. ap (list_any (nat_eq q)) chain ∙ p.free q some_row (omega (arith, less, count)) ∙ ap (λ n. nat_eq n 0) (sym (stride q (omega (arith, less, count))));
      }

  -- ---- what it holds

  module _ (keep : (k : ℕ) → k < row_bytes (dope_row old table row) → k < bytes → get_or new (place + k) 0 ≡ get_or old ((dope_row old table row).place + k) 0)
      (zeros : (k : ℕ) → row_bytes (dope_row old table row) ≤ k → k < bytes → get_or new (place + k) 0 ≡ 0)
      (inside : 0 < row_bytes (dope_row old table row) → (dope_row old table row).place + row_bytes (dope_row old table row) ≤ length old) where
    window : (n at : ℕ) (xs : List ℕ) → (0 < n → at + n ≤ length xs) → length (take n (drop at xs)) ≡ n
    window n at xs fits = elim (cases_lt 0 n) [
      | inl more ↦ length-window xs at n (fits more)
      | inr none ↦ omega (arith, length-take n (drop at xs), none)
    ]

    own_list : take (row_bytes (dope_row new table row)) (drop (dope_row new table row).place new) ≡ of_length bytes (take (row_bytes (dope_row old table row)) (drop (dope_row old table row).place old))
    own_list =
        let x = dope_row old table row in
        let xs = take (row_bytes x) (drop x.place old) in
        let ys = take bytes (drop place new) in
        let long_xs : length xs ≡ row_bytes x = window (row_bytes x) x.place old inside in
        let long_ys : length ys ≡ bytes = length-window new place bytes (omega (arith, room.within, r.size, le-round4 bytes)) in
        rw (own_bytes, own_place) (same_number_lists ys (of_length bytes xs) (long_ys ∙ sym (length-of_length bytes xs)) (λ k below.
        let low : k < bytes = omega (arith, below, long_ys) in
        let read : get_or ys k 0 ≡ get_or new (place + k) 0 = get_or-take bytes (drop place new) k 0 low ∙ get_or-drop place new k 0 in
        elim (cases_lt k (row_bytes x)) [
          | inl old_byte ↦
              read ∙ keep k old_byte low
              ∙ sym (of_length-front bytes xs k low (omega (arith, long_xs, old_byte)) ∙ get_or-take (row_bytes x) (drop x.place old) k 0 old_byte ∙ get_or-drop x.place old k 0)
          | inr new_byte ↦ read ∙ zeros k new_byte low ∙ sym (of_length-back bytes xs k low (omega (arith, long_xs, new_byte)))
        ]))

    pub longer_lists : lists_in new table ≡ lists_with_length old table row bytes
    longer_lists =
        let stride = strides old new table base row place (bytes / (dope_row old table row).stride) (round4 bytes) p above within alive r row within in
        let own = list_in-some new table row above (λ e. alive (sym stride ∙ e)) in
        lists_in-set old new table row (Some (record { stride = (dope_row old table row).stride; bytes = of_length bytes (take (row_bytes (dope_row old table row)) (drop (dope_row old table row).place old)) }))
        (count_kept old new table base row place (bytes / (dope_row old table row).stride) (round4 bytes) p above within alive r) within
        (own ∙ rw (own_list, stride) refl)
        (λ q less other. other_list old new table base row place (bytes / (dope_row old table row).stride) (round4 bytes) p above within alive r q less other
        (λ k f low. elim (room.others q f other) [
          | inl l ↦ inr (omega (arith, l))
          | inr l ↦ inl (omega (arith, l, low))
        ]))

  -- ---- where blocks begin and end

  -- a full row stands at the place
  stood : IsFull old table row → (dope_row old table row).place ≡ place
  stood f = room.own f

  -- another block ends at the place or below it, where the row's was the last
  under_last : (end q : ℕ) → IsEnd old table end → place + block_bytes (dope_row old table row) ≡ end → IsFull old table q → q ≢ row → (dope_row old table q).place + block_bytes (dope_row old table q) ≤ place
  under_last end q e last f other = elim (cases_lt 0 (block_bytes (dope_row old table row))) [
    | inl has ↦
        let own : IsFull old table row = record { within = within; some = has } in
        elim (p.sound.apart row q own f (λ h. other (sym h))) [
          | inl l ↦ absurd (omega (arith, l, stood own, last, e.most q f, f.some))
          | inr l ↦ omega (arith, l, stood own)
        ]
    | inr none ↦ omega (arith, e.most q f, last, none)
  ]

  pub longer_searched : (searched sought : ℕ) → searched ≤ place → IsSearched old table base searched sought → IsSearched new table base searched sought
  longer_searched searched sought low s =
      searched_others old new table table base searched sought row r.size same
      (λ f. (longer_full, own_place ∙ sym (room.own f), omega (arith, low, room.own f)))
      (λ f. omega (arith, low, own_place))
      s

  pub longer_last : (end : ℕ) → IsEnd old table end → place + block_bytes (dope_row old table row) ≡ end → IsEnd new table (place + round4 bytes)
  longer_last end e last = record {
    most = λ q f. elim (cases_eq q row) [
      | inl here ↦ omega (arith, own_place, own_block, ap (λ k. (dope_row new table k).place + block_bytes (dope_row new table k)) here)
      | inr there ↦ let g = same.before q there f in omega (arith, under_last end q e last g there, same.place q there g, same.bytes q there g)
    ];
    is = (row, longer_full, omega (arith, own_place, own_block));
  }

  pub longer_most : (end : ℕ) → IsEnd old table end → (place + block_bytes (dope_row old table row) ≡ end → ⊥) → IsEnd new table (max end (place + round4 bytes))
  longer_most end e not_last = record {
    most = λ q f. elim (cases_eq q row) [
      | inl here ↦ omega (arith, own_place, own_block, ap (λ k. (dope_row new table k).place + block_bytes (dope_row new table k)) here)
      | inr there ↦ let g = same.before q there f in omega (arith, e.most q g, same.place q there g, same.bytes q there g)
    ];
    is = elim (cases_lt (place + round4 bytes) end) [
      | inl less ↦ elim (cases_eq e.is.0 row) [
        | inl here ↦ absurd (not_last (omega (arith, e.is.2, stood (subst (IsFull old table) here e.is.1), ap (λ k. (dope_row old table k).place + block_bytes (dope_row old table k)) here)))
        | inr there ↦ (e.is.0, same.then e.is.0 there e.is.1, omega (arith, less, e.is.2, same.place e.is.0 there e.is.1, same.bytes e.is.0 there e.is.1))
      ]
      | inr more ↦ (row, longer_full, omega (arith, own_place, own_block, more))
    ];
  }

  pub longer_fronts : (fronts : List ℕ) → AreFronts old table fronts → AreFronts new table (set fronts (place / 4) row)
  longer_fronts fronts fs =
      elim (cases_lt 0 (block_bytes (dope_row old table row))) [
        | inl has ↦
            let own : IsFull old table row = record { within = within; some = has } in
            let at = (dope_row old table row).place / 4 in
            let one = fronts_kept old new table table (set fronts at no_row) row (drop_front old table base fronts row p fs own) same in
            let two = put_front new table base (set fronts at no_row) row longer_pool one longer_full in
            subst (λ n. AreFronts new table (set fronts (n / 4) row)) (stood own)
            (subst (AreFronts new table) (set-set fronts at no_row row) (subst (λ n. AreFronts new table (set (set fronts at no_row) (n / 4) row)) (own_place ∙ sym (stood own)) two))
        | inr none ↦
            let one = fronts_kept old new table table fronts row (no_front_before old table fronts row fs (λ f. omega (arith, f.some, none))) same in
            subst (λ n. AreFronts new table (set fronts (n / 4) row)) own_place (put_front new table base fronts row longer_pool one longer_full)
      ]
