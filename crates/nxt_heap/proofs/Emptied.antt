-- A list that has no bytes any more.
use Rattle.std.proofs.Common.{◌≡◌, ◌≢◌, ℕ, ◌+◌, ◌/◌, ◌%◌, ◌<◌, ◌≤◌, inl, inr, List, take, drop, set, nat_eq, Some, refl, ap, sym, subst, ◌∙◌, arith}
use Rattle.std.specs.List.{list_any}
use Rattle.std.proofs.lemmas.Bool.{cases_eq, cases_lt}
use Rattle.std.proofs.lemmas.List.{nil_from_length}
use Rattle.nxt_rows.specs.Rows.{dope_row, row_count, no_place}
use Rattle.nxt_compact.specs.Pools.{block_bytes, IsFull, IsSound}
use Rattle.nxt_heap.specs.Lists.{of_length}
use Rattle.nxt_heap.specs.Inside.Pool.{row_bytes, lists_in, lists_with_length, IsPool, IsEnd, IsEndBelow, AreFronts, Relists, no_row}
use Rattle.nxt_heap.proofs.Begins.{SameOthers, drop_front, no_front_before, fronts_kept, no_front_then}
use Rattle.nxt_heap.proofs.Laws.Lengths.{length-of_length}
use Rattle.nxt_heap.proofs.ListsKept.{IsFreeChain-kept, list_in-some, lists_in-set}
use Rattle.nxt_heap.proofs.OneRow.{count_kept, strides, chain_kept, others_kept, other_list}
use Rattle.nxt_heap.proofs.Windows.{row_bytes-none, block-none}

module _ (old new : List ℕ) (table base row : ℕ) (p : IsPool old table base) (above : 0 < row) (within : row < row_count old table) (alive : (dope_row old table row).stride ≢ 0) (r : Relists old new table row no_place 0 0) where
  same : SameOthers old new table table row
  same = others_kept old new table base row no_place 0 0 p above within alive r

  count : row_count new table ≡ row_count old table
  count = count_kept old new table base row no_place 0 0 p above within alive r

  pub own_none : block_bytes (dope_row new table row) ≡ 0
  own_none = block-none (dope_row new table row) (row_bytes-none (dope_row new table row) (ap (λ d. d.count) r.own))

  not_own : (q : ℕ) → IsFull new table q → q ≢ row
  not_own q f e = omega (arith, f.some, own_none, ap (λ k. block_bytes (dope_row new table k)) e)

  was : (q : ℕ) → IsFull new table q → IsFull old table q
  was q f = same.before q (not_own q f) f

  pub emptied_sound : IsSound new table base
  emptied_sound =
      let first : 0 ≢ row = λ e. omega (arith, e, above) in
      record {
        size = omega (arith, r.size, p.sound.size);
        some = omega (arith, p.sound.some, count);
        place = ap (λ d. d.place) (r.others 0 p.sound.some first) ∙ p.sound.place;
        stride = ap (λ d. d.stride) (r.others 0 p.sound.some first) ∙ p.sound.stride;
        apart = λ q s f g other.
            let a = was q f in
            let b = was s g in
            elim (p.sound.apart q s a b other) [
              | inl l ↦ inl (omega (arith, l, same.place q (not_own q f) a, same.bytes q (not_own q f) a, same.place s (not_own s g) b))
              | inr l ↦ inr (omega (arith, l, same.place s (not_own s g) b, same.bytes s (not_own s g) b, same.place q (not_own q f) a))
            ];
        above = λ q f. omega (arith, p.sound.above q (was q f), same.place q (not_own q f) (was q f));
        within = λ q f. omega (arith, p.sound.within q (was q f), same.place q (not_own q f) (was q f), same.bytes q (not_own q f) (was q f), r.size);
      }

  pub emptied_pool : IsPool new table base
  emptied_pool =
      let chain = chain_kept old new table base row no_place 0 0 p above within alive r in
      record {
        size = r.size ∙ p.size;
        sound = emptied_sound;
        words = λ q f. ap (λ n. n % 4) (same.place q (not_own q f) (was q f)) ∙ p.words q (was q f);
        empty = λ q some less none. elim (cases_eq q row) [
          | inl here ↦ ap (λ k. (dope_row new table k).place) here ∙ ap (λ d. d.place) r.own
          | inr there ↦
              let old_row : q < row_count old table = omega (arith, less, count) in
              ap (λ d. d.place) (r.others q old_row there) ∙ p.empty q some old_row (ap (λ d. d.count) (sym (r.others q old_row there)) ∙ none)
        ];
        bare = λ q some less none. elim (cases_eq q row) [
          | inl here ↦ ap (λ k. (dope_row new table k).count) here ∙ ap (λ d. d.count) r.own
          | inr there ↦
              let old_row : q < row_count old table = omega (arith, less, count) in
              ap (λ d. d.count) (r.others q old_row there) ∙ p.bare q some old_row (ap (λ d. d.stride) (sym (r.others q old_row there)) ∙ none)
        ];
        backs = λ q less. elim (cases_eq q row) [
          | inl here ↦ ap (λ k. (dope_row new table k).back) here ∙ ap (λ d. d.back) r.own ∙ p.backs row within
          | inr there ↦
              let old_row : q < row_count old table = omega (arith, less, count) in
              ap (λ d. d.back) (r.others q old_row there) ∙ p.backs q old_row
        ];
        chain = IsFreeChain-kept old new table table p.chain count chain;
        free = λ q some less.
            let old_row : q < row_count old table = omega (arith, less, count) in
            ap (list_any (nat_eq q)) chain ∙ p.free q some old_row ∙ ap (λ n. nat_eq n 0) (sym (strides old new table base row no_place 0 0 p above within alive r q old_row));
      }

  pub emptied_lists : lists_in new table ≡ lists_with_length old table row 0
  emptied_lists =
      let x = dope_row old table row in
      let y = dope_row new table row in
      let stride = strides old new table base row no_place 0 0 p above within alive r row within in
      let none : row_bytes y ≡ 0 = row_bytes-none y (ap (λ d. d.count) r.own) in
      let bytes : take (row_bytes y) (drop y.place new) ≡ of_length 0 (take (row_bytes x) (drop x.place old)) = ap (λ n. take n (drop y.place new)) none ∙ sym (nil_from_length (of_length 0 (take (row_bytes x) (drop x.place old))) (length-of_length 0 (take (row_bytes x) (drop x.place old)))) in
      lists_in-set old new table row (Some (record { stride = x.stride; bytes = of_length 0 (take (row_bytes x) (drop x.place old)) })) count within
      (list_in-some new table row above (λ e. alive (sym stride ∙ e)) ∙ rw (bytes, stride) refl)
      (λ q less other. other_list old new table base row no_place 0 0 p above within alive r q less other (λ k f low. elim (cases_lt ((dope_row old table q).place + k) no_place) [
        | inl under ↦ inl under
        | inr over ↦ inr (omega (arith, over))
      ]))

  -- ---- where blocks begin and end

  pub emptied_fronts : (fronts : List ℕ) → AreFronts old table fronts → IsFull old table row → AreFronts new table (set fronts ((dope_row old table row).place / 4) no_row)
  emptied_fronts fronts fs own =
      let one = set fronts ((dope_row old table row).place / 4) no_row in
      no_front_then new table one row (fronts_kept old new table table one row (drop_front old table base fronts row p fs own) same) (λ f. not_own row f refl)

  pub emptied_none : (fronts : List ℕ) → AreFronts old table fronts → (IsFull old table row → ⊥) → AreFronts new table fronts
  emptied_none fronts fs none = no_front_then new table fronts row (fronts_kept old new table table fronts row (no_front_before old table fronts row fs none) same) (λ f. not_own row f refl)

  -- where its block was the last, the others end below it
  pub below_last : (end q : ℕ) → IsEnd old table end → IsFull old table row → (dope_row old table row).place + block_bytes (dope_row old table row) ≡ end → IsFull old table q → q ≢ row → (dope_row old table q).place + block_bytes (dope_row old table q) ≤ (dope_row old table row).place
  below_last end q e own last f other = elim (p.sound.apart row q own f (λ h. other (sym h))) [
    | inl l ↦ absurd (omega (arith, l, last, e.most q f, f.some))
    | inr l ↦ l
  ]

  pub emptied_most : (end : ℕ) → IsEnd old table end → IsFull old table row → (dope_row old table row).place + block_bytes (dope_row old table row) ≡ end → (q : ℕ) → IsFull new table q → (dope_row new table q).place + block_bytes (dope_row new table q) ≤ (dope_row old table row).place
  emptied_most end e own last q f = let g = was q f in omega (arith, below_last end q e own last g (not_own q f), same.place q (not_own q f) g, same.bytes q (not_own q f) g)

  pub emptied_last : (end last : ℕ) → IsEnd old table end → IsFull old table row → (dope_row old table row).place + block_bytes (dope_row old table row) ≡ end → IsEndBelow new table (dope_row old table row).place last → IsEnd new table last
  emptied_last end last e own is b = record {
    most = λ q f. let g = was q f in b.most q f (omega (arith, below_last end q e own is g (not_own q f), g.some, same.place q (not_own q f) g));
    is = (b.is.0, b.is.1, b.is.3);
  }

  pub emptied_end : (end : ℕ) → IsEnd old table end → (IsFull old table row → (dope_row old table row).place + block_bytes (dope_row old table row) ≡ end → ⊥) → IsEnd new table end
  emptied_end end e not_last = record {
    most = λ q f. let g = was q f in omega (arith, e.most q g, same.place q (not_own q f) g, same.bytes q (not_own q f) g);
    is = elim (cases_eq e.is.0 row) [
      | inl here ↦ absurd (not_last (subst (IsFull old table) here e.is.1) (omega (arith, e.is.2, ap (λ k. (dope_row old table k).place + block_bytes (dope_row old table k)) here)))
      | inr there ↦ (e.is.0, same.then e.is.0 there e.is.1, omega (arith, e.is.2, same.place e.is.0 there e.is.1, same.bytes e.is.0 there e.is.1))
    ];
  }
