-- Lists and free rows that a change of the pool leaves, also where the table then stands somewhere else.
use Rattle.std.proofs.Common.{◌≡◌, ◌≢◌, ℕ, zero, suc, ◌+◌, ◌-◌, ◌<◌, ◌≤◌, List, ◌∷◌, length, take, drop, get_or, map, set, Option, Some, None, refl, ap, sym, ◌∙◌, arith, inl, inr, get_or-set_other}
use Rattle.std.proofs.lemmas.Bool.{cases_lt, cases_eq, ne_eqb, eq-eqb}
use Rattle.std.proofs.lemmas.List.{same_lists, length-set, get_or-set_same}
use Rattle.std.proofs.lemmas.List.FromFn.{length-map-range_with_len, get_or-map-range_with_len}
use Rattle.std.specs.List.{range_with_len}
use Rattle.nxt_rows.specs.Rows.{dope_row, row_count, link_of, free_rows, IsFreeChain}
use Rattle.nxt_rows.proofs.Laws.Chains.{chain-links, All-at}
use Rattle.nxt_compact.specs.Pools.{block_bytes}
use Rattle.nxt_heap.specs.Lists.{ByteList}
use Rattle.nxt_heap.specs.Inside.Pool.{row_bytes, list_in, lists_in, lists_with_length, with_length_in}
use Rattle.nxt_heap.proofs.Windows.{same_window, le-block}

-- ---- the chain

pub free_rows-kept : (xs ys : List ℕ) (table table' : ℕ) → IsFreeChain xs table → 0 < row_count xs table → row_count ys table' ≡ row_count xs table
    → ((q : ℕ) → q < row_count xs table → link_of ys table' q ≡ link_of xs table q) → free_rows ys table' ≡ free_rows xs table
unfolding free_rows
free_rows-kept xs ys table table' f some count links =
    rw (count, links 0 some)
    (chain-links (link_of xs table) (link_of ys table') (row_count xs table) (link_of xs table 0)
    (λ q found. links q (All-at (λ r. r < row_count xs table) (free_rows xs table) q f.within found)))

pub IsFreeChain-kept : (xs ys : List ℕ) (table table' : ℕ) → IsFreeChain xs table → row_count ys table' ≡ row_count xs table
    → free_rows ys table' ≡ free_rows xs table → IsFreeChain ys table'
IsFreeChain-kept xs ys table table' f count same = record { within = rw (same, count) f.within; once = rw same f.once }

-- ---- one list

pub list_in-first : (pool : List ℕ) (table : ℕ) → list_in pool table 0 ≡ None
unfolding list_in
list_in-first pool table = refl

pub list_in-none : (pool : List ℕ) (table r : ℕ) → (dope_row pool table r).stride ≡ 0 → list_in pool table r ≡ None
unfolding list_in
list_in-none pool table zero none = refl
list_in-none pool table (suc r) none = rw (eq-eqb (dope_row pool table (suc r)).stride 0 none) refl

pub list_in-some : (pool : List ℕ) (table r : ℕ) → 0 < r → (dope_row pool table r).stride ≢ 0
    → list_in pool table r ≡ Some (record {
      stride = (dope_row pool table r).stride;
      bytes = take (row_bytes (dope_row pool table r)) (drop (dope_row pool table r).place pool);
    })
unfolding list_in
list_in-some pool table zero above some = absurd (omega arith)
list_in-some pool table (suc r) above some = rw (ne_eqb (dope_row pool table (suc r)).stride 0 some) refl

list_in-same : (xs ys : List ℕ) (table table' r : ℕ) → (dope_row ys table' r).stride ≡ (dope_row xs table r).stride
    → take (row_bytes (dope_row ys table' r)) (drop (dope_row ys table' r).place ys) ≡ take (row_bytes (dope_row xs table r)) (drop (dope_row xs table r).place xs)
    → list_in ys table' r ≡ list_in xs table r
unfolding list_in
list_in-same xs ys table table' zero stride bytes = refl
list_in-same xs ys table table' (suc r) stride bytes = rw (bytes, stride) refl

-- a list's bytes have landed as they were
pub record Lands (xs ys : List ℕ) (table table' r : ℕ) : Type 0 where
  pub from : (dope_row xs table r).place + block_bytes (dope_row xs table r) ≤ length xs
  pub to : (dope_row ys table' r).place + block_bytes (dope_row xs table r) ≤ length ys
  pub bytes : (k : ℕ) → k < block_bytes (dope_row xs table r) → get_or ys ((dope_row ys table' r).place + k) 0 ≡ get_or xs ((dope_row xs table r).place + k) 0

pub list_in-moved : (xs ys : List ℕ) (table table' r : ℕ)
    → (dope_row ys table' r).stride ≡ (dope_row xs table r).stride → (dope_row ys table' r).count ≡ (dope_row xs table r).count
    → (0 < block_bytes (dope_row xs table r) → Lands xs ys table table' r) → list_in ys table' r ≡ list_in xs table r
list_in-moved xs ys table table' r stride count lands =
    let x = dope_row xs table r in
    let y = dope_row ys table' r in
    let small = le-block x in
    let long : row_bytes y ≡ row_bytes x = rw (stride, count) refl in
    list_in-same xs ys table table' r stride (elim (cases_lt 0 (block_bytes x)) [
      | inl some ↦
          let l = lands some in
          rw long (same_window xs ys x.place y.place (row_bytes x) (omega (arith, l.from, small)) (omega (arith, l.to, small)) (λ k less. l.bytes k (omega (arith, less, small))))
      | inr none ↦ let zero_x : row_bytes x ≡ 0 = omega (arith, none, small) in rw (long, zero_x) refl
    ])

-- ---- all lists

pub length-lists_in : (pool : List ℕ) (table : ℕ) → length (lists_in pool table) ≡ row_count pool table
unfolding lists_in
length-lists_in pool table = length-map-range_with_len (list_in pool table) 0 (row_count pool table)

pub lists_in-at : (pool : List ℕ) (table r : ℕ) (other : Option ByteList) → r < row_count pool table → get_or (lists_in pool table) r other ≡ list_in pool table r
unfolding lists_in
lists_in-at pool table r other within =
    get_or-map-range_with_len (list_in pool table) 0 (row_count pool table) r r other within (omega arith)

-- row 0 has no list
pub lists_in-first : (pool : List ℕ) (table : ℕ) → 0 < row_count pool table
    → lists_in pool table ≡ None ∷ map (list_in pool table) (range_with_len 1 (row_count pool table - 1))
unfolding lists_in list_in
lists_in-first pool table some =
    let split : row_count pool table ≡ suc (row_count pool table - 1) = omega arith in
    ap (λ k. map (list_in pool table) (range_with_len 0 k)) split

pub same_lists_in : (xs ys : List ℕ) (table table' : ℕ) → row_count ys table' ≡ row_count xs table
    → ((r : ℕ) → r < row_count xs table → list_in ys table' r ≡ list_in xs table r) → lists_in ys table' ≡ lists_in xs table
same_lists_in xs ys table table' count same =
    same_lists (lists_in ys table') (lists_in xs table) (length-lists_in ys table' ∙ count ∙ sym (length-lists_in xs table)) (λ k d below.
    let in_ys : k < row_count ys table' = rw length-lists_in at below in
    let in_xs : k < row_count xs table = omega (arith, count, in_ys) in
    lists_in-at ys table' k d in_ys ∙ same k in_xs ∙ sym (lists_in-at xs table k d in_xs))

-- one list is another
pub lists_in-set : (xs ys : List ℕ) (table row : ℕ) (l : Option ByteList) → row_count ys table ≡ row_count xs table → row < row_count xs table
    → list_in ys table row ≡ l → ((r : ℕ) → r < row_count xs table → r ≢ row → list_in ys table r ≡ list_in xs table r)
    → lists_in ys table ≡ set (lists_in xs table) row l
lists_in-set xs ys table row l count within here others =
    same_lists (lists_in ys table) (set (lists_in xs table) row l)
    (length-lists_in ys table ∙ count ∙ sym (length-set (lists_in xs table) row l ∙ length-lists_in xs table))
    (λ k d below.
    let in_ys : k < row_count ys table = rw length-lists_in at below in
    let in_xs : k < row_count xs table = omega (arith, count, in_ys) in
    lists_in-at ys table k d in_ys ∙ elim (cases_eq k row) [
      | inl same ↦ ap (list_in ys table) same ∙ here ∙ sym (ap (λ q. get_or (set (lists_in xs table) row l) q d) same
          ∙ get_or-set_same (lists_in xs table) row l d (rw (length-lists_in xs table) within))
      | inr other ↦ others k in_xs other ∙ sym (get_or-set_other (lists_in xs table) row k l d other ∙ lists_in-at xs table k d in_xs)
    ])

-- ---- a living row

pub list_there : (pool : List ℕ) (table row : ℕ) → 0 < row → row < row_count pool table → (dope_row pool table row).stride ≢ 0 → get_or (lists_in pool table) row None ≡ Some (record {
  stride = (dope_row pool table row).stride;
  bytes = take (row_bytes (dope_row pool table row)) (drop (dope_row pool table row).place pool);
})
list_there pool table row above within alive = lists_in-at pool table row None within ∙ list_in-some pool table row above alive

-- the list with another length, by the pool and by the lists
pub same_length : (pool : List ℕ) (table row bytes : ℕ) → 0 < row → row < row_count pool table → (dope_row pool table row).stride ≢ 0 → lists_with_length pool table row bytes ≡ with_length_in (lists_in pool table) row bytes
same_length pool table row bytes above within alive = rw (list_there pool table row above within alive) refl
