-- A pool with a table whose rows above 0 are freed one after another, from the last to the first.
use Rattle.std.proofs.Common.{◌≡◌, ◌≢◌, ℕ, zero, suc, ◌+◌, ◌-◌, ◌*◌, ◌%◌, ◌<◌, ◌≤◌, true, List, [], length, get_or, replicate, nat_eq, None, refl, ap, sym, ◌∙◌, arith, inl, inr, take, length-take}
use Rattle.std.proofs.lemmas.Bool.{cases_eq, eq-eqb}
use Rattle.std.proofs.lemmas.Grind.{same_number_lists}
use Rattle.std.proofs.lemmas.List.{same_lists, get_or-replicate, get_or-take, length-replicate}
use Rattle.std.specs.List.{list_any}
use Rattle.nxt_types.specs.Pool.{round4, pool_size}
use Rattle.nxt_rows.specs.Rows.{dope_row, row_count, free_rows, no_place, IsFreeChain}
use Rattle.nxt_rows.proofs.Laws.FreeRows.{free_rows-none, IsFreeChain-none}
use Rattle.nxt_blocks.specs.Blocks.{total}
use Rattle.nxt_compact.specs.Pools.{block_bytes, blocks_in, IsFull}
use Rattle.nxt_compact.proofs.Laws.Opening.{bytes_before, before_next, before_all}
use Rattle.nxt_heap.specs.Inside.Pool.{list_in, lists_in, IsPool, IsEnd}
use Rattle.nxt_heap.proofs.ListsKept.{list_in-first, list_in-none, length-lists_in, lists_in-at}
use Rattle.nxt_heap.proofs.Windows.{block_is, block-none, row_bytes-free}

-- the rows from `row` on are free
pub record Freed (pool : List ℕ) (table rows row : ℕ) : Type 0 where
  pub some : 1 ≤ row
  pub upto : row ≤ rows
  pub size : length pool ≡ pool_size
  pub place : (dope_row pool table 0).place ≡ table
  pub stride : (dope_row pool table 0).stride ≡ 10
  pub count : row_count pool table ≡ rows
  pub chain : IsFreeChain pool table
  pub members : (q : ℕ) → 0 < q → list_any (nat_eq q) (free_rows pool table) ≡ true → row ≤ q
  pub free : (q : ℕ) → row ≤ q → q < rows → list_any (nat_eq q) (free_rows pool table) ≡ true
  pub strides : (q : ℕ) → 0 < q → q < rows → (dope_row pool table q).stride ≡ 0
  pub counts : (q : ℕ) → 0 < q → q < rows → (dope_row pool table q).count ≡ 0
  pub places : (q : ℕ) → row ≤ q → q < rows → (dope_row pool table q).place ≡ no_place
  pub backs : (q : ℕ) → q < rows → (dope_row pool table q).back ≡ 0
  pub zeros : (k : ℕ) → k < table → get_or pool k 0 ≡ 0

-- ---- before a row is free

dope_row-zeros : (pool : List ℕ) (table r : ℕ) → ((k : ℕ) → get_or pool k 0 ≡ 0)
    → dope_row pool table r ≡ record { place = 0; stride = 0; count = 0; back = 0; link = 0 }
unfolding dope_row
dope_row-zeros pool table r zeros = simp zeros

pub Freed-start : (zero pool : List ℕ) (table rows link : ℕ) → 1 ≤ rows → length pool ≡ pool_size → ((k : ℕ) → get_or zero k 0 ≡ 0)
    → dope_row pool table 0 ≡ record { place = table; stride = 10; count = rows; back = 0; link = 0 }
    → ((r : ℕ) → r ≢ 0 → dope_row pool table r ≡ dope_row zero table r)
    → ((k : ℕ) → k < table → get_or pool k 0 ≡ get_or zero k 0)
    → Freed pool table rows rows
Freed-start blank pool table rows link some size zeros first others below =
    let none : free_rows pool table ≡ [] = free_rows-none pool table (ap (λ r. r.link) first) in
    let empty : (q : ℕ) → 0 < q → dope_row pool table q ≡ record { place = 0; stride = 0; count = 0; back = 0; link = 0 } =
    λ q above. others q (λ e. absurd (omega arith)) ∙ dope_row-zeros blank table q zeros in
    record {
      some = some;
      upto = omega arith;
      size = size;
      place = ap (λ r. r.place) first;
      stride = ap (λ r. r.stride) first;
      count = ap (λ r. r.count) first;
      chain = IsFreeChain-none pool table none;
      members = λ q above found. absurd (cc (ap (list_any (nat_eq q)) none, found));
      free = λ q low high. absurd (omega arith);
      strides = λ q above within. ap (λ r. r.stride) (empty q above);
      counts = λ q above within. ap (λ r. r.count) (empty q above);
      places = λ q low high. absurd (omega arith);
      backs = λ q within. elim (cases_eq q 0) [
        | inl e ↦ ap (λ k. (dope_row pool table k).back) e ∙ ap (λ r. r.back) first
        | inr other ↦ ap (λ r. r.back) (empty q (omega (arith, other)))
      ];
      zeros = λ k low. below k low ∙ zeros k;
    }

-- ---- all rows above 0 are free

module _ (pool : List ℕ) (table rows : ℕ) (f : Freed pool table rows 1) (fits : table + round4 (10 * rows) ≤ pool_size) where
  first_block : block_bytes (dope_row pool table 0) ≡ round4 (10 * rows)
  first_block = block_is (dope_row pool table 0) ∙ ap round4 (ap (λ s. row_count pool table * s) f.stride ∙ omega (arith, f.count))

  -- only the table has a block
  only_first : (r : ℕ) → IsFull pool table r → r ≡ 0
  only_first r full = elim (cases_eq r 0) [
    | inl e ↦ e
    | inr some ↦ absurd (omega (arith, full.some, block-none (dope_row pool table r) (row_bytes-free (dope_row pool table r) (f.strides r (omega (arith, some)) (omega (arith, full.within, f.count))))))
  ]

  first_is : IsFull pool table 0
  first_is = record { within = omega (arith, f.upto, f.count); some = omega (arith, first_block, f.upto) }

  pub Freed-pool : table % 4 ≡ 0 → IsPool pool table table
  Freed-pool word = record {
    size = f.size;
    sound = record {
      size = omega (arith, f.size);
      some = omega (arith, f.upto, f.count);
      place = f.place;
      stride = f.stride;
      apart = λ q r a b other. absurd (other (only_first q a ∙ sym (only_first r b)));
      above = λ r a. omega (arith, f.place, ap (λ q. (dope_row pool table q).place) (only_first r a));
      within = λ r a. omega (arith, f.place, first_block, fits, f.size, ap (λ q. (dope_row pool table q).place + block_bytes (dope_row pool table q)) (only_first r a));
    };
    words = λ r a. ap (λ q. (dope_row pool table q).place % 4) (only_first r a) ∙ ap (λ n. n % 4) f.place ∙ word;
    empty = λ r above within none. f.places r above (omega (arith, f.count, within));
    bare = λ r above within none. f.counts r above (omega (arith, f.count, within));
    backs = λ r within. f.backs r (omega (arith, f.count, within));
    chain = f.chain;
    free = λ r above within.
        let less : r < rows = omega (arith, f.count, within) in
        f.free r above less ∙ sym (eq-eqb (dope_row pool table r).stride 0 (f.strides r above less));
  }

  pub Freed-end : IsEnd pool table (table + round4 (10 * rows))
  Freed-end = record {
    most = λ r a. omega (arith, f.place, first_block, ap (λ q. (dope_row pool table q).place + block_bytes (dope_row pool table q)) (only_first r a));
    is = (0, first_is, omega (arith, f.place, first_block));
  }

  bytes_of : (n : ℕ) → suc n ≤ row_count pool table → bytes_before pool table (suc n) ≡ round4 (10 * rows)
  bytes_of zero most = omega (arith, before_next pool table 0, first_block)
  bytes_of (suc n) most = omega (
    arith,
    bytes_of n (omega (arith, most)),
    before_next pool table (suc n),
    ap (bytes_before pool table) (next n),
    block-none (dope_row pool table (suc n)) (row_bytes-free (dope_row pool table (suc n)) (f.strides (suc n) (omega arith) (omega (arith, most, f.count)))),
  )
    where
      next : (m : ℕ) → suc (suc m) ≡ suc m + 1
      next m = omega arith

  pub Freed-total : total (blocks_in pool table) ≡ round4 (10 * rows)
  Freed-total = sym (before_all pool table) ∙ ap (bytes_before pool table) whole ∙ bytes_of (rows - 1) (omega (arith, whole))
    where
      whole : row_count pool table ≡ suc (rows - 1)
      whole = omega (arith, f.count, f.upto)

pub Freed-lists : (pool : List ℕ) (table rows : ℕ) → Freed pool table rows 1 → lists_in pool table ≡ replicate rows None
Freed-lists pool table rows f =
    let long : length (lists_in pool table) ≡ rows = length-lists_in pool table ∙ f.count in
    same_lists (lists_in pool table) (replicate rows None) (long ∙ sym (length-replicate rows None)) (λ k d below.
    let within : k < rows = omega (arith, below, long) in
    lists_in-at pool table k d (omega (arith, within, f.count))
    ∙ elim (cases_eq k 0) [
      | inl first ↦ ap (list_in pool table) first ∙ list_in-first pool table
      | inr some ↦ list_in-none pool table k (f.strides k (omega arith) within)
    ]
    ∙ sym (get_or-replicate rows k None d within))

pub get_or-zeros : (n k : ℕ) → get_or {A = ℕ} (replicate n 0) k 0 ≡ 0
get_or-zeros zero k = refl
get_or-zeros (suc n) zero = refl
get_or-zeros (suc n) (suc k) = get_or-zeros n k

pub Freed-last : (pool : List ℕ) (table rows row : ℕ) → row ≤ 1 → Freed pool table rows row → Freed pool table rows 1
Freed-last pool table rows row last f = let one : row ≡ 1 = omega (arith, f.some) in rw one at f

pub take-zeros : (pool : List ℕ) (n : ℕ) → n ≤ length pool → ((k : ℕ) → k < n → get_or pool k 0 ≡ 0) → take n pool ≡ replicate n 0
take-zeros pool n within zeros =
    let long : length (take n pool) ≡ n = omega (arith, length-take n pool, within) in
    same_number_lists (take n pool) (replicate n 0) (long ∙ sym (length-replicate {A = ℕ} n 0)) (λ k below.
    let low : k < n = omega (arith, below, long) in
    get_or-take n pool k 0 low ∙ zeros k low ∙ sym (get_or-replicate {A = ℕ} n k 0 0 low))
