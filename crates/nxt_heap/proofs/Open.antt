-- Where a pool is open, by its blocks.
use Rattle.std.proofs.Common.{◌≡◌, ℕ, ◌+◌, ◌-◌, ◌/◌, ◌%◌, ◌<◌, ◌≤◌, ◌⊎◌, inl, inr, Bool, true, false, ◌&&◌, ◌||◌, List, length, get_or, nat_le, refl, ap, sym, ◌∙◌, arith, le-leb, leb-true}
use Rattle.std.proofs.lemmas.Bool.{cases_eq, cases_lt, lt-leb, false≢true}
use Rattle.std.specs.List.{list_all}
use Rattle.nxt_facts.proofs.Each.{each_passes, passes_each}
use Rattle.nxt_types.specs.Pool.{pool_size}
use Rattle.nxt_blocks.specs.Blocks.{is_open, IsFirstFit}
use Rattle.nxt_blocks.proofs.Laws.Sums.{each_at, each_from}
use Rattle.nxt_rows.specs.Rows.{dope_row, row_count, no_place}
use Rattle.nxt_compact.specs.Pools.{block_bytes, block_of, blocks_in, IsFull}
use Rattle.nxt_compact.proofs.Laws.Going.{first_full}
use Rattle.nxt_compact.proofs.Laws.InPool.{full_in, in_full}
use Rattle.nxt_heap.specs.Lists.{Pool}
use Rattle.nxt_heap.specs.Moves.{holds_behind}
use Rattle.nxt_heap.specs.Inside.Pool.{IsPool, IsHole, IsFit, IsRoom, AreFronts, no_row}
use Rattle.nxt_heap.proofs.Begins.{words_of}
use Rattle.nxt_heap.proofs.Dumped.{some_bytes}

-- ---- what is open

both : (x y : Bool) → (x && y) ≡ true → (x ≡ true) × (y ≡ true)
both true true e = (refl, refl)
both true false e = absurd (false≢true e)
both false y e = absurd (false≢true e)

together : (x y : Bool) → x ≡ true → y ≡ true → (x && y) ≡ true
together x y e f = ap (λ t. t && y) e ∙ f

either : (a b c d : ℕ) → (nat_le a b || nat_le c d) ≡ true → (a ≤ b) ⊎ (c ≤ d)
either a b c d e = elim (cases_lt b a) [
  | inl l ↦ inr (leb-true c d (ap (λ t. t || nat_le c d) (sym (lt-leb a b l)) ∙ e))
  | inr l ↦ inl l
]

one_of : (a b c d : ℕ) → (a ≤ b) ⊎ (c ≤ d) → (nat_le a b || nat_le c d) ≡ true
one_of a b c d (inl l) = ap (λ t. t || nat_le c d) (le-leb a b l)
one_of a b c d (inr l) = elim (cases_lt b a) [
  | inl less ↦ ap (λ t. t || nat_le c d) (lt-leb a b less) ∙ le-leb c d l
  | inr most ↦ ap (λ t. t || nat_le c d) (le-leb a b most)
]

pub no_true : (t : Bool) → (t ≡ true → ⊥) → t ≡ false
no_true true h = absurd (h refl)
no_true false h = refl

pub open_is : (pool : List ℕ) (table base at n : ℕ) → length pool ≡ pool_size → is_open base pool_size (blocks_in pool table) at n ≡ true → (base ≤ at) × IsHole pool table at n
open_is pool table base at n size e =
    let first = both (nat_le base at && nat_le (at + n) pool_size) (list_all (λ b. nat_le (b.place + b.bytes) at || nat_le (at + n) b.place) (blocks_in pool table)) e in
    let low = both (nat_le base at) (nat_le (at + n) pool_size) first.0 in
    let each = each_passes (λ b. nat_le (b.place + b.bytes) at || nat_le (at + n) b.place) (blocks_in pool table) first.1 in (
      leb-true base at low.0,
      record {
        within = omega (arith, leb-true (at + n) pool_size low.1, size);
        others = λ q f. elim (either ((dope_row pool table q).place + block_bytes (dope_row pool table q)) at (at + n) (dope_row pool table q).place
            (each_at (λ b. (nat_le (b.place + b.bytes) at || nat_le (at + n) b.place) ≡ true) (blocks_in pool table) (block_of pool table q) each (full_in pool table q f))) [
              | inl l ↦ inr l
              | inr l ↦ inl l
            ];
      },
    )

pub is_open_from : (pool : List ℕ) (table base at n : ℕ) → length pool ≡ pool_size → base ≤ at → IsHole pool table at n → is_open base pool_size (blocks_in pool table) at n ≡ true
is_open_from pool table base at n size low h =
    together (nat_le base at && nat_le (at + n) pool_size) (list_all (λ b. nat_le (b.place + b.bytes) at || nat_le (at + n) b.place) (blocks_in pool table))
    (together (nat_le base at) (nat_le (at + n) pool_size) (le-leb base at low) (le-leb (at + n) pool_size (omega (arith, h.within, size))))
    (passes_each (λ b. nat_le (b.place + b.bytes) at || nat_le (at + n) b.place) (blocks_in pool table)
    (each_from (λ b. (nat_le (b.place + b.bytes) at || nat_le (at + n) b.place) ≡ true) (blocks_in pool table) (λ b i.
    let found = in_full pool table b i in
    one_of (b.place + b.bytes) at (at + n) b.place (elim (h.others found.0 found.1) [
      | inl l ↦ inr (omega (arith, l, ap (λ c. c.place) found.2))
      | inr l ↦ inl (omega (arith, l, ap (λ c. c.place + c.bytes) found.2))
    ]))))

-- ---- the lowest hole

pub lowest_fit : (pool : List ℕ) (table base bytes at place : ℕ) → length pool ≡ pool_size → IsFit pool table base bytes at → IsFirstFit base pool_size (blocks_in pool table) bytes place → at ≡ place
lowest_fit pool table base bytes at place size f l =
    let there = open_is pool table base place bytes size l.here in
    let high = f.first place there.0 there.1 in
    let low = l.first at (is_open_from pool table base at bytes size f.low f.hole) in
    omega (arith, high, low)

-- ---- room behind a block

module _ (pool : List ℕ) (table base row bytes : ℕ) (p : IsPool pool table base) where
  abbrev here : Pool
  here = record { bytes = pool; table = table }

  pub behind_true : IsFull pool table row → IsRoom pool table base row (dope_row pool table row).place bytes → holds_behind base here row bytes ≡ true
  behind_true full room =
      let place = (dope_row pool table row).place in
      let had = block_bytes (dope_row pool table row) in
      is_open_from pool table base (place + had) (bytes - had) p.size (omega (arith, room.above)) (record {
        within = omega (arith, room.within, p.sound.within row full);
        others = λ q f. elim (cases_eq q row) [
          | inl own ↦ inr (omega (arith, ap (λ r. (dope_row pool table r).place + block_bytes (dope_row pool table r)) own))
          | inr other ↦ elim (room.others q f other) [
            | inr l ↦ inr (omega (arith, l))
            | inl l ↦ elim (p.sound.apart row q full f (λ e. other (sym e))) [
              | inl m ↦ inl (omega (arith, l, m))
              | inr m ↦ inr (omega (arith, m))
            ]
          ]
        ];
      })

  -- no block begins there
  pub behind_clear : (fronts : List ℕ) → AreFronts pool table fronts → IsFull pool table row → bytes % 4 ≡ 0 → holds_behind base here row bytes ≡ true
      → ((dope_row pool table row).place + bytes ≤ pool_size) × ((w : ℕ) → ((dope_row pool table row).place + block_bytes (dope_row pool table row)) / 4 ≤ w → w < ((dope_row pool table row).place + bytes) / 4 → get_or fronts w 0 ≡ no_row)
  behind_clear fronts fs full word e =
      let place = (dope_row pool table row).place in
      let had = block_bytes (dope_row pool table row) in
      let h = open_is pool table base (place + had) (bytes - had) p.size e in (
        omega (arith, h.1.within, p.size),
        λ w low high. elim (cases_eq (get_or fronts w 0) no_row) [
          | inl none ↦ none
          | inr some ↦
              let found = fs.real w (omega (arith, high, h.1.within, p.size)) some in
              let own = p.words row full in
              let whole = words_of (dope_row pool table row) in
              absurd (elim (h.1.others (get_or fronts w 0) found.0) [
                | inl l ↦ omega (arith, l, found.1, high)
                | inr l ↦ omega (arith, l, found.1, low, found.0.some, own, whole)
              ])
        ],
      )

  -- a list without bytes stands nowhere
  pub empty_place : row < row_count pool table → block_bytes (dope_row pool table row) ≡ 0 → (dope_row pool table row).place ≡ no_place
  empty_place within none =
      let above : 0 < row = elim (cases_eq row 0) [
        | inl e ↦ absurd (omega (arith, none, (first_full pool table base p.sound).some, ap (λ r. block_bytes (dope_row pool table r)) e))
        | inr other ↦ omega (arith, other)
      ] in
      elim (cases_eq (dope_row pool table row).count 0) [
        | inl zero ↦ p.empty row above within zero
        | inr some ↦ absurd (omega (arith, none, some_bytes (dope_row pool table row) (omega (arith, some)) (λ stride. some (p.bare row above within stride))))
      ]

  pub empty_behind : row < row_count pool table → block_bytes (dope_row pool table row) ≡ 0 → holds_behind base here row bytes ≡ false
  empty_behind within none = no_true (holds_behind base here row bytes) (λ e.
      let place = (dope_row pool table row).place in
      let had = block_bytes (dope_row pool table row) in
      let h = open_is pool table base (place + had) (bytes - had) p.size e in
      absurd (omega (arith, h.1.within, p.size, empty_place within none)))
