-- Blocks that move up together.
use Rattle.std.proofs.Common.{◌≡◌, ℕ, ◌+◌, ◌-◌, ◌*◌, ◌<◌, ◌≤◌, ◌⊎◌, inl, inr, cond, List, length, slice_index, ap, ◌∙◌, arith}
use Rattle.std.specs.List.{CopiedTo, SameBelow}
use Rattle.std.proofs.lemmas.Bool.{cases_lt, lt-ltb, le-ltb}
use Rattle.nxt_rows.specs.Rows.{dope_row, row_count}
use Rattle.nxt_rows.proofs.Laws.Writes.{dope_row-kept}
use Rattle.nxt_compact.specs.Pools.{block_bytes, IsFull, Moves, row_at}
use Rattle.nxt_compact.specs.Steps.{up_from, IsLiftable}
use Rattle.nxt_compact.proofs.Laws.Shifted.{dope_row-shifted, bytes_of_table}

pub up_low : (above more p : ℕ) → p < above → up_from above more p ≡ p
up_low above more p l = ap (λ t. cond t p (p + more)) (lt-ltb p above l)

pub up_high : (above more p : ℕ) → above ≤ p → up_from above more p ≡ p + more
up_high above more p l = ap (λ t. cond t p (p + more)) (le-ltb p above l)

-- the bytes from a place on were copied up
pub record Copied (old mid : List ℕ) (table table' above more : ℕ) : Type 0 where
  pub size : length mid ≡ length old
  pub low : (k : ℕ) → k < above + more → slice_index mid k ≡ slice_index old k
  pub high : (k : ℕ) → above ≤ k → k + more < length old → slice_index mid (k + more) ≡ slice_index old k
  pub told : table' ≡ up_from above more table

zero_full : (old : List ℕ) (table above more : ℕ) → IsLiftable old table above more → IsFull old table 0
zero_full old table above more l = record { within = l.some; some = omega (arith, bytes_of_table (dope_row old table 0) l.stride, l.some) }

pub rows_copied : (old mid : List ℕ) (table table' above more : ℕ) → IsLiftable old table above more → Copied old mid table table' above more → (r : ℕ) → r < row_count old table → dope_row mid table' r ≡ dope_row old table r
rows_copied old mid table table' above more l c r within =
    let rows = bytes_of_table (dope_row old table 0) l.stride in
    let zero = zero_full old table above more l in
    elim (cases_lt table above) [
      | inl under ↦
          let ends : table + block_bytes (dope_row old table 0) ≤ above = elim (l.split 0 zero) [ inl e ↦ omega (arith, e, l.place) | inr e ↦ absurd (omega (arith, e, l.place, under)) ] in
          ap (λ t. dope_row mid t r) (c.told ∙ up_low above more table under)
          ∙ dope_row-kept old mid table r (λ k low high. c.low k (omega (arith, high, within, rows, ends)))
      | inr over ↦
          ap (λ t. dope_row mid t r) (c.told ∙ up_high above more table over)
          ∙ dope_row-shifted old mid table (table + more) r (λ i h.
          ap (slice_index mid) (omega arith)
          ∙ c.high (table + 10 * r + i) (omega (arith, over)) (omega (arith, h, within, rows, l.room 0 zero, l.place)))
    ]

pub table_inside : (old mid : List ℕ) (table table' above more : ℕ) → IsLiftable old table above more → Copied old mid table table' above more → table' + block_bytes (dope_row old table 0) ≤ length old
table_inside old mid table table' above more l c = elim (cases_lt table above) [
  | inl under ↦ omega (arith, c.told, up_low above more table under, l.room 0 (zero_full old table above more l), l.place)
  | inr over ↦ omega (arith, c.told, up_high above more table over, l.room 0 (zero_full old table above more l), l.place)
]

-- and then the rows were written
pub lifted : (base : ℕ) (old mid new : List ℕ) (table table' above more : ℕ) → IsLiftable old table above more → Copied old mid table table' above more → length new ≡ length mid
    → ((r : ℕ) → r < row_count old table → dope_row new table' r ≡ row_at (up_from above more) (dope_row mid table' r))
    → ((k : ℕ) → (k < table') ⊎ (table' + 10 * row_count old table ≤ k) → slice_index new k ≡ slice_index mid k)
    → base ≤ above → base ≤ table → Moves base (up_from above more) old new table table'
lifted base old mid new table table' above more l c size rows outside less low =
    let to = up_from above more in
    let zero = zero_full old table above more l in
    let count = bytes_of_table (dope_row old table 0) l.stride in
    record {
      size = size ∙ c.size;
      told = c.told;
      rows = λ r within. rows r within ∙ ap (row_at to) (rows_copied old mid table table' above more l c r within);
      bytes = λ r k some within small.
          let full : IsFull old table r = record { within = within; some = omega (arith, small) } in
          let p = (dope_row old table r).place in
          elim (cases_lt p above) [
            | inl under ↦
                let ends : p + block_bytes (dope_row old table r) ≤ above = elim (l.split r full) [ inl e ↦ e | inr e ↦ absurd (omega (arith, e, under)) ] in
                ap (λ q. slice_index new (q + k)) (up_low above more p under)
                ∙ outside (p + k) (elim (cases_lt table above) [
                  | inl t ↦ elim (l.lists r full some) [
                    | inl e ↦ inl (omega (arith, e, small, c.told, up_low above more table t))
                    | inr e ↦ inr (omega (arith, e, count, c.told, up_low above more table t))
                  ]
                  | inr t ↦ inl (omega (arith, ends, small, c.told, up_high above more table t, t))
                ])
                ∙ c.low (p + k) (omega (arith, ends, small))
            | inr over ↦
                ap (λ q. slice_index new (q + k)) (up_high above more p over)
                ∙ outside (p + more + k) (elim (cases_lt table above) [
                  | inl t ↦
                      let ends : table + block_bytes (dope_row old table 0) ≤ above = elim (l.split 0 zero) [ inl e ↦ omega (arith, e, l.place) | inr e ↦ absurd (omega (arith, e, l.place, t)) ] in
                      inr (omega (arith, ends, count, over, c.told, up_low above more table t))
                  | inr t ↦ elim (l.lists r full some) [
                    | inl e ↦ inl (omega (arith, e, small, c.told, up_high above more table t))
                    | inr e ↦ inr (omega (arith, e, count, c.told, up_high above more table t))
                  ]
                ])
                ∙ ap (slice_index mid) (omega arith)
                ∙ c.high (p + k) (omega (arith, over)) (omega (arith, small, l.room r full))
          ];
      below = λ k h. outside k (inl (elim (cases_lt table above) [
        | inl t ↦ omega (arith, h, low, c.told, up_low above more table t)
        | inr t ↦ omega (arith, h, low, c.told, up_high above more table t)
      ])) ∙ c.low k (omega (arith, h, less));
    }

-- a row that is full after the copy was so before
pub full_before : (old mid : List ℕ) (table table' above more q : ℕ) → IsLiftable old table above more → Copied old mid table table' above more → IsFull mid table' q → IsFull old table q
full_before old mid table table' above more q l c full =
    let count : row_count mid table' ≡ row_count old table = ap (λ d. d.count) (rows_copied old mid table table' above more l c 0 l.some) in
    let within : q < row_count old table = omega (arith, full.within, count) in
    record { within = within; some = omega (arith, full.some, ap block_bytes (rows_copied old mid table table' above more l c q within)) }

pub place_room : (old mid : List ℕ) (table table' above more : ℕ) → IsLiftable old table above more → Copied old mid table table' above more → (q : ℕ) → IsFull mid table' q → (dope_row mid table' q).place + more < 65536
place_room old mid table table' above more l c q full =
    let before = full_before old mid table table' above more q l c full in
    omega (arith, ap (λ d. d.place) (rows_copied old mid table table' above more l c q before.within), l.room q before, before.some, l.size)

pub copied_from : (old mid : List ℕ) (table table' above more : ℕ) → length mid ≡ length old → CopiedTo old mid above (above + more) (length old - more - above) → SameBelow old mid (above + more) → table' ≡ up_from above more table → Copied old mid table table' above more
copied_from old mid table table' above more size moved below told = record {
  size = size;
  low = λ k l. below k 0 l;
  high = λ k low high. moved (k + more) 0 (omega (arith, low)) (omega (arith, high, low)) ∙ ap (slice_index old) (omega (arith, low));
  told = told;
}
