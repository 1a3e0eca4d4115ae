-- From block to block, in the order of their places.
use Rattle.std.proofs.Common.{◌≡◌, ℕ, suc, ◌+◌, ◌-◌, ◌<◌, ◌≤◌, inl, inr, true, false, List, sym, ap, ◌∙◌, arith}
use Rattle.std.proofs.lemmas.Bool.{cases_lt, cases_eq, lt-ltb, le-ltb}
use Rattle.nxt_model.specs.Reading.{Block}
use Rattle.nxt_blocks.specs.Blocks.{below, packed, unsettled, unsettled_below}
use Rattle.nxt_model.specs.Dump.{is_unsettled}
use Rattle.nxt_blocks.specs.Standing.{IsApart, Stand}
use Rattle.nxt_blocks.proofs.Laws.Sums.{In, each_at, pair_at, sum_le, sum_same}
use Rattle.nxt_blocks.proofs.Laws.Packing.{turned, IsClean, ends, packed-next, below_gap, under, under_yes, under_no, under_more}
use Rattle.nxt_blocks.proofs.Laws.Settling.{bit}
use Rattle.nxt_blocks.proofs.Laws.Lowest.{counts, counts_yes, counts_no, unsettled_next, unsettled_here}

-- the lowest block that begins at a place or above it
pub record IsLowest (xs : List Block) (upto : ℕ) (b : Block) : Type 0 where
  pub there : In b xs
  pub here : upto ≤ b.place
  pub first : (c : Block) → In c xs → upto ≤ c.place → b.place ≤ c.place

-- what begins below it begins below `upto`
lower : (xs : List Block) (upto : ℕ) (b c : Block) → IsLowest xs upto b → In c xs → c.place < b.place → c.place < upto
lower xs upto b c l i less = elim (cases_lt c.place upto) [
  | inl yes' ↦ yes'
  | inr above ↦ absurd (omega (arith, l.first c i above, less))
]

pub walk-packed : (xs : List Block) (base upto : ℕ) (b : Block) → IsLowest xs upto b → packed base xs b.place ≡ packed base xs upto
walk-packed xs base upto b l =
    ap (λ n. base + n) (sum_same (under b.place) (under upto) xs (λ c i. elim (cases_lt c.place b.place) [
      | inl less ↦ under_yes b.place c less ∙ sym (under_yes upto c (lower xs upto b c l i less))
      | inr more ↦ under_no b.place c more ∙ sym (under_no upto c (omega (arith, more, l.here)))
    ]))

-- two blocks that begin at one place are one
one_there : (xs : List Block) (base top : ℕ) (c b : Block) → Stand base top xs → In c xs → In b xs → c.place ≡ b.place → c.bytes ≡ b.bytes
one_there xs base top c b s i j same = elim (pair_at IsApart turned xs c b s.apart i j) [
  | inl e ↦ ap (λ x. x.bytes) e
  | inr apart ↦ elim apart [
    | inl l ↦ absurd (omega (arith, l, same, each_at (λ x. 0 < x.bytes) xs c s.some i))
    | inr l ↦ absurd (omega (arith, l, same, each_at (λ x. 0 < x.bytes) xs b s.some j))
  ]
]

end_clean : (xs : List Block) (base top : ℕ) (b : Block) → Stand base top xs → In b xs → IsClean xs (b.place + b.bytes)
end_clean xs base top b s j c i less = elim (cases_lt c.place b.place) [
  | inl low ↦ omega (arith, ends xs c b s.apart i j low)
  | inr high ↦ elim (cases_eq c.place b.place) [
    | inl same ↦ omega (arith, one_there xs base top c b s i j same, same)
    | inr other ↦ absurd (omega (arith, less, ends xs b c s.apart j i (omega (arith, high, other))))
  ]
]

pub walk-next : (xs : List Block) (base top upto : ℕ) (b : Block) → Stand base top xs → IsLowest xs upto b → packed base xs (suc b.place) ≡ packed base xs upto + b.bytes
walk-next xs base top upto b s l =
    let q = b.place + b.bytes in
    let some : 0 < b.bytes = each_at (λ c. 0 < c.bytes) xs b s.some l.there in
    omega (
      arith,
      walk-packed xs base upto b l,
      packed-next xs base (suc b.place) b l.there (omega arith),
      below_gap xs b.place q (omega arith) s.apart (end_clean xs base top b s l.there),
      sum_le (under (suc b.place)) (under q) xs (λ c i. under_more (suc b.place) q c (omega (arith, some))),
    )

same_count : (xs : List Block) (base upto : ℕ) (b : Block) → IsLowest xs upto b → unsettled_below base xs b.place ≡ unsettled_below base xs upto
same_count xs base upto b l = sum_same (counts base xs b.place) (counts base xs upto) xs (λ c i. elim (cases_lt c.place b.place) [
  | inl less ↦ counts_yes base b.place xs c less ∙ sym (counts_yes base upto xs c (lower xs upto b c l i less))
  | inr more ↦ counts_no base b.place xs c more ∙ sym (counts_no base upto xs c (omega (arith, more, l.here)))
])

pub walk-unsettled : (xs : List Block) (base top upto : ℕ) (b : Block) → Stand base top xs → IsLowest xs upto b → packed base xs upto < b.place → unsettled_below base xs (suc b.place) ≡ unsettled_below base xs upto + 1
walk-unsettled xs base top upto b s l less =
    let at = walk-packed xs base upto b l in
    let gap : is_unsettled base xs b ≡ true = lt-ltb (below xs b.place) (b.place - base) (omega (arith, at, less)) in
    omega (
      arith,
      same_count xs base upto b l,
      unsettled_here base (suc b.place) xs b l.there (omega arith) gap,
      unsettled_next base b.place xs s.some s.apart,
    )

pub walk-settled : (xs : List Block) (base upto : ℕ) (b : Block) → IsLowest xs upto b → b.place ≤ packed base xs upto → unsettled_below base xs (suc b.place) ≡ unsettled_below base xs upto
walk-settled xs base upto b l most =
    let at = walk-packed xs base upto b l in
    sum_same (counts base xs (suc b.place)) (counts base xs b.place) xs (λ c i. elim (cases_lt c.place b.place) [
      | inl less ↦ counts_yes base (suc b.place) xs c (omega (arith, less)) ∙ sym (counts_yes base b.place xs c less)
      | inr more ↦ elim (cases_eq c.place b.place) [
        | inl same ↦
            let flat : is_unsettled base xs c ≡ false = le-ltb (below xs c.place) (c.place - base) (omega (arith, ap (below xs) same, at, most, same)) in
            counts_yes base (suc b.place) xs c (omega (arith, same)) ∙ ap bit flat ∙ sym (counts_no base b.place xs c more)
        | inr other ↦ counts_no base (suc b.place) xs c (omega (arith, more, other)) ∙ sym (counts_no base b.place xs c more)
      ]
    ])
    ∙ same_count xs base upto b l

-- where no block is left above, all unsettled ones were passed
pub walk-all : (xs : List Block) (base upto : ℕ) → ((c : Block) → In c xs → c.place < upto) → unsettled_below base xs upto ≡ unsettled base xs
walk-all xs base upto all = sum_same (counts base xs upto) (λ b. bit (is_unsettled base xs b)) xs (λ c i. counts_yes base upto xs c (all c i))
