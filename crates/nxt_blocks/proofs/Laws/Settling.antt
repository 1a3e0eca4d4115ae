-- Settling blocks keeps their order and lowers the number of unsettled ones exactly.
use Rattle.std.proofs.Common.{◌≡◌, ℕ, ◌+◌, ◌-◌, ◌<◌, ◌≤◌, inl, inr, Bool, false, cond, List, [], ◌∷◌, map, refl, sym, ap, ◌∙◌, arith}
use Rattle.std.specs.Prelude.{◌&&◌, sum_by, nat_lt, ◌==◌}
use Rattle.std.proofs.lemmas.Bool.{cases_lt, cases_eq, lt-ltb, le-ltb, eq-eqb, ne_eqb}
use Rattle.std.proofs.lemmas.List.Sums.{sum_by-cons}
use Rattle.nxt_model.specs.Reading.{Block}
use Rattle.nxt_blocks.specs.Blocks.{total, below, packed, unsettled, unsettled_below, at_place}
use Rattle.nxt_model.specs.Dump.{is_unsettled}
use Rattle.nxt_facts.proofs.Each.{Each, each_mapped}
use Rattle.nxt_facts.specs.Pairs.{EachPair}
use Rattle.nxt_blocks.specs.Standing.{IsApart, Stand, settled_place, settle_below}
use Rattle.nxt_blocks.proofs.Laws.Sums.{In, each_at, each_from, pairs_map, sum_map, sum_le, sum_same, sum_two}
use Rattle.nxt_blocks.proofs.Laws.Packing.{ends, clean_at, packed-le, packed-next, under, under_yes, under_no}

-- ---- places that keep the order

-- a move by which each block stays apart from those above it
abbrev pub KeepsOrder : List Block → (ℕ → ℕ) → Type 0
KeepsOrder xs to = (a b : Block) → In a xs → In b xs → a.place < b.place → to a.place + a.bytes ≤ to b.place

abbrev pub moved : (ℕ → ℕ) → List Block → List Block
moved to xs = map (λ b. at_place (to b.place) b) xs

pub moved-total : (to : ℕ → ℕ) (xs : List Block) → total (moved to xs) ≡ total xs
moved-total to xs = sum_map (λ b. b.bytes) (λ b. at_place (to b.place) b) xs

-- apart from another one, by the order of the places
apart_moved : (xs : List Block) (to : ℕ → ℕ) → KeepsOrder xs to → (a b : Block) → In a xs → In b xs → 0 < a.bytes → 0 < b.bytes → IsApart a b → IsApart (at_place (to a.place) a) (at_place (to b.place) b)
apart_moved xs to keeps a b i j some more (inl l) = inl (keeps a b i j (omega (arith, some, l)))
apart_moved xs to keeps a b i j some more (inr l) = inr (keeps b a j i (omega (arith, more, l)))

pub moved-apart : (xs : List Block) (to : ℕ → ℕ) → KeepsOrder xs to → Each (λ b. 0 < b.bytes) xs → EachPair IsApart xs → EachPair IsApart (moved to xs)
moved-apart xs to keeps some e =
    pairs_map IsApart IsApart (λ b. at_place (to b.place) b) xs
    (λ a b i j apart. apart_moved xs to keeps a b i j (each_at (λ c. 0 < c.bytes) xs a some i) (each_at (λ c. 0 < c.bytes) xs b some j) apart) e

-- the bytes below a block are the same after such a move
pub moved-below : (xs : List Block) (to : ℕ → ℕ) → KeepsOrder xs to → Each (λ b. 0 < b.bytes) xs → (b : Block) → In b xs → below (moved to xs) (to b.place) ≡ below xs b.place
moved-below xs to keeps some b j =
    sum_map (under (to b.place)) (λ a. at_place (to a.place) a) xs
    ∙ sum_same (λ a. under (to b.place) (at_place (to a.place) a)) (under b.place) xs (λ a i. elim (cases_lt a.place b.place) [
      | inl less ↦
          let low : to a.place < to b.place = omega (arith, keeps a b i j less, each_at (λ c. 0 < c.bytes) xs a some i) in
          under_yes (to b.place) (at_place (to a.place) a) low ∙ sym (under_yes b.place a less)
      | inr more ↦ elim (cases_eq a.place b.place) [
        | inl same ↦ under_no (to b.place) (at_place (to a.place) a) (omega (arith, ap to same)) ∙ sym (under_no b.place a more)
        | inr other ↦
            under_no (to b.place) (at_place (to a.place) a) (omega (arith, keeps b a j i (omega (arith, more, other)), each_at (λ c. 0 < c.bytes) xs b some j)) ∙ sym (under_no b.place a more)
      ]
    ])

-- ---- settling below a place

pub settled_yes : (upto base p : ℕ) (xs : List Block) → p < upto → settled_place upto base xs p ≡ packed base xs p
settled_yes upto base p xs l = rw (lt-ltb p upto l) refl

pub settled_no : (upto base p : ℕ) (xs : List Block) → upto ≤ p → settled_place upto base xs p ≡ p
settled_no upto base p xs l = rw (le-ltb p upto l) refl

pub block_packed-le : (xs : List Block) (base top : ℕ) → Stand base top xs → (b : Block) → In b xs → packed base xs b.place ≤ b.place
block_packed-le xs base top s b i = packed-le xs base b.place (each_at (λ c. base ≤ c.place) xs b s.above i) s.apart s.above (clean_at xs b s.apart i)

pub settled-le : (upto base top : ℕ) (xs : List Block) → Stand base top xs → (b : Block) → In b xs → settled_place upto base xs b.place ≤ b.place
settled-le upto base top xs s b i = elim (cases_lt b.place upto) [
  | inl l ↦ omega (arith, settled_yes upto base b.place xs l, block_packed-le xs base top s b i)
  | inr l ↦ omega (arith, settled_no upto base b.place xs l)
]

pub settled-order : (upto base top : ℕ) (xs : List Block) → Stand base top xs → KeepsOrder xs (settled_place upto base xs)
settled-order upto base top xs s a b i j l = elim (cases_lt b.place upto) [
  | inl low ↦ omega (arith, settled_yes upto base b.place xs low, settled_yes upto base a.place xs (omega (arith, l, low)), packed-next xs base b.place a i l)
  | inr high ↦ omega (arith, settled_no upto base b.place xs high, settled-le upto base top xs s a i, ends xs a b s.apart i j l)
]

-- settled blocks stand as before in one another's order, and no higher than they stood
pub settled-stand : (upto base top : ℕ) (xs : List Block) → Stand base top xs → Stand base top (settle_below upto base xs)
settled-stand upto base top xs s = record {
  apart = moved-apart xs (settled_place upto base xs) (settled-order upto base top xs s) s.some s.apart;
  some = each_mapped (λ b. 0 < b.bytes) (λ b. at_place (settled_place upto base xs b.place) b) xs s.some;
  above = each_mapped (λ b. base ≤ b.place) (λ b. at_place (settled_place upto base xs b.place) b) xs (each_from (λ b. base ≤ settled_place upto base xs b.place) xs (λ b i. elim (cases_lt b.place upto) [
    | inl l ↦ omega (arith, settled_yes upto base b.place xs l)
    | inr l ↦ omega (arith, settled_no upto base b.place xs l, each_at (λ c. base ≤ c.place) xs b s.above i)
  ]));
  within = each_mapped (λ b. b.place + b.bytes ≤ top) (λ b. at_place (settled_place upto base xs b.place) b) xs (each_from (λ b. settled_place upto base xs b.place + b.bytes ≤ top) xs (λ b i. omega (arith, settled-le upto base top xs s b i, each_at (λ c. c.place + c.bytes ≤ top) xs b s.within i)));
}

-- ---- counting

abbrev pub bit : Bool → ℕ
bit t = cond t 1 0

-- the block is unsettled after the move exactly where it was so and stands above
settled-test : (upto base top : ℕ) (xs : List Block) → Stand base top xs → (b : Block) → In b xs → bit (is_unsettled base xs b) ≡ bit (nat_lt b.place upto && is_unsettled base xs b) + bit (is_unsettled base (settle_below upto base xs) (at_place (settled_place upto base xs b.place) b))
settled-test upto base top xs s b i =
    let same : below (settle_below upto base xs) (settled_place upto base xs b.place) ≡ below xs b.place = moved-below xs (settled_place upto base xs) (settled-order upto base top xs s) s.some b i in
    let to = settled_place upto base xs b.place in
    elim (cases_lt b.place upto) [
      | inl l ↦
          let at : to ≡ packed base xs b.place = settled_yes upto base b.place xs l in
          let none : is_unsettled base (settle_below upto base xs) (at_place to b) ≡ false = le-ltb (below (settle_below upto base xs) to) (to - base) (omega (arith, at, same)) in
          omega (arith, ap bit none, ap (λ t. bit (t && is_unsettled base xs b)) (lt-ltb b.place upto l))
      | inr l ↦
          let at : to ≡ b.place = settled_no upto base b.place xs l in
          let still : is_unsettled base (settle_below upto base xs) (at_place to b) ≡ is_unsettled base xs b = ap (λ n. nat_lt n (to - base)) same ∙ ap (λ n. nat_lt (below xs b.place) (n - base)) at in
          omega (arith, ap bit still, ap (λ t. bit (t && is_unsettled base xs b)) (le-ltb b.place upto l))
    ]

-- those below the place are settled, and the others as before
pub settled-unsettled : (upto base top : ℕ) (xs : List Block) → Stand base top xs → unsettled base xs ≡ unsettled_below base xs upto + unsettled base (settle_below upto base xs)
settled-unsettled upto base top xs s =
    sum_two (λ b. bit (is_unsettled base xs b)) (λ b. bit (nat_lt b.place upto && is_unsettled base xs b))
    (λ b. bit (is_unsettled base (settle_below upto base xs) (at_place (settled_place upto base xs b.place) b))) xs (settled-test upto base top xs s)
    ∙ ap (λ n. unsettled_below base xs upto + n) (sym (sum_map (λ b. bit (is_unsettled base (settle_below upto base xs) b)) (λ b. at_place (settled_place upto base xs b.place) b) xs))

-- ---- the k lowest

-- at most one block begins at a place
pub one_at : (xs : List Block) (p : ℕ) → Each (λ b. 0 < b.bytes) xs → EachPair IsApart xs → sum_by (λ b. bit (b.place == p)) xs ≤ 1
one_at [] p some e = omega arith
one_at (x ∷ xs) p some e = elim (cases_eq x.place p) [
  | inl same ↦
      let none : sum_by (λ b. bit (b.place == p)) xs ≤ sum_by (λ b. 0) xs = sum_le (λ b. bit (b.place == p)) (λ b. 0) xs (λ b i.
      let away : b.place ≡ p → ⊥ = λ also. elim (each_at (IsApart x) xs b e.0 i) [
        | inl l ↦ omega (arith, l, same, also, some.0)
        | inr l ↦ omega (arith, l, same, also, each_at (λ c. 0 < c.bytes) xs b some.1 i)
      ] in
      omega (arith, ap bit (ne_eqb b.place p away))) in
      omega (arith, sum_by-cons (λ b. bit (b.place == p)) x xs, ap bit (eq-eqb x.place p same), none, zeros xs)
  | inr other ↦ omega (arith, sum_by-cons (λ b. bit (b.place == p)) x xs, ap bit (ne_eqb x.place p other), one_at xs p some.1 e.1)
]
  where
    zeros : (ys : List Block) → sum_by (λ b. 0) ys ≡ 0
    zeros [] = refl
    zeros (y ∷ ys) = omega (arith, sum_by-cons (λ b. 0) y ys, zeros ys)
