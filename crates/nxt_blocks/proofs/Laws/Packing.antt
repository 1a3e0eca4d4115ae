-- Blocks that share no byte take no more bytes than the space that holds them.
use Rattle.std.proofs.Common.{◌≡◌, ℕ, ◌+◌, ◌-◌, ◌<◌, ◌≤◌, ◌⊎◌, inl, inr, cond, List, [], ◌∷◌, refl, sym, ap, arith}
use Rattle.std.specs.Prelude.{◌&&◌, if◌then◌else◌, sum_by, nat_lt, nat_le}
use Rattle.std.proofs.lemmas.Bool.{cases_Bool, cases_lt, and_parts, leb-true, lt-ltb, le-ltb, le-leb}
use Rattle.std.proofs.lemmas.List.Sums.{sum_by-cons}
use Rattle.nxt_model.specs.Reading.{Block}
use Rattle.nxt_facts.proofs.Each.{Each}
use Rattle.nxt_facts.specs.Pairs.{EachPair}
use Rattle.nxt_blocks.specs.Standing.{IsApart, Stand}
use Rattle.nxt_blocks.specs.Blocks.{total, below, packed}
use Rattle.nxt_blocks.proofs.Laws.Sums.{In, each_at, pair_at, sum_le, sum_same, sum_le_two, sum_le_at}

abbrev pub end_of : Block → ℕ
end_of b = b.place + b.bytes

-- the bytes of the blocks within two places
abbrev pub inside : ℕ → ℕ → Block → ℕ
inside lo hi b = if nat_le lo b.place && nat_le (b.place + b.bytes) hi then b.bytes else 0

pub inside_yes : (lo hi : ℕ) (b : Block) → lo ≤ b.place → b.place + b.bytes ≤ hi → inside lo hi b ≡ b.bytes
inside_yes lo hi b l h = rw (le-leb lo b.place l, le-leb (b.place + b.bytes) hi h) refl

pub inside_cases : (lo hi : ℕ) (b : Block) → ((lo ≤ b.place) × (b.place + b.bytes ≤ hi) × (inside lo hi b ≡ b.bytes)) ⊎ (inside lo hi b ≡ 0)
inside_cases lo hi b =
    elim (cases_Bool (nat_le lo b.place && nat_le (b.place + b.bytes) hi)) [
      | inl hit ↦
          let both = and_parts (nat_le lo b.place) (nat_le (b.place + b.bytes) hi) hit in
          inl (leb-true lo b.place both.0, leb-true (b.place + b.bytes) hi both.1, ap (λ t. cond t b.bytes 0) hit)
      | inr miss ↦ inr (ap (λ t. cond t b.bytes 0) miss)
    ]

-- what is within lo and hi, and apart from x, is below x or above it
parted : (x b : Block) (lo hi : ℕ) → lo ≤ x.place → end_of x ≤ hi → IsApart x b → inside lo hi b ≤ inside lo x.place b + inside (end_of x) hi b
parted x b lo hi l h a =
    elim (inside_cases lo hi b) [
      | inr none ↦ omega (arith, none)
      | inl here ↦ elim a [
        | inl above ↦ omega (arith, here.2, inside_yes (end_of x) hi b above here.1)
        | inr under ↦ omega (arith, here.2, inside_yes lo x.place b here.0 under)
      ]
    ]

pub packing : (xs : List Block) (lo hi : ℕ) → lo ≤ hi → EachPair IsApart xs → sum_by (inside lo hi) xs ≤ hi - lo
packing [] lo hi l e = omega arith
packing (x ∷ xs) lo hi l e =
    elim (inside_cases lo hi x) [
      | inr none ↦ omega (arith, sum_by-cons (inside lo hi) x xs, none, packing xs lo hi l e.1)
      | inl here ↦
          let two = sum_le_two (inside lo hi) (inside lo x.place) (inside (end_of x) hi) xs (λ b i. parted x b lo hi here.0 here.1 (each_at (IsApart x) xs b e.0 i)) in
          omega (arith, sum_by-cons (inside lo hi) x xs, here.0, here.1, here.2, two, packing xs lo x.place here.0 e.1, packing xs (end_of x) hi here.1 e.1)
    ]

-- ---- below a place

abbrev pub under : ℕ → Block → ℕ
under p b = if nat_lt b.place p then b.bytes else 0

pub under_yes : (p : ℕ) (b : Block) → b.place < p → under p b ≡ b.bytes
under_yes p b l = rw (lt-ltb b.place p l) refl

pub under_no : (p : ℕ) (b : Block) → p ≤ b.place → under p b ≡ 0
under_no p b l = rw (le-ltb b.place p l) refl

pub under_most : (p : ℕ) (b : Block) → under p b ≤ b.bytes
under_most p b = elim (cases_lt b.place p) [
  | inl l ↦ omega (arith, under_yes p b l)
  | inr l ↦ omega (arith, under_no p b l)
]

pub under_more : (p q : ℕ) (b : Block) → p ≤ q → under p b ≤ under q b
under_more p q b le = elim (cases_lt b.place p) [
  | inl l ↦ omega (arith, under_yes p b l, under_yes q b (omega (arith, l, le)))
  | inr l ↦ omega (arith, under_no p b l)
]

-- no block reaches over the place
abbrev pub IsClean : List Block → ℕ → Type 0
IsClean xs p = (b : Block) → In b xs → b.place < p → end_of b ≤ p

pub turned : (a b : Block) → IsApart a b → IsApart b a
turned a b (inl l) = inr l
turned a b (inr l) = inl l

-- a block ends before one that begins above it
pub ends : (xs : List Block) (a b : Block) → EachPair IsApart xs → In a xs → In b xs → a.place < b.place → end_of a ≤ b.place
ends xs a b e i j l =
    elim (pair_at IsApart turned xs a b e i j) [
      | inl same ↦ let f : a.place ≡ b.place = ap (λ c. c.place) same in absurd (omega (arith, f, l))
      | inr apart ↦ elim apart [
        | inl fine ↦ fine
        | inr over ↦ absurd (omega (arith, over, l))
      ]
    ]

pub clean_at : (xs : List Block) (c : Block) → EachPair IsApart xs → In c xs → IsClean xs c.place
clean_at xs c e j b i l = ends xs b c e i j l

pub clean_top : (xs : List Block) (top p : ℕ) → Each (λ b. b.place + b.bytes ≤ top) xs → top ≤ p → IsClean xs p
clean_top xs top p w l b i less = omega (arith, l, each_at (λ c. c.place + c.bytes ≤ top) xs b w i)

-- what stands between two places grows the bytes below by no more than their distance
pub below_gap : (xs : List Block) (p q : ℕ) → p ≤ q → EachPair IsApart xs → IsClean xs q → below xs q ≤ below xs p + (q - p)
below_gap xs p q l e clean =
    let step : (b : Block) → In b xs → under q b ≤ under p b + inside p q b = λ b i. elim (cases_lt b.place q) [
      | inr above ↦ omega (arith, under_no q b above)
      | inl less ↦ elim (cases_lt b.place p) [
        | inl under ↦ omega (arith, under_yes q b less, under_yes p b under)
        | inr in_it ↦ omega (arith, under_yes q b less, inside_yes p q b in_it (clean b i less))
      ]
    ] in
    omega (arith, sum_le_two (under q) (under p) (inside p q) xs step, packing xs p q l e)

pub below_none : (xs : List Block) (base : ℕ) → Each (λ b. base ≤ b.place) xs → below xs base ≡ 0
below_none [] base a = refl
below_none (x ∷ xs) base a = omega (arith, sum_by-cons (under base) x xs, under_no base x a.0, below_none xs base a.1)

-- a block can't stand lower than without gaps
pub packed-le : (xs : List Block) (base q : ℕ) → base ≤ q → EachPair IsApart xs → Each (λ b. base ≤ b.place) xs → IsClean xs q → packed base xs q ≤ q
packed-le xs base q l e a clean = omega (arith, below_gap xs base q l e clean, below_none xs base a)

-- and the blocks below it with it
pub packed-next : (xs : List Block) (base q : ℕ) (a : Block) → In a xs → a.place < q → packed base xs a.place + a.bytes ≤ packed base xs q
packed-next xs base q a i l =
    let at = sum_le_at (under a.place) (under q) a.bytes xs a (λ b j. under_more a.place q b (omega (arith, l))) i (omega (arith, under_no a.place a (omega arith), under_yes q a l)) in
    omega (arith, at)

pub packed-total : (xs : List Block) (base : ℕ) (a : Block) → In a xs → packed base xs a.place + a.bytes ≤ base + total xs
packed-total xs base a i =
    let at = sum_le_at (under a.place) (λ b. b.bytes) a.bytes xs a (λ b j. under_most a.place b) i (omega (arith, under_no a.place a (omega arith))) in
    omega (arith, at)

pub packed-more : (xs : List Block) (base p q : ℕ) → p ≤ q → packed base xs p ≤ packed base xs q
packed-more xs base p q l = omega (arith, sum_le (under p) (under q) xs (λ b i. under_more p q b l))

-- the pool holds the blocks only where their bytes fit
pub fits : (xs : List Block) (base top : ℕ) → base ≤ top → Stand base top xs → base + total xs ≤ top
fits xs base top l s =
    let all : total xs ≡ sum_by (inside base top) xs = sum_same (λ b. b.bytes) (inside base top) xs (λ b i. sym (inside_yes base top b (each_at (λ c. base ≤ c.place) xs b s.above i) (each_at (λ c. c.place + c.bytes ≤ top) xs b s.within i))) in
    omega (arith, all, packing xs base top l s.apart)
