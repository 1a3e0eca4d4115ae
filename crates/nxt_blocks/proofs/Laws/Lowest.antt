-- Settling the k lowest unsettled blocks.
use Rattle.std.proofs.Common.{◌≡◌, ℕ, zero, suc, ◌+◌, ◌-◌, ◌<◌, ◌≤◌, inl, inr, Bool, true, false, cond, List, [], ◌∷◌, map, refl, sym, ap, ◌∙◌, arith}
use Rattle.std.specs.Prelude.{◌&&◌, sum_by, min, nat_lt, ◌==◌}
use Rattle.std.proofs.lemmas.Bool.{cases_Bool, cases_lt, cases_eq, ltb-false, lt-ltb, le-ltb, eq-eqb}
use Rattle.nxt_model.specs.Reading.{Block}
use Rattle.nxt_blocks.specs.Blocks.{total, below, packed, unsettled, unsettled_below, at_place, place_after, settle}
use Rattle.nxt_model.specs.Dump.{is_unsettled}
use Rattle.nxt_facts.proofs.Each.{Each}
use Rattle.nxt_facts.specs.Pairs.{EachPair}
use Rattle.nxt_blocks.specs.Standing.{IsApart, Stand, settled_place, settle_below}
use Rattle.nxt_blocks.proofs.Laws.Sums.{In, each_at, sum_le, sum_same, sum_le_two, sum_le_at}
use Rattle.nxt_blocks.proofs.Laws.Settling.{bit, one_at, block_packed-le, moved-total, settled_yes, settled_no, settled-stand, settled-unsettled}

-- a count that rises by at most 1 takes each value up to its last
reach : (f : ℕ → ℕ) → f 0 ≡ 0 → ((n : ℕ) → f n ≤ f (suc n)) → ((n : ℕ) → f (suc n) ≤ f n + 1) → (k n : ℕ) → (t : ℕ) × (f t ≡ min k (f n))
reach f none up by_one k zero = (0, omega (arith, none))
reach f none up by_one k (suc n) = elim (cases_lt k (f (suc n))) [
  | inl l ↦ let before = reach f none up by_one k n in (before.0, omega (arith, before.1, l, by_one n))
  | inr l ↦ (suc n, omega (arith, l))
]

-- ---- the unsettled blocks below a place

abbrev pub counts : ℕ → List Block → ℕ → Block → ℕ
counts base xs p b = bit (nat_lt b.place p && is_unsettled base xs b)

pub counts_yes : (base p : ℕ) (xs : List Block) (b : Block) → b.place < p → counts base xs p b ≡ bit (is_unsettled base xs b)
counts_yes base p xs b l = ap (λ t. bit (t && is_unsettled base xs b)) (lt-ltb b.place p l)

pub counts_no : (base p : ℕ) (xs : List Block) (b : Block) → p ≤ b.place → counts base xs p b ≡ 0
counts_no base p xs b l = ap (λ t. bit (t && is_unsettled base xs b)) (le-ltb b.place p l)

counts_more : (base p q : ℕ) (xs : List Block) (b : Block) → p ≤ q → counts base xs p b ≤ counts base xs q b
counts_more base p q xs b le = elim (cases_lt b.place p) [
  | inl l ↦ omega (arith, counts_yes base p xs b l, counts_yes base q xs b (omega (arith, l, le)))
  | inr l ↦ omega (arith, counts_no base p xs b l)
]

bit_most : (t : Bool) → bit t ≤ 1
bit_most true = omega arith
bit_most false = omega arith

counts_next : (base p : ℕ) (xs : List Block) (b : Block) → counts base xs (suc p) b ≤ counts base xs p b + bit (b.place == p)
counts_next base p xs b = elim (cases_lt b.place p) [
  | inl l ↦ omega (arith, counts_yes base p xs b l, counts_yes base (suc p) xs b (omega (arith, l)))
  | inr l ↦ elim (cases_eq b.place p) [
    | inl same ↦ omega (arith, counts_yes base (suc p) xs b (omega (arith, same)), bit_most (is_unsettled base xs b), ap bit (eq-eqb b.place p same))
    | inr other ↦ omega (arith, counts_no base (suc p) xs b (omega (arith, l, other)))
  ]
]

pub unsettled_more : (base p q : ℕ) (xs : List Block) → p ≤ q → unsettled_below base xs p ≤ unsettled_below base xs q
unsettled_more base p q xs l = sum_le (counts base xs p) (counts base xs q) xs (λ b i. counts_more base p q xs b l)

pub unsettled_next : (base p : ℕ) (xs : List Block) → Each (λ b. 0 < b.bytes) xs → EachPair IsApart xs → unsettled_below base xs (suc p) ≤ unsettled_below base xs p + 1
unsettled_next base p xs some e = omega (arith, sum_le_two (counts base xs (suc p)) (counts base xs p) (λ b. bit (b.place == p)) xs (λ b i. counts_next base p xs b), one_at xs p some e)

pub unsettled_none : (base : ℕ) (xs : List Block) → unsettled_below base xs 0 ≡ 0
unsettled_none base xs = omega (arith, sum_le (counts base xs 0) (λ b. 0) xs (λ b i. omega (arith, counts_no base 0 xs b (omega arith))), zeros xs)
  where
    zeros : (ys : List Block) → sum_by (λ b. 0) ys ≡ 0
    zeros [] = refl
    zeros (y ∷ ys) = zeros ys

pub unsettled_all : (base top : ℕ) (xs : List Block) → Stand base top xs → unsettled_below base xs top ≡ unsettled base xs
unsettled_all base top xs s = sum_same (counts base xs top) (λ b. bit (is_unsettled base xs b)) xs (λ b i. counts_yes base top xs b (omega (arith, each_at (λ c. 0 < c.bytes) xs b s.some i, each_at (λ c. c.place + c.bytes ≤ top) xs b s.within i)))

-- an unsettled block counts above itself
pub unsettled_here : (base q : ℕ) (xs : List Block) (b : Block) → In b xs → b.place < q → is_unsettled base xs b ≡ true → unsettled_below base xs b.place + 1 ≤ unsettled_below base xs q
unsettled_here base q xs b i l t =
    sum_le_at (counts base xs b.place) (counts base xs q) 1 xs b (λ c j. counts_more base b.place q xs c (omega (arith, l))) i
    (omega (arith, counts_no base b.place xs b (omega arith), counts_yes base q xs b l, ap bit t))

-- a place up to which as many stand unsettled as settle
pub threshold : (k base top : ℕ) (xs : List Block) → Stand base top xs → (upto : ℕ) × (unsettled_below base xs upto ≡ min k (unsettled base xs))
threshold k base top xs s =
    let found = reach (unsettled_below base xs) (unsettled_none base xs) (λ n. unsettled_more base n (suc n) xs (omega arith)) (λ n. unsettled_next base n xs s.some s.apart) k top in
    (found.0, found.1 ∙ ap (min k) (unsettled_all base top xs s))

-- ---- two ways to say which blocks move

-- a settled block stands where it would
settled_stays : (base top : ℕ) (xs : List Block) → Stand base top xs → (b : Block) → In b xs → is_unsettled base xs b ≡ false → packed base xs b.place ≡ b.place
settled_stays base top xs s b i t = omega (arith, ltb-false (below xs b.place) (b.place - base) t, block_packed-le xs base top s b i, each_at (λ c. base ≤ c.place) xs b s.above i)

after_yes : (k base p : ℕ) (xs : List Block) → unsettled_below base xs p < k → place_after k base xs p ≡ packed base xs p
after_yes k base p xs l = ap (λ t. cond t (packed base xs p) p) (lt-ltb (unsettled_below base xs p) k l)

after_no : (k base p : ℕ) (xs : List Block) → k ≤ unsettled_below base xs p → place_after k base xs p ≡ p
after_no k base p xs l = ap (λ t. cond t (packed base xs p) p) (le-ltb (unsettled_below base xs p) k l)

pub same_place : (k base top upto : ℕ) (xs : List Block) → Stand base top xs → unsettled_below base xs upto ≡ min k (unsettled base xs) → (b : Block) → In b xs → place_after k base xs b.place ≡ settled_place upto base xs b.place
same_place k base top upto xs s reached b i =
    let every = unsettled_all base top xs s in
    let within : b.place < top = omega (arith, each_at (λ c. 0 < c.bytes) xs b s.some i, each_at (λ c. c.place + c.bytes ≤ top) xs b s.within i) in
    elim (cases_Bool (is_unsettled base xs b)) [
      | inr settled ↦
          let stays = settled_stays base top xs s b i settled in
          elim (cases_lt (unsettled_below base xs b.place) k) [
            | inl l ↦ elim (cases_lt b.place upto) [
              | inl low ↦ after_yes k base b.place xs l ∙ sym (settled_yes upto base b.place xs low)
              | inr high ↦ after_yes k base b.place xs l ∙ stays ∙ sym (settled_no upto base b.place xs high)
            ]
            | inr l ↦ elim (cases_lt b.place upto) [
              | inl low ↦ after_no k base b.place xs l ∙ sym stays ∙ sym (settled_yes upto base b.place xs low)
              | inr high ↦ after_no k base b.place xs l ∙ sym (settled_no upto base b.place xs high)
            ]
          ]
      | inl gap ↦ elim (cases_lt b.place upto) [
        | inl low ↦ after_yes k base b.place xs (omega (arith, reached, unsettled_here base upto xs b i low gap)) ∙ sym (settled_yes upto base b.place xs low)
        | inr high ↦ after_no k base b.place xs (omega (arith, reached, every, unsettled_more base upto b.place xs high, unsettled_here base top xs b i within gap)) ∙ sym (settled_no upto base b.place xs high)
      ]
    ]

map_same : {X Y : Type 0} (f g : X → Y) (xs : List X) → ((x : X) → In x xs → f x ≡ g x) → map f xs ≡ map g xs
map_same f g [] h = refl
map_same f g (x ∷ xs) h = ap (λ y. y ∷ map f xs) (h x (inl refl)) ∙ ap (λ ys. g x ∷ ys) (map_same f g xs (λ y i. h y (inr i)))

pub settle-is : (k base top upto : ℕ) (xs : List Block) → Stand base top xs → unsettled_below base xs upto ≡ min k (unsettled base xs) → settle k base xs ≡ settle_below upto base xs
settle-is k base top upto xs s reached =
    map_same (λ b. at_place (place_after k base xs b.place) b) (λ b. at_place (settled_place upto base xs b.place) b) xs
    (λ b i. ap (λ p. at_place p b) (same_place k base top upto xs s reached b i))

-- ---- the laws

-- settling k blocks settles exactly the smaller of k and the number of unsettled ones
pub settle-unsettled : (k base top : ℕ) (xs : List Block) → Stand base top xs → unsettled base (settle k base xs) ≡ unsettled base xs - min k (unsettled base xs)
settle-unsettled k base top xs s =
    let found = threshold k base top xs s in
    omega (arith, ap (unsettled base) (settle-is k base top found.0 xs s found.1), settled-unsettled found.0 base top xs s, found.1)

-- the blocks share no byte and lie in the pool
pub settle-stand : (k base top : ℕ) (xs : List Block) → Stand base top xs → Stand base top (settle k base xs)
settle-stand k base top xs s =
    let found = threshold k base top xs s in
    rw (settle-is k base top found.0 xs s found.1) (settled-stand found.0 base top xs s)

-- and take as many bytes
pub settle-total : (k base : ℕ) (xs : List Block) → total (settle k base xs) ≡ total xs
settle-total k base xs = moved-total (place_after k base xs) xs
