-- Blocks begin at words, also once they packed, settled or slid.
use Rattle.std.proofs.Common.{◌≡◌, ℕ, ◌%◌, inl, inr, cond, List, [], ◌∷◌, refl, ap, ◌∙◌, arith}
use Rattle.std.specs.Prelude.{sum_by}
use Rattle.std.proofs.lemmas.Bool.{cases_lt, lt-ltb, le-ltb}
use Rattle.std.proofs.lemmas.List.Sums.{sum_by-cons}
use Rattle.nxt_model.specs.Reading.{Block}
use Rattle.nxt_blocks.specs.Blocks.{below, packed, total, place_after, unsettled_below}
use Rattle.nxt_blocks.proofs.Laws.Packing.{under, under_yes, under_no}
use Rattle.nxt_blocks.proofs.Laws.Sums.{In}
use Rattle.nxt_rows.specs.Rows.{dope_row}
use Rattle.nxt_compact.specs.Pools.{blocks_in, slid_in}
use Rattle.nxt_compact.proofs.Laws.InPool.{in_full}
use Rattle.nxt_heap.proofs.Begins.{words_of}

sum_words : (f : Block → ℕ) (xs : List Block) → ((b : Block) → In b xs → f b % 4 ≡ 0) → sum_by f xs % 4 ≡ 0
sum_words f [] h = refl
sum_words f (x ∷ xs) h = omega (arith, sum_by-cons f x xs, h x (inl refl), sum_words f xs (λ b i. h b (inr i)))

bytes_words : (pool : List ℕ) (table : ℕ) (b : Block) → In b (blocks_in pool table) → b.bytes % 4 ≡ 0
bytes_words pool table b i = let found = in_full pool table b i in omega (arith, ap (λ c. c.bytes) found.2, words_of (dope_row pool table found.0))

pub below_words : (pool : List ℕ) (table p : ℕ) → below (blocks_in pool table) p % 4 ≡ 0
below_words pool table p = sum_words (under p) (blocks_in pool table) (λ b i. elim (cases_lt b.place p) [
  | inl l ↦ omega (arith, under_yes p b l, bytes_words pool table b i)
  | inr l ↦ omega (arith, under_no p b l)
])

pub total_words : (pool : List ℕ) (table : ℕ) → total (blocks_in pool table) % 4 ≡ 0
total_words pool table = sum_words (λ b. b.bytes) (blocks_in pool table) (bytes_words pool table)

pub packed_words : (pool : List ℕ) (table base p : ℕ) → base % 4 ≡ 0 → packed base (blocks_in pool table) p % 4 ≡ 0
packed_words pool table base p word = omega (arith, word, below_words pool table p)

pub after_words : (pool : List ℕ) (table base k p : ℕ) → base % 4 ≡ 0 → p % 4 ≡ 0 → place_after k base (blocks_in pool table) p % 4 ≡ 0
after_words pool table base k p word place = elim (cases_lt (unsettled_below base (blocks_in pool table) p) k) [
  | inl l ↦ ap (λ t. cond t (packed base (blocks_in pool table) p) p % 4) (lt-ltb (unsettled_below base (blocks_in pool table) p) k l) ∙ packed_words pool table base p word
  | inr l ↦ ap (λ t. cond t (packed base (blocks_in pool table) p) p % 4) (le-ltb (unsettled_below base (blocks_in pool table) p) k l) ∙ place
]

pub slid_words : (pool : List ℕ) (table base row more p : ℕ) → base % 4 ≡ 0 → more % 4 ≡ 0 → slid_in pool table base row more p % 4 ≡ 0
slid_words pool table base row more p word whole =
    let grown = (dope_row pool table row).place in
    let at = packed_words pool table base p word in
    elim (cases_lt grown p) [
      | inl l ↦ omega (arith, at, whole, ap (λ t. cond t more 0) (lt-ltb grown p l))
      | inr l ↦ omega (arith, at, ap (λ t. cond t more 0) (le-ltb grown p l))
    ]
