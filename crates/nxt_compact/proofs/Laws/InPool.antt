-- Blocks of a pool and rows of its table.
use Rattle.std.proofs.Common.{◌≡◌, ◌≢◌, ℕ, zero, suc, ◌+◌, ◌<◌, ◌≤◌, ◌⊎◌, inl, inr, Bool, true, false, cond, List, ◌∷◌, map, length, refl, ap, arith}
use Rattle.std.specs.Prelude.{filter}
use Rattle.std.specs.List.{range_with_len}
use Rattle.std.proofs.lemmas.Bool.{cases_eq, cases_order, lt-ltb, ltb-true, false≢true}
use Rattle.nxt_model.specs.Reading.{Block}
use Rattle.nxt_rows.specs.Rows.{dope_row, row_count}
use Rattle.nxt_facts.proofs.Each.{Each}
use Rattle.nxt_facts.specs.Pairs.{EachPair}
use Rattle.nxt_blocks.specs.Standing.{IsApart, Stand}
use Rattle.nxt_blocks.specs.Blocks.{has_bytes}
use Rattle.nxt_blocks.proofs.Laws.Sums.{In, each_at, each_from}
use Rattle.nxt_blocks.proofs.Laws.Packing.{turned}
use Rattle.nxt_compact.specs.Pools.{block_of, blocks_in, IsFull, IsSound}

-- ---- lists over numbers

in_kept : (x y : Block) (xs : List Block) (t : Bool) → (In y xs ⊎ ((y ≡ x) × (t ≡ true))) → In y (cond t (x ∷ xs) xs)
in_kept x y xs true (inl i) = inr i
in_kept x y xs true (inr e) = inl e.0
in_kept x y xs false (inl i) = i
in_kept x y xs false (inr e) = absurd (false≢true e.1)

pub in_some : (f : ℕ → Block) (n a r : ℕ) → a ≤ r → r < a + n → 0 < (f r).bytes → In (f r) (filter has_bytes (map f (range_with_len a n)))
in_some f zero a r low high some = absurd (omega (arith, low, high))
in_some f (suc n) a r low high some =
    let rest = filter has_bytes (map f (range_with_len (a + 1) n)) in
    elim (cases_eq r a) [
      | inl same ↦ in_kept (f a) (f r) rest (has_bytes (f a)) (inr (ap f same, lt-ltb 0 (f a).bytes (rw (← same) some)))
      | inr other ↦ in_kept (f a) (f r) rest (has_bytes (f a)) (inl (in_some f n (a + 1) r (omega (arith, low, other)) (omega (arith, high)) some))
    ]

-- the number that a block belongs to
pub record Of (f : ℕ → Block) (a n : ℕ) (y : Block) : Type 0 where
  pub number : ℕ
  pub low : a ≤ number
  pub high : number < a + n
  pub is : y ≡ f number
  pub some : 0 < (f number).bytes

from_kept : (f : ℕ → Block) (a n : ℕ) (xs : List Block) (y : Block) (t : Bool) → has_bytes (f a) ≡ t → (In y xs → Of f (a + 1) n y) → In y (cond t (f a ∷ xs) xs) → Of f a (suc n) y
from_kept f a n xs y true e g (inl same) = record { number = a; low = omega arith; high = omega arith; is = same; some = ltb-true 0 (f a).bytes e }
from_kept f a n xs y true e g (inr i) = let o = g i in record { number = o.number; low = omega (arith, o.low); high = omega (arith, o.high); is = o.is; some = o.some }
from_kept f a n xs y false e g i = let o = g i in record { number = o.number; low = omega (arith, o.low); high = omega (arith, o.high); is = o.is; some = o.some }

pub from_some : (f : ℕ → Block) (n a : ℕ) (y : Block) → In y (filter has_bytes (map f (range_with_len a n))) → Of f a n y
from_some f zero a y i = absurd i
from_some f (suc n) a y i = from_kept f a n (filter has_bytes (map f (range_with_len (a + 1) n))) y (has_bytes (f a)) refl (from_some f n (a + 1) y) i

pair_kept : (R : Block → Block → Type 0) (x : Block) (xs : List Block) (t : Bool) → EachPair R (cond t (x ∷ xs) xs) → (t ≡ true → Each (R x) xs) × EachPair R xs
pair_kept R x xs true e = ((λ h. e.0), e.1)
pair_kept R x xs false e = ((λ h. absurd (false≢true h)), e)

pub pair_some : (R : Block → Block → Type 0) (f : ℕ → Block) (n a q r : ℕ) → a ≤ q → q < r → r < a + n → 0 < (f q).bytes → 0 < (f r).bytes → EachPair R (filter has_bytes (map f (range_with_len a n))) → R (f q) (f r)
pair_some R f zero a q r low less high some many e = absurd (omega (arith, low, less, high))
pair_some R f (suc n) a q r low less high some many e =
    let rest = filter has_bytes (map f (range_with_len (a + 1) n)) in
    let both = pair_kept R (f a) rest (has_bytes (f a)) e in
    elim (cases_eq q a) [
      | inl same ↦ rw same (each_at (R (f a)) rest (f r) (both.0 (lt-ltb 0 (f a).bytes (rw (← same) some))) (in_some f n (a + 1) r (omega (arith, low, less)) (omega (arith, high)) many))
      | inr other ↦ pair_some R f n (a + 1) q r (omega (arith, low, other)) less (omega (arith, high)) some many both.1
    ]

-- ---- rows

pub full_in : (pool : List ℕ) (table r : ℕ) → IsFull pool table r → In (block_of pool table r) (blocks_in pool table)
unfolding blocks_in
full_in pool table r full = in_some (block_of pool table) (row_count pool table) 0 r (omega arith) (omega (arith, full.within)) full.some

pub in_full : (pool : List ℕ) (table : ℕ) (b : Block) → In b (blocks_in pool table) → (r : ℕ) × IsFull pool table r × (b ≡ block_of pool table r)
unfolding blocks_in
in_full pool table b i =
    let o = from_some (block_of pool table) (row_count pool table) 0 b i in
    (o.number, record { within = omega (arith, o.high); some = o.some }, o.is)

-- ---- soundness, by rows and by the list of blocks

pairs_from : (R : Block → Block → Type 0) (f : ℕ → Block) (n a : ℕ) → ((q r : ℕ) → a ≤ q → q < r → r < a + n → 0 < (f q).bytes → 0 < (f r).bytes → R (f q) (f r)) → EachPair R (filter has_bytes (map f (range_with_len a n)))
pairs_from R f zero a h = tt
pairs_from R f (suc n) a h =
    let rest = filter has_bytes (map f (range_with_len (a + 1) n)) in
    first (has_bytes (f a)) refl (pairs_from R f n (a + 1) (λ q r low less high. h q r (omega (arith, low)) less (omega (arith, high))))
  where
    first : (t : Bool) → has_bytes (f a) ≡ t → EachPair R (filter has_bytes (map f (range_with_len (a + 1) n))) → EachPair R (cond t (f a ∷ filter has_bytes (map f (range_with_len (a + 1) n))) (filter has_bytes (map f (range_with_len (a + 1) n))))
    first true e pairs = (
      each_from (R (f a)) (filter has_bytes (map f (range_with_len (a + 1) n))) (λ y i. let o = from_some f n (a + 1) y i in rw o.is (h a o.number (omega arith) (omega (arith, o.low)) (omega (arith, o.high)) (ltb-true 0 (f a).bytes e) o.some)),
      pairs,
    )
    first false e pairs = pairs

-- what holds of each block of a row holds of each block
each_full : (P : Block → Type 0) (pool : List ℕ) (table : ℕ) → ((r : ℕ) → IsFull pool table r → P (block_of pool table r)) → Each P (blocks_in pool table)
each_full P pool table h = each_from P (blocks_in pool table) (λ b i. let o = in_full pool table b i in rw o.2 (h o.0 o.1))

pub standing : (pool : List ℕ) (table base : ℕ) → IsSound pool table base → Stand base (length pool) (blocks_in pool table)
unfolding blocks_in
standing pool table base s = record {
  apart = pairs_from IsApart (block_of pool table) (row_count pool table) 0 (λ q r low less high some many.
      s.apart q r (record { within = omega (arith, less, high); some = some }) (record { within = omega (arith, high); some = many }) (λ e. omega (arith, e, less)));
  some = each_full (λ b. 0 < b.bytes) pool table (λ r f. f.some);
  above = each_full (λ b. base ≤ b.place) pool table s.above;
  within = each_full (λ b. b.place + b.bytes ≤ length pool) pool table s.within;
}

pub rows_apart : (pool : List ℕ) (table base top q r : ℕ) → Stand base top (blocks_in pool table) → IsFull pool table q → IsFull pool table r → q ≢ r → IsApart (block_of pool table q) (block_of pool table r)
unfolding blocks_in
rows_apart pool table base top q r s f g other = elim (cases_order q r) [
  | inl same ↦ absurd (other same)
  | inr apart ↦ elim apart [
    | inl less ↦ pair_some IsApart (block_of pool table) (row_count pool table) 0 q r (omega arith) less (omega (arith, g.within)) f.some g.some s.apart
    | inr more ↦ turned (block_of pool table r) (block_of pool table q) (pair_some IsApart (block_of pool table) (row_count pool table) 0 r q (omega arith) more (omega (arith, f.within)) g.some f.some s.apart)
  ]
]

-- a row 0 that is the table's, and blocks that stand
pub sound_from : (pool : List ℕ) (table base : ℕ) → length pool ≤ 65536 → 0 < row_count pool table → (dope_row pool table 0).place ≡ table → (dope_row pool table 0).stride ≡ 10 → Stand base (length pool) (blocks_in pool table) → IsSound pool table base
sound_from pool table base size some place stride s = record {
  size = size;
  some = some;
  place = place;
  stride = stride;
  apart = λ q r f g other. rows_apart pool table base (length pool) q r s f g other;
  above = λ r f. each_at (λ b. base ≤ b.place) (blocks_in pool table) (block_of pool table r) s.above (full_in pool table r f);
  within = λ r f. each_at (λ b. b.place + b.bytes ≤ length pool) (blocks_in pool table) (block_of pool table r) s.within (full_in pool table r f);
}
