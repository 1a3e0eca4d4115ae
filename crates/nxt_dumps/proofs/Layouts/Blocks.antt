-- Blocks without gaps, and blocks that get shorter in their places.
use Rattle.std.proofs.Common.{◌≡◌, ℕ, ◌+◌, ◌<◌, ◌≤◌, inl, inr, Bool, true, false, cond, List, [], ◌∷◌, map, refl, ap, arith}
use Rattle.std.specs.Prelude.{sum_by, filter}
use Rattle.std.proofs.lemmas.Bool.{ltb-true, ltb-false}
use Rattle.std.proofs.lemmas.List.Sums.{sum_by-cons}
use Rattle.nxt_facts.specs.Pairs.{EachPair}
use Rattle.nxt_facts.proofs.Each.{Each, each_then}
use Rattle.nxt_model.specs.Reading.{Block}
use Rattle.nxt_blocks.specs.Blocks.{has_bytes}
use Rattle.nxt_blocks.specs.Standing.{IsApart, Stand}
use Rattle.nxt_blocks.proofs.Laws.Packing.{turned}
use Rattle.nxt_dumps.specs.Layouts.{dense}

dense_above : (base : ℕ) (ns : List ℕ) → Each (λ b. base ≤ b.place) (dense base ns)
dense_above base [] = tt
dense_above base (n ∷ ns) = (omega arith, each_then (λ b. base + n ≤ b.place) (λ b. base ≤ b.place) (λ b l. omega (arith, l)) (dense (base + n) ns) (dense_above (base + n) ns))

-- blocks of any lengths stand one behind another where their bytes fit
pub record InARow (base top : ℕ) (xs : List Block) : Type 0 where
  pub apart : EachPair IsApart xs
  pub above : Each (λ b. base ≤ b.place) xs
  pub within : Each (λ b. b.place + b.bytes ≤ top) xs

pub dense-row : (base top : ℕ) (ns : List ℕ) → base + sum_by (λ n. n) ns ≤ top → InARow base top (dense base ns)
dense-row base top [] room = record { apart = tt; above = tt; within = tt }
dense-row base top (n ∷ ns) room =
    let split = sum_by-cons (λ m. m) n ns in
    let rest = dense-row (base + n) top ns (omega (arith, split, room)) in
    let high = dense_above (base + n) ns in
    record {
      apart = (each_then (λ b. base + n ≤ b.place) (IsApart (record { place = base; bytes = n })) (λ b l. inl l) (dense (base + n) ns) high, rest.apart);
      above = (omega arith, each_then (λ b. base + n ≤ b.place) (λ b. base ≤ b.place) (λ b l. omega (arith, l)) (dense (base + n) ns) high);
      within = (omega (arith, split, room), rest.within);
    }

pub dense-lengths : (base : ℕ) (ns : List ℕ) → map (λ b. b.bytes) (dense base ns) ≡ ns
dense-lengths base [] = refl
dense-lengths base (n ∷ ns) = ap (λ ms. n ∷ ms) (dense-lengths (base + n) ns)

-- ---- shorter blocks in their places

abbrev pub Shorter : List Block → List Block → Type 0
Shorter [] [] = Unit {0}
Shorter (x ∷ xs) (y ∷ ys) = (y.place ≡ x.place) × (y.bytes ≤ x.bytes) × Shorter xs ys
Shorter _ _ = ⊥

shorter_apart : (a x y : Block) → y.place ≡ x.place → y.bytes ≤ x.bytes → IsApart a x → IsApart a y
shorter_apart a x y e l (inl h) = inl (omega (arith, e, h))
shorter_apart a x y e l (inr h) = inr (omega (arith, e, l, h))

-- P of what is left where the first is kept, and where it isn't
kept : (P : List Block → Type 0) (t : Bool) (first rest : List Block) → (t ≡ true → P first) → P rest → P (cond t first rest)
kept P true first rest f r = f refl
kept P false first rest f r = r

each_filter : (P : Block → Type 0) (xs : List Block) → Each P xs → Each P (filter has_bytes xs)
each_filter P [] e = tt
each_filter P (x ∷ xs) e =
    let rest = each_filter P xs e.1 in
    kept (Each P) (has_bytes x) (x ∷ filter has_bytes xs) (filter has_bytes xs) (λ t. (e.0, rest)) rest

pairs_filter : (xs : List Block) → EachPair IsApart xs → EachPair IsApart (filter has_bytes xs)
pairs_filter [] e = tt
pairs_filter (x ∷ xs) e =
    let rest = pairs_filter xs e.1 in
    kept (EachPair IsApart) (has_bytes x) (x ∷ filter has_bytes xs) (filter has_bytes xs) (λ t. (each_filter (IsApart x) xs e.0, rest)) rest

some_filter : (xs : List Block) → Each (λ b. 0 < b.bytes) (filter has_bytes xs)
some_filter [] = tt
some_filter (x ∷ xs) =
    let rest = some_filter xs in
    kept (Each (λ b. 0 < b.bytes)) (has_bytes x) (x ∷ filter has_bytes xs) (filter has_bytes xs) (λ t. (ltb-true 0 x.bytes t, rest)) rest

-- without those that have no bytes
pub filter-stand : (base top : ℕ) (xs : List Block) → EachPair IsApart xs → Each (λ b. base ≤ b.place) xs → Each (λ b. b.place + b.bytes ≤ top) xs → Stand base top (filter has_bytes xs)
filter-stand base top xs apart above within = record {
  apart = pairs_filter xs apart;
  some = some_filter xs;
  above = each_filter (λ b. base ≤ b.place) xs above;
  within = each_filter (λ b. b.place + b.bytes ≤ top) xs within;
}

abbrev HasEach : (Block → Type 0) → Block → List Block → Bool → Type 0
HasEach P x xs t = Each P (cond t (x ∷ xs) xs)

-- what has bytes now had some then
one_short : (P : Block → Type 0) (x y : Block) (xs ys : List Block) → y.bytes ≤ x.bytes → (P x → P y) → (Each P xs → Each P ys) → (s t : Bool) → has_bytes x ≡ s → has_bytes y ≡ t → HasEach P x xs s → HasEach P y ys t
one_short P x y xs ys l f g true true a b e = (f e.0, g e.1)
one_short P x y xs ys l f g true false a b e = g e.1
one_short P x y xs ys l f g false true a b e = let h : ⊥ = omega (arith, ltb-true 0 y.bytes b, ltb-false 0 x.bytes a, l) in absurd h
one_short P x y xs ys l f g false false a b e = g e

each_short : (P : Block → Type 0) → ((x y : Block) → y.place ≡ x.place → y.bytes ≤ x.bytes → P x → P y) → (xs ys : List Block) → Shorter xs ys → Each P (filter has_bytes xs) → Each P (filter has_bytes ys)
each_short P f [] [] h e = tt
each_short P f [] (y ∷ ys) h e = absurd h
each_short P f (x ∷ xs) [] h e = absurd h
each_short P f (x ∷ xs) (y ∷ ys) h e = one_short P x y (filter has_bytes xs) (filter has_bytes ys) h.1 (f x y h.0 h.1) (each_short P f xs ys h.2) (has_bytes x) (has_bytes y) refl refl e

abbrev HasPairs : Block → List Block → Bool → Type 0
HasPairs x xs t = EachPair IsApart (cond t (x ∷ xs) xs)

pair_short : (x y : Block) (xs ys : List Block) → y.bytes ≤ x.bytes → (Each (IsApart x) xs → Each (IsApart y) ys) → (EachPair IsApart xs → EachPair IsApart ys) → (s t : Bool) → has_bytes x ≡ s → has_bytes y ≡ t → HasPairs x xs s → HasPairs y ys t
pair_short x y xs ys l f g true true a b e = (f e.0, g e.1)
pair_short x y xs ys l f g true false a b e = g e.1
pair_short x y xs ys l f g false true a b e = let h : ⊥ = omega (arith, ltb-true 0 y.bytes b, ltb-false 0 x.bytes a, l) in absurd h
pair_short x y xs ys l f g false false a b e = g e

pairs_short : (xs ys : List Block) → Shorter xs ys → EachPair IsApart (filter has_bytes xs) → EachPair IsApart (filter has_bytes ys)
pairs_short [] [] h e = tt
pairs_short [] (y ∷ ys) h e = absurd h
pairs_short (x ∷ xs) [] h e = absurd h
pairs_short (x ∷ xs) (y ∷ ys) h e =
    pair_short x y (filter has_bytes xs) (filter has_bytes ys) h.1
    (λ apart. each_short (IsApart y) (λ b c same l far. shorter_apart y b c same l far) xs ys h.2
    (each_then (IsApart x) (IsApart y) (λ b far. turned b y (shorter_apart b x y h.0 h.1 (turned x b far))) (filter has_bytes xs) apart))
    (pairs_short xs ys h.2) (has_bytes x) (has_bytes y) refl refl e

-- blocks that get shorter in their places stand, without those that have no bytes any more
pub shorter-stand : (base top : ℕ) (xs ys : List Block) → Stand base top (filter has_bytes xs) → Shorter xs ys → Stand base top (filter has_bytes ys)
shorter-stand base top xs ys s h = record {
  apart = pairs_short xs ys h s.apart;
  some = some_filter ys;
  above = each_short (λ b. base ≤ b.place) (λ x y e l a. omega (arith, e, a)) xs ys h s.above;
  within = each_short (λ b. b.place + b.bytes ≤ top) (λ x y e l a. omega (arith, e, l, a)) xs ys h s.within;
}
