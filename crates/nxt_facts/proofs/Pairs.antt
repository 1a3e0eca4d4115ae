-- Facts on each pair of elements.
use Rattle.std.proofs.Common.{ℕ, zero, suc, ◌<◌, List, [], ◌∷◌, ◌++◌, length, get_or, AllPairs, arith}
use Rattle.nxt_facts.proofs.Each.{Each, each_apart, each_both, each_from, each_join}
use Rattle.nxt_facts.specs.Pairs.{EachPair}

-- R holds of each element of the one list and each of the other
abbrev pub Across : {X : Type 0} → (X → X → Type 0) → List X → List X → Type 0
Across R xs ys = Each (λ x. Each (R x) ys) xs

-- what holds in two parts of a list, and across them
pub record PairParts {X : Type 0} (R : X → X → Type 0) (xs ys : List X) : Type 0 where
  pub first : EachPair R xs
  pub rest : EachPair R ys
  pub across : Across R xs ys

pub pair_parts : {X : Type 0} (R : X → X → Type 0) (xs ys : List X) → EachPair R (xs ++ ys) → PairParts R xs ys
pair_parts R [] ys e = record { first = tt; rest = e; across = tt }
pair_parts R (x ∷ xs) ys e =
    let two = each_apart (R x) xs ys e.0 in
    let parts = pair_parts R xs ys e.1 in
    record { first = (two.0, parts.first); rest = parts.rest; across = (two.1, parts.across) }

pub pair_join : {X : Type 0} (R : X → X → Type 0) (xs ys : List X) → EachPair R xs → EachPair R ys → Across R xs ys → EachPair R (xs ++ ys)
pair_join R [] ys a b e = b
pair_join R (x ∷ xs) ys a b e = (each_join (R x) xs ys a.0 e.0, pair_join R xs ys a.1 b e.1)

pub turned : {X : Type 0} (R : X → X → Type 0) (xs ys : List X) → Across R xs ys → Each (λ y. Each (λ x. R x y) xs) ys
turned R [] ys e = each_from (λ y. Unit {0}) (λ y. tt) ys
turned R (x ∷ xs) ys e =
    each_both (R x) (λ y. Each (λ z. R z y) xs) (λ y. Each (λ z. R z y) (x ∷ xs)) (λ y a b. (a, b)) ys e.0 (turned R xs ys e.1)

each_at_all : {X : Type 0} (P : X → Type 0) (d : X) (xs : List X) → ((k : ℕ) → k < length xs → P (get_or xs k d)) → Each P xs
each_at_all P d [] h = tt
each_at_all P d (x ∷ xs) h = (h 0 (omega arith), each_at_all P d xs (λ k less. h (suc k) (omega (arith, less))))

pub each_pair : {X : Type 0} (R : X → X → Type 0) (xs : List X) → AllPairs R xs → EachPair R xs
each_pair R [] e = tt
each_pair R (x ∷ xs) e = (
  each_at_all (R x) x xs (λ k less. e 0 (suc k) x (omega arith) (omega (arith, less))),
  each_pair R xs (λ i j d a b. e (suc i) (suc j) d (omega (arith, a)) (omega (arith, b))),
)

each_at : {X : Type 0} (P : X → Type 0) (xs : List X) (k : ℕ) (d : X) → Each P xs → k < length xs → P (get_or xs k d)
each_at P [] k d e h = let f : ⊥ = omega (arith, h) in absurd f
each_at P (x ∷ xs) zero d e h = e.0
each_at P (x ∷ xs) (suc k) d e h = each_at P xs k d e.1 (omega (arith, h))

pub all_pairs : {X : Type 0} (R : X → X → Type 0) (xs : List X) → EachPair R xs → AllPairs R xs
all_pairs R [] e i j d less within = let f : ⊥ = omega (arith, within) in absurd f
all_pairs R (x ∷ xs) e i zero d less within = let f : ⊥ = omega (arith, less) in absurd f
all_pairs R (x ∷ xs) e zero (suc j) d less within = each_at (R x) xs j d e.0 (omega (arith, within))
all_pairs R (x ∷ xs) e (suc i) (suc j) d less within = all_pairs R xs e.1 i j d (omega (arith, less)) (omega (arith, within))
