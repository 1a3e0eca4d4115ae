-- Pieces of bytes that lie apart stand together in one pool.
use Rattle.std.proofs.Common.{◌≡◌, ℕ, zero, suc, ◌+◌, ◌<◌, ◌≤◌, ◌⊎◌, inl, inr, List, [], ◌∷◌, length, take, drop, get_or, set, replicate, refl, ap, ◌∙◌, arith, length-set, length-take, length-drop}
use Rattle.std.proofs.lemmas.Grind.{get_or-set_at, same_number_lists}
use Rattle.std.proofs.lemmas.List.{get_or-set_other, length-replicate, get_or-take, get_or-drop}
use Rattle.nxt_facts.specs.Pairs.{EachPair}
use Rattle.nxt_facts.proofs.Each.{Each, each_both}
use Rattle.nxt_heap.specs.Dumps.{StandAt}

-- bytes that are to stand from a place on
pub record Piece : Type 0 where
  pub place : ℕ
  pub bytes : List ℕ

-- they stand there
pub record StandsIn (pool : List ℕ) (p : Piece) : Type 0 where
  pub within : p.place + length p.bytes ≤ length pool
  pub are : (k : ℕ) → k < length p.bytes → get_or pool (p.place + k) 0 ≡ get_or p.bytes k 0

abbrev pub Parted : Piece → Piece → Type 0
Parted p q = (p.place + length p.bytes ≤ q.place) ⊎ (q.place + length q.bytes ≤ p.place)

abbrev put : List ℕ → ℕ → List ℕ → List ℕ
put [] at xs = xs
put (b ∷ bs) at xs = set (put bs (at + 1) xs) at b

put_length : (bs : List ℕ) (at : ℕ) (xs : List ℕ) → length (put bs at xs) ≡ length xs
put_length [] at xs = refl
put_length (b ∷ bs) at xs = length-set (put bs (at + 1) xs) at b ∙ put_length bs (at + 1) xs

put_there : (bs : List ℕ) (at : ℕ) (xs : List ℕ) (k : ℕ) → at + length bs ≤ length xs → k < length bs → get_or (put bs at xs) (at + k) 0 ≡ get_or bs k 0
put_there [] at xs k room l = absurd (omega (arith, l))
put_there (b ∷ bs) at xs zero room l = get_or-set_at (put bs (at + 1) xs) at (at + 0) b 0 (omega arith) (omega (arith, put_length bs (at + 1) xs, room))
put_there (b ∷ bs) at xs (suc j) room l =
    get_or-set_other (put bs (at + 1) xs) at (at + suc j) b 0 (λ e. omega (arith, e))
    ∙ ap (λ i. get_or (put bs (at + 1) xs) i 0) (omega arith)
    ∙ put_there bs (at + 1) xs j (omega (arith, room)) (omega (arith, l))

put_beside : (bs : List ℕ) (at : ℕ) (xs : List ℕ) (k : ℕ) → (k < at) ⊎ (at + length bs ≤ k) → get_or (put bs at xs) k 0 ≡ get_or xs k 0
put_beside [] at xs k away = refl
put_beside (b ∷ bs) at xs k (inl low) = get_or-set_other (put bs (at + 1) xs) at k b 0 (λ e. omega (arith, e, low)) ∙ put_beside bs (at + 1) xs k (inl (omega (arith, low)))
put_beside (b ∷ bs) at xs k (inr high) = get_or-set_other (put bs (at + 1) xs) at k b 0 (λ e. omega (arith, e, high)) ∙ put_beside bs (at + 1) xs k (inr (omega (arith, high)))

-- ---- all of them

pub record Together (n : ℕ) (ps : List Piece) : Type 0 where
  pub pool : List ℕ
  pub size : length pool ≡ n
  pub stand : Each (StandsIn pool) ps

kept_beside : (xs : List ℕ) (p q : Piece) → Parted p q → StandsIn xs q → StandsIn (put p.bytes p.place xs) q
kept_beside xs p q away s = record {
  within = omega (arith, put_length p.bytes p.place xs, s.within);
  are = λ k l. put_beside p.bytes p.place xs (q.place + k) (elim away [
    | inl above ↦ inr (omega (arith, above))
    | inr under ↦ inl (omega (arith, under, l))
  ]) ∙ s.are k l;
}

pub together : (n : ℕ) (ps : List Piece) → EachPair Parted ps → Each (λ p. p.place + length p.bytes ≤ n) ps → Together n ps
together n [] apart within = record { pool = replicate n 0; size = length-replicate n 0; stand = tt }
together n (p ∷ ps) apart within =
    let rest = together n ps apart.1 within.1 in
    record {
      pool = put p.bytes p.place rest.pool;
      size = put_length p.bytes p.place rest.pool ∙ rest.size;
      stand = (
        record {
          within = omega (arith, put_length p.bytes p.place rest.pool, rest.size, within.0);
          are = λ k l. put_there p.bytes p.place rest.pool k (omega (arith, rest.size, within.0)) l;
        },
        each_both (Parted p) (StandsIn rest.pool) (StandsIn (put p.bytes p.place rest.pool)) (λ q away s. kept_beside rest.pool p q away s) ps apart.0 rest.stand,
      );
    }

-- so the bytes are that part of the pool
pub stand_at : (pool : List ℕ) (p : Piece) → StandsIn pool p → StandAt pool p.place p.bytes
stand_at pool p s =
    let n = length p.bytes in
    let long : length (take n (drop p.place pool)) ≡ n = omega (arith, length-take n (drop p.place pool), length-drop p.place pool, s.within) in
    record {
      within = s.within;
      are = same_number_lists (take n (drop p.place pool)) p.bytes long (λ k below.
          let less : k < n = omega (arith, below, long) in
          get_or-take n (drop p.place pool) k 0 less ∙ get_or-drop p.place pool k 0 ∙ s.are k less);
    }
