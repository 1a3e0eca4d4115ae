-- The chain of free rows: its length, and how it stands after a row is taken or freed.
use Rattle.std.proofs.Common.{◌≡◌, ◌≢◌, ℕ, zero, suc, ◌+◌, ◌<◌, ◌≤◌, List, [], ◌∷◌, length, Bool, true, false, nat_eq, refl, ap, sym, ◌∙◌, arith}
use Rattle.std.proofs.lemmas.Bool.{or_right, or_left, or_parts, or_from, eq-eqb, ne_eqb, both_ways, eqb-true}
use Rattle.std.proofs.lemmas.List.Elements.{All-cons}
use Rattle.std.proofs.lemmas.Map.Keys.{IsDistinct-head, IsDistinct-cons}
use Rattle.std.proofs.lemmas.Map.Steps.{length-le_from_distinct_below}
use Rattle.std.proofs.lemmas.Map.Views.{Contains-from_any}
use Rattle.std.specs.Prelude.{All}
use Rattle.std.specs.List.{AllByRecursion, IsDistinct, list_any}
use Rattle.nxt_rows.specs.Rows.{chain}

-- ---- tests of a list

pub each_fails : (p : ℕ → Bool) (xs : List ℕ) → list_any p xs ≡ false → AllByRecursion (λ x. p x ≡ false) xs
each_fails p [] none = tt
each_fails p (x ∷ xs) none =
    let parts = or_parts (p x) (list_any p xs) none in
    (parts.0, each_fails p xs parts.1)

pub none_passes : (p : ℕ → Bool) (xs : List ℕ) → AllByRecursion (λ x. p x ≡ false) xs → list_any p xs ≡ false
none_passes p [] each = refl
none_passes p (x ∷ xs) each = or_from (p x) (list_any p xs) each.0 (none_passes p xs each.1)

-- what holds of all numbers of a list holds of one that a test finds
pub All-at : (P : ℕ → Type 0) (xs : List ℕ) (q : ℕ) → All P xs → list_any (nat_eq q) xs ≡ true → P q
All-at P xs q all found =
    let at = Contains-from_any eqb-true q xs found in
    rw (← at.2) (all at.0 q at.1)

-- ---- a chain alone

-- a chain depends on the links of its own rows alone
pub chain-links : (f g : ℕ → ℕ) (k r : ℕ) → ((q : ℕ) → list_any (nat_eq q) (chain f k r) ≡ true → g q ≡ f q) → chain g k r ≡ chain f k r
chain-links f g zero r same = refl
chain-links f g (suc k) zero same = refl
chain-links f g (suc k) (suc r) same =
    let others = chain f k (f (suc r)) in
    let here : g (suc r) ≡ f (suc r) = same (suc r) (or_left (nat_eq (suc r) (suc r)) (list_any (nat_eq (suc r)) others) (eq-eqb (suc r) (suc r) refl)) in
    let more = chain-links f g k (f (suc r)) (λ q found. same q (or_right (nat_eq q (suc r)) (list_any (nat_eq q) others) found)) in
    rw here (ap (λ rs. suc r ∷ rs) more)

-- a chain that ends leaves room unused
pub chain-more : (f : ℕ → ℕ) (k r : ℕ) → length (chain f k r) < k → chain f (suc k) r ≡ chain f k r
chain-more f zero r short = absurd (omega arith)
chain-more f (suc k) zero short = refl
chain-more f (suc k) (suc r) short = ap (λ rs. suc r ∷ rs) (chain-more f k (f (suc r)) (omega arith))

pub chain-less : (f : ℕ → ℕ) (k r : ℕ) → length (chain f (suc k) r) ≤ k → chain f (suc k) r ≡ chain f k r
chain-less f zero zero short = refl
chain-less f zero (suc r) short = absurd (omega arith)
chain-less f (suc k) zero short = refl
chain-less f (suc k) (suc r) short = ap (λ rs. suc r ∷ rs) (chain-less f k (f (suc r)) (omega arith))

pub chain-none : (f : ℕ → ℕ) (k : ℕ) → chain f k 0 ≡ []
chain-none f zero = refl
chain-none f (suc k) = refl

-- 0 ends a chain and is no row of it
pub chain-zero : (f : ℕ → ℕ) (k r : ℕ) → list_any (nat_eq 0) (chain f k r) ≡ false
chain-zero f zero r = refl
chain-zero f (suc k) zero = refl
chain-zero f (suc k) (suc r) =
    let other : nat_eq 0 (suc r) ≡ false = ne_eqb 0 (suc r) (λ e. absurd (omega arith)) in
    rw other (chain-zero f k (f (suc r)))

-- ---- how long a chain is

-- rows above 0 that differ are fewer than all
pub length-rows : (xs : List ℕ) (n : ℕ) → 0 < n → list_any (nat_eq 0) xs ≡ false → All (λ r. r < n) xs → IsDistinct nat_eq xs → length xs < n
length-rows xs n some no_zero within once =
    let all : IsDistinct nat_eq (0 ∷ xs) = IsDistinct-cons nat_eq 0 xs (each_fails (nat_eq 0) xs no_zero) once in
    let below : All (λ r. r < n) (0 ∷ xs) = All-cons (λ r. r < n) 0 xs some within in
    let long : suc (length xs) ≤ n = length-le_from_distinct_below (0 ∷ xs) n all (λ q found. All-at (λ r. r < n) (0 ∷ xs) q below found) in
    omega arith

-- ---- one row more or less

-- the front row is taken
pub chain-taken : (f g : ℕ → ℕ) (n r : ℕ) → 0 < r → IsDistinct nat_eq (chain f n r) → length (chain f n r) < n
    → ((q : ℕ) → q ≢ 0 → q ≢ r → g q ≡ f q) → chain f n r ≡ r ∷ chain g n (f r)
chain-taken f g zero r above once short same = absurd (omega arith)
chain-taken f g (suc n) zero above once short same = absurd (omega arith)
chain-taken f g (suc n) (suc r) above once short same =
    let others = chain f n (f (suc r)) in
    let more : chain f (suc n) (f (suc r)) ≡ others = chain-more f n (f (suc r)) (omega arith) in
    let apart : list_any (nat_eq (suc r)) others ≡ false = none_passes (nat_eq (suc r)) others (IsDistinct-head nat_eq (suc r) others once) in
    let kept : chain g (suc n) (f (suc r)) ≡ chain f (suc n) (f (suc r)) =
    chain-links f g (suc n) (f (suc r)) (λ q found.
    let found' : list_any (nat_eq q) others ≡ true = rw more at found in
    same q (λ e. both_ways _ (chain-zero f n (f (suc r))) (rw e at found')) (λ e. both_ways _ apart (rw e at found'))) in
    ap (λ rs. suc r ∷ rs) (sym (kept ∙ more))

-- a row is put at the front
pub chain-freed : (f g : ℕ → ℕ) (n r : ℕ) → 0 < r → length (chain f n (f 0)) + 1 < n → list_any (nat_eq r) (chain f n (f 0)) ≡ false
    → ((q : ℕ) → q ≢ 0 → q ≢ r → g q ≡ f q) → g r ≡ f 0 → chain g n r ≡ r ∷ chain f n (f 0)
chain-freed f g zero r above short apart same next = absurd (omega arith)
chain-freed f g (suc n) zero above short apart same next = absurd (omega arith)
chain-freed f g (suc n) (suc r) above short apart same next =
    let less : chain f (suc n) (f 0) ≡ chain f n (f 0) = chain-less f n (f 0) (omega arith) in
    let kept : chain g n (f 0) ≡ chain f n (f 0) =
    chain-links f g n (f 0) (λ q found.
    same q (λ e. both_ways _ (chain-zero f n (f 0)) (rw e at found)) (λ e. both_ways _ (rw less at apart) (rw e at found))) in
    rw next (ap (λ rs. suc r ∷ rs) (kept ∙ sym less))

-- the first row of a chain
pub chain-step : (f : ℕ → ℕ) (k r : ℕ) → 0 < r → chain f (suc k) r ≡ r ∷ chain f k (f r)
chain-step f k zero above = absurd (omega arith)
chain-step f k (suc r) above = refl
