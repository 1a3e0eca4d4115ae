-- Rows with lists and rows without, each once.
use Rattle.std.proofs.Common.{◌≡◌, ◌≢◌, ℕ, zero, suc, ◌+◌, ◌-◌, ◌<◌, Bool, true, false, cond, ◌||◌, ◌==◌, nat_eq, List, [], ◌∷◌, ◌++◌, AllPairs, All, inl, inr, refl, sym, ap, ap₂, ◌∙◌, arith, ltb-true, eq-eqb, ne_eqb}
use Rattle.std.specs.List.{list_any, IsDistinct}
use Rattle.std.proofs.lemmas.Bool.{cases_eq, ltb-false, false≢true}
use Rattle.nxt_facts.specs.Pairs.{EachPair}
use Rattle.nxt_facts.specs.Sums.{sum_below}
use Rattle.nxt_facts.proofs.Each.{Each, each_then, each_join}
use Rattle.nxt_facts.proofs.Pairs.{all_pairs}
use Rattle.nxt_facts.proofs.Sums.{tally, tally_is, tally-append, any_is, is_it}
use Rattle.nxt_facts.proofs.SumsBelow.{sums_same, counted_below}
use Rattle.nxt_model.specs.Dump.{EachOnce}
use Rattle.nxt_values.proofs.Laws.HeldRows.{own_once}

-- ---- tests of equality

flip : (r q : ℕ) → nat_eq r q ≡ (q == r)
flip r q = elim (cases_eq r q) [
  | inl e ↦ eq-eqb r q e ∙ sym (eq-eqb q r (sym e))
  | inr other ↦ ne_eqb r q other ∙ sym (ne_eqb q r (λ e. other (sym e)))
]

any_flip : (r : ℕ) (xs : List ℕ) → list_any (nat_eq r) xs ≡ list_any (is_it r) xs
any_flip r [] = refl
any_flip r (x ∷ xs) = ap₂ (λ (a b : Bool). a || b) (flip r x) (any_flip r xs)

differ_by : (x y : ℕ) → nat_eq x y ≡ false → x ≢ y
differ_by x y e same = false≢true (sym e ∙ eq-eqb x y same)

distinct_pairs : (xs : List ℕ) → IsDistinct nat_eq xs → EachPair (λ a b. a ≢ b) xs
unfolding IsDistinct
distinct_pairs [] e = tt
distinct_pairs (x ∷ xs) e = (each_then (λ y. nat_eq x y ≡ false) (λ y. x ≢ y) (differ_by x) xs e.0, distinct_pairs xs e.1)

each_of_all : (P : ℕ → Type 0) (xs : List ℕ) → All P xs → Each P xs
each_of_all P [] all = tt
each_of_all P (x ∷ xs) all = (all 0 x (omega arith), each_of_all P xs (λ k d less. all (suc k) d (omega (arith, less))))

-- ---- how often a row stands there

none_there : (r : ℕ) (xs : List ℕ) → list_any (is_it r) xs ≡ false → tally (is_it r) xs ≡ 0
none_there r xs e = omega (arith, ltb-false 0 (tally (is_it r) xs) (sym (any_is (is_it r) xs) ∙ e))

once_there : (r : ℕ) (xs : List ℕ) → AllPairs (λ a b. a ≢ b) xs → list_any (is_it r) xs ≡ true → tally (is_it r) xs ≡ 1
once_there r xs own e = omega (arith, own_once r xs own, ltb-true 0 (tally (is_it r) xs) (sym (any_is (is_it r) xs) ∙ e))

abbrev unless : Bool → ℕ
unless t = cond t 0 1

ones : (n : ℕ) → sum_below (λ r. unless (r == 0)) (suc n) ≡ n
ones zero = refl
ones (suc n) = omega (arith, ones n, ap unless (ne_eqb (suc n) 0 (λ e. omega (arith, e))))

at_by : (r : ℕ) (rows free : List ℕ) (b : Bool) → list_any (nat_eq r) free ≡ b → AllPairs (λ a b. a ≢ b) rows → AllPairs (λ a b. a ≢ b) free → (list_any (nat_eq r) free ≡ true → list_any (is_it r) rows ≡ false) → (list_any (nat_eq r) free ≡ false → list_any (is_it r) rows ≡ true) → tally (is_it r) (rows ++ free) ≡ 1
at_by r rows free true is own pairs one other = omega (arith, tally-append (is_it r) rows free, none_there r rows (one is), once_there r free pairs (sym (any_flip r free) ∙ is))
at_by r rows free false is own pairs one other = omega (arith, tally-append (is_it r) rows free, once_there r rows own (other is), none_there r free (sym (any_flip r free) ∙ is))

-- lists of rows of which each row above 0 is in one
pub each_once : (n : ℕ) (rows free : List ℕ) → 0 < n → AllPairs (λ a b. a ≢ b) rows → IsDistinct nat_eq free → Each (λ r. r < n) rows → All (λ r. r < n) free → list_any (is_it 0) rows ≡ false → list_any (nat_eq 0) free ≡ false
    → ((r : ℕ) → 0 < r → r < n → list_any (nat_eq r) free ≡ true → list_any (is_it r) rows ≡ false) → ((r : ℕ) → 0 < r → r < n → list_any (nat_eq r) free ≡ false → list_any (is_it r) rows ≡ true) → EachOnce n (rows ++ free)
each_once n rows free some own once within less first last one other =
    let pairs = all_pairs (λ a b. a ≢ b) free (distinct_pairs free once) in
    let both : (r : ℕ) → tally (is_it r) (rows ++ free) ≡ tally (is_it r) rows + tally (is_it r) free = λ r. tally-append (is_it r) rows free in
    let zeros : tally (is_it 0) (rows ++ free) ≡ 0 = omega (arith, both 0, none_there 0 rows first, none_there 0 free (sym (any_flip 0 free) ∙ last)) in
    let at : (r : ℕ) → 0 < r → r < n → tally (is_it r) (rows ++ free) ≡ 1 = λ r above below. at_by r rows free (list_any (nat_eq r) free) refl own pairs (one r above below) (other r above below) in
    let every : (r : ℕ) → r < n → tally (is_it r) (rows ++ free) ≡ unless (r == 0) = λ r below. elim (cases_eq r 0) [
      | inl e ↦ ap (λ q. tally (is_it q) (rows ++ free)) e ∙ zeros ∙ sym (ap unless (eq-eqb r 0 e))
      | inr e ↦ at r (omega (arith, e)) below ∙ sym (ap unless (ne_eqb r 0 e))
    ] in
    let whole : suc (n - 1) ≡ n = omega (arith, some) in (
      omega (
        arith,
        counted_below n (rows ++ free) (each_join (λ r. r < n) rows free within (each_of_all (λ r. r < n) free less)),
        sums_same (λ r. tally (is_it r) (rows ++ free)) (λ r. unless (r == 0)) n every,
        ap (sum_below (λ r. unless (r == 0))) (sym whole),
        ones (n - 1),
        some,
      ),
      λ r above below. tally_is (is_it r) (rows ++ free) ∙ at r above below,
    )
