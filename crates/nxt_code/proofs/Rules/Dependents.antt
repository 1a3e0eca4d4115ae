-- The dependents of clumps, taken one clump after another.
use Rattle.std.proofs.Common.{◌≡◌, ℕ, zero, suc, ◌+◌, ◌<◌, ◌≤◌, List, [], ◌∷◌, take, drop, length, refl, sym, ap, ◌∙◌, arith, add-one, get_or, Some, false}
use Rattle.std.specs.Prelude.{slice_get, nat_le}
use Rattle.std.proofs.lemmas.List.{drop_more, length-drop}
use Rattle.std.proofs.lemmas.List.Sums.{sum_by-drop_more}
use Rattle.nxt_rxe.specs.Files.{dependent_count}
use Rattle.std.proofs.lemmas.Option.{slice_get_past}
use Rattle.nxt_types.specs.declared.lists.ClumpRec.{ClumpRec}
use Rattle.nxt_types.specs.Refusals.{passes}
use Rattle.nxt_code.specs.CodeRules.{dependent_lists, dependent_in, names_no_clump}

get_front : {X : Type 0} (xs : List X) (i : ℕ) (y : X) (ys : List X) → drop i xs ≡ y ∷ ys → slice_get xs i ≡ Some y
get_front [] zero y ys e = absurd (let f : ⊥ = cc in f)
get_front [] (suc i) y ys e = absurd (let f : ⊥ = cc in f)
get_front (x ∷ xs) zero y ys e = let f : x ≡ y = cc in ap (λ z. Some z) f
get_front (x ∷ xs) (suc i) y ys e = get_front xs i y ys e

drop_front : {X : Type 0} (xs : List X) (i : ℕ) (y : X) (ys : List X) → drop i xs ≡ y ∷ ys → drop (suc i) xs ≡ ys
drop_front [] zero y ys e = absurd (let f : ⊥ = cc in f)
drop_front [] (suc i) y ys e = absurd (let f : ⊥ = cc in f)
drop_front (x ∷ xs) zero y ys e = cc
drop_front (x ∷ xs) (suc i) y ys e = drop_front xs i y ys e

module _ (cs : List ClumpRec) (ds rest : List ℕ) (i n : ℕ) (d : ClumpRec) (within : i < length cs) (own : n ≡ (get_or cs i d).dependents)
    (lists : drop i (dependent_lists cs ds) ≡ dependent_lists (drop i cs) rest) where
  -- the lists from clump i on are its own dependents and those of the clumps behind it
  lists_at : drop i (dependent_lists cs ds) ≡ take n rest ∷ dependent_lists (drop (i + 1) cs) (drop n rest)
  lists_at =
      lists ∙ ap (λ xs. dependent_lists xs rest) (drop_more cs i d within)
      ∙ ap (λ k. take k rest ∷ dependent_lists (drop (i + 1) cs) (drop k rest)) (sym own)

  pub own_dependent : (k : ℕ) → names_no_clump cs ds i k ≡ passes (nat_le (length cs)) (slice_get (take n rest) k)
  own_dependent k = ap (λ o. passes (nat_le (length cs)) (dependent_in o k)) (get_front (dependent_lists cs ds) i _ _ lists_at)

  pub lists_behind : drop (i + 1) (dependent_lists cs ds) ≡ dependent_lists (drop (i + 1) cs) (drop n rest)
  lists_behind = ap (λ n. drop n (dependent_lists cs ds)) (add-one i) ∙ drop_front (dependent_lists cs ds) i _ _ lists_at

  pub count_behind : length rest ≡ dependent_count (drop i cs) → length (drop n rest) ≡ dependent_count (drop (i + 1) cs)
  count_behind counted =
      let more = sum_by-drop_more (λ (c : ClumpRec). c.dependents) cs i d within in
      let less = length-drop n rest in
      omega (arith, more, less, counted, own)

count_lists : (cs : List ClumpRec) (ds : List ℕ) → length (dependent_lists cs ds) ≡ length cs
count_lists [] ds = refl
count_lists (c ∷ cs) ds = ap suc (count_lists cs (drop c.dependents ds))

pub no_clump_behind : (cs : List ClumpRec) (ds : List ℕ) (c k : ℕ) → length cs ≤ c → names_no_clump cs ds c k ≡ false
no_clump_behind cs ds c k l =
    let n = count_lists cs ds in
    ap (λ o. passes (nat_le (length cs)) (dependent_in o k)) (slice_get_past (dependent_lists cs ds) c (omega (arith, n, l)))
