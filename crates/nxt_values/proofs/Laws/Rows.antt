-- How many rows have a list, and how long the table of rows gets.
use Rattle.std.proofs.Common.{◌≡◌, ℕ, suc, ◌+◌, ◌*◌, ◌<◌, ◌≤◌, max, Bool, true, false, cond, ◌||◌, ◌==◌, List, [], ◌∷◌, sum_by, length, get_or, Option, Some, None, is_some, refl, sym, ap, ◌∙◌, subst, arith, eqb-true}
use Rattle.std.specs.List.{list_any}
use Rattle.std.proofs.Math.Seq.{take-length}
use Rattle.std.proofs.lemmas.List.{get_or-set_other}
use Rattle.std.proofs.lemmas.List.Sums.{sum_by-cons, sum_by-set}
use Rattle.nxt_types.specs.Shapes.{Members}
use Rattle.nxt_types.specs.declared.shape.TocEntry.{TocEntry}
use Rattle.nxt_model.specs.Values.{lists_in}
use Rattle.nxt_types.specs.Pool.{round4}
use Rattle.nxt_facts.proofs.Each.{Each, each_then, each_both}
use Rattle.nxt_facts.proofs.Sums.{is_it}
use Rattle.nxt_facts.proofs.SumsBelow.{sums_same}
use Rattle.nxt_heap.specs.Lists.{Lists, ByteList, list_at, with_list, block_of, IsAlive}
use Rattle.nxt_values.specs.Held.{values_in, rows_among, IsHeld}
use Rattle.nxt_facts.specs.Pairs.{EachPair}
use Rattle.nxt_values.specs.Writes.{without}
use Rattle.nxt_values.specs.Fills.{living, Spends}
use Rattle.nxt_values.proofs.Hold.Frames.{KeepsList, KeepLists}
use Rattle.nxt_values.proofs.Laws.HeldSizes.{lists_counted}
use Rattle.nxt_values.proofs.Laws.HeldRows.{all_alive}
use Rattle.nxt_values.proofs.Laws.HeldRows.{alive_within, below_listed, own_below, rows_within, sum_one}
use Rattle.nxt_values.proofs.Laws.Needs.{bit}
use Rattle.nxt_values.proofs.Laws.Without.{Differ}

-- ---- rows of the variables

first_named : (P : ℕ → Type 0) (x r : ℕ) (b c : Bool) → (x == r) ≡ b → P x → (c ≡ true → P r) → (b || c) ≡ true → P r
first_named P x r true c is p rest e = subst P (eqb-true x r is) p
first_named P x r false c is p rest e = rest e

named_is : (P : ℕ → Type 0) (r : ℕ) (xs : List ℕ) → Each P xs → list_any (is_it r) xs ≡ true → P r
named_is P r [] each e = let f : ⊥ = cc in absurd f
named_is P r (x ∷ xs) each e =
    first_named P x r (x == r) (list_any (is_it r) xs) refl each.0 (named_is P r xs each.1) e

bit_named : (o : Option ByteList) (any : Bool) → (is_some o ≡ true → any ≡ true) → (any ≡ true → is_some o ≡ true) → cond any 1 0 ≡ bit o
bit_named None true named alive = let f : ⊥ = cc (alive refl) in absurd f
bit_named None false named alive = refl
bit_named (Some l) true named alive = refl
bit_named (Some l) false named alive = let f : ⊥ = cc (named refl) in absurd f

-- as many rows have a list as there are lists
pub held_living : (table : List TocEntry) (ss : Members) (h : Lists) → IsHeld table ss h → living h ≡ lists_in (values_in table ss h)
held_living table ss h e =
    let rows = rows_among table h ss 0 h.static_bytes 0 in
    let n = length h.by_row in
    let alive = all_alive table h ss 0 h.static_bytes 0 e.holds in
    sym
    (lists_counted table ss h
    ∙ sym (sum_one rows)
    ∙ own_below (λ r. 1) n rows e.own (rows_within table ss h e)
    ∙ sums_same
    (λ r. cond (list_any (is_it r) rows) 1 0)
    (λ r. bit (list_at h r))
    n
    (λ r less. bit_named (list_at h r) (list_any (is_it r) rows) (e.named r) (named_is (IsAlive h) r rows alive))
    ∙ below_listed bit h.by_row None n (omega arith)
    ∙ ap (sum_by bit) (take-length h.by_row))

-- ---- rows that are freed

-- where the lists of other rows are freed, so many fewer have one
pub living_without : (h : Lists) (rows : List ℕ) → Each (IsAlive h) rows → EachPair Differ rows → living (without h rows) + length rows ≡ living h
living_without h [] alive own = omega arith
living_without h (x ∷ xs) alive own =
    let g = with_list h x None in
    let kept : KeepLists h g xs = each_then (Differ x) (KeepsList h g) (λ r other. get_or-set_other h.by_row x r None None (λ same. other (sym same))) xs own.0 in
    let still : Each (IsAlive g) xs = each_both (IsAlive h) (KeepsList h g) (IsAlive g) (λ r a k. ap is_some k ∙ a) xs alive.1 kept in
    let some : bit (list_at h x) ≡ 1 = ap (λ t. cond t 1 0) alive.0 in
    let one : sum_by bit g.by_row + bit (list_at h x) ≡ living h + 0 = sum_by-set bit h.by_row x None None (alive_within h x alive.0) in
    omega (arith, living_without g xs still own.1, one, some)

-- ---- no rows

record NoLists (xs : List (Option ByteList)) : Type 0 where
  living : sum_by bit xs ≡ 0
  blocks : sum_by block_of xs ≡ 0

no_lists : (xs : List (Option ByteList)) → ((row : ℕ) → is_some (get_or xs row None) ≡ true → ⊥) → NoLists xs
no_lists [] none = record { living = refl; blocks = refl }
no_lists (None ∷ xs) none =
    let rest = no_lists xs (λ row. none (suc row)) in
    record {
      living = sum_by-cons bit None xs ∙ omega (arith, rest.living);
      blocks = sum_by-cons block_of None xs ∙ omega (arith, rest.blocks);
    }
no_lists (Some l ∷ xs) none = absurd (none 0 refl)

-- a heap in which no row has a list
pub none_living : (h : Lists) → ((row : ℕ) → IsAlive h row → ⊥) → (living h ≡ 0) × (sum_by block_of h.by_row ≡ 0)
none_living h none = let e = no_lists h.by_row none in (e.living, e.blocks)

-- ---- the table of rows

round_own : (a b : ℕ) → round4 (10 * a) ≡ round4 (10 * b) → a ≡ b
round_own a b e = omega (arith, e)

last_more : (k n : ℕ) → k ≤ n → max k n ≡ n
last_more k n less = omega arith

first_more : (k n : ℕ) → n ≤ k → max k n ≡ k
first_more k n less = omega arith

-- where so many lists were taken, and row 0 has none, the table got longer only for what its rows didn't hold
pub spent_rows : (h g : Lists) (lists bytes : ℕ) → Spends h g lists bytes → living g ≡ living h + lists → living g < length g.by_row → length g.by_row ≡ max (length h.by_row) (living g + 1)
spent_rows h g lists bytes spends more some =
    let k = length h.by_row in
    let n = length g.by_row in
    let m = k + n in
    let far : max k (living h + (lists + m) + 1) ≡ living g + m + 1 = last_more k (living h + (lists + m) + 1) (omega arith) ∙ omega (arith, more) in
    let long : max n (living g + m + 1) ≡ living g + m + 1 = last_more n (living g + m + 1) (omega arith) in
    let near : max k (living h + (lists + 0) + 1) ≡ max k (living g + 1) =
    let e : living h + (lists + 0) + 1 ≡ living g + 1 = omega (arith, more) in ap (max k) e in
    let own : max n (living g + 0 + 1) ≡ n = first_more n (living g + 0 + 1) (omega (arith, some)) in
    let most = spends m 0 in
    let now = spends 0 0 in
    let same : round4 (10 * max k (living g + 1)) ≡ round4 (10 * n) =
    omega (
      arith,
      most,
      now,
      ap (λ r. round4 (10 * r)) far,
      ap (λ r. round4 (10 * r)) long,
      ap (λ r. round4 (10 * r)) near,
      ap (λ r. round4 (10 * r)) own,
    )
    in
    sym (round_own (max k (living g + 1)) n same)
