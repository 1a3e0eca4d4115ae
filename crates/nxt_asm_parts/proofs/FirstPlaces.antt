-- The first table entries of shapes, and the return variables of blocks.
use Rattle.std.proofs.Common.{◌≡◌, ℕ, zero, suc, ◌+◌, ◌<◌, ◌≤◌, List, [], ◌∷◌, ◌++◌, length, take, slice_index_or, sum_by, refl, sym, ap, ap₂, ◌∙◌, length-append, length-take, Bool, true, false, min, nat_le, ◌^◌, ◌-◌, take_all, arith}
use Rattle.std.proofs.lemmas.Bool.Decides.{nat_tests}
use Rattle.std.proofs.lemmas.List.{take_more}
use Rattle.std.proofs.lemmas.List.Sums.{sum_by-cons}
use Rattle.std.proofs.lemmas.List.Elements.{filter-append}
use Rattle.nxt_types.specs.Shapes.{Shape}
use Rattle.nxt_types.specs.Names.{size}
use Rattle.nxt_model.specs.declared.nbc.NbcBlock.{NbcBlock}
use Rattle.nxt_model.specs.TextProgram.{subroutines, variable_number}
use Rattle.nxt_asm_parts.specs.Firsts.{firsts_from, firsts_of, before_from}
use Rattle.nxt_asm_parts.specs.Measures.{held}
use Rattle.nxt_asm_parts.specs.declared.firsts.FirstEntries.{FirstEntries}
use Rattle.nxt_asm_parts.proofs.Laws.Words.{past_one, past_none, from_zero}

-- ---- first entries

firsts_push : (here : ℕ) (ss : List Shape) (s : Shape) → firsts_from here (ss ++ s ∷ []) ≡ firsts_from here ss ++ held (here + sum_by size ss) ∷ []
firsts_push here [] s = ap (λ h. held h ∷ []) (past_none here)
firsts_push here (x ∷ xs) s =
    ap (λ l. held here ∷ l) (firsts_push (here + size x) xs s)
    ∙ ap (λ h. held here ∷ firsts_from (here + size x) xs ++ held h ∷ []) (past_one size here x xs)

sum_push : (ss : List Shape) (s : Shape) → sum_by size (ss ++ s ∷ []) ≡ sum_by size ss + size s
sum_push [] s = omega (arith, sum_by-cons size s [])
sum_push (x ∷ xs) s =
    let more = sum_push xs s in
    let left = sum_by-cons size x (xs ++ s ∷ []) in
    let right = sum_by-cons size x xs in
    omega (arith, more, left, right)

-- one more shape
pub first_more : (ss : List Shape) (s : Shape) (now next : FirstEntries) (entries behind : ℕ) → entries ≡ held (size s) → now ≡ firsts_of ss
    → next.of_each ≡ now.of_each ++ now.behind ∷ [] → next.behind ≡ behind → behind ≡ held (now.behind + entries) → next ≡ firsts_of (ss ++ s ∷ [])
first_more ss s now next entries behind size_is is pushed kept sum =
    let each : next.of_each ≡ firsts_from 0 (ss ++ s ∷ []) =
    pushed
    ∙ ap₂ (λ l h. l ++ h ∷ []) (ap (λ f. f.of_each) is) (ap (λ f. f.behind) is ∙ ap held (from_zero (sum_by size ss)))
    ∙ sym (firsts_push 0 ss s) in
    let known : now.behind ≡ held (sum_by size ss) = ap (λ f. f.behind) is in
    let whole : next.behind ≡ held (sum_by size (ss ++ s ∷ [])) = by (sum_by size ss) (size s) (sum_by size (ss ++ s ∷ [])) now.behind entries behind next.behind known (sum_push ss s) size_is kept sum in
    λ i. record { of_each = each i; behind = whole i }
  where
    by : (a b c n m h k : ℕ) → n ≡ held a → c ≡ a + b → m ≡ held b → k ≡ h → h ≡ held (n + m) → k ≡ held c
    by a b c n m h k e f g i j = omega (arith, e, f, g, i, j)

first_at : (here : ℕ) (ss : List Shape) (n : ℕ) → slice_index_or (firsts_from here ss) n (held (here + sum_by size ss)) ≡ held (here + variable_number ss n)
first_at here [] zero = refl
first_at here [] (suc n) = refl
first_at here (s ∷ ss) zero = ap held (past_none here)
first_at here (s ∷ ss) (suc n) =
    ap (λ h. slice_index_or (firsts_from (here + size s) ss) n (held h)) (sym (past_one size here s ss))
    ∙ first_at (here + size s) ss n
    ∙ ap held (past_one size here s (take n ss))

-- the entry of a shape, or the one behind them all
pub first_in : (ss : List Shape) (n : ℕ) → slice_index_or (firsts_from 0 ss) n (held (sum_by size ss)) ≡ held (variable_number ss n)
first_in ss n =
    ap (λ h. slice_index_or (firsts_from 0 ss) n (held h)) (from_zero (sum_by size ss))
    ∙ first_at 0 ss n
    ∙ ap held (sym (from_zero (variable_number ss n)))

pub length-firsts : (here : ℕ) (ss : List Shape) → length (firsts_from here ss) ≡ length ss
length-firsts here [] = refl
length-firsts here (s ∷ ss) = ap suc (length-firsts (here + size s) ss)

-- past them all
pub number_past : (ss : List Shape) (n m k l : ℕ) → l ≡ length ss → m ≡ min (n + k) (2 ^ 64 - 1) → l < 2 ^ 64 → variable_number ss (min m l) ≡ variable_number ss (n + k)
number_past ss n m k l long sum small = by (nat_le l (n + k)) refl
  where
    by : (b : Bool) → nat_le l (n + k) ≡ b → variable_number ss (min m l) ≡ variable_number ss (n + k)
    by true e =
        let over : length ss ≤ n + k = grind (arith, nat_tests, e, long) in
        let most : length ss ≤ min m l = grind (arith, sum, small, over, long) in
        ap (sum_by size) (take_all (min m l) ss most ∙ sym (take_all (n + k) ss over))
    by false e =
        let under : n + k < l = grind (arith, nat_tests, e) in
        let same : min m l ≡ n + k = grind (arith, sum, small, under) in
        ap (variable_number ss) same

-- ---- return variables

past_block : (n : ℕ) (x : NbcBlock) (xs : List NbcBlock) → n + length (subroutines (x ∷ [])) + length (subroutines xs) ≡ n + length (subroutines (x ∷ xs))
past_block n x xs =
    let apart = filter-append (λ b. b.subroutine) (x ∷ []) xs in
    let long = ap length apart ∙ length-append (subroutines (x ∷ [])) (subroutines xs) in
    by (length (subroutines (x ∷ []))) (length (subroutines xs)) (length (subroutines (x ∷ xs))) long
  where
    by : (a b c : ℕ) → c ≡ a + b → n + a + b ≡ n + c
    by a b c e = omega (arith, e)

before_push : (n : ℕ) (bs : List NbcBlock) (b : NbcBlock) → before_from n (bs ++ b ∷ []) ≡ before_from n bs ++ (n + length (subroutines bs)) ∷ []
before_push n [] b = ap (λ m. m ∷ []) (past_none n)
before_push n (x ∷ xs) b =
    ap (λ l. n ∷ l) (before_push (n + length (subroutines (x ∷ []))) xs b)
    ∙ ap (λ m. n ∷ before_from (n + length (subroutines (x ∷ []))) xs ++ m ∷ []) (past_block n x xs)

-- one more block
pub count_more : (bs : List NbcBlock) (i : ℕ) (b : NbcBlock) (n m : ℕ) → i < length bs → b ≡ slice_index_or bs i b → n ≡ length (subroutines (take i bs))
    → m ≡ n + length (subroutines (b ∷ [])) → m ≡ length (subroutines (take (i + 1) bs))
count_more bs i b n m lt is known next =
    let more = take_more bs i b lt ∙ ap (λ x. take i bs ++ x ∷ []) (sym is) in
    let apart = ap (λ l. length (subroutines l)) more ∙ ap length (filter-append (λ x. x.subroutine) (take i bs) (b ∷ [])) ∙ length-append (subroutines (take i bs)) (subroutines (b ∷ [])) in
    next ∙ ap (λ k. k + length (subroutines (b ∷ []))) known ∙ sym apart

pub before_more : (bs : List NbcBlock) (i : ℕ) (b : NbcBlock) (n : ℕ) (ns ms : List ℕ) → i < length bs → b ≡ slice_index_or bs i b → n ≡ length (subroutines (take i bs))
    → ns ≡ before_from 0 (take i bs) → ms ≡ ns ++ n ∷ [] → ms ≡ before_from 0 (take (i + 1) bs)
before_more bs i b n ns ms lt is known all pushed =
    let more = take_more bs i b lt ∙ ap (λ x. take i bs ++ x ∷ []) (sym is) in
    pushed ∙ ap₂ (λ l k. l ++ k ∷ []) all (known ∙ from_zero (length (subroutines (take i bs)))) ∙ sym (before_push 0 (take i bs) b) ∙ ap (before_from 0) (sym more)

-- at most each block is a subroutine
pub few_subroutines : (bs : List NbcBlock) (i n : ℕ) → n ≡ length (subroutines (take i bs)) → n ≤ i
few_subroutines bs i n is =
    let few = filter_length (take i bs) in
    let short = length-take i bs in
    omega (arith, is, few, short)
  where
    filter_length : (xs : List NbcBlock) → length (subroutines xs) ≤ length xs
    filter_length [] = omega arith
    filter_length (x ∷ xs) =
        let one = past_block 0 x xs in
        let rest = filter_length xs in
        let this = of_one x x.subroutine refl in
        omega (arith, one, rest, this)
      where
        of_one : (x : NbcBlock) (b : Bool) → x.subroutine ≡ b → length (subroutines (x ∷ [])) ≤ 1
        of_one x b e = grind (arith, e)

before_at : (n : ℕ) (bs : List NbcBlock) (k : ℕ) → slice_index_or (before_from n bs) k (n + length (subroutines bs)) ≡ n + length (subroutines (take k bs))
before_at n [] zero = refl
before_at n [] (suc k) = refl
before_at n (b ∷ bs) zero = past_none n
before_at n (b ∷ bs) (suc k) =
    ap (slice_index_or (before_from (n + length (subroutines (b ∷ []))) bs) k) (sym (past_block n b bs))
    ∙ before_at (n + length (subroutines (b ∷ []))) bs k
    ∙ past_block n b (take k bs)

-- the place of a block's return variable, or how many there are
pub place_in : (bs : List NbcBlock) (k : ℕ) → slice_index_or (before_from 0 bs) k (length (subroutines bs)) ≡ length (subroutines (take k bs))
place_in bs k =
    ap (slice_index_or (before_from 0 bs) k) (from_zero (length (subroutines bs)))
    ∙ before_at 0 bs k
    ∙ sym (from_zero (length (subroutines (take k bs))))
