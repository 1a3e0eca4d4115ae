-- The first broken rule of a program, and programs that keep all rules.
use Rattle.std.proofs.Common.{◌≡◌, ℕ, zero, suc, ◌<◌, ◌≤◌, Bool, true, false, ◌&&◌, ◌||◌, ◌==◌, List, [], ◌∷◌, Option, Some, None, refl, sym, ap, ap₂, ◌∙◌, subst, arith, eq-eqb}
use Rattle.std.specs.Prelude.{nat_lt, option_map, IsTrue}
use Rattle.std.proofs.lemmas.Bool.Decides.{Decides-eqb, nat_tests}
use Rattle.nxt_types.specs.Pool.{pool_size}
use Rattle.nxt_types.specs.Refusals.{comes_first, passes, IsAccepted}
use Rattle.nxt_model.specs.TextProgram.{Text}
use Rattle.nxt_asm_parts.specs.Measures.{held}
use Rattle.nxt_asm_rules.specs.declared.fault.AsmFault.{AsmFault}
use Rattle.nxt_asm_rules.specs.declared.fault.AsmFault.TheVariants.{FarJump, TooLarge, PoolPassed, NoMemory}
use Rattle.nxt_asm_rules.specs.AsmRules.{Broken, code_size, entry_count, far_in_blocks, is_too_large, large_element, rank, start_footprint}
use Rattle.nxt_asm_rules.specs.Kept.{KeepsSize, KeepsSizes, KeepsJumps, Refuses}

-- ---- tests

same_number : (m n : ℕ) → (m == n) ≡ true → m ≡ n
same_number m n e = (Decides-eqb m n).0 e

both_of : (a b : Bool) → (a && b) ≡ true → (a ≡ true) × (b ≡ true)
both_of true b e = (refl, e)
both_of false b e = absurd (grind arith)

-- a number that is another one, which passes no test
no_match : (m n : ℕ) (test : ℕ → Bool) → test n ≡ false → ((m == n) && test m) ≡ false
no_match m n test fails = by (m == n) refl
  where
    by : (b : Bool) → (m == n) ≡ b → (b && test m) ≡ false
    by true e = ap test (same_number m n e) ∙ fails
    by false e = refl

passes_none : (n : ℕ) (o : Option ℕ) → o ≡ None → passes (λ m. m == n) o ≡ false
passes_none n o is = ap (passes (λ m. m == n)) is

passes_one : (n : ℕ) (o : Option ℕ) → o ≡ Some n → passes (λ m. m == n) o ≡ true
passes_one n o is = ap (passes (λ m. m == n)) is ∙ eq-eqb n n refl

only_one : (n k : ℕ) (o : Option ℕ) → passes (λ m. m == n) o ≡ true → passes (λ m. m == k) o ≡ true → n ≡ k
only_one n k None a b = absurd (grind arith)
only_one n k (Some m) a b = sym (same_number m n a) ∙ same_number m k b

-- ---- order

comes_itself : (ns : List ℕ) → comes_first ns ns ≡ true
comes_itself [] = refl
comes_itself (n ∷ ns) = by (nat_lt n n) (n == n) (eq-eqb n n refl) (comes_itself ns)
  where
    by : (a b : Bool) → b ≡ true → comes_first ns ns ≡ true → (a || (b && comes_first ns ns)) ≡ true
    by true b e rest = refl
    by false b e rest = ap (λ x. x && comes_first ns ns) e ∙ rest

less_first : (m n : ℕ) (ms ns : List ℕ) → m < n → comes_first (m ∷ ms) (n ∷ ns) ≡ true
less_first m n ms ns lt = let t : nat_lt m n ≡ true = grind (arith, nat_tests) in ap (λ b. b || ((m == n) && comes_first ms ns)) t

-- ---- sizes

pub entries_kept : (p : Text) (n : ℕ) → n ≡ entry_count p → n ≤ 49151 → KeepsSize p 0
entries_kept p n is few k =
    let fits : nat_lt 49151 (entry_count p) ≡ false = grind (arith, nat_tests) in no_match k (entry_count p) (λ m. nat_lt 49151 m) fits

pub code_kept : (p : Text) (n : ℕ) → n ≡ code_size p → n ≤ 65535 → KeepsSize p 1
code_kept p n is few k =
    let fits : nat_lt 65535 (code_size p) ≡ false = grind (arith, nat_tests) in no_match k (code_size p) (λ m. nat_lt 65535 m) fits

pub sizes_kept : (p : Text) → KeepsSize p 0 → KeepsSize p 1 → large_element p ≡ None → KeepsSizes p
sizes_kept p entries words none zero n = entries n
sizes_kept p entries words none (suc zero) n = words n
sizes_kept p entries words none (suc (suc zero)) n = passes_none n (large_element p) none
sizes_kept p entries words none (suc (suc (suc k))) n = refl

-- a case has one size
same_size : (p : Text) (case n k : ℕ) → is_too_large p case n ≡ true → is_too_large p case k ≡ true → n ≡ k
same_size p zero n k a b =
    same_number n (entry_count p) (both_of (n == entry_count p) (nat_lt 49151 n) a).0
    ∙ sym (same_number k (entry_count p) (both_of (k == entry_count p) (nat_lt 49151 k) b).0)
same_size p (suc zero) n k a b =
    same_number n (code_size p) (both_of (n == code_size p) (nat_lt 65535 n) a).0 ∙ sym (same_number k (code_size p) (both_of (k == code_size p) (nat_lt 65535 k) b).0)
same_size p (suc (suc zero)) n k a b = only_one n k (large_element p) a b
same_size p (suc (suc (suc j))) n k a b = absurd (grind arith)

-- a size of a case comes before those of the same case and of later ones
size_ahead : (p : Text) (case n c m : ℕ) → is_too_large p case n ≡ true → is_too_large p c m ≡ true → case ≤ c
    → comes_first (case ∷ n ∷ []) (c ∷ m ∷ []) ≡ true
size_ahead p case n c m here there le = by (case == c) refl
  where
    by : (b : Bool) → (case == c) ≡ b → comes_first (case ∷ n ∷ []) (c ∷ m ∷ []) ≡ true
    by true e =
        let same : case ≡ c = same_number case c e in
        let size : n ≡ m = same_size p c n m (subst (λ k. is_too_large p k n ≡ true) same here) there in
        ap₂ (λ k j. comes_first (case ∷ n ∷ []) (k ∷ j ∷ [])) (sym same) (sym size) ∙ comes_itself (case ∷ n ∷ [])
    by false e = let lt : case < c = grind (arith, nat_tests) in less_first case c (n ∷ []) (m ∷ []) lt

pub size_refused : (p : Text) (case n : ℕ) → is_too_large p case n ≡ true → ((k : ℕ) → k < case → KeepsSize p k) → Refuses p (TooLarge case n)
size_refused p case n here before = record { broken = here; least = least }
  where
    later : (c m : ℕ) → is_too_large p c m ≡ true → case ≤ c
    later c m there = by (nat_lt c case) refl
      where
        by : (b : Bool) → nat_lt c case ≡ b → case ≤ c
        by true e = let lt : c < case = grind (arith, nat_tests) in let kept = before c lt m in absurd (grind arith)
        by false e = grind (arith, nat_tests)

    least : (g : AsmFault) → Broken p g → IsTrue (comes_first (rank (TooLarge case n)) (rank g))
    least (FarJump line) broken = refl
    least (TooLarge c m) broken = size_ahead p case n c m here broken (later c m broken)
    least (PoolPassed m) broken = refl
    least NoMemory broken = absurd (grind arith)

pub entries_refused : (p : Text) (n : ℕ) → n ≡ entry_count p → 49151 < n → Refuses p (TooLarge 0 n)
entries_refused p n is many =
    let large : nat_lt 49151 n ≡ true = grind (arith, nat_tests) in
    size_refused p 0 n (ap₂ (λ a b. a && b) (eq-eqb n (entry_count p) is) large) (λ k lt. absurd (omega (arith, lt)))

pub code_refused : (p : Text) (n : ℕ) → KeepsSize p 0 → n ≡ code_size p → 65535 < n → Refuses p (TooLarge 1 n)
code_refused p n entries is many =
    let large : nat_lt 65535 n ≡ true = grind (arith, nat_tests) in
    size_refused p 1 n (ap₂ (λ a b. a && b) (eq-eqb n (code_size p) is) large) below
  where
    below : (k : ℕ) → k < 1 → KeepsSize p k
    below zero lt = entries
    below (suc k) lt = absurd (omega (arith, lt))

pub element_refused : (p : Text) (n : ℕ) → KeepsSize p 0 → KeepsSize p 1 → large_element p ≡ Some n → Refuses p (TooLarge 2 n)
element_refused p n entries words some = size_refused p 2 n (passes_one n (large_element p) some) below
  where
    below : (k : ℕ) → k < 2 → KeepsSize p k
    below zero lt = entries
    below (suc zero) lt = words
    below (suc (suc k)) lt = absurd (omega (arith, lt))

-- ---- a size that was held

pub none_held : (o : Option ℕ) → option_map held o ≡ None → o ≡ None
none_held None is = refl
none_held (Some n) is = absurd (cc)

pub some_held : (o : Option ℕ) (bytes n : ℕ) → option_map held o ≡ Some bytes → ((k : ℕ) → bytes ≡ held k → n ≡ k) → o ≡ Some n
some_held None bytes n is exact = absurd (cc)
some_held (Some k) bytes n is exact = let same : bytes ≡ held k = cc in ap Some (sym (exact k same))

-- ---- jumps

pub jump_refused : (p : Text) (line : ℕ) → KeepsSizes p → far_in_blocks line 0 p.blocks ≡ true → ((l : ℕ) → l < line → far_in_blocks l 0 p.blocks ≡ false)
    → Refuses p (FarJump line)
jump_refused p line sizes here before = record { broken = here; least = least }
  where
    ahead : (l : ℕ) → far_in_blocks l 0 p.blocks ≡ true → comes_first (line ∷ []) (l ∷ []) ≡ true
    ahead l there = by (nat_lt l line) refl
      where
        by : (b : Bool) → nat_lt l line ≡ b → comes_first (line ∷ []) (l ∷ []) ≡ true
        by true e = let lt : l < line = grind (arith, nat_tests) in let kept = before l lt in absurd (grind arith)
        by false e = at (line == l) refl
          where
            at : (b : Bool) → (line == l) ≡ b → comes_first (line ∷ []) (l ∷ []) ≡ true
            at true f = ap (λ k. comes_first (line ∷ []) (k ∷ [])) (sym (same_number line l f)) ∙ comes_itself (line ∷ [])
            at false f = let lt : line < l = grind (arith, nat_tests) in less_first line l [] [] lt

    least : (g : AsmFault) → Broken p g → IsTrue (comes_first (rank (FarJump line)) (rank g))
    least (FarJump l) broken = ahead l broken
    least (TooLarge c m) broken = let kept = sizes c m in absurd (grind arith)
    least (PoolPassed m) broken = refl
    least NoMemory broken = absurd (grind arith)

-- ---- the pool

pub pool_refused : (p : Text) (n : ℕ) → KeepsSizes p → KeepsJumps p → n ≡ start_footprint p → pool_size < n → Refuses p (PoolPassed n)
pool_refused p n sizes jumps is passed =
    let large : nat_lt pool_size n ≡ true = grind (arith, nat_tests) in
    record { broken = ap₂ (λ a b. a && b) (eq-eqb n (start_footprint p) is) large; least = least }
  where
    least : (g : AsmFault) → Broken p g → IsTrue (comes_first (rank (PoolPassed n)) (rank g))
    least (FarJump l) broken = let kept = jumps l in absurd (grind arith)
    least (TooLarge c m) broken = let kept = sizes c m in absurd (grind arith)
    least (PoolPassed m) broken =
        let there = (both_of (m == start_footprint p) (nat_lt pool_size m) broken).0 in
        let same : n ≡ m = is ∙ sym (same_number m (start_footprint p) there) in
        ap (λ k. comes_first (2 ∷ n ∷ []) (2 ∷ k ∷ [])) (sym same) ∙ comes_itself (2 ∷ n ∷ [])
    least NoMemory broken = absurd (grind arith)

-- where all rules are kept, none is broken
pub none_broken : (p : Text) (n : ℕ) → KeepsSizes p → KeepsJumps p → n ≡ start_footprint p → n ≤ pool_size → IsAccepted (Broken p)
none_broken p n sizes jumps is fits (FarJump l) broken = let kept = jumps l in grind arith
none_broken p n sizes jumps is fits (TooLarge c m) broken = let kept = sizes c m in grind arith
none_broken p n sizes jumps is fits (PoolPassed m) broken =
    let small : nat_lt pool_size (start_footprint p) ≡ false = grind (arith, nat_tests) in
    let kept = no_match m (start_footprint p) (λ k. nat_lt pool_size k) small in
    grind arith
none_broken p n sizes jumps is fits NoMemory broken = grind arith
