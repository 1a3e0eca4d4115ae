-- The program of a generated text keeps the rules of the assembler.
use Rattle.std.proofs.Common.{◌≡◌, ℕ, zero, suc, ◌+◌, ◌≤◌, ◌==◌, Bool, true, false, ◌&&◌, ◌||◌, List, [], ◌∷◌, length, refl, sym, ap, ap₂, ◌∙◌, arith}
use Rattle.std.specs.Prelude.{nat_lt, IsTrue}
use Rattle.std.specs.List.{list_any}
use Rattle.std.proofs.lemmas.Bool.Decides.{nat_tests}
use Rattle.nxt_types.specs.Pool.{pool_size}
use Rattle.nxt_types.specs.Refusals.{IsAccepted, passes}
use Rattle.nxt_model.specs.Assembled.{starts_from, word_count}
use Rattle.nxt_asm_rules.specs.AsmRules.{Broken, breaks, code_size, entry_count, far_in_body, is_too_large, jumps_far, start_footprint}
use Rattle.nxt_asm_rules.specs.declared.fault.AsmFault.{AsmFault}
use Rattle.nxt_asm_rules.specs.declared.fault.AsmFault.TheVariants.{FarJump, NoMemory, PoolPassed, TooLarge}
use Rattle.nxt_gen_laws.specs.Rows.{Built, Counted, Cut, Driven, Filled, Moved, Row}
use Rattle.nxt_gen_laws.specs.Spelled.{row_args, row_statement, row_statements, spelled}
use Rattle.nxt_gen_laws.proofs.Fitting.Sizes.{code_fits, footprint_fits, none_large, table_fits}

-- ---- jumps

no_jump : (at : List ℕ) (here : ℕ) (r : Row) → list_any (jumps_far at here) (row_args r) ≡ false
no_jump at here (Filled of byte v) = refl
no_jump at here (Cut of from v) = refl
no_jump at here (Built of from byte) = refl
no_jump at here (Moved of from) = refl
no_jump at here (Counted of) = refl
no_jump at here Driven = refl

and_false : (a b : Bool) → b ≡ false → (a && b) ≡ false
and_false true b e = e
and_false false b e = refl

none_far : (line : ℕ) (at : List ℕ) (here first : ℕ) (rs : List Row) → far_in_body line at here (row_statements first rs) ≡ false
none_far line at here first [] = ap (λ b. b || false) (and_false (first == line) false refl)
none_far line at here first (r ∷ rs) =
    ap₂ (λ a b. a || b) (and_false (first == line) (list_any (jumps_far at here) (row_args r)) (no_jump at here r))
    (none_far line at (here + word_count (row_statement first r)) (suc first) rs)

-- ---- sizes

not_passed : (n e k : ℕ) → e ≤ k → ((n == e) && nat_lt k n) ≡ false
not_passed n e k fits = by (n == e) refl
  where
    by : (b : Bool) → (n == e) ≡ b → (b && nat_lt k n) ≡ false
    by false other = refl
    by true same = grind (arith, nat_tests)

module _ (rs : List Row) (short : length rs ≤ 1500) where
  size_kept : (case n : ℕ) → is_too_large (spelled rs) case n ≡ false
  size_kept zero n = not_passed n (entry_count (spelled rs)) 49151 (table_fits rs (omega (arith, short)))
  size_kept (suc zero) n = not_passed n (code_size (spelled rs)) 65535 (code_fits rs (omega (arith, short)))
  size_kept (suc (suc zero)) n = ap (passes (λ m. m == n)) (none_large rs)
  size_kept (suc (suc (suc k))) n = refl

  -- no rule is broken
  breaks_none : (f : AsmFault) → breaks (spelled rs) f ≡ false
  breaks_none (FarJump line) = ap (λ b. b || false) (none_far line (starts_from 0 (row_statements 14 rs)) 0 14 rs)
  breaks_none (TooLarge case n) = size_kept case n
  breaks_none (PoolPassed n) = not_passed n (start_footprint (spelled rs)) pool_size (footprint_fits rs short)
  breaks_none NoMemory = refl

  pub rules_kept : IsAccepted (Broken (spelled rs))
  rules_kept f broken = true_and_false (breaks (spelled rs) f) (breaks_none f) broken
    where
      true_and_false : (b : Bool) → b ≡ false → IsTrue b → ⊥
      true_and_false b e h = let f : true ≡ false = sym h ∙ e in let g : ⊥ = cc in g
