-- A program is refused by a first fault of the assembler, or breaks none of its rules.
use Rattle.std.proofs.Common.{◌≡◌, ℕ, ◌+◌, ◌<◌, ◌≤◌, Bool, true, false, ◌&&◌, ◌||◌, ◌==◌, nat_lt, List, [], ◌∷◌, Option, Some, None, refl, arith, ◌⊎◌, inl, inr}
use Rattle.std.specs.List.{list_any}
use Rattle.std.proofs.lemmas.Bool.Decides.{nat_tests}
use Rattle.nxt_types.specs.Pool.{pool_size}
use Rattle.nxt_types.specs.Refusals.{IsRefusal, IsAccepted}
use Rattle.nxt_model.specs.Assembled.{block_words, starts_from, word_count}
use Rattle.nxt_model.specs.TextProgram.{Text}
use Rattle.nxt_model.specs.declared.nbc.NbcBlock.{NbcBlock}
use Rattle.nxt_model.specs.declared.nbc.NbcStatement.{NbcStatement}
use Rattle.nxt_nbc_lines.specs.Firsts.{IsLeast, lesser}
use Rattle.nxt_nbc_lines.proofs.Laws.FirstLines.{least_lesser}
use Rattle.nxt_asm_rules.specs.declared.fault.AsmFault.{AsmFault}
use Rattle.nxt_asm_rules.specs.declared.fault.AsmFault.TheVariants.{FarJump, TooLarge, PoolPassed}
use Rattle.nxt_asm_rules.specs.AsmRules.{Broken, code_size, entry_count, far_in_blocks, far_in_body, jumps_far, large_element, rank, start_footprint}
use Rattle.nxt_asm_rules.specs.Kept.{KeepsJumps, KeepsSize, KeepsSizes}
use Rattle.nxt_asm_rules.proofs.Laws.FarJumps.{least_here, least_nowhere}
use Rattle.nxt_asm_rules.proofs.Laws.FirstBroken.{code_kept, code_refused, element_refused, entries_kept, entries_refused, jump_refused, none_broken, pool_refused, sizes_kept}

-- ---- the least line with a jump that is too far

abbrev Least : (ℕ → Bool) → Type 0
Least test = (o : Option ℕ) × IsLeast test o

either : (t u : ℕ → Bool) → Least t → Least u → Least (λ l. t l || u l)
either t u a b = (lesser a.0 b.0, least_lesser t u a.0 b.0 a.1 b.1)

least_line : (line : ℕ) (b : Bool) → Least (λ l. (line == l) && b)
least_line line true = (Some line, least_here line true refl)
least_line line false = (None, least_nowhere line false refl)

least_in_body : (at : List ℕ) (here : ℕ) (ss : List NbcStatement) → Least (λ l. far_in_body l at here ss)
least_in_body at here [] = (None, λ l. refl)
least_in_body at here (s ∷ ss) =
    either (λ l. (s.line == l) && list_any (jumps_far at here) s.args) (λ l. far_in_body l at (here + word_count s) ss)
    (least_line s.line (list_any (jumps_far at here) s.args)) (least_in_body at (here + word_count s) ss)

least_in_blocks : (here : ℕ) (bs : List NbcBlock) → Least (λ l. far_in_blocks l here bs)
least_in_blocks here [] = (None, λ l. refl)
least_in_blocks here (b ∷ bs) =
    either (λ l. far_in_body l (starts_from here b.body) here b.body) (λ l. far_in_blocks l (here + block_words b) bs)
    (least_in_body (starts_from here b.body) here b.body) (least_in_blocks (here + block_words b) bs)

-- ---- the first fault

-- a first fault, or none
abbrev pub Judged : Text → Type 0
Judged t = ((f : AsmFault) × IsRefusal (Broken t) rank f) ⊎ IsAccepted (Broken t)

module _ (t : Text) where
  by_pool : KeepsSizes t → KeepsJumps t → (b : Bool) → nat_lt pool_size (start_footprint t) ≡ b → Judged t
  by_pool sizes jumps true e =
      let passed : pool_size < start_footprint t = grind (arith, nat_tests) in
      inl (PoolPassed (start_footprint t), pool_refused t (start_footprint t) sizes jumps refl passed)
  by_pool sizes jumps false e =
      let fits : start_footprint t ≤ pool_size = grind (arith, nat_tests) in inr (none_broken t (start_footprint t) sizes jumps refl fits)

  by_jumps : KeepsSizes t → (o : Option ℕ) → IsLeast (λ l. far_in_blocks l 0 t.blocks) o → Judged t
  by_jumps sizes (Some line) least = inl (FarJump line, jump_refused t line sizes least.0 least.1)
  by_jumps sizes None least = by_pool sizes least (nat_lt pool_size (start_footprint t)) refl

  by_elements : KeepsSize t 0 → KeepsSize t 1 → (o : Option ℕ) → large_element t ≡ o → Judged t
  by_elements entries words (Some n) e = inl (TooLarge 2 n, element_refused t n entries words e)
  by_elements entries words None e = let least = least_in_blocks 0 t.blocks in by_jumps (sizes_kept t entries words e) least.0 least.1

  by_code : KeepsSize t 0 → (b : Bool) → nat_lt 65535 (code_size t) ≡ b → Judged t
  by_code entries true e =
      let many : 65535 < code_size t = grind (arith, nat_tests) in inl (TooLarge 1 (code_size t), code_refused t (code_size t) entries refl many)
  by_code entries false e =
      let few : code_size t ≤ 65535 = grind (arith, nat_tests) in by_elements entries (code_kept t (code_size t) refl few) (large_element t) refl

  by_entries : (b : Bool) → nat_lt 49151 (entry_count t) ≡ b → Judged t
  by_entries true e =
      let many : 49151 < entry_count t = grind (arith, nat_tests) in inl (TooLarge 0 (entry_count t), entries_refused t (entry_count t) refl many)
  by_entries false e =
      let few : entry_count t ≤ 49151 = grind (arith, nat_tests) in by_code (entries_kept t (entry_count t) refl few) (nat_lt 65535 (code_size t)) refl

-- every program is refused by a first fault, or breaks no rule
pub image_or_refusal : (t : Text) → Judged t
image_or_refusal t = by_entries t (nat_lt 49151 (entry_count t)) refl
