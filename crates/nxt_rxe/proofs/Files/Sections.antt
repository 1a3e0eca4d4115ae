-- Sections that lie in the file.
use borrow.Author.Count.{below_none, below_more}
use Rattle.std.proofs.Common.{◌≡◌, ℕ, ◌<◌, ◌≤◌, false, List, length, sym, ◌∙◌, arith, inl, inr}
use Rattle.std.proofs.lemmas.Bool.{cases_lt, false≢true}
use Rattle.std.proofs.lemmas.List.{get_or_past}
use Rattle.nxt_rxe.specs.declared.fault.RxeFault.TheVariants.{Section}
use Rattle.nxt_rxe.specs.FileRules.{Broken, defaults_end, clumps_end, dependents_end, code_end, dynamic_passes, passing}
use Rattle.nxt_facts.proofs.Tests.{not_past}

module _ (bytes : List ℕ) where
  abbrev IsWhole : ℕ → Type 0
  IsWhole s = Broken bytes (Section s) → ⊥

  pub before_clumps : dynamic_passes bytes ≡ false → defaults_end bytes ≤ length bytes → (s : ℕ) → s < 3 → IsWhole s
  before_clumps dynamic within =
      let table : IsWhole 0 = not_past _ _ (omega arith) in
      let defaults : IsWhole 1 = not_past _ _ within in
      let holds : IsWhole 2 = λ h. false≢true (sym dynamic ∙ h) in
      below_more IsWhole 2 (below_more IsWhole 1 (below_more IsWhole 0 (below_none IsWhole) table) defaults) holds

  pub before_dependents : dynamic_passes bytes ≡ false → clumps_end bytes ≤ length bytes → (s : ℕ) → s < 4 → IsWhole s
  before_dependents dynamic within = below_more IsWhole 3 (before_clumps dynamic (omega arith)) (not_past _ _ within)

  pub before_code : dynamic_passes bytes ≡ false → dependents_end bytes ≤ length bytes → (s : ℕ) → s < 5 → IsWhole s
  before_code dynamic within = below_more IsWhole 4 (before_dependents dynamic (omega arith)) (not_past _ _ within)

  pub no_section : dynamic_passes bytes ≡ false → code_end bytes ≤ length bytes → (s : ℕ) → IsWhole s
  no_section dynamic within s h =
      elim (cases_lt s 6) [
        | inl lt ↦ below_more IsWhole 5 (before_code dynamic (omega arith)) (not_past _ _ within) s lt h
        | inr le ↦ false≢true (sym (get_or_past (passing bytes) s false le) ∙ h)
      ]
