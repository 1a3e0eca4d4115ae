use Rattle.std.proofs.Common.{◌≡◌, ap, sym, subst, ◌∙◌}
use Rattle.nxt_types.specs.Refusals.{IsAccepted}
use Rattle.nxt_model.specs.TextProgram.{text_of}
use Rattle.nxt_model.specs.declared.nbc.NbcProgram.{NbcProgram}
use Rattle.nxt_asm_parts.specs.AssembledParts.{parts_of}
use Rattle.nxt_rxe.specs.Files.{HasCounts}
use Rattle.nxt_asm_rules.specs.AsmRules.{Broken}
use Rattle.nxt_asm_rules.specs.Fits.{PartsFit}
use Rattle.nxt_asm_rules.proofs.Laws.Fitting.{parts_fit}
use Rattle.nxt_asm.proofs.assembly.assemble_sound.Goals as goal

kept_by : (p q : NbcProgram) → q ≡ p → IsAccepted (Broken (text_of q)) → IsAccepted (Broken (text_of p))
kept_by p q same kept = subst (λ r. IsAccepted (Broken (text_of r))) same kept

pub sections_of-requires-clause-fits : goal.sections_of-requires-clause-fits
sections_of-requires-clause-fits c =
    let same = c.in_ok-draft.ensures in
    subst (λ r. PartsFit (text_of r)) (sym same) (parts_fit c.args.program.now c.requires (kept_by _ _ same c.in_ok-footprint.ensures.kept))

pub returns-clause-counts : goal.returns-clause-counts
returns-clause-counts c =
    let same = c.in_ok-draft.ensures in
    let fits = parts_fit c.args.program.now c.requires (kept_by _ _ same c.in_ok-footprint.ensures.kept) in
    subst (λ r. HasCounts r) (sym (c.in_ok-parts.ensures ∙ ap (λ r. parts_of (text_of r)) same)) fits.counts

pub returns-clause-kept : goal.returns-clause-kept
returns-clause-kept c = kept_by _ _ c.in_ok-draft.ensures c.in_ok-footprint.ensures.kept
