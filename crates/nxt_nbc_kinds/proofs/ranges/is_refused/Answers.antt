use Rattle.std.proofs.Common.{not, ◌||◌, sym, ap, ◌∙◌}
use Rattle.nxt_types.specs.OperandRules.{is_allowed}
use Rattle.nxt_model.specs.Nbc.NbcRules.{is_wide}
use Rattle.nxt_nbc_kinds.specs.OperandsSeen.{operands_seen}
use Rattle.nxt_nbc_kinds.proofs.ranges.is_refused.Goals as goal
use Rattle.nxt_nbc_kinds.proofs.ranges.is_refused.Goals.{then-is_wide, else-is_wide}

pub returns : goal.returns
returns c =
    let t = c.args.source.now.structs in
    let refused = not (is_allowed c.args.op (operands_seen t c.args.operands.now) c.args.k) in
    let wide = c.is_wide.ensures t ∙ ap is_wide c.in_ok-denoted.ensures in
    elim c.if-is_wide.branch [
      | then-is_wide w ↦ w.result-is ∙ w.if-is_wide.true ∙ sym (ap (λ b. b || refused) (sym wide ∙ w.if-is_wide.true))
      | else-is_wide w ↦ w.result-is ∙ ap not (w.is_allowed.ensures t) ∙ sym (ap (λ b. b || refused) (sym wide ∙ w.if-is_wide.false))
    ]
