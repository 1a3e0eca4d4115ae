use Rattle.std.proofs.Common.{sym, ap, ◌∙◌}
use Rattle.std.specs.List.{list_any}
use Rattle.nxt_asm_rules.specs.AsmRules.{jumps_far}
use Rattle.nxt_asm_rules.proofs.Laws.FarJumps.{least_here, least_nowhere}
use Rattle.nxt_asm.proofs.jumps.far_line.Goals as goal

pub returns-then-has_far_jump : goal.returns-then-has_far_jump
returns-then-has_far_jump c =
    let test = list_any (jumps_far c.args.at.now c.args.here) in
    least_here c.args.statement.now.line (test c.args.statement.now.args) (ap test (sym c.as_slice.ensures) ∙ sym c.has_far_jump.ensures ∙ c.if-has_far_jump.true)

pub returns-else-has_far_jump : goal.returns-else-has_far_jump
returns-else-has_far_jump c =
    let test = list_any (jumps_far c.args.at.now c.args.here) in
    least_nowhere c.args.statement.now.line (test c.args.statement.now.args) (ap test (sym c.as_slice.ensures) ∙ sym c.has_far_jump.ensures ∙ c.if-has_far_jump.false)
