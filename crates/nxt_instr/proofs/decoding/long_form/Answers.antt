use Rattle.std.proofs.Common.{sym, ◌∙◌}
use Rattle.nxt_instr.proofs.Placing.{decoded_long}
use Rattle.nxt_instr.proofs.decoding.long_form.Goals as goal

pub returns-in_default : goal.returns-in_default
returns-in_default c =
    c.by_arity.ensures
    ∙ decoded_long c.in_ok-op.op c.in_ok-cmp.cmp c.args.code c.args.bits c.args.size c.args.at c.args.rest.now (sym c.in_ok-op.ensures) (sym c.in_ok-cmp.ensures) c.in_default.not-Wait
