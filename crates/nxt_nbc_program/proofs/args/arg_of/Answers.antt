use Rattle.nxt_nbc_program.proofs.args.arg_of.Goals as goal

pub returns-in_default : goal.returns-in_default
returns-in_default c = c.value_arg.ensures c.args.labels.now c.in_default.not-Offset
