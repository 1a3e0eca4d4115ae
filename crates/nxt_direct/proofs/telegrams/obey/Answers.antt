-- Commands that tell no line, or want no more in their reply.
use Rattle.std.proofs.Common.{arith}
use Rattle.std.proofs.lemmas.Grind.{common_steps}
use Rattle.nxt_direct.proofs.Refusals.{more_of-set_output, lines_of-write_message, more_of-write_message}
use Rattle.nxt_direct.proofs.telegrams.obey.Goals as goal

pub returns-in-SetOutput-clause-reply : goal.returns-in-SetOutput-clause-reply
returns-in-SetOutput-clause-reply c =
    grind (arith, common_steps, more_of-set_output c.args.bytes.now c.args.io.now)

pub returns-in-WriteMessage-clause-lines : goal.returns-in-WriteMessage-clause-lines
returns-in-WriteMessage-clause-lines c =
    grind (arith, common_steps, lines_of-write_message c.args.bytes.now c.args.active c.args.io.now)

pub returns-in-WriteMessage-clause-reply : goal.returns-in-WriteMessage-clause-reply
returns-in-WriteMessage-clause-reply c =
    grind (arith, common_steps, more_of-write_message c.args.bytes.now c.args.active c.args.io.now)
