-- What is seen of a part is seen by its shape.
use Rattle.std.proofs.Common.{◌∙◌, ap}
use Rattle.nxt_operand_rules.specs.SeenOf.{seen_by}
use Rattle.nxt_code.proofs.Arguments.ByPosition.{seen_optional, seen_part}
use Rattle.nxt_code.proofs.operands.seen_in.Goals as goal

pub returns-in_default : goal.returns-in_default
returns-in_default c =
    c.seen-in_default.ensures ∙ ap seen_by c.named-in_default.ensures
    ∙ seen_part c.args.toc.now.shapes c.args.class c.args.word c.in_default.not-Immediate c.in_default.not-Clump c.in_default.not-Offset c.in_default.not-OptionalOut c.in_default.not-OptionalIn

pub returns-else-word-eq-LEFT_OUT : goal.returns-else-word-eq-LEFT_OUT
returns-else-word-eq-LEFT_OUT c =
    c.seen.ensures ∙ ap seen_by c.named.ensures
    ∙ seen_optional c.args.toc.now.shapes c.args.class c.args.word c.in-OptionalOut.is c.if-word-eq-LEFT_OUT.false
