-- The last byte is 0, or another one, or there is none.
use Rattle.nxt_texts.proofs.Texts.{body_ended, body_whole}
use Rattle.nxt_texts.proofs.text.body.Goals as goal

pub returns-in-Some-clause-body : goal.returns-in-Some-clause-body
returns-in-Some-clause-body c = body_ended c.args.text.now c.in-Some.front.now c.in-Some.last.now c.in-Some.ensures.cases.0 c.if-last-eq0.true

pub returns-in_default-clause-body : goal.returns-in_default-clause-body
returns-in_default-clause-body c = body_whole c.args.text.now c.in-Some.front.now c.in-Some.last.now c.in-Some.ensures.cases.0 c.if-last-eq0.false
