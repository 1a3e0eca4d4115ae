-- The bytes that are lent are the text.
use Rattle.std.proofs.Common.{◌∙◌}
use Rattle.nxt_texts.proofs.InPlace.{text_lent}
use Rattle.nxt_texts.proofs.text.text_of.Goals as goal

pub returns-in-Some-clause-bytes : goal.returns-in-Some-clause-bytes
returns-in-Some-clause-bytes c =
    let s = c.args.space.now.vars in
    let is = c.in-Some.ensures.found in
    c.lent.ensures.same
    ∙ text_lent s c.args.i c.in-Some.list c.bytes.result.now is c.requires.text (c.bytes.ensures.value c.args.i is) c.lent.ensures.list
