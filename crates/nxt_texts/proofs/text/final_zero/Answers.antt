-- The last byte is 0, or another one, or there is none.
use Rattle.std.proofs.Common.{◌∙◌, [], ◌∷◌, ◌++◌, length, ap, ap₂}
use Rattle.nxt_texts.proofs.Texts.{body_ended, body_whole}
use Rattle.nxt_texts.proofs.text.final_zero.Goals as goal

pub returns-in-Some : goal.returns-in-Some
returns-in-Some c =
    let front = c.in-Some.front.now in
    let zero = c.if-last-eq0.true in
    let same = body_ended c.args.text.now front c.in-Some.last.now c.in-Some.ensures.cases.0 zero in
    (ap length same, c.in-Some.ensures.cases.0 ∙ ap₂ (λ bs b. bs ++ b ∷ []) same zero)

pub returns-in_default : goal.returns-in_default
returns-in_default c = body_whole c.args.text.now c.in-Some.front.now c.in-Some.last.now c.in-Some.ensures.cases.0 c.if-last-eq0.false
