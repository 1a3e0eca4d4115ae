-- A statement lacks where decoding ended before the code's end.
use Rattle.std.proofs.Common.{◌≡◌, ◌<◌, ◌≤◌, length, subst, arith}
use Rattle.nxt_code.specs.Inside.Places.{Finds}
use Rattle.nxt_code.specs.CodeRules.{lacks_statement}
use Rattle.std.proofs.Common.{Some}
use Rattle.nxt_code.proofs.Sequence.Marks.{lacks_at_end, lacks_elsewhere, lacks_none}
use Rattle.nxt_code.proofs.jumps.missing_statement.Goals as goal

pub returns-then-end-words : goal.returns-then-end-words
returns-then-end-words c =
    let words = c.args.words.now in
    let code = c.args.code.now in
    let end : length code.numbers.items ≡ c.len-end.result = omega arith in
    let l : length code.numbers.items < length words = omega arith in
    subst (λ w. Finds (lacks_statement words) (Some w)) end
    (lacks_at_end words code c.requires.decoded l, λ v m. lacks_elsewhere words code c.requires.decoded v (λ e. omega (arith, e, m)))

pub returns-else-end-words : goal.returns-else-end-words
returns-else-end-words c =
    let l : length c.args.words.now ≤ length c.args.code.now.numbers.items = omega arith in
    lacks_none c.args.words.now c.args.code.now c.requires.decoded l
