-- The last statement may go on, or it doesn't.
use Rattle.std.proofs.Common.{sym, ◌∙◌}
use Rattle.nxt_types.specs.Statements.{statements}
use Rattle.nxt_code.specs.CodeRules.{may_go_on}
use Rattle.nxt_code.specs.Decoding.{placed_of}
use Rattle.nxt_code.proofs.Sequence.FirstAndLast.{last_mapped, last_found, last_fails}
use Rattle.nxt_code.proofs.jumps.open_end.Goals as goal

pub returns-then-may_go_on : goal.returns-then-may_go_on
returns-then-may_go_on c =
    let words = c.args.words.now in
    let last = c.in_ok-last.last.now in
    let there = last_mapped (placed_of words) c.args.code.now.placed.items c.deref.result.now last (statements words) c.in_ok-last.ensures.value c.deref.ensures.value c.requires.listed in
    last_found may_go_on (statements words) (placed_of words last) there (sym c.may_go_on.ensures ∙ c.if-may_go_on.true)

pub returns-else-may_go_on : goal.returns-else-may_go_on
returns-else-may_go_on c =
    let words = c.args.words.now in
    let last = c.in_ok-last.last.now in
    let there = last_mapped (placed_of words) c.args.code.now.placed.items c.deref.result.now last (statements words) c.in_ok-last.ensures.value c.deref.ensures.value c.requires.listed in
    last_fails may_go_on (statements words) (placed_of words last) there (sym c.may_go_on.ensures ∙ c.if-may_go_on.false)
