use Rattle.std.proofs.Common.{Some, None, map, sym, ap, subst, ◌∙◌, arith}
use Rattle.nxt_model.specs.Nbc.NbcRules.{is_wrong_kind}
use Rattle.nxt_nbc_lines.specs.Firsts.{IsLeast, first_pair}
use Rattle.nxt_nbc_lines.specs.Seen.{form_seen, formed_seen, line_form_seen}
use Rattle.nxt_nbc_lines.specs.Whole.{AreWhole}
use Rattle.nxt_nbc_lines.proofs.Laws.Whole.{line_whole_at}
use Rattle.nxt_nbc_names.specs.SourceSeen.{source_seen}
use Rattle.nxt_nbc_kinds.proofs.Laws.FirstWrong.{first_wrong, least_line, none_left, pair_at}
use Rattle.nxt_nbc_kinds.proofs.kinds.wrong_kind.Goals as goal

pub wrong_operand-requires-clause-whole : goal.wrong_operand-requires-clause-whole
wrong_operand-requires-clause-whole c =
    let lines = c.as_slice-line-items.result.now in
    line_whole_at lines c.loop-line.line-index c.line-item.result
    (subst (λ fs. AreWhole (map line_form_seen fs)) (sym c.as_slice-line-items.ensures) c.requires.lines.whole) c.loop-line-test.true c.line-item.is

pub returns-in-Some : goal.returns-in-Some
returns-in-Some c =
    let src = source_seen c.args.source.now in
    let lines = c.as_slice-line-items.result.now in
    let line = c.line-item.result in
    let least = subst (IsLeast (λ k. is_wrong_kind src line.line k (form_seen line.form))) c.in-Some.is c.in_ok-wrong.ensures in
    least_line (formed_seen c.args.formed.now) src (Some (line.line, c.in-Some.operand)) c.requires.lines.ascend c.requires.of
    (ap (λ fs. first_pair (first_wrong src) (map line_form_seen fs)) (sym c.as_slice-line-items.ensures)
    ∙ pair_at src lines c.loop-line.line-index line (Some c.in-Some.operand) c.loop-line-test.true c.line-item.is c.loop-line.invariant least)

pub loop-line-preserved : goal.loop-line-preserved
loop-line-preserved c =
    let src = source_seen c.args.source.now in
    let lines = c.as_slice-line-items.result.now in
    let line = c.line-item.result in
    let least = subst (IsLeast (λ k. is_wrong_kind src line.line k (form_seen line.form))) c.in_default.is c.in_ok-wrong.ensures in
    pair_at src lines c.loop-line.line-index line None c.loop-line-test.true c.line-item.is c.loop-line.invariant least

pub returns : goal.returns
returns c =
    let src = source_seen c.args.source.now in
    let lines = c.as_slice-line-items.result.now in
    least_line (formed_seen c.args.formed.now) src None c.requires.lines.ascend c.requires.of
    (ap (λ fs. first_pair (first_wrong src) (map line_form_seen fs)) (sym c.as_slice-line-items.ensures)
    ∙ none_left src lines c.loop-line.line-index (omega arith) c.loop-line.invariant)
