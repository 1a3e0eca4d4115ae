use Rattle.std.proofs.Common.{◌≡◌, map, sym, ap, subst, ◌∙◌}
use Rattle.std.proofs.lemmas.Result.{IfOk-weaker}
use Rattle.nxt_model.specs.Nbc.Text.{Source}
use Rattle.nxt_model.specs.Nbc.NbcRules.{OutOfRange, is_out_of_range, tells}
use Rattle.nxt_nbc_lines.specs.Firsts.{IsLeast, first_line}
use Rattle.nxt_nbc_lines.specs.Seen.{formed_seen, line_form_seen}
use Rattle.nxt_nbc_lines.proofs.Laws.FirstRules.{least_range}
use Rattle.nxt_nbc_names.specs.SourceSeen.{source_seen}
use Rattle.nxt_nbc_kinds.proofs.ranges.range_line.Goals as goal

pub returns : goal.returns
returns c =
    let fd = formed_seen c.args.formed.now in
    let src = source_seen c.args.source.now in
    let least = IsLeast (λ l. tells fd (OutOfRange l)) in
    let same =
    ap (λ ls. first_line (is_out_of_range src) (map line_form_seen ls)) c.as_slice.ensures
    ∙ ap (λ (s : Source). first_line (is_out_of_range s) fd.forms) c.requires.of in
    IfOk-weaker c.first_out_of_range.result (λ o. o ≡ first_line (is_out_of_range src) (map line_form_seen c.as_slice.result.now)) least
    (λ o is. subst least (sym (is ∙ same)) (least_range fd 0 c.requires.lines.ascend)) c.first_out_of_range.ensures
