use Rattle.std.proofs.Common.{map, sym, ap, subst, ◌∙◌}
use Rattle.nxt_model.specs.Nbc.Text.{Source}
use Rattle.nxt_model.specs.Nbc.NbcRules.{Syntax, tells}
use Rattle.nxt_nbc_lines.specs.Firsts.{IsLeast, first_line, lesser}
use Rattle.nxt_nbc_lines.specs.Seen.{formed_seen, line_form_seen}
use Rattle.nxt_nbc_lines.proofs.Laws.FirstRules.{least_syntax}
use Rattle.nxt_nbc.specs.Syntax.{is_bad_form}
use Rattle.nxt_nbc.proofs.syntax.bad_line.Goals as goal

pub returns : goal.returns
returns c =
    let fd = formed_seen c.args.formed.now in
    let types = c.args.source.now.structs.structs in
    let first =
    c.first_bad_form.ensures
    ∙ ap (λ ls. first_line (is_bad_form types) (map line_form_seen ls)) c.as_slice.ensures
    ∙ ap (λ (s : Source). first_line (is_bad_form s.types) fd.forms) c.requires.of in
    subst (IsLeast (λ l. tells fd (Syntax l))) (sym (c.lesser.ensures ∙ ap (lesser fd.bad) first))
    (least_syntax fd 0 c.requires.lines.ascend)
