use Rattle.std.proofs.Common.{ℕ, Bool, List, ◌∙◌, ap, sym, subst, map}
use Rattle.nxt_model.specs.Nbc.Forms.{Form}
use Rattle.nxt_model.specs.Nbc.Text.{LabelAt, Source}
use Rattle.nxt_model.specs.Nbc.NbcRules.{UnknownName, tells, uses_unknown, uses_unknown_type}
use Rattle.nxt_nbc_lines.specs.Firsts.{IsLeast, first_in_blocks, first_line, lesser}
use Rattle.nxt_nbc_lines.specs.Seen.{formed_seen, line_form_seen}
use Rattle.nxt_nbc_lines.specs.Whole.{BlocksAreWhole}
use Rattle.nxt_nbc_lines.proofs.Laws.Whole.{blocks_whole}
use Rattle.nxt_nbc_names.specs.SourceSeen.{source_seen}
use Rattle.nxt_nbc.proofs.UnknownNames.{unknown_told}
use Rattle.nxt_nbc.proofs.unknown.unknown_line.Goals as goal

pub first_in_blocks-requires : goal.first_in_blocks-requires
first_in_blocks-requires c =
    subst BlocksAreWhole (sym (c.in_text.ensures ∙ ap (λ (s : Source). s.blocks) c.requires.of)) (blocks_whole (formed_seen c.args.formed.now).forms c.requires.lines)

pub returns : goal.returns
returns c =
    let fd = formed_seen c.args.formed.now in
    let src = source_seen c.args.source.now in
    let test : ℕ → List LabelAt → Form → Bool = λ line ls. uses_unknown src ls line in
    let types = c.first_unknown_type-declared.ensures ∙ ap (λ ls. first_line (uses_unknown_type src) (map line_form_seen ls)) c.as_slice.ensures in
    let names = c.in_ok-used.ensures ∙ ap (first_in_blocks test) c.in_text.ensures in
    subst (IsLeast (λ l. tells fd (UnknownName l)))
    (sym (c.lesser.ensures ∙ ap (λ o. lesser o c.in_ok-used.used) types ∙ ap (lesser (first_line (uses_unknown_type src) fd.forms)) names))
    (unknown_told fd src c.requires.of c.requires.lines.ascend)
