use Rattle.std.proofs.Common.{not, sym, ap, ◌∙◌}
use Rattle.nxt_model.specs.Nbc.NbcRules.{is_out_of_range, start_fits}
use Rattle.nxt_model.specs.Nbc.Types.{shape_in}
use Rattle.nxt_nbc_lines.specs.Seen.{form_seen, given_seen}
use Rattle.nxt_nbc_names.specs.SourceSeen.{source_seen}
use Rattle.nxt_nbc_kinds.proofs.ranges.is_out_of_range.Goals as goal

pub returns-in-Declare : goal.returns-in-Declare
returns-in-Declare c =
    let src = c.args.source.now in
    ap not (c.start_fits.ensures src.structs ∙ ap (λ t. start_fits (shape_in src.structs.structs t) (given_seen c.in-Declare.given)) c.shape.ensures)
    ∙ sym (ap (λ f. is_out_of_range (source_seen src) c.args.line.now.line (form_seen f)) c.in-Declare.is)
