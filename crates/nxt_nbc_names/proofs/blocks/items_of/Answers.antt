use Rattle.std.proofs.Common.{◌∙◌, Some, None, ap, map, take, add-one}
use Rattle.nxt_nbc_lines.specs.Seen.{line_form_seen}
use Rattle.nxt_nbc_names.proofs.BlockItems.{items_to}
use Rattle.nxt_nbc_names.proofs.blocks.items_of.Goals as goal

pub returns-in-Some : goal.returns-in-Some
returns-in-Some c =
    ap (λ n. map line_form_seen (take n c.args.lines.now)) (add-one c.in-Some.end)
    ∙ items_to c.args.lines.now (Some c.in-Some.end) c.in-Some.ensures

pub returns-in-None : goal.returns-in-None
returns-in-None c = items_to c.args.lines.now None c.in-None.ensures
