use Rattle.std.proofs.Common.{bytes_eq, map, ap, ◌∙◌}
use Rattle.indexmap.specs.IndexSet.{insert_key}
use Rattle.nxt_asm_parts.proofs.ShownTexts.{shown, text_more}
use Rattle.nxt_asm_parts.proofs.constants.Constants.add_text.Goals as goal

pub returns-clause-texts : goal.returns-clause-texts
returns-clause-texts c =
    ap (map shown) c.in_ok-insert.ensures.keys
    ∙ text_more c.self.inside.texts.keys c.args.text
    ∙ ap (λ s. insert_key bytes_eq s.texts c.args.text.now) c.self.view_is
