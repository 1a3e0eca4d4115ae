use Rattle.std.proofs.Common.{◌∙◌, ap, position, bytes_eq}
use Rattle.nxt_nbc_names.proofs.name_table.NameTable.position.Goals as goal

pub returns : goal.returns
returns c =
    c.copied.ensures ∙ c.get.ensures.value ∙ c.self.invariant c.args.name ∙ ap (position (λ n. bytes_eq n c.args.name.now)) c.self.view_is
