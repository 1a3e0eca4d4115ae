use Rattle.std.proofs.Common.{◌∙◌, ap, bytes_eq, map, position}
use Rattle.nxt_model.specs.Nbc.Text.{Block}
use Rattle.nxt_nbc_names.specs.Blocks.{main_first}
use Rattle.nxt_nbc_names.specs.BlocksSeen.{block_seen}
use Rattle.nxt_nbc_names.proofs.Positions.{position_map}
use Rattle.nxt_nbc_names.proofs.blocks.Blocks.number.Goals as goal

pub returns : goal.returns
returns c =
    c.position.ensures
    ∙ ap (position (λ n. bytes_eq n c.args.name.now)) c.self.invariant.names
    ∙ position_map (λ (b : Block). b.name) (λ n. bytes_eq n c.args.name.now) (map block_seen c.self.inside.numbered.items)
    ∙ ap (position (λ b. bytes_eq b.name c.args.name.now)) (c.self.invariant.order ∙ ap main_first c.self.view_is)
