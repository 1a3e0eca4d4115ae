use Rattle.std.proofs.Common.{◌∙◌, ap, bytes_eq, map, position}
use Rattle.nxt_model.specs.Nbc.Text.{LabelAt, label_named}
use Rattle.nxt_nbc_names.specs.LabelsSeen.{label_seen}
use Rattle.nxt_nbc_names.proofs.LabelNames.{label_missing, label_there}
use Rattle.nxt_nbc_names.proofs.Positions.{position_map}
use Rattle.nxt_nbc_names.proofs.labels.Labels.position.Goals as goal

pub returns-in_err-at : goal.returns-in_err-at
returns-in_err-at c =
    let ls = c.self.inside.items.items in
    let name = c.args.name.now in
    c.from_residual.ensures
    ∙ label_missing ls name
    (c.in_err-at.ensures
    ∙ ap (position (λ n. bytes_eq n name)) c.self.invariant
    ∙ position_map (λ (l : LabelAt). l.name) (λ n. bytes_eq n name) (map label_seen ls))
    ∙ ap (λ ls. label_named ls name) c.self.view_is

pub returns : goal.returns
returns c =
    let ls = c.self.inside.items.items in
    let name = c.args.name.now in
    label_there ls name c.in_ok-at.at c.index.result.now
    (c.in_ok-at.ensures
    ∙ ap (position (λ n. bytes_eq n name)) c.self.invariant
    ∙ position_map (λ (l : LabelAt). l.name) (λ n. bytes_eq n name) (map label_seen ls))
    c.index.ensures
    ∙ ap (λ ls. label_named ls name) c.self.view_is
