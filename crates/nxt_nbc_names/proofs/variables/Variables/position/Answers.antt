use Rattle.std.proofs.Common.{◌∙◌, ap, bytes_eq, map, position}
use Rattle.nxt_model.specs.Nbc.Text.{Variable}
use Rattle.nxt_nbc_names.specs.VariablesSeen.{variable_seen}
use Rattle.nxt_nbc_names.proofs.Positions.{position_map}
use Rattle.nxt_nbc_names.proofs.variables.Variables.position.Goals as goal

pub returns : goal.returns
returns c =
    c.position.ensures
    ∙ ap (position (λ n. bytes_eq n c.args.name.now)) c.self.invariant
    ∙ position_map (λ (v : Variable). v.name) (λ n. bytes_eq n c.args.name.now) (map variable_seen c.self.inside.items.items)
    ∙ ap (position (λ v. bytes_eq v.name c.args.name.now)) c.self.view_is
