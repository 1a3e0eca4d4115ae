use Rattle.std.proofs.Common.{option_map, ap, ◌∙◌}
use Rattle.nxt_nbc_names.specs.NamesSeen.{sort_seen}
use Rattle.nxt_nbc_names.proofs.SortNames.{sort_missing, sort_there}
use Rattle.nxt_nbc_names.proofs.names.Names.sort.Goals as goal

pub returns-in_err-position : goal.returns-in_err-position
returns-in_err-position c =
    ap (option_map sort_seen) c.from_residual.ensures
    ∙ sort_missing c.self.inside.items.items c.self.inside.names c.args.self.now c.self.invariant c.self.view_is c.args.name.now c.in_err-position.ensures

pub returns : goal.returns
returns c =
    sort_there c.self.inside.items.items c.self.inside.names c.args.self.now c.self.invariant c.self.view_is c.args.name.now
    c.in_ok-position.position c.index.result.now c.in_ok-position.ensures c.index.ensures
