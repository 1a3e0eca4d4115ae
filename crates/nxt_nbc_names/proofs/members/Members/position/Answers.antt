use Rattle.std.proofs.Common.{◌∙◌, ap, bytes_eq, map, position}
use Rattle.nxt_model.specs.Nbc.Types.{StructMember}
use Rattle.nxt_nbc_names.specs.MembersSeen.{member_seen}
use Rattle.nxt_nbc_names.proofs.Positions.{position_map}
use Rattle.nxt_nbc_names.proofs.members.Members.position.Goals as goal

pub returns : goal.returns
returns c =
    c.position.ensures
    ∙ ap (position (λ n. bytes_eq n c.args.name.now)) c.self.invariant
    ∙ position_map (λ (m : StructMember). m.name) (λ n. bytes_eq n c.args.name.now) (map member_seen c.self.inside.items.items)
    ∙ ap (position (λ m. bytes_eq m.name c.args.name.now)) c.self.view_is
