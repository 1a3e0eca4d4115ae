use Rattle.std.proofs.Common.{ap, ap₂, ◌∙◌}
use Rattle.nxt_nbc_kinds.specs.Kinds.{are_of_one_kind, type_kind}
use Rattle.nxt_nbc_kinds.proofs.TypesByKind.{types_convert}
use Rattle.nxt_nbc_kinds.proofs.conversions.Conversions.converts.Goals as goal

pub returns : goal.returns
returns c =
    let same = c.as_slice-kinds.ensures ∙ c.self.view_is in
    λ t all.
    c.are_of_one_kind.ensures
    ∙ ap₂ are_of_one_kind
    (c.type_kind.ensures ∙ ap (λ ks. type_kind ks c.args.to) same)
    (c.type_kind-2.ensures ∙ ap (λ ks. type_kind ks c.args.from) same)
    ∙ types_convert t c.args.self.now all c.args.to c.args.from
