-- The members of a group are those of its tree.
use Rattle.std.proofs.Common.{refl, sym, ap, ◌∙◌, arith}
use Rattle.nxt_types.specs.Shapes.{Cluster}
use Rattle.nxt_types.specs.Names.{size}
use Rattle.nxt_types.specs.declared.shape.Shape.{Group}
use Rattle.nxt_types.proofs.Laws.Trees.{group_tree}
use Rattle.nxt_values.proofs.members.Members.of.Goals as goal

pub from_first-requires : goal.from_first-requires
from_first-requires c =
    let whole = ap size (group_tree (Group c.args.group.now) c.args.group.now.items c.as_slice.result.now refl c.as_slice.ensures.value) in
    omega (arith, whole, c.requires)

pub returns-clause-shapes : goal.returns-clause-shapes
returns-clause-shapes c =
    group_tree (Group c.args.group.now) c.args.group.now.items c.as_slice.result.now refl c.as_slice.ensures.value
    ∙ ap Cluster (sym c.from_first.ensures.shapes)
