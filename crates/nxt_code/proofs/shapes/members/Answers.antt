-- A group is the cluster of its members.
use Rattle.std.proofs.Common.{◌∙◌, ap, sym, map}
use Rattle.nxt_types.specs.Shapes.{tree, cluster_of}
use Rattle.nxt_types.proofs.Laws.Trees.{trees_hidden}
use Rattle.nxt_code.proofs.shapes.members.Goals as goal

pub returns-in-Group : goal.returns-in-Group
returns-in-Group c =
    ap tree c.in-Group.is ∙ trees_hidden c.in-Group.shapes.items ∙ ap (λ l. cluster_of (map tree l)) (sym c.as_slice.ensures.value)
