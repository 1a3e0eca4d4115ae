-- A group's copy has the copies of its members.
use Rattle.std.proofs.Common.{◌∙◌, ap, sym, map}
use Rattle.nxt_types.specs.Shapes.{tree, cluster_of}
use Rattle.nxt_types.proofs.Laws.Trees.{trees_hidden}
use Rattle.nxt_types.proofs.toc.+copy.Goals as goal

pub copy_of-returns-in_ok-members-in-Group : goal.copy_of-returns-in_ok-members-in-Group
copy_of-returns-in_ok-members-in-Group t c =
    c.group.ensures ∙ ap cluster_of c.in_ok-members-in-Group.ensures
    ∙ ap (λ l. cluster_of (map tree l)) c.as_slice.ensures.value
    ∙ sym (trees_hidden c.in-Group.members.items) ∙ ap tree (sym c.in-Group.is)
