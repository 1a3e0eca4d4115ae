-- A part of a group holds a list where a member does.
use Rattle.std.proofs.Common.{◌∙◌, ap, sym, map}
use Rattle.nxt_types.specs.Shapes.{tree, members, some_list}
use Rattle.nxt_types.proofs.Laws.Trees.{trees_hidden}
use Rattle.nxt_values.specs.Writes.{has_inner_list}
use Rattle.nxt_values.proofs.shapes.has_inner_list.Goals as goal

pub returns-in-Group : goal.returns-in-Group
returns-in-Group c =
    c.some_list.ensures
    ∙ ap (λ l. some_list (members (map tree l))) c.as_slice.ensures.value
    ∙ ap has_inner_list (sym (trees_hidden c.in-Group.shapes.items) ∙ ap tree (sym c.in-Group.is))
