-- A group holds a list where a member does.
use Rattle.std.proofs.Common.{◌∙◌, ap, sym, map}
use Rattle.nxt_types.specs.Shapes.{tree, members, has_list, some_list}
use Rattle.nxt_types.proofs.Laws.Trees.{trees_hidden}
use Rattle.nxt_values.proofs.shapes.+lists.Goals as goal

pub has_list-returns-in-Group : goal.has_list-returns-in-Group
has_list-returns-in-Group t c =
    c.some_list.ensures
    ∙ ap (λ l. some_list (members (map tree l))) c.as_slice.ensures.value
    ∙ ap has_list (sym (trees_hidden c.in-Group.shapes.items) ∙ ap tree (sym c.in-Group.is))
