-- A group holds a list where a member does.
use Rattle.std.proofs.Common.{◌∙◌, ap, sym, map}
use Rattle.nxt_types.specs.Shapes.{tree, members, has_list, some_list}
use Rattle.nxt_types.proofs.Laws.Trees.{trees_hidden}
use Rattle.nxt_code.proofs.shapes.+lists.Goals as goal

pub holds_list-returns-in-Group : goal.holds_list-returns-in-Group
holds_list-returns-in-Group t c =
    c.some_holds_list.ensures
    ∙ ap (λ l. some_list (members (map tree l))) c.as_slice.ensures.value
    ∙ ap has_list (sym (trees_hidden c.in-Group.shapes.items) ∙ ap tree (sym c.in-Group.is))
