-- A list has as many elements as its bytes hold, and a group as many members as its shape.
use Rattle.std.proofs.Common.{◌≡◌, map, length, sym, ap, arith}
use Rattle.std.proofs.lemmas.List.{length-map}
use Rattle.nxt_types.specs.Names.{size}
use Rattle.nxt_types.specs.Shapes.{tree, cluster_of}
use Rattle.nxt_types.proofs.Laws.Trees.{group_tree}
use Rattle.nxt_values.proofs.Laws.Elements.{elements_counted}
use Rattle.nxt_values.proofs.Laws.Lengths.{group_length, few_members}
use Rattle.nxt_space.proofs.variables.length_at.Goals as goal

pub overflow_cast-result : goal.overflow_cast-result
overflow_cast-result c =
    let l = c.as_slice.result.now in
    let is : tree c.args.shape.now ≡ cluster_of (map tree l) = group_tree c.args.shape.now c.in-Group.members.items l c.in-Group.is c.as_slice.ensures.value in
    omega (arith, ap size is, few_members (map tree l), length-map l tree, c.requires.entries)

pub returns-in-List : goal.returns-in-List
returns-in-List c = elements_counted c.elements_at.ensures (ap tree c.in-List.is)

pub returns-in-Group : goal.returns-in-Group
returns-in-Group c =
    let l = c.as_slice.result.now in
    let is : tree c.args.shape.now ≡ cluster_of (map tree l) = group_tree c.args.shape.now c.in-Group.members.items l c.in-Group.is c.as_slice.ensures.value in
    group_length c.args.entries.now c.args.heap.now.lists (map tree l) (tree c.args.shape.now) c.args.at (length l) is (sym (length-map l tree))
