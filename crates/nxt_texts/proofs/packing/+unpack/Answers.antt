-- A group's numbers are those of its members.
use Rattle.std.proofs.Common.{◌≡◌, IfOk, map, sym, subst}
use Rattle.nxt_types.specs.Shapes.{cluster_of, tree}
use Rattle.nxt_types.proofs.Laws.Trees.{group_tree}
use Rattle.nxt_texts.specs.Packing.{Unpacks}
use Rattle.nxt_texts.proofs.packing.+unpack.Goals as goal

pub unpack-returns-in-Group : goal.unpack-returns-in-Group
unpack-returns-in-Group t c =
    let l = c.as_slice.result.now in
    let is : tree c.args.shape.now ≡ cluster_of (map tree l) = group_tree c.args.shape.now c.in-Group.members.items l c.in-Group.is c.as_slice.ensures.value in
    subst (λ s. IfOk c.unpack_members.result (Unpacks s c.args.bytes.now c.args.into.now c.unpack_members.new.into)) (sym is) c.unpack_members.ensures
