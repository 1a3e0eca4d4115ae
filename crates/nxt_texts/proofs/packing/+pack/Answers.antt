-- A group's bytes are those of its members.
use Rattle.std.proofs.Common.{◌≡◌, ◌++◌, IfOk, map, sym, subst}
use Rattle.nxt_types.specs.Shapes.{cluster_of, tree}
use Rattle.nxt_types.proofs.Laws.Trees.{group_tree}
use Rattle.nxt_texts.specs.Packing.{packed_front}
use Rattle.nxt_texts.proofs.packing.+pack.Goals as goal

pub pack-returns-in-Group-clause-bytes : goal.pack-returns-in-Group-clause-bytes
pack-returns-in-Group-clause-bytes t c =
    let l = c.as_slice.result.now in
    let is : tree c.args.shape.now ≡ cluster_of (map tree l) = group_tree c.args.shape.now c.in-Group.members.items l c.in-Group.is c.as_slice.ensures.value in
    subst
    (λ s. IfOk c.pack_members.result (λ rest. c.pack_members.new.into ≡ c.args.into.now ++ (packed_front s c.args.from.now).0))
    (sym is)
    c.pack_members.ensures.bytes

pub pack-returns-in-Group-clause-rest : goal.pack-returns-in-Group-clause-rest
pack-returns-in-Group-clause-rest t c =
    let l = c.as_slice.result.now in
    let is : tree c.args.shape.now ≡ cluster_of (map tree l) = group_tree c.args.shape.now c.in-Group.members.items l c.in-Group.is c.as_slice.ensures.value in
    subst (λ s. IfOk c.pack_members.result (λ rest. rest.now ≡ (packed_front s c.args.from.now).1)) (sym is) c.pack_members.ensures.rest
