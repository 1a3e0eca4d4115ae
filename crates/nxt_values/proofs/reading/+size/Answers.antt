-- A group's entries are its own and those of its members.
use Rattle.std.proofs.Common.{ap, arith}
use Rattle.nxt_types.specs.Names.{size}
use Rattle.nxt_types.proofs.Laws.Trees.{group_tree}
use Rattle.nxt_values.proofs.reading.+size.Goals as goal

pub size_of-sizes_of-requires : goal.size_of-sizes_of-requires
size_of-sizes_of-requires t c =
    let whole = ap size (group_tree c.args.shape.now c.in-Group.members.items c.as_slice.result.now c.in-Group.is c.as_slice.ensures.value) in
    (omega (arith, whole), omega (arith, whole))

pub size_of-overflow_add-result-in-Group : goal.size_of-overflow_add-result-in-Group
size_of-overflow_add-result-in-Group t c =
    let whole = ap size (group_tree c.args.shape.now c.in-Group.members.items c.as_slice.result.now c.in-Group.is c.as_slice.ensures.value) in
    omega (arith, whole)

pub size_of-returns-in-Group : goal.size_of-returns-in-Group
size_of-returns-in-Group t c =
    let whole = ap size (group_tree c.args.shape.now c.in-Group.members.items c.as_slice.result.now c.in-Group.is c.as_slice.ensures.value) in
    omega (arith, whole)
