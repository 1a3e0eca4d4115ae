-- Each byte of the list tells a number.
use Rattle.nxt_types.specs.Shapes.{tree}
use Rattle.nxt_space.proofs.Parts.ByteLists.{list_bytes_read}
use Rattle.nxt_space.proofs.variables.bytes_there.Goals as goal

pub returns-in-List : goal.returns-in-List
returns-in-List c =
    list_bytes_read
    c.args.entries.now
    c.args.heap.now.lists
    (tree c.args.shape.now)
    c.args.at
    c.list_row.result
    c.bytes_of.result.now
    c.requires.bytes
    c.requires.room
    c.list_row.ensures
    c.bytes_of.ensures
