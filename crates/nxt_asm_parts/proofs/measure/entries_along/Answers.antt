use Rattle.std.proofs.Common.{map, nat_abs}
use Rattle.nxt_model.specs.Assembled.{entries_before}
use Rattle.nxt_model.specs.TextProgram.{shape_by}
use Rattle.nxt_asm_parts.specs.MeasuresSeen.{shapes_seen}
use Rattle.nxt_asm_parts.proofs.Steps.{all_along}
use Rattle.nxt_asm_parts.proofs.measure.entries_along.Goals as goal

pub returns : goal.returns
returns c =
    let ss = shapes_seen c.args.structs.now in
    all_along ss c.args.path.now c.loop-position.position-index c.loop-position.entries (entries_before (map nat_abs c.args.path.now) (shape_by ss c.args.of))
    c.loop-position.reached c.loop-position-test.false c.loop-position.invariant.small c.loop-position.invariant.known
