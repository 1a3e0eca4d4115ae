use Rattle.std.proofs.Common.{◌∙◌, arith}
use Rattle.nxt_model.specs.TextProgram.{base_shape}
use Rattle.nxt_asm_parts.specs.MeasuresSeen.{shapes_seen}
use Rattle.nxt_asm_parts.proofs.Laws.LargeElements.{large_base, no_array, small_base}
use Rattle.nxt_asm_parts.proofs.measure.large_among.Goals as goal
use Rattle.nxt_asm_parts.proofs.measure.large_among.Goals.{else-of-gt0-via-then-of-gt0+else-bytes-gt-MOST_ELEMENT, else-of-gt0-via-else-of-gt0}

pub returns-then-bytes-gt-MOST_ELEMENT : goal.returns-then-bytes-gt-MOST_ELEMENT
returns-then-bytes-gt-MOST_ELEMENT c =
    let base = base_shape (shapes_seen c.args.structs.now) c.args.of.base in
    large_base c.args.of.arrays base c.bytes-bytes.result c.if-of-gt0.true (c.bytes-bytes.ensures base c.base_measure.ensures)
    c.if-bytes-gt-MOST_ELEMENT.true

pub returns-else-of-gt0 : goal.returns-else-of-gt0
returns-else-of-gt0 c =
    let base = base_shape (shapes_seen c.args.structs.now) c.args.of.base in
    elim c.else-of-gt0.branch [
      | else-of-gt0-via-then-of-gt0+else-bytes-gt-MOST_ELEMENT w ↦ c.base_large.ensures
          ∙ small_base c.args.of.arrays base c.bytes-bytes.result (c.bytes-bytes.ensures base c.base_measure.ensures) w.if-bytes-gt-MOST_ELEMENT.false
      | else-of-gt0-via-else-of-gt0 w ↦ c.base_large.ensures ∙ no_array c.args.of.arrays base (omega (arith, w.if-of-gt0.false))
    ]
