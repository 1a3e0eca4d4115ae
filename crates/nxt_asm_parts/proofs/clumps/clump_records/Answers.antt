use Rattle.std.proofs.Common.{◌<◌, [], length, ap, ◌∙◌, arith}
use Rattle.std.specs.Prelude.{slice_index, slice_index_or}
use Rattle.nxt_asm_parts.proofs.Laws.Words.{first_below, records_more}
use Rattle.nxt_asm_parts.proofs.clumps.clump_records.Goals as goal

pub clump_record-requires-clause-small : goal.clump_record-requires-clause-small
clump_record-requires-clause-small c =
    let i = c.loop-i.i in
    let bs = c.args.blocks.now in
    let lt : i < length bs = omega (arith, c.loop-i-test.true) in
    first_below bs i 65535 c.start.result c.index-blocks-i.result lt c.requires.small (c.start.ensures ∙ ap (λ l. slice_index (slice_index_or l i []) 0) c.requires.placed)

pub loop-i-preserved : goal.loop-i-preserved
loop-i-preserved c =
    let i = c.loop-i.i in
    let bs = c.args.blocks.now in
    let lt : i < length bs = omega (arith, c.loop-i-test.true) in
    records_more bs i c.index-blocks-i.result c.start.result c.clump_record.result c.loop-i.records c.push.new.self lt c.index-blocks-i.is
    (c.start.ensures ∙ ap (λ l. slice_index (slice_index_or l i []) 0) c.requires.placed) c.clump_record.ensures c.loop-i.invariant c.in_ok-push.ensures.ok
