use Rattle.std.proofs.Common.{sym, ap, ◌∙◌}
use Rattle.nxt_model.specs.TextProgram.{text_of}
use Rattle.nxt_asm_parts.specs.Starts.{blocks_starts}
use Rattle.nxt_asm.proofs.CountedTogether.{all_counted, shapes_seen_in}
use Rattle.nxt_asm.proofs.draft.Draft.of.Goals as goal

pub types_of-requires-clause-numbers : goal.types_of-requires-clause-numbers
types_of-requires-clause-numbers c = c.in_ok-constants.ensures.numbers (text_of c.args.program.now) (sym c.as_slice-2.ensures)

pub types_of-requires-clause-texts : goal.types_of-requires-clause-texts
types_of-requires-clause-texts c = c.in_ok-constants.ensures.texts (text_of c.args.program.now) (sym c.as_slice-2.ensures)

pub invariant_of-result : goal.invariant_of-result
invariant_of-result c =
    let p = c.args.program.now in
    let measured = c.in_ok-measures.ensures ∙ c.as_slice.ensures in
    let typed = c.in_ok-types.ensures in (
      record {
        measured = measured;
        numbers = c.in_ok-constants.ensures.numbers (text_of p) (sym c.as_slice-2.ensures);
        texts = c.in_ok-constants.ensures.texts (text_of p) (sym c.as_slice-2.ensures);
        begun = c.in_ok-starts.ensures ∙ ap (blocks_starts 0) c.as_slice-3.ensures;
        typed = typed;
      },
      all_counted p _ c.measure_together-whole.result c.in_ok-exact.field-0 c.saturating_sub-entries.result c.bytes.result c.in_ok-static_bytes.static_bytes
          c.in_ok-arrays.arrays (shapes_seen_in p _ c.in_ok-types.types _ measured typed c.as_slice-4.ensures) c.measure_together-whole.ensures c.in_ok-exact.ensures
          c.saturating_sub-entries.ensures c.bytes.ensures c.in_ok-static_bytes.ensures c.in_ok-arrays.ensures,
    )
