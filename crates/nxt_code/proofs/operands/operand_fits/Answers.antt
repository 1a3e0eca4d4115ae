-- An operand fits where each of the three tests holds.
use Rattle.std.proofs.Common.{Bool, true, sym, ◌∙◌, ◌≡◌, get_or, length}
use Rattle.std.specs.Prelude.{slice_index_or}
use Rattle.std.proofs.lemmas.Result.{IfOk-weaker}
use Rattle.nxt_types.specs.Opcodes.{classes_of, row}
use Rattle.nxt_types.specs.declared.opcodes.Class.TheVariants.{Immediate}
use Rattle.nxt_types.specs.OperandRules.{is_of_class, asked, allowed, sort_at, shape_of, word_of}
use Rattle.nxt_code.specs.OperandsSeen.{operands}
use Rattle.nxt_code.proofs.Arguments.ByPosition.{class_test_there, first_fails, last_fails, middle_decides}
use Rattle.nxt_code.proofs.operands.operand_fits.Goals as goal
use Rattle.nxt_code.proofs.operands.operand_fits.Goals.{then-not-is_of_class-via-then-not-is_of_class, then-not-is_of_class-via-else-not-is_of_class+then-not-is_allowed}

pub returns-then-not-is_of_class-clause-fits : goal.returns-then-not-is_of_class-clause-fits
returns-then-not-is_of_class-clause-fits c =
    let i = c.args.instr.now in
    let ss = c.args.toc.now.shapes in
    let os = operands ss i c.args.words.now in
    let k = c.args.k in
    let class = c.is_of_class.ensures (sort_at os k) c.seen_at-operand.ensures ∙ class_test_there ss i c.args.words.now c.requires.whole c.args.clumps k c.class-class.result c.requires.within c.class-class.ensures in
    let test_class : Bool = is_of_class c.args.clumps (get_or (classes_of (row i.op).operands (length os)) k Immediate) (sort_at os k) in
    let test_beside : Bool = slice_index_or (asked i.op (λ j. shape_of (sort_at os j)) (λ j. word_of (sort_at os j)) os) k true in
    let test_number : Bool = slice_index_or (allowed i.op (λ j. word_of (sort_at os j)) os) k true in
    elim c.then-not-is_of_class.branch [
      | then-not-is_of_class-via-then-not-is_of_class w ↦ first_fails test_class test_beside test_number (sym class ∙ w.if-not-is_of_class.true)
      | then-not-is_of_class-via-else-not-is_of_class+then-not-is_allowed w ↦ last_fails test_class test_beside test_number (sym (w.is_allowed.ensures os (w.word.ensures (sort_at os k) c.seen_at-operand.ensures)) ∙ w.if-not-is_allowed.true)
    ]

pub returns-clause-fits : goal.returns-clause-fits
returns-clause-fits c =
    let i = c.args.instr.now in
    let ss = c.args.toc.now.shapes in
    let os = operands ss i c.args.words.now in
    let k = c.args.k in
    let class = c.is_of_class.ensures (sort_at os k) c.seen_at-operand.ensures ∙ class_test_there ss i c.args.words.now c.requires.whole c.args.clumps k c.class-class.result c.requires.within c.class-class.ensures in
    let test_class : Bool = is_of_class c.args.clumps (get_or (classes_of (row i.op).operands (length os)) k Immediate) (sort_at os k) in
    let test_beside : Bool = slice_index_or (asked i.op (λ j. shape_of (sort_at os j)) (λ j. word_of (sort_at os j)) os) k true in
    let test_number : Bool = slice_index_or (allowed i.op (λ j. word_of (sort_at os j)) os) k true in
    IfOk-weaker c.fits_others.result (λ fits. fits ≡ test_beside) (λ fits. fits ≡ _)
    (λ fits e. middle_decides fits test_class test_beside test_number (sym class ∙ c.if-not-is_of_class.false) (sym (c.is_allowed.ensures os (c.word.ensures (sort_at os k) c.seen_at-operand.ensures)) ∙ c.if-not-is_allowed.false) e)
    c.fits_others.ensures.fits
