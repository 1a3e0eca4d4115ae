-- An operand is of its class by its place.
use Rattle.std.proofs.Common.{sym, ◌∙◌}
use Rattle.nxt_nbc_kinds.proofs.Beside.{class_test, first_decides, last_decides}
use Rattle.nxt_nbc_kinds.proofs.between.has_kind.Goals as goal

pub returns-then-is_of_class : goal.returns-then-is_of_class
returns-then-is_of_class c =
    let class = c.is_of_class.ensures ∙ class_test c.args.op c.args.structs.now c.args.operands.now c.args.k c.requires.takes c.requires.within c.class.result _ c.class.ensures in
    c.fits_others.ensures ∙ last_decides _ _ (sym class ∙ c.if-is_of_class.true)

pub returns-else-is_of_class : goal.returns-else-is_of_class
returns-else-is_of_class c =
    let class = c.is_of_class.ensures ∙ class_test c.args.op c.args.structs.now c.args.operands.now c.args.k c.requires.takes c.requires.within c.class.result _ c.class.ensures in
    c.if-is_of_class.false ∙ first_decides _ _ (sym class ∙ c.if-is_of_class.false)
