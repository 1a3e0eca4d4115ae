-- The properties of setout stand at odd places.
use Rattle.std.proofs.Common.{nat_le, ◌%◌, sym, ap, ◌∙◌}
use Rattle.std.proofs.lemmas.Bool.{eq-eqb}
use Rattle.nxt_types.specs.OperandRules.{is_allowed}
use Rattle.nxt_operand_rules.proofs.BesideOthers.{even_allowed, odd_allowed}
use Rattle.nxt_operand_rules.proofs.class.is_allowed.Goals as goal

pub returns-then-k-eq0 : goal.returns-then-k-eq0
returns-then-k-eq0 c = λ os is.
    eq-eqb (c.args.k % 2) 0 c.if-k-eq0.true
    ∙ sym (even_allowed os c.args.k c.if-k-eq0.true)
    ∙ sym (ap (λ op. is_allowed op os c.args.k) c.in-Setout.is)

pub returns-else-k-eq0 : goal.returns-else-k-eq0
returns-else-k-eq0 c = λ os is.
    ap (λ n. nat_le n 14) is
    ∙ sym (odd_allowed os c.args.k c.if-k-eq0.false)
    ∙ sym (ap (λ op. is_allowed op os c.args.k) c.in-Setout.is)
