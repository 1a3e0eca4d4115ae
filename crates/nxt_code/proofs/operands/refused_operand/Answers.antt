-- The first operand that doesn't fit.
use Rattle.std.proofs.Common.{◌≡◌, ◌<◌, true, length, sym, ◌∙◌, arith, below_more}
use Rattle.nxt_types.specs.Statements.{statement_of}
use Rattle.nxt_types.specs.OperandRules.{operand_fits}
use Rattle.nxt_code.specs.OperandsSeen.{operands}
use Rattle.nxt_code.proofs.Arguments.ByPosition.{first_refused}
use Rattle.nxt_code.proofs.operands.refused_operand.Goals as goal

pub returns-then-not-branch-clause-found : goal.returns-then-not-branch-clause-found
returns-then-not-branch-clause-found c =
    let l : c.loop-k.k < length (statement_of c.args.instr.now c.args.words.now).args = omega arith in
    first_refused (operand_fits c.args.clumps c.args.instr.now.op (operands c.args.toc.now.shapes c.args.instr.now c.args.words.now)) (length (statement_of c.args.instr.now c.args.words.now).args)
    c.loop-k.k l (sym c.in_ok-operand_fits.ensures.fits ∙ c.if-not-branch.true) c.loop-k.invariant.fit

pub loop-k-preserved : goal.loop-k-preserved
loop-k-preserved c =
    record {
      known = c.in_ok-operand_fits.ensures.known;
      fit = below_more (λ j. operand_fits c.args.clumps c.args.instr.now.op (operands c.args.toc.now.shapes c.args.instr.now c.args.words.now) j ≡ true) c.loop-k.k c.loop-k.invariant.fit
          (sym c.in_ok-operand_fits.ensures.fits ∙ c.if-not-branch.false);
    }
