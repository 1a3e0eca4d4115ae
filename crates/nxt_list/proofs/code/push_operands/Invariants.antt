-- The text so far, and the operands that are left.
use Rattle.std.proofs.Common.{◌≡◌, ◌++◌, drop, map}
use Rattle.std.specs.List.{enumerate_from}
use Rattle.nxt_model.specs.LineText.{fields}
use Rattle.nxt_types.specs.Statements.{statement_of}
use Rattle.nxt_list.specs.Listing.{operand_field, operand_fields}
use Rattle.nxt_list.proofs.code.push_operands.Given as goal

abbrev pub invariant-loop-k : goal.invariant-loop-k
invariant-loop-k l =
    let args = (statement_of l.instr l.words).args in
    l.into ++ fields (map (operand_field l.instr.op) (enumerate_from l.k (drop l.k args))) ≡ l.fn.into ++ fields (operand_fields l.instr.op args)
