-- The bytecodes that are left.
use Rattle.std.proofs.Common.{replicate}
use Rattle.nxt_model.specs.declared.event.Event.TheVariants.{Bytecode}
use Rattle.nxt_tool.proofs.RunRows.{Leads}
use Rattle.nxt_tool.proofs.generating.run_bytecodes.Given as goal

abbrev pub invariant-loop-left : goal.invariant-loop-left
invariant-loop-left l =
    Leads l.initial.machine l.initial.lines.lines (replicate l.count Bytecode) l.machine l.lines.lines (replicate l.left Bytecode)

abbrev pub decreases-loop-left : goal.decreases-loop-left
decreases-loop-left l = l.left
