-- The bytecodes that ran have told a text, of which some is written and the rest is gathered.
use Rattle.std.proofs.Common.{◌≡◌, ◌≤◌, ◌-◌, ◌++◌, ℕ, List, [], replicate}
use Rattle.nxt_model.specs.declared.event.Event.TheVariants.{Bytecode}
use Rattle.nxt_report.specs.Running.{HasTold}
use Rattle.nxt_report.specs.Writing.{Wrote}
use Rattle.nxt_report.proofs.running.run_bytecodes.Given as goal

abbrev pub invariant-loop-left : goal.invariant-loop-left
invariant-loop-left g l = record {
  ran : (text : List ℕ) × HasTold l.initial.machine l.machine (replicate (l.count - l.left) Bytecode) text
      × Wrote (g.R.Sink.written l.initial.report) (g.R.Sink.written l.report) (l.initial.gathered ++ text) l.gathered;
  few : l.left ≤ l.count;
  lines : l.lines.lines ≡ [];
  later : g.R.Sink.faults l.initial.report ≤ g.R.Sink.faults l.report;
}

abbrev pub decreases-loop-left : goal.decreases-loop-left
decreases-loop-left g l = l.left
