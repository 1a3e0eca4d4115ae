-- The rows that ran have told a text, of which some is written and the rest is gathered.
use Rattle.std.proofs.Common.{◌≡◌, ◌≤◌, ◌-◌, ℕ, List, Some}
use Rattle.std.specs.Io.KnownBytes.{IsAtEnd}
use Rattle.nxt_script.specs.Ahead.{HasEnded}
use Rattle.nxt_script.specs.Rows.{Listing, rows}
use Rattle.nxt_script.specs.Scripts.{to_come, rows_given, IsOpen}
use Rattle.nxt_report.specs.Writing.{Wrote}
use Rattle.nxt_report.proofs.Cut.{Took}
use Rattle.nxt_report.proofs.Rows.{RowsRan}
use Rattle.nxt_report.proofs.running.run_script.Given as goal

abbrev pub invariant-loop-row : goal.invariant-loop-row
invariant-loop-row g l = record {
  told : (s : List ℕ) → g.Q.Source.left l.initial.source ≡ Some s → (rest : Listing)
      × (to_come l.script (g.Q.Source.left l.source) ≡ Some rest)
      × (rest.end ≡ (rows s).end)
      × (text : List ℕ)
      × RowsRan l.initial.machine l.machine (rows s).rows rest.rows l.rows text
      × Wrote (g.R.Sink.written l.initial.report) (g.R.Sink.written l.report) text l.gathered;
  took : Took l.script (g.Q.Source.left l.initial.source) (g.Q.Source.left l.source) l.rows;
  ended : HasEnded l.script → IsAtEnd (g.Q.Source.left l.source);
  open_yet : IsOpen l.script;
  given : rows_given l.script ≡ l.rows;
  few : l.rows ≤ 100000;
  source : g.Q.Source.faults l.initial.source ≤ g.Q.Source.faults l.source;
  report : g.R.Sink.faults l.initial.report ≤ g.R.Sink.faults l.report;
}

abbrev pub decreases-loop-row : goal.decreases-loop-row
decreases-loop-row g l = 100001 - l.rows
