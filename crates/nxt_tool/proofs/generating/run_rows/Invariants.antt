-- The rows that are left.
use Rattle.std.proofs.Common.{drop}
use Rattle.std.specs.Prelude.{flat_map}
use Rattle.nxt_model.specs.Step.{events_of}
use Rattle.nxt_tool.proofs.RunRows.{Leads}
use Rattle.nxt_tool.proofs.generating.run_rows.Given as goal

abbrev pub invariant-loop-row : goal.invariant-loop-row
invariant-loop-row l =
    Leads l.initial.machine l.initial.lines.lines (flat_map events_of l.rows) l.machine l.lines.lines (flat_map events_of (drop l.row-index l.rows))
