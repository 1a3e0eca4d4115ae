-- Row by row.
use Rattle.std.proofs.Common.{◌≡◌, ◌+◌, ℕ, List, [], drop, subst}
use Rattle.std.proofs.Math.ListN.{drop_of_length-le}
use Rattle.std.specs.Prelude.{flat_map}
use Rattle.nxt_model.specs.declared.event.Event.{Event}
use Rattle.nxt_model.specs.declared.event.ScriptRow.{ScriptRow}
use Rattle.nxt_model.specs.Step.{events_of}
use Rattle.nxt_tool.proofs.RunRows.{Leads, leads_all, leads_more, rows_left}
use Rattle.nxt_tool.proofs.generating.run_rows.Goals as goal

pub loop-row-preserved : goal.loop-row-preserved
loop-row-preserved c =
    let start = c.args.machine.now in
    let rows : List ScriptRow = c.args.rows.now in
    let i : ℕ = c.loop-row.row-index in
    let all : List Event = flat_map events_of rows in
    leads_more start c.loop-row.machine c.run_row.new.machine c.args.lines.now.lines c.loop-row.lines.lines c.run_row.new.lines.lines all (events_of c.row-item.result) (flat_map events_of (drop (i + 1) rows))
    (subst (λ (es : List Event). Leads start c.args.lines.now.lines all c.loop-row.machine c.loop-row.lines.lines es) (rows_left rows i c.row-item.result c.loop-row-test.true c.row-item.is) c.loop-row.invariant)
    c.in_ok-run_row.ensures

pub returns : goal.returns
returns c =
    let none : drop c.loop-row.row-index c.args.rows.now ≡ [] = drop_of_length-le c.args.rows.now c.loop-row-test.false in
    leads_all c.args.machine.now c.loop-row.machine c.args.lines.now.lines c.loop-row.lines.lines (flat_map events_of c.args.rows.now)
    (subst (λ (rows : List ScriptRow). Leads c.args.machine.now c.args.lines.now.lines (flat_map events_of c.args.rows.now) c.loop-row.machine c.loop-row.lines.lines (flat_map events_of rows)) none c.loop-row.invariant)
