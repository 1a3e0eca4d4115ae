-- The lines of one event, gathered and written.
use Rattle.std.proofs.Common.{◌≡◌, ◌++◌, ◌∙◌, List, [], ◌∷◌, refl, sym, ap, subst, arith}
use Rattle.nxt_model.specs.LineText.{lines_text}
use Rattle.nxt_model.specs.declared.event.Event.{Event}
use Rattle.nxt_model.specs.declared.line.Line.{Line}
use Rattle.nxt_report.specs.Running.{HasTold}
use Rattle.nxt_report.specs.declared.writing.Fault.TheVariants.{NoMemory}
use Rattle.nxt_report.proofs.Events.{event_told}
use Rattle.nxt_report.proofs.Pieces.{Front-none}
use Rattle.nxt_report.proofs.Runs.{first_all, has_told_none, ran_failed, ran_gathered}
use Rattle.nxt_report.proofs.running.run_event.Goals as goal

pub returns-in_err-event : goal.returns-in_err-event
returns-in_err-event g c =
    let es : List Event = c.args.event.now ∷ [] in
    ran_failed _ _ es _ _ _ _ c.from_residual.result c.args.gathered.now _ [] NoMemory c.from_residual.ensures.1
    (first_all c.args.machine.now c.args.machine.now es [] es [] refl (has_told_none c.args.machine.now))
    (Front-none _ _)
    (omega arith)
    (tt, λ other. absurd cc)

pub returns : goal.returns
returns g c =
    let m = c.args.machine.now in
    let m' = c.event.new.self in
    let es : List Event = c.args.event.now ∷ [] in
    let did = c.in_ok-event.ensures in
    let told : List Line = c.as_slice.result.now in
    let ls : List Line = did.lines.0 in
    let same : told ≡ ls = c.as_slice.ensures ∙ (did.lines.2 ∙ ap (λ (l : List Line). l ++ ls) c.new-lines.ensures) in
    let has : HasTold m m' es (lines_text told) =
    subst (λ (l : List Line). HasTold m m' es (lines_text l)) (sym same) (event_told m m' c.args.event.now ls did.image did.effort did.state did.obeys did.lines.1) in
    ran_gathered m m' es _ _ _ _ c.gather.result c.args.gathered.now _ (lines_text told) has c.gather.ensures
