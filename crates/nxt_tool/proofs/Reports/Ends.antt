-- What is due to a script, by how its run ended.
use Rattle.std.proofs.Common.{◌≡◌, ℕ, List, [], ◌++◌, Option, None, inl, inr, refl, sym, ap, subst}
use Rattle.std.specs.Prelude.{flat_map}
use Rattle.nxt_edge.specs.Edge.{AppendsFront}
use Rattle.nxt_edge.proofs.Laws.{Front-more}
use Rattle.nxt_machine.specs.Machines.{MachineViews}
use Rattle.nxt_model.specs.declared.event.Event.{Event}
use Rattle.nxt_model.specs.declared.event.ScriptRow.{ScriptRow}
use Rattle.nxt_model.specs.Image.{Image, program_of}
use Rattle.nxt_model.specs.Program.{State, start}
use Rattle.nxt_model.specs.Report.{IsReport, Tells, Told, closing, setting}
use Rattle.nxt_model.specs.Step.{events_of}
use Rattle.nxt_report.specs.Running.{Reports, ReportsUpTo, RowsToldFirst, setting_of}
use Rattle.nxt_report.specs.Statuses.{IsRunEnd, status_of}
use Rattle.nxt_report.specs.declared.status.Status.{Status}
use Rattle.nxt_report.specs.declared.status.Status.TheVariants as status
use Rattle.nxt_script.specs.Rows.{Listing, rows}
use Rattle.nxt_tool.specs.Due.{Answer, Ended, Meets, NotRefused, RunOn, answer}
use Rattle.nxt_tool.proofs.Reports.Going.{GoesOn}

-- some report is due
pub some_on : (image : Image) (effort : ℕ) → GoesOn (setting image effort) → (s : List ℕ) → (a : Answer) × RunOn image effort s a
some_on image effort law s =
    let st = start (program_of image) in
    let on = law [] (flat_map events_of (rows s).rows) [] st None (refl, refl, refl) in
    (answer (status_of (rows s).end) [] (on.0 ++ closing (rows s).end), (on.0 ++ closing (rows s).end, (on.0, on.1, refl), refl))

-- a machine at its start, with an effort
module _ (m : MachineViews) (effort : ℕ) (same : m.effort ≡ effort) (first : m.state ≡ start (program_of m.image)) where
  pub tells_from : (es : List Event) (text : List ℕ) → Tells (setting_of m) m.state None es text → Tells (setting m.image effort) (start (program_of m.image)) None es text
  tells_from es text t =
      subst (λ k. Tells (setting m.image k) (start (program_of m.image)) None es text) same (subst (λ st. Tells (setting_of m) st None es text) first t)

  is_report : (l : Listing) (text : List ℕ) → Reports m l text → IsReport (setting m.image effort) l.rows l.end text
  is_report l text r = (r.0, tells_from (flat_map events_of l.rows) r.0 r.1, r.2)

  module _ (law : GoesOn (setting m.image effort)) where
    goes_on : (rs : List ScriptRow) (text : List ℕ) → RowsToldFirst m rs text
        → (rest : List ℕ) × Tells (setting m.image effort) (start (program_of m.image)) None (flat_map events_of rs) (text ++ rest)
    goes_on rs text t =
        let told = subst (λ k. Told (setting m.image k) (start (program_of m.image)) None t.done text t.state t.mark) same (subst (λ st. Told (setting_of m) st None t.done text t.state t.mark) first t.told) in
        let on = law t.done t.more text t.state t.mark told in
        (on.0, subst (λ es. Tells (setting m.image effort) (start (program_of m.image)) None es (text ++ on.0)) (sym t.split) on.1)

    -- a report as far as it goes is a front of a whole one
    up_to : (l : Listing) (text : List ℕ) (old new : Option (List ℕ)) → ReportsUpTo m l text → AppendsFront old new text
        → (whole : List ℕ) × IsReport (setting m.image effort) l.rows l.end whole × AppendsFront old new whole
    up_to l text old new (inl t) front =
        let on = goes_on l.rows text t in
        ((text ++ on.0) ++ closing l.end, (text ++ on.0, on.1, refl), Front-more old new (text ++ on.0) (closing l.end) (Front-more old new text on.0 front))
    up_to l text old new (inr r) front = (text, is_report l text r, front)

    module _ (s : List ℕ) (old new : Option (List ℕ)) where
      abbrev given : List ℕ → Answer
      given text = answer (status_of (rows s).end) [] text

      part : (st : Status) → (IsRunEnd st → ⊥) → Ended m (rows s) st old new → (a : Answer) × RunOn m.image effort s a × AppendsFront old new a.report
      part st fault ended =
          let p = ended.part fault in
          let u = up_to (rows s) p.0 old new p.1 p.2 in
          (given u.0, (u.0, u.1, refl), u.2)

      pub due : (st : Status) → NotRefused st → Ended m (rows s) st old new → (a : Answer) × RunOn m.image effort s a × Meets st a old new
      due status.Done not ended = let w = ended.whole tt in (given w.1.0, (w.1.0, is_report (rows s) w.1.0 w.1.1, refl), (w.0, w.1.2))
      due status.ScriptRefused not ended = let w = ended.whole tt in (given w.1.0, (w.1.0, is_report (rows s) w.1.0 w.1.1, refl), (w.0, w.1.2))
      due status.TooLarge not ended = let w = ended.whole tt in (given w.1.0, (w.1.0, is_report (rows s) w.1.0 w.1.1, refl), (w.0, w.1.2))
      due status.Refused not ended = absurd (not.0 refl)
      due status.Words not ended = absurd (not.1 refl)
      due status.ReadFault not ended = part status.ReadFault (λ is. is) ended
      due status.WriteFault not ended = part status.WriteFault (λ is. is) ended
      due status.NoMemory not ended = part status.NoMemory (λ is. is) ended
