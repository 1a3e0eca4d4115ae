-- What one event told, a dump or another one.
use Rattle.std.proofs.Common.{◌≡◌, ℕ, ◌-◌, List, [], ◌∷◌, Option, None, Some, refl, sym, ap, ◌∙◌, subst, arith, min}
use Rattle.std.proofs.lemmas.List.{append-nil}
use Rattle.std.specs.List.{slice_get}
use Rattle.nxt_model.specs.Dump.{Dump, Mark, AllStand, KeepsLaws, mark_after, mark_of, memory_of, places_of}
use Rattle.nxt_model.specs.declared.event.Event.{Event}
use Rattle.nxt_model.specs.declared.event.Event.TheVariants as events
use Rattle.nxt_model.specs.declared.line.Line.{Line}
use Rattle.nxt_model.specs.Image.{program_of}
use Rattle.nxt_model.specs.LineText.{lines_text}
use Rattle.nxt_model.specs.Report.{EventTells, content_of}
use Rattle.nxt_model.specs.Step.{step}
use Rattle.nxt_space.specs.Dumping.{Obeys, dump_of, places_in, unsettled_of}
use Rattle.nxt_machine.specs.Dumping.{DumpLines, EventLines}
use Rattle.nxt_machine.specs.Machines.{MachineViews, space_of}
use Rattle.nxt_report.specs.Running.{HasTold, setting_of}

-- two dumps with as many unsettled blocks keep the same laws
same_laws : (mark : Option Mark) (d e : Dump) (places others : List (Option ℕ)) → d.unsettled ≡ e.unsettled → places ≡ others → KeepsLaws mark e others → KeepsLaws mark d places
same_laws None d e places others unsettled same laws = tt
same_laws (Some k) d e places others unsettled same laws = rw (unsettled, same) laws

-- a dump leaves the mark to those who look at the one before
dump_mark : (m : MachineViews) (k : Option Mark) → mark_after (program_of m.image) m.effort m.state events.Dump k ≡ k
dump_mark m None = refl
dump_mark m (Some k) = refl

-- what one event told, and that the pool obeys the mark behind it
record Tells (m m' : MachineViews) (mark : Option Mark) (e : Event) (ls : List Line) : Type 0 where
  next : Option Mark
  tells : EventTells (setting_of m) m.state mark e (lines_text ls) next
  obeys : Obeys next (space_of m')

module _ (m m' : MachineViews) (mark : Option Mark) (obeyed : Obeys mark (space_of m)) where
  -- a dump: its own mark is obeyed by the pool that it shows
  dump_tells : (ls : List Line) → DumpLines m ls → ((k : Option Mark) → Obeys k (space_of m) → Obeys k (space_of m')) → Tells m m' mark events.Dump ls
  dump_tells ls lines keeps =
      let c = content_of m.image m.state in
      let d = lines.dump in
      let mine : Mark = mark_of c d lines.lists in
      let falls : unsettled_of (space_of m) ≡ d.unsettled - min d.unsettled 0 = omega (arith, lines.unsettled) in
      let stands : AllStand (places_of (memory_of c d) lines.lists) (places_in (space_of m)) = λ i p here. ap (λ ps. slice_get ps i) lines.places ∙ here in
      record {
        next = Some mine;
        tells = (
          d,
          lines.lists,
          record { shows = lines.shows; laws = same_laws mark d (dump_of (space_of m) []) (places_of (memory_of c d) lines.lists) (places_in (space_of m)) lines.unsettled lines.places obeyed },
          ap lines_text lines.lines,
          refl,
        );
        obeys = keeps (Some mine) (falls, stands);
      }

  event_tells : (e : Event) (ls : List Line) → EventLines m e ls → ((k : Option Mark) → Obeys k (space_of m) → Obeys (mark_after (program_of m.image) m.effort m.state e k) (space_of m')) → Tells m m' mark e ls
  event_tells events.Dump ls lines keeps = dump_tells ls lines (λ k obeys. subst (λ o. Obeys o (space_of m')) (dump_mark m k) (keeps k obeys))
  event_tells events.Bytecode ls lines keeps = record { next = mark_after (program_of m.image) m.effort m.state events.Bytecode mark; tells = (ap lines_text lines, refl); obeys = keeps mark obeyed }
  event_tells e ls lines keeps = record { next = mark_after (program_of m.image) m.effort m.state e mark; tells = (ap lines_text lines, refl); obeys = keeps mark obeyed }

-- one event, from one machine to another
pub event_told : (m m' : MachineViews) (e : Event) (ls : List Line) → m'.image ≡ m.image → m'.effort ≡ m.effort → m'.state ≡ (step (program_of m.image) m.state e).state
    → ((k : Option Mark) → Obeys k (space_of m) → Obeys (mark_after (program_of m.image) m.effort m.state e k) (space_of m'))
    → EventLines m e ls → HasTold m m' (e ∷ []) (lines_text ls)
event_told m m' e ls image effort state keeps lines = record {
  image = image;
  effort = effort;
  told = λ mark obeyed. let t = event_tells m m' mark obeyed e ls lines keeps in (t.next, (lines_text ls, [], t.next, sym (append-nil (lines_text ls)), t.tells, (refl, state, refl)), t.obeys);
}
