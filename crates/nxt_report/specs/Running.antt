-- What a machine tells of events, and reports of a script's rows.
use Rattle.std.specs.Prelude.{◌≡◌, ◌⊎◌, ℕ, ◌≤◌, List, ◌++◌, flat_map, Option, None, Result, OnOk, OnErr, IfErr}
use Rattle.nxt_edge.specs.Edge.{Rose, AppendsFront}
use Rattle.nxt_model.specs.Dump.{Mark}
use Rattle.nxt_model.specs.declared.event.Event.{Event}
use Rattle.nxt_model.specs.declared.event.ScriptRow.{ScriptRow}
use Rattle.nxt_model.specs.Program.{State}
use Rattle.nxt_model.specs.Report.{Setting, Tells, Told, closing, setting}
use Rattle.nxt_model.specs.Step.{events_of}
use Rattle.nxt_space.specs.Dumping.{Obeys}
use Rattle.nxt_machine.specs.Machines.{MachineViews, space_of}
use Rattle.nxt_script.specs.Rows.{Listing}
use Rattle.nxt_report.specs.Writing.{Wrote, IsOfWriting}
use Rattle.nxt_report.specs.declared.writing.Fault.{Fault}
use Rattle.nxt_report.specs.declared.writing.Fault.TheVariants.{Write}

-- what a machine runs: its image's program, with its effort
abbrev pub setting_of : MachineViews → Setting
setting_of m = setting m.image m.effort

-- ---- events

-- events led from one machine to another and told this text. Where the pool obeys a mark before them, it obeys the mark behind them
pub record HasTold (m m' : MachineViews) (es : List Event) (text : List ℕ) : Type 0 where
  pub image : m'.image ≡ m.image
  pub effort : m'.effort ≡ m.effort
  pub told : (mark : Option Mark) → Obeys mark (space_of m) → (next : Option Mark) × Told (setting_of m) m.state mark es text m'.state next × Obeys next (space_of m')

-- the first of these events told this text
pub record HasToldFirst (m : MachineViews) (es : List Event) (text : List ℕ) : Type 0 where
  pub done : List Event
  pub more : List Event
  pub split : es ≡ done ++ more
  pub told : (mark : Option Mark) → Obeys mark (space_of m) → (st : State) × (next : Option Mark) × Told (setting_of m) m.state mark done text st next

-- events ran: what they told was added to a gathered text, and a front of that was written. At an `Err` the first of them told a
-- text, and a front of the gathered one and that was written
pub record Ran {T : Type 0} (m m' : MachineViews) (es : List Event) (old new : Option (List ℕ)) (before now : ℕ) (result : Result T Fault) (gathered left : List ℕ) : Type 0 where
  pub ok : OnOk result ((text : List ℕ) × HasTold m m' es text × Wrote old new (gathered ++ text) left)
  pub err : OnErr result ((text : List ℕ) × HasToldFirst m es text × AppendsFront old new (gathered ++ text))
  pub later : before ≤ now
  pub cause : IfErr result (λ fault. IsOfWriting fault × (fault ≡ Write → Rose before now))

-- ---- rows

-- a text that the rows may tell
abbrev pub RowsTell : MachineViews → List ScriptRow → List ℕ → Type 0
RowsTell m rows text = Tells (setting_of m) m.state None (flat_map events_of rows) text

-- a whole report: what the rows tell, and the line that ends it
abbrev pub Reports : MachineViews → Listing → List ℕ → Type 0
Reports m l text = (told : List ℕ) × RowsTell m l.rows told × (text ≡ told ++ closing l.end)

-- what the first events of the rows told, up to some state and mark
pub record RowsToldFirst (m : MachineViews) (rows : List ScriptRow) (text : List ℕ) : Type 0 where
  pub done : List Event
  pub more : List Event
  pub split : flat_map events_of rows ≡ done ++ more
  pub state : State
  pub mark : Option Mark
  pub told : Told (setting_of m) m.state None done text state mark

-- a report as far as it goes
abbrev pub ReportsUpTo : MachineViews → Listing → List ℕ → Type 0
ReportsUpTo m l text = RowsToldFirst m l.rows text ⊎ Reports m l text
