-- Runs without dumps.
use Rattle.std.specs.Prelude.{◌≡◌, List, ◌++◌, ⊤}
use Rattle.nxt_model.specs.declared.event.Event.{Event}
use Rattle.nxt_model.specs.declared.event.Event.TheVariants.{Dump}
use Rattle.nxt_model.specs.declared.event.ScriptRow.{ScriptRow}
use Rattle.nxt_model.specs.declared.event.ScriptRow.TheVariants.{One}
use Rattle.nxt_model.specs.declared.line.Line.{Line}
use Rattle.nxt_model.specs.Image.{program_of}
use Rattle.nxt_model.specs.Step.{run}
use Rattle.nxt_machine.specs.Machines.{MachineViews}

-- the row isn't a dump
abbrev pub IsPlain : ScriptRow → Type 0
IsPlain (One Dump) = ⊥
IsPlain _ = ⊤

-- events led from one machine to another, and their lines stand behind those before
pub record HasRun (m m' : MachineViews) (es : List Event) (before after : List Line) : Type 0 where
  pub image : m'.image ≡ m.image
  pub state : m'.state ≡ (run (program_of m.image) es m.state).state
  pub lines : after ≡ before ++ (run (program_of m.image) es m.state).lines
