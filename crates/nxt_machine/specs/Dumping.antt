-- What a dump of a machine shows, and what an event tells.
use Rattle.std.specs.Prelude.{◌≡◌, ℕ, List, [], ◌∷◌, map, length, take, Option}
use Rattle.nxt_model.specs.Dump.{Dump, Mark, Shows, dump_lines, memory_of, mark_after, places_of}
use Rattle.nxt_model.specs.Image.{program_of}
use Rattle.nxt_model.specs.Program.{Program, State}
use Rattle.nxt_model.specs.Reading.{HeldList}
use Rattle.nxt_model.specs.Report.{content_of}
use Rattle.nxt_model.specs.Step.{step}
use Rattle.nxt_model.specs.declared.event.Event.{Event}
use Rattle.nxt_model.specs.declared.event.Event.TheVariants as events
use Rattle.nxt_model.specs.declared.line.Line.{Line}
use Rattle.nxt_space.specs.Dumping.{places_in, unsettled_of}
use Rattle.nxt_machine.specs.Machines.{MachineViews, space_of}

-- the lines are those of a dump that is right for the state. It shows the machine's own pool as it stands: the table's place, the
-- rows and the places of the lists, and the unsettled blocks
pub record DumpLines (m : MachineViews) (ls : List Line) : Type 0 where
  pub dump : Dump
  pub lists : List HeldList
  pub shows : Shows (content_of m.image m.state) dump lists
  pub rows : map (λ l. l.row) lists ≡ m.rows
  pub places : places_of (memory_of (content_of m.image m.state) dump) lists ≡ places_in (space_of m)
  pub table : dump.table ≡ m.pool.table
  pub unsettled : dump.unsettled ≡ unsettled_of (space_of m)
  pub front : dump.bytes ≡ take (length dump.bytes) m.pool.bytes
  pub lines : ls ≡ dump_lines dump

-- the lines that an event gives
abbrev pub EventLines : MachineViews → Event → List Line → Type 0
EventLines m events.Dump ls = DumpLines m ls
EventLines m e ls = ls ≡ (step (program_of m.image) m.state e).lines

-- the mark after events other than dumps
abbrev pub marks_after : Program → ℕ → List Event → State → Option Mark → Option Mark
marks_after p effort [] st mark = mark
marks_after p effort (e ∷ es) st mark = marks_after p effort es (step p st e).state (mark_after p effort st e mark)
