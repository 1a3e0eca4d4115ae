-- The memory of a file at the start.
use Rattle.nxt_model.specs.Reading.{Memory}
use Rattle.nxt_layout.specs.Layouts.{FileLayout}

-- the dataspace of a layout, with the table of rows in it
abbrev pub memory_of : FileLayout → Memory
memory_of l = record { entries = l.entries; bytes = l.dataspace; table = l.dope_at }
