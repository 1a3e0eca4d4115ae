-- The lines of a layout's rows.
use Rattle.std.specs.Prelude.{ℕ, ◌==◌, Bool, List, [], if◌then◌else◌}
use Rattle.std.specs.List.{list_any}
use Rattle.nxt_types.specs.declared.shape.TocEntry.{TocEntry}
use Rattle.nxt_model.specs.Reading.{Memory}
use Rattle.nxt_layout.specs.Layouts.{FileLayout}
use Rattle.nxt_list.specs.Listing.{lines_of_rows}

-- a layout's entries and its dataspace, in which the table of rows stands
abbrev pub memory_of : FileLayout → Memory
memory_of l = record { entries = l.entries; bytes = l.dataspace; table = l.dope_at }

abbrev pub has_array_entry : List TocEntry → Bool
has_array_entry entries = list_any (λ e. e.code == 7) entries

abbrev pub lines_of_layout : FileLayout → List ℕ
lines_of_layout l = if has_array_entry l.entries then lines_of_rows (memory_of l) l.rows else []
