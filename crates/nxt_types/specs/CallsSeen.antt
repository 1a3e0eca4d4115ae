-- The program's table of system calls, as the definitions see it.
use Rattle.nxt_types.specs.declared.calls.CallRow.{CallRow as ProgramRow}
use Rattle.nxt_types.specs.Calls.{CallRow, a_row}

abbrev pub call_row_seen : ProgramRow → CallRow
call_row_seen r = a_row r.number r.name.now r.fields.now
