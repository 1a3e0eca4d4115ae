-- The program's blocks, as the definitions see them.
use Rattle.std.specs.Prelude.{map}
use Rattle.nxt_model.specs.Nbc.Text.{Block}
use Rattle.nxt_nbc_lines.specs.Seen.{line_form_seen}
use Rattle.nxt_nbc_names.specs.declared.blocks.Block.{Block as ProgramBlock}

abbrev pub block_seen : ProgramBlock → Block
block_seen b = record { name = b.name.now; subroutine = b.subroutine; line = b.line; items = map line_form_seen b.lines.now }
