-- The pool's bytes at the start, counted from what is declared.
use Rattle.std.specs.Prelude.{ℕ, ◌+◌, ◌*◌, length, sum_by}
use Rattle.nxt_types.specs.Pool.{round4, row_size}
use Rattle.nxt_types.specs.Shapes.{Shape, leaf_bytes}
use Rattle.nxt_model.specs.declared.nbc.NbcStart.{NbcStart}
use Rattle.nxt_model.specs.declared.nbc.NbcStart.TheVariants as starts
use Rattle.nxt_model.specs.Assembled.{all_shapes, arrays_in}
use Rattle.nxt_model.specs.TextProgram.{Text, Variable, static_size, text_bytes}
use Rattle.nxt_asm_parts.specs.AssembledParts.{element_of}

-- those of the list that a variable starts with
abbrev pub bytes_of_start : Shape → NbcStart → ℕ
bytes_of_start s starts.Zero = 0
bytes_of_start s (starts.Num z) = 0
bytes_of_start s (starts.List zs) = round4 (length zs * leaf_bytes (element_of s))
bytes_of_start s (starts.Text bytes) = round4 (length bytes + 1)

abbrev pub start_bytes : Variable → ℕ
start_bytes v = bytes_of_start v.shape v.start

-- the static bytes, a row for each array and the table's own, and the lists
abbrev pub counted_footprint : Text → ℕ
counted_footprint p =
    round4 (static_size p) + round4 (row_size * (sum_by arrays_in (all_shapes p) + 1)) + (sum_by start_bytes p.vars + text_bytes p)
