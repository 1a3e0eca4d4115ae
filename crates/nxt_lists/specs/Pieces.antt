-- What sources give for a list, and how much of the pool elements take.
use Rattle.std.specs.Prelude.{ℕ, List, map, flat_map, sum_by, ℤ}
use Rattle.nxt_types.specs.Shapes.{Shape}
use Rattle.nxt_model.specs.Means.Arrays.{pieces}
use Rattle.nxt_model.specs.Values.{Value, items, many, lists_in}
use Rattle.nxt_model.specs.Footprint.{list_bytes}
use Rattle.nxt_values.specs.Fills.{filled}
use Rattle.nxt_space.specs.Variables.{Variables, shape_of}
use Rattle.nxt_values.specs.declared.sizing.Size.{Size}
use Rattle.nxt_operands.specs.Operands.{given}

-- the elements that variables give for a list, one after another
abbrev pub pieces_of : Variables → ℕ → List ℕ → List Value
pieces_of s list sources = flat_map (pieces (shape_of s list)) (map (given s) sources)

-- so many values of a shape that the numbers begin with
abbrev pub many_filled : Shape → ℕ → List ℤ → List Value
many_filled s count zs = items (many count (filled s) zs).0

-- how many lists stand in values of a shape, and how many bytes they take
abbrev pub size_of_each : Shape → List Value → Size
size_of_each s vs = record { lists = sum_by lists_in vs; bytes = sum_by (list_bytes s) vs }
