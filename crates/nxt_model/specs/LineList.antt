-- A list of lines, and its room.
use Rattle.std.specs.Prelude.{ℕ, List}
use Rattle.nxt_model.specs.declared.line.Line.{Line}

-- lines, and how many more are taken without memory
pub record Roomy : Type 0 where
  pub lines : List Line
  pub room : ℕ

abbrev pub roomy : List Line → ℕ → Roomy
roomy lines room = record { lines = lines; room = room }
