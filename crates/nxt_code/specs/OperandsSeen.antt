-- What the program's operands are seen as.
use Rattle.std.specs.Prelude.{ℕ, List, Option, Some, None}
use Rattle.std.proofs.Common.{Bor}
use Rattle.nxt_types.specs.declared.instr.Instr.{Instr}
use Rattle.nxt_types.specs.declared.shape.Shape as seen
use Rattle.nxt_types.specs.Shapes.{Shape, Void, Members, tree}
use Rattle.nxt_types.specs.Statements.{statement_of}
use Rattle.nxt_types.specs.OperandRules.{Sort, sorts_of}

-- the tree of the shape, or the void where there is none
abbrev pub shape_seen : Option (Bor seen.Shape) → Shape
shape_seen None = Void
shape_seen (Some s) = tree s.now

-- what a statement's operands are
abbrev pub operands : Members → Instr → List ℕ → List Sort
operands ss i words = sorts_of ss (statement_of i words)
