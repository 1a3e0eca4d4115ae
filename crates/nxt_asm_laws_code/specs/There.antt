-- Operands whose parts and constants are there.
use Rattle.std.specs.Prelude.{ℕ, ◌<◌, List, [], ◌∷◌, map, length, nat_abs, bytes_eq, slice_index_or, ⊤}
use Rattle.std.specs.Ordering.{int_eq}
use Rattle.nxt_types.specs.Shapes.{Shape, Void}
use Rattle.nxt_model.specs.declared.nbc.NbcArg.{NbcArg}
use Rattle.nxt_model.specs.declared.nbc.NbcArg.TheVariants as args
use Rattle.nxt_model.specs.Assembled.{place_among, shapes_in}
use Rattle.nxt_model.specs.SystemCalls.{field_shape}
use Rattle.nxt_model.specs.TextProgram.{Text, constant, constants, declared, returns, subroutine_number, texts}

-- positions of members lead from a shape to a part of it
abbrev pub LeadsTo : Shape → List ℕ → Type 0
LeadsTo s [] = ⊤
LeadsTo s (k ∷ ks) = (k < length (shapes_in s)) × LeadsTo (field_shape k s) ks

-- a variable is declared and has the part, a constant is among the program's, and a block has a return variable
abbrev pub IsThere : Text → NbcArg → Type 0
IsThere p (args.Var i path) = (i < length (declared p)) × LeadsTo (slice_index_or (declared p) i Void) (map nat_abs path)
IsThere p (args.Number z) = place_among int_eq (constant z) (constants p) < length (constants p)
IsThere p (args.Text bytes) = place_among bytes_eq bytes (texts p) < length (texts p)
IsThere p (args.Back b) = subroutine_number p b < length (returns p)
IsThere p _ = ⊤
