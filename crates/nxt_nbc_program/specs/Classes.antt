-- Classes of operands.
use Rattle.std.specs.Prelude.{Bool, true, false}
use Rattle.nxt_types.specs.declared.opcodes.Class.{Class}
use Rattle.nxt_types.specs.declared.opcodes.Class.TheVariants.{OptionalOut, OptionalIn}

-- an operand that may be left out
abbrev pub is_optional : Class → Bool
is_optional OptionalOut = true
is_optional OptionalIn = true
is_optional _ = false
