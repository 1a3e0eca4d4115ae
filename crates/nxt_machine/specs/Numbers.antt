-- The numbers and ports that operands name, and what stops and motors make of them.
use Rattle.std.specs.Prelude.{ℕ, Bool, ◌==◌, if◌then◌else◌, List, [], ◌∷◌, ℤ, nat_abs, filter}
use Rattle.std.specs.List.{list_any}
use Rattle.nxt_types.specs.Arithmetic.{cut}
use Rattle.nxt_types.specs.Names.{named}
use Rattle.nxt_types.specs.declared.kind.Kind.TheVariants.{Ubyte}
use Rattle.nxt_types.specs.declared.opcodes.Class.TheVariants.{OptionalIn}
use Rattle.nxt_model.specs.Values.{number}
use Rattle.nxt_model.specs.Variables.{part_of, refers, read}
use Rattle.nxt_model.specs.Devices.{Devices, Change, each_port, motor_at, with_motor, set_property}
use Rattle.nxt_model.specs.Means.Effects.{value_of}
use Rattle.nxt_model.specs.Means.Ports.{commit_if_flagged, named_ports}
use Rattle.nxt_model.specs.Step.{stops_at}
use Rattle.nxt_space.specs.Variables.{Variables}
use Rattle.nxt_operands.specs.Operands.{given}

-- the number that a word names, or 0
abbrev pub number_at : Variables → ℕ → ℤ
number_at s w = number (value_of (read s.values (part_of (named s.shapes w))))

-- whether a stop stops, by the word that it has
abbrev pub halts : Variables → ℕ → Bool
halts s w = stops_at (read s.values (refers s.shapes OptionalIn w))

-- ---- motors

-- words that are a property and name a number in turn, with these numbers stored in a motor
abbrev pub with_pairs : Variables → List ℕ → List ℤ → List ℤ
with_pairs s [] motor = motor
with_pairs s (p ∷ []) motor = motor
with_pairs s (p ∷ v ∷ more) motor = with_pairs s more (set_property p (number_at s v) motor)

-- a motor's update flags, with a number stored in a property
abbrev pub flags_set : ℕ → ℕ → ℤ → ℕ
flags_set flags prop z = if prop == 0 then nat_abs (cut Ubyte z) else flags

-- the change of a port's motor by such words, which takes them over where its flags say so
abbrev pub set_motor_by : Variables → List ℕ → ℕ → Devices → Change
set_motor_by s pairs port d = commit_if_flagged port (with_motor port (with_pairs s pairs (motor_at port d)) d)

-- the ports that the operand names which begins at an entry
abbrev pub ports_at : Variables → ℕ → List ℕ
ports_at s i = named_ports (given s i)

-- whether a port is among them
abbrev pub is_among : List ℕ → ℕ → Bool
is_among ports p = list_any (λ n. n == p) ports

-- the change of the motors of those ports, one after another
abbrev pub set_motors_by : Variables → List ℕ → List ℕ → Devices → Change
set_motors_by s ports pairs d = each_port (filter (is_among ports) (0 ∷ 1 ∷ 2 ∷ [])) (set_motor_by s pairs) d
