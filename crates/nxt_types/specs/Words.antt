-- Words of statements that name no entry, and the properties of devices.
use Rattle.std.specs.Prelude.{ℕ}

-- the word that leaves an operand out
abbrev pub left_out : ℕ
left_out = 0xFFFF

-- the first word that names nothing
abbrev pub nameless : ℕ
nameless = 0xC000

-- the greatest properties of sensors and motors
abbrev pub last_input : ℕ
last_input = 5

abbrev pub last_output : ℕ
last_output = 14
