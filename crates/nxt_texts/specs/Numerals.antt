-- Numbers in texts as they are read, and numbers stored for destinations.
use Rattle.std.specs.Prelude.{ℕ, Bool, if◌then◌else◌, ◌==◌, List, option_map, Option, ℤ}
use Rattle.nxt_types.specs.Arithmetic.{word}
use Rattle.nxt_model.specs.Means.Text.{number_at}
use Rattle.nxt_model.specs.Values.{Num, stored}
use Rattle.nxt_space.specs.Variables.{Variables, shape_of, with_value}
use Rattle.nxt_texts.specs.declared.numerals.Numeral.{Numeral}

-- ---- reading

-- a number as its word, and the bytes that it takes
abbrev pub numeral : ℤ × ℕ → Numeral
numeral p = record { word = word p.0; length = p.1 }

-- the one that a text begins with
abbrev pub numeral_at : List ℕ → Option Numeral
numeral_at bytes = option_map numeral (number_at bytes)

abbrev pub is_space : ℕ → Bool
is_space b = b == 32

-- ---- storing

-- the variables with a number for an operand, which may be left out
abbrev pub with_number : Variables → ℕ → ℤ → Variables
with_number s i x =
    if i == 0xFFFF then s else record s { values = with_value s i (stored (shape_of s i) (Num x)) }
