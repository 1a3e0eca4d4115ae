-- Lists of numbers.
use Rattle.std.specs.Prelude.{◌≡◌, List, map, ℤ}
use Rattle.nxt_model.specs.Values.{Value, Num, list_of, elements, number}

-- the numbers that are a list's elements
abbrev pub numbers_in : Value → List ℤ
numbers_in v = map number (elements v)

-- the value is the list of its numbers
abbrev pub AreNumbers : Value → Type 0
AreNumbers v = v ≡ list_of (map Num (numbers_in v))
