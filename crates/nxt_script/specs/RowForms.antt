-- The forms of a script's rows.
use Rattle.std.specs.Prelude.{ℕ, ◌&&◌, if◌then◌else◌, ◌==◌, nat_lt, nat_le, List, [], ◌∷◌, length, find, slice_index_or, codes, ℤ, pos, neg_ℤ, int_le, int_lt, nat_abs, Option, Some, None, option_map, option_and_then, Result, Ok, Err, bytes_eq}
use Rattle.std.specs.Str.{all_ascii_digits}
use Rattle.std.specs.Str.Parse.{digits_value}
use Rattle.hex.specs.Hex.{decode_of}
use Rattle.hex.specs.declared.error.FromHexError.{FromHexError}
use Rattle.nxt_model.specs.declared.event.Event.TheVariants.{Tick, Reading, Tacho, Button, Battery, Random, Telegram, Compact, Dump}
use Rattle.nxt_model.specs.declared.event.ScriptRow.{ScriptRow}
use Rattle.nxt_model.specs.declared.event.ScriptRow.TheVariants.{Run, One}

-- ---- numbers

-- the numbers from a least to a greatest one
pub record Range : Type 0 where
  pub least : ℤ
  pub greatest : ℤ

abbrev pub up_to : ℕ → Range
up_to n = record { least = pos 0; greatest = pos n }

abbrev pub from_to : ℕ → ℕ → Range
from_to low high = record { least = neg_ℤ (pos low); greatest = pos high }

-- one to ten digits
abbrev pub unsigned_number : List ℕ → Option ℤ
unsigned_number ds =
    if nat_lt 0 (length ds) && nat_le (length ds) 10 && all_ascii_digits ds then Some (pos (digits_value 10 ds)) else None

-- with a minus in front
abbrev pub signed_number : List ℕ → Option ℤ
signed_number [] = None
signed_number (c ∷ cs) = if c == 45 then option_map neg_ℤ (unsigned_number cs) else unsigned_number (c ∷ cs)

abbrev pub within : Range → ℤ → Option ℤ
within r z = if int_le r.least z && int_le z r.greatest then Some z else None

-- a field's number; a minus may stand where the range has negative numbers
abbrev pub number_in : Range → List ℕ → Option ℤ
number_in r field =
    option_and_then (within r) (if int_lt r.least (pos 0) then signed_number field else unsigned_number field)

-- a number for each range, from as many fields
abbrev pub numbers_in : List Range → List (List ℕ) → Option (List ℤ)
numbers_in [] [] = Some []
numbers_in [] (f ∷ fs) = None
numbers_in (r ∷ rs) [] = None
numbers_in (r ∷ rs) (f ∷ fs) = option_and_then (λ z. option_map (λ zs. z ∷ zs) (numbers_in rs fs)) (number_in r f)

-- ---- forms

-- a row's name, the ranges of its numbers, and the row of these numbers
pub record Form : Type 0 where
  pub name : List ℕ
  pub ranges : List Range
  pub make : (ℕ → ℤ) → ScriptRow

abbrev pub form : List ℕ → List Range → ((ℕ → ℤ) → ScriptRow) → Form
form name ranges make = record { name = name; ranges = ranges; make = make }

abbrev pub number_at : List ℤ → ℕ → ℤ
number_at zs k = slice_index_or zs k (pos 0)

abbrev pub u8 : Range
u8 = up_to 255

abbrev pub u16 : Range
u16 = up_to 65535

abbrev pub i8 : Range
i8 = from_to 128 127

abbrev pub i16 : Range
i16 = from_to 32768 32767

abbrev pub i32 : Range
i32 = from_to 2147483648 2147483647

abbrev pub forms : List Form
forms =
    form (codes "run") (up_to 1000000 ∷ []) (λ z. Run (nat_abs (z 0)))
    ∷ form (codes "tick") (up_to 1000000 ∷ []) (λ z. One (Tick (nat_abs (z 0))))
    ∷ form (codes "reading") (up_to 3 ∷ u16 ∷ u16 ∷ i16 ∷ [])
    (λ z. One (Reading (nat_abs (z 0)) (nat_abs (z 1)) (nat_abs (z 2)) (z 3)))
    ∷ form (codes "tacho") (up_to 2 ∷ i8 ∷ i32 ∷ i32 ∷ i32 ∷ [])
    (λ z. One (Tacho (nat_abs (z 0)) (z 1) (z 2) (z 3) (z 4)))
    ∷ form (codes "button") (up_to 3 ∷ up_to 1 ∷ u8 ∷ [])
    (λ z. One (Button (nat_abs (z 0)) (nat_abs (z 1)) (nat_abs (z 2))))
    ∷ form (codes "battery") (u16 ∷ []) (λ z. One (Battery (nat_abs (z 0))))
    ∷ form (codes "random") (i16 ∷ []) (λ z. One (Random (z 0)))
    ∷ form (codes "compact") (u16 ∷ []) (λ z. One (Compact (nat_abs (z 0))))
    ∷ form (codes "dump") [] (λ z. One Dump)
    ∷ []

abbrev pub row_by : Option Form → List (List ℕ) → Option ScriptRow
row_by None fields = None
row_by (Some f) fields = option_map (λ zs. f.make (number_at zs)) (numbers_in f.ranges fields)

-- ---- telegrams

-- at most 64 bytes
abbrev pub short_telegram : Result (List ℕ) FromHexError → Option ScriptRow
short_telegram (Ok bytes) = if nat_le (length bytes) 64 then Some (One (Telegram bytes)) else None
short_telegram (Err e) = None

abbrev pub telegram_by : List (List ℕ) → Option ScriptRow
telegram_by [] = None
telegram_by (digits ∷ []) = short_telegram (decode_of digits)
telegram_by (digits ∷ other ∷ more) = None

-- ---- rows

-- the row that a record's fields spell
abbrev pub row_of : List (List ℕ) → Option ScriptRow
row_of [] = None
row_of (name ∷ fields) =
    if bytes_eq name (codes "telegram")
    then telegram_by fields
    else row_by (find (λ f. bytes_eq f.name name) forms) fields
