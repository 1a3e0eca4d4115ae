-- Texts among the variables, and how statements that store bytes end.
use Rattle.std.specs.Prelude.{ℕ, List, [], ◌∷◌, map, length, ℤ, pos, ◌≤ℤ◌}
use Rattle.std.specs.List.{flat_map}
use Rattle.std.specs.declared.result.Result.{Result}
use Rattle.nxt_model.specs.Devices.{Devices}
use Rattle.nxt_model.specs.Means.Effects.{gives}
use Rattle.nxt_model.specs.Means.Text.{body}
use Rattle.nxt_model.specs.Values.{byte_list, bytes_of}
use Rattle.nxt_space.specs.Variables.{Variables, SpaceViews, value_of}
use Rattle.nxt_space.specs.Outcomes.{Does}
use Rattle.nxt_space.specs.declared.fault.OpFault.{OpFault}
use Rattle.nxt_operands.specs.Operands.{Done, given, place_of, values_stored}
use Rattle.nxt_texts.specs.declared.text.Text.{Text}
use Rattle.nxt_texts.specs.declared.text.Text.TheVariants.{Lent, Gathered}

-- ---- texts

-- the bytes of the text that begins at an entry
abbrev pub text_at : Variables → ℕ → List ℕ
text_at s i = bytes_of (value_of s i)

abbrev pub body_at : Variables → ℕ → List ℕ
body_at s i = body (text_at s i)

-- the bodies of texts, one after another
abbrev pub bodies_at : Variables → List ℕ → List ℕ
bodies_at s is = flat_map (body_at s) is

-- the bytes of a text that was read
abbrev pub bytes_in : Text → List ℕ
bytes_in (Lent bytes) = bytes.now
bytes_in (Gathered bytes) = bytes

abbrev pub IsByte : ℤ → Type 0
IsByte z = (pos 0 ≤ℤ z) × (z ≤ℤ pos 255)

-- ---- what is stored

-- the flat form of a list of bytes
abbrev pub flat_bytes : List ℕ → List ℤ
flat_bytes bytes = pos (length bytes) ∷ map pos bytes

-- the statement stores these bytes at an entry
abbrev pub StoresBytes : SpaceViews → ℕ → List ℕ → Result Unit OpFault → SpaceViews → Type 0
StoresBytes old dest bytes result new =
    (d : Devices) → Does Done (values_stored old.vars (place_of old.vars dest ∷ []) (gives (given old.vars dest) (byte_list bytes) d)) old result new
