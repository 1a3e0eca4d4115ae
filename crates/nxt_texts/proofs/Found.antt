-- What is stored for a number that a text has, or hasn't.
use Rattle.std.proofs.Common.{◌≡◌, ℕ, ◌+◌, ◌≤◌, true, false, [], ◌∷◌, Option, Some, None, IfSome, Ok, refl, ap, ◌∙◌, arith}
use Rattle.std.specs.Prelude.{ℤ, pos, negsuc, ◌==◌, option_map}
use Rattle.std.specs.Option.{unwrap_or}
use Rattle.nxt_types.specs.Arithmetic.{word}
use Rattle.nxt_types.specs.Shapes.{is_number}
use Rattle.nxt_model.specs.Devices.{Devices}
use Rattle.nxt_model.specs.Means.Effects.{Operand, Given, Immediate, Jump, Left, value_of, word_or}
use Rattle.nxt_model.specs.Means.Strings.{found_number}
use Rattle.nxt_model.specs.Values.{Num, number, stored}
use Rattle.nxt_space.specs.Variables.{SpaceViews, AreSound, shape_of, with_value}
use Rattle.nxt_space.specs.Outcomes.{Does}
use Rattle.nxt_operands.specs.Operands.{given_or_left, place_of, place_or_none, values_stored, Done, given}
use Rattle.nxt_texts.specs.Numerals.{numeral, with_number}
use Rattle.nxt_texts.specs.declared.numerals.Numeral.{Numeral}
use Rattle.nxt_texts.proofs.Destinations.{both_numbers, word_stored}

word_again : (z : ℤ) → word (pos (word z)) ≡ word z
word_again (pos n) = omega arith
word_again (negsuc n) = omega arith

default_word : (o : Operand) → word (pos (word_or 0 o)) ≡ word (number (value_of o))
default_word (Given s v) = word_again (number v)
default_word (Immediate n) = refl
default_word Jump = refl
default_word Left = refl

-- the default takes the place of a number that isn't there
abbrev pub default_numeral : Operand → Numeral
default_numeral o = record { word = word_or 0 o; length = 0 }

pub found_short : (o : Option Numeral) (other : Numeral) (m : ℕ) → IfSome o (λ n. n.length ≤ m) → other.length ≤ m → (unwrap_or o other).length ≤ m
found_short None other m h e = e
found_short (Some n) other m h e = h

pub found_stored : (old mid new : SpaceViews) (dest past at : ℕ) (default : Operand) (r : Option (ℤ × ℕ)) (found : Numeral) (d : Devices) → AreSound old.vars → is_number (shape_of old.vars dest) ≡ true → ((past == 0xFFFF) ≡ false → is_number (shape_of old.vars past) ≡ true) → found ≡ unwrap_or (option_map numeral r) (default_numeral default) → mid.vars ≡ record old.vars { values = with_value old.vars dest (stored (shape_of old.vars dest) (Num (pos found.word))) } → new.vars ≡ with_number mid.vars past (pos (at + found.length)) → Does {T = Unit {0}} Done (values_stored old.vars (place_of old.vars dest ∷ place_or_none old.vars past ∷ []) (found_number r d (given old.vars dest) (given_or_left old.vars past) at default)) old (Ok tt) new
found_stored old mid new dest past at default None found d sound is number e first second =
    let here : at + found.length ≡ at = ap (λ (n : Numeral). at + n.length) e ∙ omega arith in
    both_numbers old mid new dest past (value_of default) (pos found.word) (pos at) d sound is number
    (word_stored (shape_of old.vars dest) (pos found.word) (value_of default) is (ap (λ (n : Numeral). word (pos n.word)) e ∙ default_word default))
    first
    (second ∙ ap (λ n. with_number mid.vars past (pos n)) here)
found_stored old mid new dest past at default (Some p) found d sound is number e first second =
    both_numbers old mid new dest past (Num p.0) (pos found.word) (pos (at + p.1)) d sound is number
    (word_stored (shape_of old.vars dest) (pos found.word) (Num p.0) is (ap (λ (n : Numeral). word (pos n.word)) e ∙ word_again p.0))
    first
    (second ∙ ap (λ (n : Numeral). with_number mid.vars past (pos (at + n.length))) e)
