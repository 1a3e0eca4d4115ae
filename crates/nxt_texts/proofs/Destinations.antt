-- Two numbers that are stored, the second of which may be left out.
use Rattle.std.proofs.Common.{◌≡◌, ℕ, true, false, [], ◌∷◌, ◌++◌, Ok, refl, sym, ap, ◌∙◌, subst}
use Rattle.std.specs.Prelude.{ℤ, ◌==◌}
use Rattle.nxt_types.specs.Arithmetic.{extend, word}
use Rattle.nxt_types.specs.Shapes.{Shape, Number, is_number}
use Rattle.nxt_model.specs.Devices.{Devices}
use Rattle.nxt_model.specs.Means.Effects.{effect, store}
use Rattle.nxt_model.specs.Values.{Value, Num, number, stored}
use Rattle.nxt_space.specs.Outcomes.{Does}
use Rattle.nxt_space.specs.Variables.{SpaceViews, AreSound, shape_of, with_value}
use Rattle.nxt_space.proofs.Laws.NumberSet.{set_sound}
use Rattle.nxt_operands.specs.Operands.{Done, given, given_or_left, place_of, place_or_none, values_stored}
use Rattle.nxt_operands.proofs.Laws.Stored.{number_set}
use Rattle.nxt_texts.specs.Numerals.{with_number}
use Rattle.nxt_texts.specs.Packing.{told_in}
use Rattle.nxt_texts.proofs.Telling.{set_beside, value_and_number}

pub both_numbers : (old mid new : SpaceViews) (i j : ℕ) (v : Value) (x y : ℤ) (d : Devices) → AreSound old.vars → is_number (shape_of old.vars i) ≡ true → ((j == 0xFFFF) ≡ false → is_number (shape_of old.vars j) ≡ true) → stored (shape_of old.vars i) (Num x) ≡ stored (shape_of old.vars i) v → mid.vars ≡ record old.vars { values = with_value old.vars i (stored (shape_of old.vars i) (Num x)) } → new.vars ≡ with_number mid.vars j y → Does {T = Unit {0}} Done (values_stored old.vars (place_of old.vars i ∷ place_or_none old.vars j ∷ []) (effect (store 0 (given old.vars i) v ++ store 1 (given_or_left old.vars j) (Num y)) d)) old (Ok tt) new
both_numbers old mid new i j v x y d sound is number same first second =
    let vars = with_value old.vars i (stored (shape_of old.vars i) (Num x)) in
    let set = number_set old mid i (Num x) x sound is refl first in
    subst
    (λ w. Does {T = Unit {0}} Done w old (Ok tt) new)
    (ap (λ u. told_in old.vars j y (with_value old.vars i u)) same ∙ sym (value_and_number old.vars i j v y d))
    (set_beside old mid new j vars y y (set_sound old.vars i x is sound).shapes number refl set second)

-- only the word of a number matters where it is stored
pub word_stored : (s : Shape) (x : ℤ) (v : Value) → is_number s ≡ true → word x ≡ word (number v) → stored s (Num x) ≡ stored s v
word_stored (Number k) x v is e = ap (λ w. Num (extend k w)) e
word_stored s x v is e = let f : ⊥ = cc in absurd f
