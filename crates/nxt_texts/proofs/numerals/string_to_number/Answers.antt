-- The number that is found, or the default, is stored, and then the place.
use Rattle.std.proofs.Common.{◌≡◌, ℕ, ◌+◌, ◌≤◌, ℤ, drop, ap, ap₂, ◌∙◌, subst, sym, arith, w64, to_z, of_z, to_z-of_z}
use Rattle.std.specs.Prelude.{pos, ◌+ℤ◌, option_map}
use Rattle.std.specs.Option.{unwrap_or}
use Rattle.std.proofs.lemmas.Int.{to_z_pos}
use Rattle.nxt_types.specs.Pool.{pool_size}
use Rattle.nxt_model.specs.Means.Effects.{word_or}
use Rattle.nxt_model.specs.Means.Text.{number_at}
use Rattle.nxt_model.specs.Values.{Num, stored}
use Rattle.nxt_space.specs.Variables.{shape_of, with_value}
use Rattle.nxt_operands.specs.Operands.{given_or_left}
use Rattle.nxt_texts.specs.Numerals.{numeral, numeral_at, with_number}
use Rattle.nxt_texts.specs.Texts.{body_at}
use Rattle.nxt_texts.specs.declared.numerals.Numeral.{Numeral}
use Rattle.nxt_texts.proofs.Found.{default_numeral, found_short, found_stored}
use Rattle.nxt_texts.proofs.numerals.string_to_number.Goals as goal

pub returns-clause-does : goal.returns-clause-does
returns-clause-does c d =
    let s = c.args.space.now.vars in
    let at = word_or 0 (given_or_left s c.args.offset) in
    let default = given_or_left s c.args.default in
    let found = c.unwrap_or-found.result in
    let place = c.word_or-at.result in
    let read : found ≡ unwrap_or (option_map numeral (number_at (drop at (body_at s c.args.source)))) (default_numeral default) =
    c.unwrap_or-found.ensures
    ∙ ap₂ {B = ℕ} (λ o n. unwrap_or o (record { word = n; length = 0 }))
    (c.in_ok-numeral_in.ensures.numeral ∙ ap (λ n. numeral_at (drop n (body_at s c.args.source))) c.word_or-at.ensures)
    c.word_or.ensures
    in
    let short : found.length ≤ pool_size =
    subst
    (λ (n : Numeral). n.length ≤ pool_size)
    (sym c.unwrap_or-found.ensures)
    (found_short c.in_ok-numeral_in.field-0 (record { word = c.word_or.result; length = 0 }) pool_size c.in_ok-numeral_in.ensures.within (omega arith))
    in
    let word : to_z w64 (of_z w64 c.from.result) ≡ pos found.word = to_z-of_z {w = w64} {z = c.from.result} (record { sfits = c.from.type_inv }) ∙ c.from.ensures in
    let behind : to_z w64 (of_z w64 (to_z w64 (of_z w64 c.from-2.result) +ℤ to_z w64 found.length)) ≡ pos (place + found.length) =
    ap₂
    (λ a b. to_z w64 (of_z w64 (a +ℤ b)))
    (to_z-of_z {w = w64} {z = c.from-2.result} (record { sfits = c.from-2.type_inv }) ∙ c.from-2.ensures)
    (to_z_pos w64 found.length (omega (arith, short)))
    ∙ to_z_pos w64 (place + found.length) (omega (arith, short, c.word_or-at.type_inv))
    in
    found_stored
    c.args.space.now
    c.set.new.self
    c.set_unless_left_out.new.space
    c.args.dest
    c.args.past
    at
    default
    (number_at (drop at (body_at s c.args.source)))
    found
    d
    c.requires.sound
    c.requires.number
    c.requires.past
    read
    (c.set.ensures.value ∙ ap {A = ℤ} (λ z. record s { values = with_value s c.args.dest (stored (shape_of s c.args.dest) (Num z)) }) word)
    (c.set_unless_left_out.ensures.value
    ∙ ap (with_number c.set.new.self.vars c.args.past) (behind ∙ ap (λ n. pos (n + found.length)) c.word_or-at.ensures))
