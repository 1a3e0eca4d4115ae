-- The value's bytes are stored.
use Rattle.std.proofs.Common.{◌∙◌, ap, ap₂, subst, arith, length, take}
use Rattle.nxt_types.specs.Arithmetic.{leaf_size}
use Rattle.nxt_model.specs.Means.Text.{ended}
use Rattle.nxt_space.specs.Variables.{shape_of, value_of}
use Rattle.nxt_texts.specs.Texts.{StoresBytes}
use Rattle.nxt_texts.proofs.PackedNumbers.{number_packed}
use Rattle.nxt_texts.proofs.PackedValues.{packed_bounded}
use Rattle.nxt_texts.proofs.packing.flatten.Goals as goal

-- ---- a number

pub returns-in-Some-clause-does : goal.returns-in-Some-clause-does
returns-in-Some-clause-does c =
    let s = c.args.space.now.vars in
    let is = c.in-Some.ensures.found in
    let bytes = take c.leaf_size-size.result c.to_le_bytes-word.result in
    subst
    (λ bs. StoresBytes c.args.space.now c.args.dest (ended bs) c.store_text.result c.store_text.new.space)
    (number_packed (shape_of s c.args.value) c.in-Some.number.kind (value_of s c.args.value) c.word.result bytes is.shape (c.word.ensures c.args.value is)
    (ap₂ take (c.leaf_size-size.ensures ∙ ap leaf_size c.kind.ensures) c.to_le_bytes-word.ensures))
    c.store_text.ensures.stores

-- ---- another value

pub store_text-requires-2-clause-few : goal.store_text-requires-2-clause-few
store_text-requires-2-clause-few c =
    omega (arith, packed_bounded c.args.space.now.vars c.args.value c.requires.sound, ap length (c.as_slice.ensures ∙ c.in_ok-bytes.ensures))

pub returns-clause-does : goal.returns-clause-does
returns-clause-does c =
    subst
    (λ bs. StoresBytes c.args.space.now c.args.dest (ended bs) c.store_text-2.result c.store_text-2.new.space)
    (c.as_slice.ensures ∙ c.in_ok-bytes.ensures)
    c.store_text-2.ensures.stores
