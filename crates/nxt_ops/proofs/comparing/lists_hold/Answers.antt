-- By their spots both are lists of numbers.
use Rattle.std.proofs.Common.{rules, ◌≡◌, ◌||◌, ℤ, w64, sym, ap, ap₂, ◌∙◌}
use Rattle.std.proofs.Math.Facts.{to_z-of_z}
use mir.Val.{SFits}
use Rattle.nxt_types.specs.Arithmetic.{compares, is_signed}
use Rattle.nxt_types.specs.OperandRules.{are_alike}
use Rattle.nxt_types.specs.Shapes.{is_number}
use Rattle.nxt_model.specs.Means.Effects.{element}
use Rattle.nxt_model.specs.Means.Numbers.{either_signed}
use Rattle.nxt_space.specs.Spots.{numbers_in_bytes}
use Rattle.nxt_space.specs.Variables.{shape_of, value_of}
use Rattle.nxt_operands.specs.Numbers.{numbers_in}
use Rattle.nxt_ops.specs.Ops.{deciding_numbers}
use Rattle.nxt_ops.proofs.DecidingNumbers.{lists_held}
use Rattle.nxt_ops.proofs.comparing.lists_hold.Goals as goal

pub returns : goal.returns
returns c i j is_x is_y =
    let s = c.args.space.now.vars in
    let signed = c.either_kind_signed-signed.result in
    let pair : ℤ × ℤ = c.deciding_in_place-a.result in
    let f0 : SFits w64 pair.0 = search rules in
    let f1 : SFits w64 pair.1 = search rules in
    let signs : signed ≡ either_signed (element (shape_of s i)) (element (shape_of s j)) =
    c.either_kind_signed-signed.ensures
    ∙ ap₂ (λ k l. is_signed k || is_signed l) c.kind.ensures c.kind-2.ensures
    ∙ sym (ap₂ (λ p q. either_signed (element p) (element q)) is_x.shape is_y.shape) in
    let decide : pair ≡ deciding_numbers signed (numbers_in (value_of s i)) (numbers_in (value_of s j)) =
    c.deciding_in_place-a.ensures
    ∙ ap₂
    (λ p q. deciding_numbers signed (numbers_in p) (numbers_in q))
    (ap (λ k. numbers_in_bytes k c.bytes.result.now) c.kind-3.ensures ∙ sym (c.bytes.ensures.value i is_x))
    (ap (λ k. numbers_in_bytes k c.bytes-2.result.now) c.kind-4.ensures ∙ sym (c.bytes-2.ensures.value j is_y)) in
    c.compares.ensures
    ∙ ap₂ (compares c.args.cmp) (to_z-of_z f0) (to_z-of_z f1)
    ∙ lists_held
    c.args.cmp
    (shape_of s i)
    (shape_of s j)
    (value_of s i)
    (value_of s j)
    signed
    pair
    (ap₂ are_alike is_x.shape is_y.shape)
    (ap is_number is_x.shape)
    signs
    decide
