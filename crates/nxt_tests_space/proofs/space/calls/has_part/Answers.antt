-- Each position that is followed is one of its list's.
use Rattle.std.proofs.Common.{◌≡◌, ◌<◌, [], ◌∷◌, ◌++◌, length, get_or, refl, rules, sym, ap, ◌∙◌, arith, w64}
use Rattle.std.specs.Prelude.{pos, nat_abs}
use Rattle.std.proofs.Math.Facts.{to_z-of_z}
use mir.Val.{SFits}
use Rattle.nxt_types.specs.Shapes.{tree, Array}
use Rattle.nxt_model.specs.Values.{elements}
use Rattle.nxt_space.specs.Variables.{part_of}
use Rattle.nxt_tests_space.proofs.Along.{followed_more}
use Rattle.nxt_tests_space.proofs.space.calls.has_part.Goals as goal

pub length-requires : goal.length-requires
length-requires c = c.loop-step.invariant.inside

pub loop-step-preserved : goal.loop-step-preserved
loop-step-preserved c =
    let xs = c.as_slice-step-items.result.now in
    let i = c.loop-step.step-index in
    let x = get_or xs i (pos 0) in
    let fits : SFits w64 x = search rules in
    let k : c.unsigned_abs.result ≡ nat_abs x = c.unsigned_abs.ensures.value ∙ ap nat_abs (to_z-of_z {w = w64} {z = x} fits) in
    let inside : i < length c.args.path.now.steps = omega (arith, ap length c.as_slice-step-items.ensures, c.loop-step-test.true) in
    let less : nat_abs x < length (elements (part_of c.args.space.now.vars c.loop-step.front)) =
    omega (arith, k, c.from.ensures, c.length.ensures, c.if-unsigned_abs-from.false) in
    followed_more c.args.space.now.vars c.args.path.now c.loop-step.front (record { var = c.loop-step.front.var; steps = c.push.new.self })
    (tree c.loop-step.shape.now) (tree c.deref-shape.result.now) c.in-List.field-0 i x c.loop-step.invariant
    (ap tree c.in-List.is ∙ ap (λ e. Array c.in-List.field-0 (tree e)) (sym c.deref-shape.ensures))
    (ap (λ ys. get_or ys i (pos 0)) c.as_slice-step-items.ensures)
    inside
    less
    refl
    (c.in_ok-push.ensures.ok ∙ ap (λ z. c.loop-step.front.steps ++ z ∷ []) (to_z-of_z {w = w64} {z = x} fits))
