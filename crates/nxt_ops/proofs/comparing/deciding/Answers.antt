-- The first place where the lists differ decides, or the end of one of them.
use Rattle.std.proofs.Common.{rules, ◌≡◌, ◌-◌, ◌<◌, ◌≤◌, length, get_or, w64, ℤ, to_z, of_z, refl, sym, ap, ap₂, ◌∙◌, arith}
use Rattle.std.specs.Prelude.{pos}
use Rattle.std.proofs.Math.Facts.{to_z-of_z}
use mir.Val.{SFits}
use Rattle.nxt_types.specs.Arithmetic.{taken}
use Rattle.nxt_ops.specs.Ops.{deciding_numbers}
use Rattle.nxt_ops.proofs.DecidingNumbers.{second_ends, here_differ, here_same}
use Rattle.nxt_ops.proofs.comparing.deciding.Goals as goal

pub returns-in_default : goal.returns-in_default
returns-in_default c =
    let xs = c.args.xs.now in
    let ys = c.args.ys.now in
    let k = c.loop-k.k in
    let n : to_z w64 (length xs - k) ≡ pos (length xs - k) = search rules in
    let end : length ys ≤ k = search rules in
    ap (λ m. (m, pos 0)) n
    ∙ second_ends c.args.signed xs ys k (deciding_numbers c.args.signed xs ys) c.loop-k-test.true end c.loop-k.invariant.left

pub returns-then-a-b : goal.returns-then-a-b
returns-then-a-b c =
    let signed = c.args.signed in
    let xs = c.args.xs.now in
    let ys = c.args.ys.now in
    let k = c.loop-k.k in
    let x = get_or xs k (pos 0) in
    let y = c.in-Some.y.now in
    let fx : SFits w64 x = search rules in
    let fy : SFits w64 y = search rules in
    let fa : SFits w64 c.taken-a.result = search rules in
    let fb : SFits w64 c.taken-b.result = search rules in
    let within : k < length ys = search rules in
    let there : y ≡ get_or ys k (pos 0) = search rules in
    let a : c.taken-a.result ≡ taken signed x = c.taken-a.ensures.value ∙ ap (taken signed) (to_z-of_z fx) in
    let b : c.taken-b.result ≡ taken signed y = c.taken-b.ensures.value ∙ ap (taken signed) (to_z-of_z fy) in
    ap₂ (λ (m n : ℤ). (m, n)) (to_z-of_z fa ∙ a) (to_z-of_z fb ∙ b)
    ∙ here_differ
    signed
    xs
    ys
    k
    x
    y
    (deciding_numbers signed xs ys)
    c.loop-k-test.true
    within
    refl
    there
    (λ same. c.if-a-b.true (ap (of_z w64) (a ∙ same ∙ sym b)))
    c.loop-k.invariant.left

pub loop-k-preserved : goal.loop-k-preserved
loop-k-preserved c =
    let signed = c.args.signed in
    let xs = c.args.xs.now in
    let ys = c.args.ys.now in
    let k = c.loop-k.k in
    let x = get_or xs k (pos 0) in
    let y = c.in-Some.y.now in
    let fx : SFits w64 x = search rules in
    let fy : SFits w64 y = search rules in
    let fa : SFits w64 c.taken-a.result = search rules in
    let fb : SFits w64 c.taken-b.result = search rules in
    let within : k < length ys = search rules in
    let there : y ≡ get_or ys k (pos 0) = search rules in
    let a : c.taken-a.result ≡ taken signed x = c.taken-a.ensures.value ∙ ap (taken signed) (to_z-of_z fx) in
    let b : c.taken-b.result ≡ taken signed y = c.taken-b.ensures.value ∙ ap (taken signed) (to_z-of_z fy) in
    let same : taken signed x ≡ taken signed y = sym a ∙ sym (to_z-of_z fa) ∙ ap (to_z w64) c.if-a-b.false ∙ to_z-of_z fb ∙ b in
    record {
      left = here_same signed xs ys k x y (deciding_numbers signed xs ys) c.loop-k-test.true within refl there same c.loop-k.invariant.left;
      reached = omega (arith, within);
    }
