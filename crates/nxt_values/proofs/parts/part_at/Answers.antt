-- Each step leads on into a list.
use Rattle.std.proofs.Common.{◌≡◌, ◌+◌, ◌∷◌, drop, get_or, rules, sym, ap, subst, ◌∙◌, arith, w64}
use Rattle.std.specs.Prelude.{pos, nat_abs}
use Rattle.std.proofs.Math.Facts.{to_z-of_z}
use Rattle.std.proofs.lemmas.List.{drop_more}
use mir.Val.{SFits}
use Rattle.nxt_types.specs.Shapes.{tree, Array}
use Rattle.nxt_model.specs.Values.{Num, elements, part}
use Rattle.nxt_values.specs.Regions.{value_there}
use Rattle.nxt_values.specs.Parts.{positions}
use Rattle.nxt_values.proofs.Read.Parts.{PartLeft, no_list, part_more}
use Rattle.nxt_values.proofs.parts.part_at.Goals.{in-List, in_default}
use Rattle.nxt_values.proofs.parts.part_at.Goals as goal

pub loop-step-preserved : goal.loop-step-preserved
loop-step-preserved c =
    let table = c.args.entries.now in
    let h = c.args.heap.now.lists in
    let xs = c.args.steps.now in
    let i = c.loop-step.step-index in
    let rest = positions (drop (i + 1) xs) in
    let x = get_or xs i (pos 0) in
    let whole = part (positions xs) (value_there table h (tree c.args.shape.now) c.args.at) in
    let here : drop i xs ≡ x ∷ drop (i + 1) xs = drop_more xs i (pos 0) (omega arith) in
    let left =
    subst
    (λ ys. PartLeft table h (tree c.loop-step.shape.now) c.loop-step.at (positions ys) whole)
    here
    c.loop-step.invariant
    in
    elim c.match-shape.branch [
      | in-List w ↦
          let fits : SFits w64 x = search rules in
          let k : w.unsigned_abs.result ≡ nat_abs x = w.unsigned_abs.ensures.value ∙ ap nat_abs (to_z-of_z {w = w64} {z = x} fits) in
          let element = w.deref.result.now in
          let list = Array w.in-List.stride (tree element) in
          let is : tree c.loop-step.shape.now ≡ list = ap tree w.in-List.is ∙ ap (λ e. Array w.in-List.stride (tree e)) (sym w.deref.ensures) in
          let next =
          part_more
          table
          h
          (tree element)
          w.in-List.stride
          c.loop-step.at
          w.element_at-at.result
          (nat_abs x)
          rest
          whole
          (subst (λ s. PartLeft table h s c.loop-step.at (nat_abs x ∷ rest) whole) is left)
          w.element_at-at.ensures.region
          w.element_at-at.ensures.entry
          w.element_at-at.ensures.holds
          (w.element_at-at.ensures.value ∙ ap (λ n. get_or (elements (value_there table h list c.loop-step.at)) n (Num (pos 0))) k)
          in
          let same = ap (λ b. tree b.now) w.shape-is ∙ ap tree (w.deref-shape.ensures ∙ sym w.deref.ensures) in
          subst
          (λ s. PartLeft table h s c.match-shape.at rest whole)
          (sym same)
          (subst (λ at. PartLeft table h (tree element) at rest whole) (sym w.at-is) next)
      | in_default w ↦ absurd (no_list table h c.loop-step.shape.now c.loop-step.at (nat_abs x) rest whole w.in_default.not-List left)
    ]
