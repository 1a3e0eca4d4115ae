use Rattle.std.proofs.Common.{◌<◌, ◌≤◌, length, map, nat_abs, sym, ap, ◌∙◌, arith, slice_index_or}
use Rattle.std.proofs.lemmas.Bool.Decides.{nat_tests}
use Rattle.nxt_types.specs.Shapes.{Void}
use Rattle.nxt_model.specs.Assembled.{all_shapes, entries_before}
use Rattle.nxt_model.specs.TextProgram.{shape_by, struct_shapes, text_of}
use Rattle.nxt_asm_parts.specs.Measures.{held}
use Rattle.nxt_asm_parts.proofs.NumberShapes.{behind_at, declared_at}
use Rattle.nxt_asm_parts.proofs.numbers.Numbers.entries_inside.Goals as goal

pub returns-in-Some : goal.returns-in-Some
returns-in-Some c =
    let p = c.self.inside.program.now in
    let i = c.args.variable in
    let v = c.in-Some.declared.now in
    let path = map nat_abs c.args.path.now in
    let told = c.in-Some.ensures.lookup in
    let inside = told.0 in
    let long = ap length c.as_slice.ensures in
    let under : i < length p.vars = grind (arith, nat_tests) in
    let is = told.1 ∙ ap (λ l. slice_index_or l i v) c.as_slice.ensures in
    c.entries_before.ensures
    ∙ ap (λ l. held (entries_before path (shape_by (struct_shapes l) v.shape))) c.self.invariant.0.measured
    ∙ ap (λ s. held (entries_before path s)) (sym (declared_at p i v under is))
    ∙ ap (λ q. held (entries_before path (slice_index_or (all_shapes (text_of q)) i Void))) c.self.view_is

pub returns-in-None : goal.returns-in-None
returns-in-None c =
    let p = c.self.inside.program.now in
    let i = c.args.variable in
    let path = map nat_abs c.args.path.now in
    let outside = c.in-None.ensures.lookup.0 in
    let long = ap length c.as_slice.ensures in
    let over : length p.vars ≤ i = grind (arith, nat_tests) in
    c.entries_before-in-None.ensures
    ∙ ap held (c.without_members.ensures _ path ∙ sym (behind_at p i path over))
    ∙ ap (λ q. held (entries_before path (slice_index_or (all_shapes (text_of q)) i Void))) c.self.view_is
