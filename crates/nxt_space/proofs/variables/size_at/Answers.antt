-- A part is no larger than the whole.
use Rattle.std.proofs.Common.{◌≡◌, ap, ap₂, ◌∙◌, arith}
use Rattle.nxt_types.specs.Shapes.{tree}
use Rattle.nxt_space.specs.Inside.Kept.{shape_in, value_in}
use Rattle.nxt_values.specs.Sizes.{size_in, size_there}
use Rattle.nxt_values.specs.declared.sizing.Size.{Size}
use Rattle.nxt_space.proofs.Parts.Bounds.{part_bounds}
use Rattle.nxt_space.proofs.variables.size_at.Goals as goal

sized : (c : goal.After-held_size) → c.held_size.result ≡ size_in (shape_in c.args.toc.now c.args.i) (value_in c.args.toc.now c.args.heap.now.lists c.args.i)
sized c =
    let found = c.in-Some.ensures.found in
    c.held_size.ensures
    ∙ ap (λ table. size_there table c.args.heap.now.lists (tree c.in-Some.shape.now) c.in-Some.at) c.entries.ensures
    ∙ ap₂ size_in found.shape found.value

pub returns-in-Some-clause-lists : goal.returns-in-Some-clause-lists
returns-in-Some-clause-lists c =
    omega (arith, ap (λ (z : Size). z.lists) (sized c), (part_bounds c.args.toc.now c.args.heap.now.lists c.args.i c.requires.stand).lists)

pub returns-in-Some-clause-bytes : goal.returns-in-Some-clause-bytes
returns-in-Some-clause-bytes c =
    omega (arith, ap (λ (z : Size). z.bytes) (sized c), (part_bounds c.args.toc.now c.args.heap.now.lists c.args.i c.requires.stand).bytes)
