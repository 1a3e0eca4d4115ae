-- Each turn adds the shape of the next variable.
use Rattle.std.proofs.Common.{◌≡◌, ◌+◌, ◌≤◌, ◌++◌, ◌∷◌, [], map, sym, ap, ◌∙◌, subst, arith}
use Rattle.std.proofs.lemmas.List.{map-append}
use Rattle.nxt_types.specs.Names.{size, sizes}
use Rattle.nxt_types.specs.Shapes.{tree, members}
use Rattle.nxt_types.proofs.Laws.Shapes.{size_positive}
use Rattle.nxt_space.proofs.Start.Shapes.{Walked, walk_begins, walk_goes_on, walk_ends}
use Rattle.nxt_space.proofs.variables.variables_of.Goals as goal

pub loop-shape-init : goal.loop-shape-init
loop-shape-init c =
    subst (λ xs. Walked c.args.toc.now.shapes (members (map tree xs)) 0) (sym c.new-shapes.ensures.items) (walk_begins c.args.toc.now.shapes)

more : (c : goal.After-size_of) → Walked c.args.toc.now.shapes (members (map tree c.loop-shape.shapes.items ++ tree c.in-Some.shape.now ∷ [])) (c.loop-shape.entry + size (tree c.in-Some.shape.now)) × (c.loop-shape.entry + size (tree c.in-Some.shape.now) ≤ sizes c.args.toc.now.shapes)
more c =
    walk_goes_on c.args.toc.now.shapes (map tree c.loop-shape.shapes.items) (tree c.in-Some.shape.now) c.loop-shape.entry c.loop-shape.invariant c.in-Some.ensures

pub size_of-requires : goal.size_of-requires
size_of-requires c =
    omega (arith, (walk_goes_on c.args.toc.now.shapes (map tree c.loop-shape.shapes.items) (tree c.in-Some.shape.now) c.loop-shape.entry c.loop-shape.invariant c.in-Some.ensures).1, c.requires)

pub overflow_add-entry : goal.overflow_add-entry
overflow_add-entry c = omega (arith, (more c).1, c.requires, c.size_of.ensures)

pub loop-shape-smaller : goal.loop-shape-smaller
loop-shape-smaller c = omega (arith, (more c).1, c.size_of.ensures, size_positive (tree c.in-Some.shape.now))

pub loop-shape-preserved : goal.loop-shape-preserved
loop-shape-preserved c =
    let items = c.loop-shape.shapes.items in
    let copy = c.in_ok-copy_of.field-0 in
    let ss = c.args.toc.now.shapes in
    let pushed : map tree c.push.new.self.items ≡ map tree items ++ tree c.in-Some.shape.now ∷ [] =
    ap (map tree) c.in_ok-push.ensures.items
    ∙ map-append tree items (copy ∷ [])
    ∙ ap (λ s. map tree items ++ s ∷ []) c.in_ok-copy_of.ensures
    in
    subst
    (λ xs. Walked ss (members xs) (c.loop-shape.entry + c.size_of.result))
    (sym pushed)
    (subst (λ n. Walked ss (members (map tree items ++ tree c.in-Some.shape.now ∷ [])) (c.loop-shape.entry + n)) (sym c.size_of.ensures) (more c).0)

pub returns : goal.returns
returns c = walk_ends c.args.toc.now.shapes (members (map tree c.loop-shape.shapes.items)) c.loop-shape.entry c.loop-shape.invariant c.in_default.ensures
