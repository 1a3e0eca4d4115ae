-- What is counted is the value's size.
use Rattle.std.proofs.Common.{◌≡◌, IfSome, map, ap, sym, subst, arith}
use Rattle.nxt_types.specs.Shapes.{tree, cluster_of}
use Rattle.nxt_values.specs.Fills.{filled}
use Rattle.nxt_values.specs.Sizes.{size_of_filled}
use Rattle.nxt_types.proofs.Laws.Trees.{group_tree}
use Rattle.nxt_values.proofs.Laws.Sizes.{spelled_begin, spelled_next, spelled_added}
use Rattle.nxt_tests_space.proofs.space.counting.+counted.Goals as goal

-- ---- lists

pub counted-loop-init : goal.counted-loop-init
counted-loop-init t c =
    spelled_begin
    (tree c.in-List.element.value)
    (tree c.args.shape.now)
    c.in-List.stride
    c.first_count-count.result
    c.args.from.now
    c.behind-left.result.now
    (ap tree c.in-List.is)
    c.first_count-count.ensures
    c.behind-left.ensures

pub counted-loop-preserved : goal.counted-loop-preserved
counted-loop-preserved t c =
    spelled_added
    (spelled_next (omega arith) c.loop.invariant)
    (rw c.deref.ensures at c.in_ok-one-in-List.ensures.size)
    (rw c.deref.ensures at c.in_ok-one-in-List.ensures.rest)
    c.in_ok-inner-in-List.ensures

-- ---- groups

pub counted-returns-in-Group-clause-size : goal.counted-returns-in-Group-clause-size
counted-returns-in-Group-clause-size t c =
    let l = c.as_slice.result.now in
    let is : tree c.args.shape.now ≡ cluster_of (map tree l) = group_tree c.args.shape.now c.in-Group.members.items l c.in-Group.is c.as_slice.ensures.value in
    subst (λ s. IfSome c.counted_all.result (λ x. x.0 ≡ size_of_filled s c.args.from.now)) (sym is) c.counted_all.ensures.size

pub counted-returns-in-Group-clause-rest : goal.counted-returns-in-Group-clause-rest
counted-returns-in-Group-clause-rest t c =
    let l = c.as_slice.result.now in
    let is : tree c.args.shape.now ≡ cluster_of (map tree l) = group_tree c.args.shape.now c.in-Group.members.items l c.in-Group.is c.as_slice.ensures.value in
    subst (λ s. IfSome c.counted_all.result (λ x. x.1.now ≡ (filled s c.args.from.now).1)) (sym is) c.counted_all.ensures.rest
