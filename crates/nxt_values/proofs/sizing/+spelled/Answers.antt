-- A list's elements and a group's members are lesser shapes, whose sizes are parts of the whole's.
use Rattle.std.proofs.Common.{◌≡◌, ◌+◌, ◌∷◌, map, drop, ap, sym, subst, ◌∙◌, arith}
use Rattle.std.proofs.lemmas.List.{drop_more}
use Rattle.nxt_types.specs.Shapes.{Array, cluster_of, tree, members}
use Rattle.nxt_types.specs.Names.{size, sizes}
use Rattle.nxt_values.specs.Fills.{filled, all_filled}
use Rattle.nxt_values.specs.Sizes.{IsCountable, size_of_filled, size_of_all_filled}
use Rattle.nxt_types.proofs.Laws.Trees.{group_tree}
use Rattle.nxt_values.proofs.Laws.Sizes.{MembersSpelled, spelled_group_countable, spelled_begin, spelled_next, spelled_added, element_countable, element_adds, member_countable, numbers_spelled}
use Rattle.nxt_values.proofs.sizing.+spelled.Goals as goal

-- ---- lists

pub spelled_size-loop-init : goal.spelled_size-loop-init
spelled_size-loop-init t c =
    spelled_begin
    (tree c.in-List.element.value)
    (tree c.args.shape.now)
    c.in-List.stride
    c.first_count-count.result
    c.args.from.now
    c.behind-left.result.now
    (ap tree c.in-List.is)
    c.first_count-count.ensures
    c.behind-left.ensures

pub spelled_size-spelled_size-requires : goal.spelled_size-spelled_size-requires
spelled_size-spelled_size-requires t c =
    let same = ap tree c.deref-in-loop.ensures in
    let less = ap size (ap tree c.in-List.is ∙ ap (Array c.in-List.stride) (sym same)) in (
      omega (arith, less),
      subst
          (λ s. IsCountable (size_of_filled s c.loop.left.now))
          (sym same)
          (element_countable (spelled_next (omega arith) c.loop.invariant).elements c.requires),
    )

pub spelled_size-plus-inner-requires-clause-lists : goal.spelled_size-plus-inner-requires-clause-lists
spelled_size-plus-inner-requires-clause-lists t c =
    (element_adds (spelled_next (omega arith) c.loop.invariant).elements c.requires (rw c.deref-in-loop.ensures at c.spelled_size.ensures.size)).lists

pub spelled_size-plus-inner-requires-clause-bytes : goal.spelled_size-plus-inner-requires-clause-bytes
spelled_size-plus-inner-requires-clause-bytes t c =
    (element_adds (spelled_next (omega arith) c.loop.invariant).elements c.requires (rw c.deref-in-loop.ensures at c.spelled_size.ensures.size)).bytes

pub spelled_size-loop-preserved : goal.spelled_size-loop-preserved
spelled_size-loop-preserved t c =
    spelled_added
    (spelled_next (omega arith) c.loop.invariant)
    (rw c.deref-in-loop.ensures at c.spelled_size.ensures.size)
    (rw c.deref-in-loop.ensures at c.spelled_size.ensures.rest)
    c.plus-inner.ensures

pub spelled_size-in_list-requires-clause-bytes : goal.spelled_size-in_list-requires-clause-bytes
spelled_size-in_list-requires-clause-bytes t c =
    let all = spelled_begin (tree c.in-List.element.value) (tree c.args.shape.now) c.in-List.stride c.first_count-count.result c.args.from.now c.behind-left.result.now (ap tree c.in-List.is) c.first_count-count.ensures c.behind-left.ensures in
    omega (arith, all.elements.bytes, c.requires.bytes)

pub spelled_size-returns-then-is_number-clause-size : goal.spelled_size-returns-then-is_number-clause-size
spelled_size-returns-then-is_number-clause-size t c =
    let numbers = sym (rw c.deref.ensures at c.is_number.ensures) ∙ c.if-is_number.true in
    let all = spelled_begin (tree c.in-List.element.value) (tree c.args.shape.now) c.in-List.stride c.first_count-count.result c.args.from.now c.behind-left.result.now (ap tree c.in-List.is) c.first_count-count.ensures c.behind-left.ensures in
    c.in_list.ensures ∙ (numbers_spelled numbers all).size

pub spelled_size-returns-then-is_number-clause-rest : goal.spelled_size-returns-then-is_number-clause-rest
spelled_size-returns-then-is_number-clause-rest t c =
    let numbers = sym (rw c.deref.ensures at c.is_number.ensures) ∙ c.if-is_number.true in
    let all = spelled_begin (tree c.in-List.element.value) (tree c.args.shape.now) c.in-List.stride c.first_count-count.result c.args.from.now c.behind-left.result.now (ap tree c.in-List.is) c.first_count-count.ensures c.behind-left.ensures in
    c.behind_many.ensures ∙ (numbers_spelled numbers all).others

-- ---- groups

pub spelled_size-spelled_sizes-requires : goal.spelled_size-spelled_sizes-requires
spelled_size-spelled_sizes-requires t c =
    let l = c.as_slice.result.now in
    let is : tree c.args.shape.now ≡ cluster_of (map tree l) = group_tree c.args.shape.now c.in-Group.members.items l c.in-Group.is c.as_slice.ensures.value in
    let less = ap size is in (
      omega (arith, less),
      spelled_group_countable (members (map tree l)) (tree c.args.shape.now) c.args.from.now is c.requires,
    )

pub spelled_size-returns-in-Group-clause-size : goal.spelled_size-returns-in-Group-clause-size
spelled_size-returns-in-Group-clause-size t c =
    let l = c.as_slice.result.now in
    let is : tree c.args.shape.now ≡ cluster_of (map tree l) = group_tree c.args.shape.now c.in-Group.members.items l c.in-Group.is c.as_slice.ensures.value in
    c.spelled_sizes.ensures.size ∙ ap (λ s. size_of_filled s c.args.from.now) (sym is)

pub spelled_size-returns-in-Group-clause-rest : goal.spelled_size-returns-in-Group-clause-rest
spelled_size-returns-in-Group-clause-rest t c =
    let l = c.as_slice.result.now in
    let is : tree c.args.shape.now ≡ cluster_of (map tree l) = group_tree c.args.shape.now c.in-Group.members.items l c.in-Group.is c.as_slice.ensures.value in
    c.spelled_sizes.ensures.rest ∙ ap (λ s. (filled s c.args.from.now).1) (sym is)

-- ---- members

pub spelled_sizes-spelled_size-requires : goal.spelled_sizes-spelled_size-requires
spelled_sizes-spelled_size-requires t c =
    let xs = c.args.shapes.now in
    let i = c.loop-shape.shape-index in
    let x = c.shape-item.result in
    let here : drop i xs ≡ x ∷ drop (i + 1) xs = drop_more xs i x (omega arith) ∙ ap (λ y. y ∷ drop (i + 1) xs) (sym c.shape-item.is) in
    let left =
    subst
    (λ ys. MembersSpelled (sizes (members (map tree xs))) (members (map tree ys)) c.loop-shape.sum c.loop-shape.left.now (size_of_all_filled (members (map tree xs)) c.args.from.now) (all_filled (members (map tree xs)) c.args.from.now).1)
    here
    c.loop-shape.invariant
    in (omega (arith, left.entries), member_countable left.parts c.requires)
