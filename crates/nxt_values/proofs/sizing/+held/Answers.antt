-- A list's elements and a group's members are lesser shapes, whose sizes are parts of the whole's.
use Rattle.std.proofs.Common.{◌≡◌, ◌+◌, ◌*◌, ap, sym, subst, ◌∙◌, arith}
use Rattle.nxt_types.specs.Shapes.{Array, Cluster, tree}
use Rattle.nxt_types.specs.Names.{size}
use Rattle.nxt_types.specs.Pool.{round4}
use Rattle.nxt_values.specs.Regions.{HoldsThere}
use Rattle.nxt_values.specs.Ahead.{ahead}
use Rattle.nxt_values.specs.Sizes.{IsCountable, size_there}
use Rattle.nxt_values.proofs.Laws.Elements.{element_there}
use Rattle.nxt_values.proofs.Laws.Sizes.{group_countable, held_begin, held_next, element_countable, element_adds, element_added, member_countable, member_counted, numbers_held}
use Rattle.nxt_values.proofs.sizing.+held.Goals as goal

-- ---- lists

pub held_size-loop-k-init : goal.held_size-loop-k-init
held_size-loop-k-init t c = held_begin c.elements_at-elements.ensures (ap tree c.in-List.is)

pub held_size-held_size-requires : goal.held_size-held_size-requires
held_size-held_size-requires t c =
    let s = tree c.deref-in-loop-k.result.now in
    let same = ap tree c.deref-in-loop-k.ensures in
    let is : tree c.args.shape.now ≡ Array c.in-List.stride s = ap tree c.in-List.is ∙ ap (Array c.in-List.stride) (sym same) in
    let less = ap size is in
    let one = element_there c.elements_at-elements.ensures is c.requires.holds c.loop-k-test.true c.place.ensures in
    let next = held_next c.loop-k-test.true c.place.ensures c.loop-k.invariant in (
      omega (arith, less),
      (
        c.requires.pool,
        (
          one.region,
          (
            omega (arith, less, one.entry),
            (
              one.holds,
              subst
                  (λ e. IsCountable (size_there c.args.entries.now c.args.heap.now.lists e c.place.result))
                  (sym same)
                  (element_countable next c.requires.countable),
            ),
          ),
        ),
      ),
    )

pub held_size-plus-inner-requires-clause-lists : goal.held_size-plus-inner-requires-clause-lists
held_size-plus-inner-requires-clause-lists t c =
    (element_adds (held_next c.loop-k-test.true c.place.ensures c.loop-k.invariant) c.requires.countable (rw c.deref-in-loop-k.ensures at c.held_size.ensures)).lists

pub held_size-plus-inner-requires-clause-bytes : goal.held_size-plus-inner-requires-clause-bytes
held_size-plus-inner-requires-clause-bytes t c =
    (element_adds (held_next c.loop-k-test.true c.place.ensures c.loop-k.invariant) c.requires.countable (rw c.deref-in-loop-k.ensures at c.held_size.ensures)).bytes

pub held_size-loop-k-preserved : goal.held_size-loop-k-preserved
held_size-loop-k-preserved t c =
    record {
      elements = element_added
          (held_next c.loop-k-test.true c.place.ensures c.loop-k.invariant)
          (rw c.deref-in-loop-k.ensures at c.held_size.ensures)
          c.plus-inner.ensures;
    }

pub held_size-returns-then-is_number : goal.held_size-returns-then-is_number
held_size-returns-then-is_number t c =
    let numbers = sym (rw c.deref.ensures at c.is_number.ensures) ∙ c.if-is_number.true in
    c.in_list.ensures
    ∙ ap (λ n. record { lists = 0 + 1; bytes = round4 (n * c.elements_at-elements.result.stride) + 0 }) c.from.ensures
    ∙ numbers_held numbers (held_begin c.elements_at-elements.ensures (ap tree c.in-List.is))

-- ---- groups

pub held_size-held_sizes-requires : goal.held_size-held_sizes-requires
held_size-held_sizes-requires t c =
    let is : tree c.args.shape.now ≡ Cluster (ahead c.of.result) = ap tree c.in-Group.is ∙ c.of.ensures.shapes in
    let less = ap size is in rw c.of.ensures.first (
      omega (arith, less),
      (
        c.requires.pool,
        (
          c.requires.region,
          (
            subst (λ s. HoldsThere c.args.entries.now c.args.heap.now.lists s c.args.at) is c.requires.holds,
            group_countable c.args.entries.now c.args.heap.now.lists (ahead c.of.result) (tree c.args.shape.now) c.args.at is c.requires.countable,
          ),
        ),
      ),
    )

-- ---- members

pub held_sizes-held_size-requires : goal.held_sizes-held_size-requires
held_sizes-held_size-requires t c =
    let step = c.in-Some.ensures in
    let left = rw (step.shapes, ← step.here) at c.loop-shape.invariant in (
      omega (arith, left.there.less),
      (
        c.requires.pool,
        (
          left.there.region,
          (step.entries, (left.there.holds.0, member_countable left.parts c.requires.countable)),
        ),
      ),
    )

pub held_sizes-loop-shape-preserved : goal.held_sizes-loop-shape-preserved
held_sizes-loop-shape-preserved t c =
    let step = c.in-Some.ensures in
    rw step.others (member_counted (rw (step.shapes, ← step.here) at c.loop-shape.invariant) c.held_size.ensures c.plus-sum.ensures)
