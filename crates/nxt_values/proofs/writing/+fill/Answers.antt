-- A list's elements and a group's members are lesser shapes, whose places are filled one behind another.
use Rattle.std.proofs.Common.{◌≡◌, ◌<◌, refl, ap, sym, subst, ◌∙◌, arith}
use Rattle.std.proofs.lemmas.Result.{IfOk-weaker, on_err_weaker, on_ok_weaker}
use Rattle.nxt_types.specs.Shapes.{Number, Cluster, tree}
use Rattle.nxt_types.specs.Names.{size}
use Rattle.nxt_types.specs.Pool.{pool_size}
use Rattle.nxt_heap.specs.Lists.{footprint}
use Rattle.nxt_values.specs.Ahead.{ahead, behind}
use Rattle.nxt_values.specs.Writes.{bytes_of_number}
use Rattle.nxt_values.specs.Fills.{first_of, needs_for, needs_for_each, FillsThere, FillAllThere, RoomThere}
use Rattle.nxt_values.specs.Elements.{FillsElements}
use Rattle.nxt_values.specs.declared.elements.Elements.{Elements}
use Rattle.nxt_values.specs.declared.reading.Place.{Place}
use Rattle.nxt_values.proofs.Laws.Needs.{on_err}
use Rattle.nxt_values.proofs.Laws.Opened.{footprint_put}
use Rattle.nxt_values.proofs.Laws.Steps.{number_filled, cluster_filled, elements_begin, elements_end, element_room, element_done, member_room, member_done, members_end, element_passed}
use Rattle.nxt_values.proofs.Fill.Lists.{opened_room, opened_filled, opened_passed, list_passed}
use Rattle.nxt_heap.proofs.Laws.Front.{front_same, front_then}
use Rattle.nxt_heap.proofs.Laws.Moves.{rows_same, rows_then}
use Rattle.nxt_values.proofs.Fill.NoLists.{none_ahead}
use Rattle.nxt_values.proofs.writing.+fill.Goals as goal

-- ---- lists

pub fill-fill_elements-requires : goal.fill-fill_elements-requires
fill-fill_elements-requires t c =
    let is = ap tree c.in-List.is in
    let less = ap size is in
    let opened = c.in_ok-elements-in-List.ensures.opened in
    let first = ap (λ (e : Elements). e.entry) opened.is in
    rw
    c.deref.ensures (
      omega (arith, less),
      (
        c.in_ok-elements-in-List.ensures.pool,
        (omega (arith, less, first, c.requires.entries), (opened.small, opened_room is c.requires.room opened)),
      ),
    )

pub fill-returns-in_ok-elements-in-List-clause-filled : goal.fill-returns-in_ok-elements-in-List-clause-filled
fill-returns-in_ok-elements-in-List-clause-filled t c =
    IfOk-weaker
    c.fill_elements.result
    (λ rest. FillsElements c.args.entries.now c.open_list.new.heap.lists c.fill_elements.new.heap.lists (tree c.in-List.element.value) c.in_ok-elements-in-List.elements c.behind-in-List.result.now rest.now)
    (λ rest. FillsThere c.args.entries.now c.args.heap.now.lists c.fill_elements.new.heap.lists (tree c.args.shape.now) c.args.at c.args.from.now rest.now)
    (λ rest e.
    opened_filled c.args.from.now c.requires.region (ap tree c.in-List.is) c.requires.room c.in_ok-elements-in-List.ensures.opened c.first_count.ensures c.behind-in-List.ensures e)
    (rw c.deref.ensures at c.fill_elements.ensures.filled)

-- ---- elements

pub fill_elements-loop-k-init : goal.fill_elements-loop-k-init
fill_elements-loop-k-init t c = (elements_begin c.requires.pool c.requires.room, (λ none. rows_same c.args.heap.now.pool), front_same c.args.heap.now)

pub fill_elements-fill-requires : goal.fill_elements-fill-requires
fill_elements-fill-requires t c =
    let left = c.loop-k.invariant.0 in
    let here = c.place.ensures in (
      omega arith,
      (
        left.pool,
        (
          rw here left.alive,
          (
            omega (arith, c.requires.entries, ap (λ (p : Place). p.entry) here),
            element_room left c.loop-k-test.true here,
          ),
        ),
      ),
    )

pub fill_elements-loop-k-preserved : goal.fill_elements-loop-k-preserved
fill_elements-loop-k-preserved t c = (
  element_done
      c.loop-k.invariant.0
      c.loop-k-test.true
      c.place.ensures
      c.in_ok-left.ensures.pool
      c.in_ok-left.ensures.filled,
  (λ none. rows_then c.args.heap.now.pool c.loop-k.heap.pool c.fill.new.heap.pool (c.loop-k.invariant.1 none) (c.in_ok-left.ensures.stays none)),
  front_then c.args.heap.now c.loop-k.heap c.fill.new.heap c.loop-k.invariant.2 c.in_ok-left.ensures.front,
)

pub fill_elements-returns-clause-filled : goal.fill_elements-returns-clause-filled
fill_elements-returns-clause-filled t c = elements_end c.loop-k.invariant.0 (omega arith)

-- ---- numbers

pub fill-returns-in-Num-clause-pool : goal.fill-returns-in-Num-clause-pool
fill-returns-in-Num-clause-pool t c =
    let same = ap footprint c.set_first.ensures.lists ∙ footprint_put c.args.heap.now.lists c.args.at.region (bytes_of_number c.in-Num.kind (first_of c.args.from.now)) c.leaf_place-place.result c.requires.region in
    omega (arith, same, c.requires.pool)

pub fill-returns-in-Num-clause-filled : goal.fill-returns-in-Num-clause-filled
fill-returns-in-Num-clause-filled t c =
    let is : tree c.args.shape.now ≡ Number c.in-Num.kind = ap tree c.in-Num.is in
    let room = subst (λ w. RoomThere c.args.entries.now c.args.heap.now.lists w c.args.at) is c.requires.room in
    subst
    (λ w. FillsThere c.args.entries.now c.args.heap.now.lists c.set_first.new.heap.lists w c.args.at c.args.from.now c.behind.result.now)
    (sym is)
    (number_filled
    c.args.entries.now
    c.args.heap.now.lists
    c.set_first.new.heap.lists
    c.in-Num.kind
    c.args.at.entry
    c.args.at.region
    c.args.at.base
    c.leaf_place-place.result
    (first_of c.args.from.now)
    c.args.from.now
    c.behind.result.now
    c.requires.region
    c.leaf_place-place.ensures
    (omega (arith, c.leaf_place-place.ensures, room.within, room.fits))
    refl
    c.behind.ensures
    c.set_first.ensures.lists)

-- ---- groups

pub fill-fill_ahead-requires : goal.fill-fill_ahead-requires
fill-fill_ahead-requires t c =
    let is : tree c.args.shape.now ≡ Cluster (ahead c.of.result) = ap tree c.in-Group.is ∙ c.of.ensures.shapes in
    let less = ap size is in
    let room = subst (λ s. RoomThere c.args.entries.now c.args.heap.now.lists s c.args.at) is c.requires.room in rw c.of.ensures.first (
      omega (arith, less),
      (
        c.requires.pool,
        (c.requires.region, record { within = room.within; apart = room.apart; fits = room.fits }),
      ),
    )

pub fill-returns-in-Group-clause-filled : goal.fill-returns-in-Group-clause-filled
fill-returns-in-Group-clause-filled t c =
    let is : tree c.args.shape.now ≡ Cluster (ahead c.of.result) = ap tree c.in-Group.is ∙ c.of.ensures.shapes in
    let at = c.args.at in
    IfOk-weaker
    c.fill_ahead.result
    (λ rest. FillAllThere c.args.entries.now c.args.heap.now.lists c.fill_ahead.new.heap.lists (ahead c.of.result) (behind at 1) c.args.from.now rest.now)
    (λ rest. FillsThere c.args.entries.now c.args.heap.now.lists c.fill_ahead.new.heap.lists (tree c.args.shape.now) at c.args.from.now rest.now)
    (λ rest e.
    subst
    (λ w. FillsThere c.args.entries.now c.args.heap.now.lists c.fill_ahead.new.heap.lists w at c.args.from.now rest.now)
    (sym is)
    (cluster_filled c.args.entries.now c.args.heap.now.lists c.fill_ahead.new.heap.lists (ahead c.of.result) at.entry at.region at.base c.args.from.now rest.now e))
    (rw c.of.ensures.first at c.fill_ahead.ensures.filled)

-- ---- members

pub fill_ahead-fill-requires : goal.fill_ahead-fill-requires
fill_ahead-fill-requires t c =
    let step = c.in-Some.ensures in
    let left = rw (step.shapes, ← step.here) at c.loop-shape.invariant.0 in
    let room = member_room c.args.entries.now (tree c.in-Some.shape.now) (ahead c.next.new.self) c.in-Some.place.entry c.in-Some.place.base _ left.room in
    (omega (arith, left.less), (left.pool, (left.there, (step.entries, room))))

pub fill_ahead-loop-shape-preserved : goal.fill_ahead-loop-shape-preserved
fill_ahead-loop-shape-preserved t c = (
  let step = c.in-Some.ensures in
      let left = rw (step.shapes, ← step.here) at c.loop-shape.invariant.0 in
      rw step.others (member_done left c.in_ok-left.ensures.pool c.in_ok-left.ensures.filled),
  (λ none.
      let before = c.loop-shape.invariant.1 none in
      let two = none_ahead c.in-Some.ensures before.0 in
      (two.1, rows_then c.args.heap.now.pool c.loop-shape.heap.pool c.fill.new.heap.pool before.1 (c.in_ok-left.ensures.stays two.0))),
  front_then c.args.heap.now c.loop-shape.heap c.fill.new.heap c.loop-shape.invariant.2 c.in_ok-left.ensures.front,
)

pub fill_ahead-returns-clause-filled : goal.fill_ahead-returns-clause-filled
fill_ahead-returns-clause-filled t c = members_end c.in_default.ensures c.loop-shape.invariant.0

-- ---- what the pool does not hold

pub fill-returns-in_err-elements-in-List-clause-passed : goal.fill-returns-in_err-elements-in-List-clause-passed
fill-returns-in_err-elements-in-List-clause-passed t c =
    on_err
    c.from_residual.result
    (pool_size < needs_for c.args.heap.now.lists (tree c.args.shape.now) c.args.from.now)
    (list_passed c.args.heap.now.lists c.args.from.now (ap tree c.in-List.is) c.first_count.ensures c.in_err-elements-in-List.ensures.passed)

pub fill-returns-in_ok-elements-in-List-clause-passed : goal.fill-returns-in_ok-elements-in-List-clause-passed
fill-returns-in_ok-elements-in-List-clause-passed t c =
    on_err_weaker
    c.fill_elements.result
    (λ e. opened_passed c.args.from.now (ap tree c.in-List.is) c.in_ok-elements-in-List.ensures.opened c.first_count.ensures c.behind-in-List.ensures e)
    (rw c.deref.ensures at c.fill_elements.ensures.passed)

pub fill_elements-returns-in_err-left-clause-passed : goal.fill_elements-returns-in_err-left-clause-passed
fill_elements-returns-in_err-left-clause-passed t c =
    on_err
    c.from_residual.result
    (pool_size < needs_for_each c.args.heap.now.lists (tree c.args.element.now) c.args.elements.count c.args.from.now)
    (element_passed
    {Whole = λ f rest. FillsElements c.args.entries.now c.args.heap.now.lists f (tree c.args.element.now) c.args.elements c.args.from.now rest}
    c.loop-k.invariant.0
    c.loop-k-test.true
    c.in_err-left.ensures.passed)

-- ---- the table in front

pub fill-returns-in_ok-elements-in-List-clause-front : goal.fill-returns-in_ok-elements-in-List-clause-front
fill-returns-in_ok-elements-in-List-clause-front t c =
    on_ok_weaker c.fill_elements.result (front_then c.args.heap.now c.open_list.new.heap c.fill_elements.new.heap c.in_ok-elements-in-List.ensures.front) c.fill_elements.ensures.front
