-- What is stored stands there, and lists keep their rows.
use Rattle.std.proofs.Common.{◌<◌, ◌≤◌, ◌*◌, length, IfOk, OnErr, sym, ap, ◌∙◌, subst}
use Rattle.std.proofs.lemmas.Bool.{false≢true}
use Rattle.std.proofs.lemmas.Result.{IfOk-weaker, on_ok_weaker, on_err_weaker}
use Rattle.nxt_types.specs.Shapes.{Array, tree, has_list}
use Rattle.nxt_types.specs.Pool.{pool_size}
use Rattle.nxt_heap.specs.Lists.{bytes_at}
use Rattle.nxt_values.specs.Regions.{bytes_in}
use Rattle.nxt_values.specs.Writes.{emptied, KeepsRows}
use Rattle.nxt_values.specs.Fills.{needs_for, FillsThere}
use Rattle.nxt_values.specs.Elements.{FillsElements, closed, row_there, GetsNoLonger}
use Rattle.nxt_values.proofs.Laws.Needs.{on_err}
use Rattle.nxt_values.proofs.Free.Emptied.{emptied_room}
use Rattle.nxt_values.proofs.Fill.Lists.{opened_room, opened_filled, opened_passed, list_passed}
use Rattle.nxt_values.proofs.Store.Kept.{no_rows, no_list, nothing_freed, one_freed, has_row, row_kept, on_ok}
use Rattle.nxt_heap.proofs.Laws.Moves.{none_moves, none_then}
use Rattle.nxt_values.proofs.Fill.NoLists.{not_longer}
use Rattle.nxt_values.proofs.writing.store.Goals as goal

-- ---- lists that keep their rows

pub reopen_list-requires-clause-has : goal.reopen_list-requires-clause-has
reopen_list-requires-clause-has c = has_row (ap tree c.in-List.is) c.requires.holds c.requires.own

pub fill_elements-requires-clause-room : goal.fill_elements-requires-clause-room
fill_elements-requires-clause-room c =
    let is = ap tree c.in-List.is in
    let none = sym c.has_inner_list.ensures ∙ c.if-has_inner_list.false in
    let can = emptied_room c.args.entries.now c.args.heap.now.lists (closed c.args.entries.now c.args.heap.now.lists c.args.at) (tree c.args.shape.now) c.args.at (sym (one_freed c.args.entries.now c.args.heap.now.lists c.args.at is none)) c.requires.pool c.requires.region c.requires.holds c.requires.own c.requires.room in
    rw c.deref.ensures (opened_room is can.room c.in_ok-elements-in-List.ensures.opened)

pub returns-in_ok-elements-in-List-clause-filled : goal.returns-in_ok-elements-in-List-clause-filled
returns-in_ok-elements-in-List-clause-filled c =
    let h = c.args.heap.now.lists in
    let table = c.args.entries.now in
    let f = c.fill_elements.new.heap.lists in
    let is = ap tree c.in-List.is in
    let none = sym c.has_inner_list.ensures ∙ c.if-has_inner_list.false in
    let freed = one_freed c.args.entries.now h c.args.at is none in
    let can = emptied_room table h (closed table h c.args.at) (tree c.args.shape.now) c.args.at (sym freed) c.requires.pool c.requires.region c.requires.holds c.requires.own c.requires.room in
    subst
    (λ g. IfOk c.fill_elements.result (λ rest. FillsThere table g f (tree c.args.shape.now) c.args.at c.args.from.now rest.now))
    (sym freed)
    (IfOk-weaker
    c.fill_elements.result
    (λ rest. FillsElements table c.reopen_list.new.heap.lists f (tree c.in-List.element.value) c.in_ok-elements-in-List.elements c.behind.result.now rest.now)
    (λ rest. FillsThere table (closed table h c.args.at) f (tree c.args.shape.now) c.args.at c.args.from.now rest.now)
    (λ rest e. opened_filled c.args.from.now can.there is can.room c.in_ok-elements-in-List.ensures.opened c.first_count.ensures c.behind.ensures e)
    (rw c.deref.ensures at c.fill_elements.ensures.filled))

pub returns-in_ok-elements-in-List-clause-rows : goal.returns-in_ok-elements-in-List-clause-rows
returns-in_ok-elements-in-List-clause-rows c =
    let h = c.args.heap.now.lists in
    let table = c.args.entries.now in
    let f = c.fill_elements.new.heap.lists in
    let is = ap tree c.in-List.is in
    on_ok
    c.fill_elements.result
    (λ rest. FillsElements table c.reopen_list.new.heap.lists f (tree c.in-List.element.value) c.in_ok-elements-in-List.elements c.behind.result.now rest.now)
    (KeepsRows table h f (tree c.args.shape.now) c.args.at)
    (λ rest e. row_kept is (has_row is c.requires.holds c.requires.own) c.in_ok-elements-in-List.ensures.opened c.in_ok-elements-in-List.ensures.row e)
    (rw c.deref.ensures at c.fill_elements.ensures.filled)

pub returns-in_ok-elements-in-List-clause-passed : goal.returns-in_ok-elements-in-List-clause-passed
returns-in_ok-elements-in-List-clause-passed c =
    let h = c.args.heap.now.lists in
    let is = ap tree c.in-List.is in
    let none = sym c.has_inner_list.ensures ∙ c.if-has_inner_list.false in
    subst
    (λ g. OnErr c.fill_elements.result (pool_size < needs_for g (tree c.args.shape.now) c.args.from.now))
    (sym (one_freed c.args.entries.now h c.args.at is none))
    (on_err_weaker
    c.fill_elements.result
    (λ e. opened_passed c.args.from.now is c.in_ok-elements-in-List.ensures.opened c.first_count.ensures c.behind.ensures e)
    (rw c.deref.ensures at c.fill_elements.ensures.passed))

pub returns-in_err-elements-in-List-clause-passed : goal.returns-in_err-elements-in-List-clause-passed
returns-in_err-elements-in-List-clause-passed c =
    let h = c.args.heap.now.lists in
    let table = c.args.entries.now in
    let is = ap tree c.in-List.is in
    let none = sym c.has_inner_list.ensures ∙ c.if-has_inner_list.false in
    on_err
    c.from_residual.result
    (pool_size < needs_for (emptied table h (tree c.args.shape.now) c.args.at) (tree c.args.shape.now) c.args.from.now)
    (subst
    (λ g. pool_size < needs_for g (tree c.args.shape.now) c.args.from.now)
    (sym (one_freed c.args.entries.now h c.args.at is none))
    (list_passed (closed table h c.args.at) c.args.from.now is c.first_count.ensures c.in_err-elements-in-List.ensures.passed))

-- ---- no lists

pub returns-in_default : goal.returns-in_default
returns-in_default c =
    let h = c.args.heap.now.lists in
    let table = c.args.entries.now in
    let g = c.fill.new.heap.lists in
    let s = tree c.args.shape.now in
    let at = c.args.at in
    let none = no_list c.args.shape.now c.in_default.not-List (sym c.has_inner_list.ensures ∙ c.if-has_inner_list.false) in
    let same = sym (nothing_freed table h s at none) in
    record {
      pool = c.fill.ensures.pool;
      passed = subst (λ f. OnErr c.fill.result (pool_size < needs_for f s c.args.from.now)) same c.fill.ensures.passed;
      filled = subst (λ f. IfOk c.fill.result (λ rest. FillsThere table f g s at c.args.from.now rest.now)) same c.fill.ensures.filled;
      rows = on_ok
          c.fill.result
          (λ rest. FillsThere table h g s at c.args.from.now rest.now)
          (KeepsRows table h g s at)
          (λ rest e some. no_rows table g s at.entry (bytes_in g at.region) at.base none ∙ sym (no_rows table h s at.entry (bytes_in h at.region) at.base none))
          c.fill.ensures.filled;
      stays = c.fill.ensures.stays;
      shorter = λ less. absurd (not_longer table h c.args.shape.now at c.args.from.now c.in_default.not-List less);
    }

-- ---- blocks that stay

pub returns-in_ok-elements-in-List-clause-stays : goal.returns-in_ok-elements-in-List-clause-stays
returns-in_ok-elements-in-List-clause-stays c none = absurd (false≢true (sym none ∙ ap has_list (ap tree c.in-List.is)))

pub returns-in_ok-elements-in-List-clause-shorter : goal.returns-in_ok-elements-in-List-clause-shorter
returns-in_ok-elements-in-List-clause-shorter c less =
    let h = c.args.heap.now in
    let mid = c.reopen_list.new.heap.pool in
    let new = c.fill_elements.new.heap.pool in
    let own : GetsNoLonger c.args.entries.now h.lists (Array c.in-List.stride (tree c.in-List.element.value)) c.args.at c.args.from.now = subst (λ s. GetsNoLonger c.args.entries.now h.lists s c.args.at c.args.from.now) (ap tree c.in-List.is) less in
    let stays = rw c.deref.ensures at c.fill_elements.ensures.stays in
    let moved = c.in_ok-elements-in-List.ensures.shorter (subst (λ n. n * c.in-List.stride ≤ length (bytes_at h.lists (row_there c.args.entries.now h.lists c.args.at))) (sym c.first_count.ensures) own.1) in
    on_ok_weaker c.fill_elements.result (λ rows. none_then h.pool mid new moved (none_moves mid new rows)) (stays own.0)
