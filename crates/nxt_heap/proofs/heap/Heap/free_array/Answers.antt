use Rattle.std.proofs.Common.{◌∙◌, None, ap, arith, subst}
use Rattle.std.proofs.lemmas.List.{with_items_is}
use Rattle.nxt_heap.specs.Lists.{with_list}
use Rattle.nxt_heap.specs.Inside.Pool.{Frees}
use Rattle.nxt_heap.proofs.Seen.{lives, list_row}
use Rattle.nxt_heap.proofs.Changed.{after_free}
use Rattle.nxt_heap.specs.Moves.{OthersStay}
use Rattle.nxt_heap.proofs.heap.Heap.free_array.Goals as goal

pub free_list-requires-clause-list : goal.free_list-requires-clause-list
free_list-requires-clause-list c =
    let pool = c.self.inside.pool.items in
    let table = c.self.inside.state.table in
    let l = lives pool table c.args.row (rw (← c.self.view_is) at c.requires) in
    rw c.deref_mut.ensures.value (list_row pool table c.args.row 0 l (omega arith))

pub returns-clause-lists : goal.returns-clause-lists
returns-clause-lists c =
    let pool = c.self.inside.pool.items in
    let fronts = c.self.inside.fronts.items in
    let p = c.self.inside.state in
    let n = c.self.inside.static_size in
    let items = with_items_is c.self.inside.pool c.free_list.new.pool (c.free_list.auto.pool ∙ c.deref_mut.ensures.len) in
    let f : Frees pool c.free_list.new.pool c.free_list.new.fronts p c.free_list.new.at c.args.row = rw c.deref_mut.ensures.value at c.free_list.ensures in
    rw items
    (after_free n pool c.free_list.new.pool fronts c.free_list.new.fronts p c.free_list.new.at c.args.row c.self.invariant f
    ∙ ap (λ h. with_list h.lists c.args.row None) c.self.view_is)

pub returns-clause-stay : goal.returns-clause-stay
returns-clause-stay c =
    let pool = c.self.inside.pool.items in
    let fronts = c.self.inside.fronts.items in
    let p = c.self.inside.state in
    let n = c.self.inside.static_size in
    let items = with_items_is c.self.inside.pool c.free_list.new.pool (c.free_list.auto.pool ∙ c.deref_mut.ensures.len) in
    let f : Frees pool c.free_list.new.pool c.free_list.new.fronts p c.free_list.new.at c.args.row = rw c.deref_mut.ensures.value at c.free_list.ensures in
    rw items (subst (λ h. OthersStay h.pool (record { bytes = c.free_list.new.pool; table = c.free_list.new.at.table }) c.args.row) c.self.view_is f.stay)
