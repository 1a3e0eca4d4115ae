-- Blocks that move, and lists that stay.
use Rattle.std.proofs.Common.{◌≡◌, ◌∙◌, ap, sym, subst, length, take}
use Rattle.std.proofs.lemmas.List.{with_items_is}
use Rattle.nxt_types.specs.Pool.{round4}
use Rattle.nxt_blocks.specs.Blocks.{place_after}
use Rattle.nxt_compact.specs.Pools.{blocks_in, Compacts}
use Rattle.nxt_heap.specs.Lists.{base_of}
use Rattle.nxt_heap.specs.Inside.Pool.{BlocksMove}
use Rattle.nxt_heap.proofs.Changed.{after_moves}
use Rattle.nxt_heap.proofs.Seen.{length_static}
use Rattle.nxt_heap.proofs.heap.Heap.compact.Goals as goal

pub returns-clause-lists : goal.returns-clause-lists
returns-clause-lists c =
    let pool = c.self.inside.pool.items in
    let fronts = c.self.inside.fronts.items in
    let p = c.self.inside.state in
    let n = c.self.inside.static_size in
    let items = with_items_is c.self.inside.pool c.settle.new.pool (c.settle.auto.pool ∙ c.deref_mut.ensures.len) in
    let m : BlocksMove pool fronts c.settle.new.pool c.settle.new.fronts p c.settle.new.at (place_after c.args.k p.base (blocks_in pool p.table)) =
    rw (c.deref_mut.ensures.value, c.deref_mut-2.ensures.value) at c.settle.ensures.moves in
    rw items (after_moves n pool c.settle.new.pool fronts c.settle.new.fronts p c.settle.new.at (place_after c.args.k p.base (blocks_in pool p.table)) c.self.invariant m ∙ ap (λ h. h.lists) c.self.view_is)

pub returns-clause-settles : goal.returns-clause-settles
returns-clause-settles c =
    let pool = c.self.inside.pool.items in
    let fronts = c.self.inside.fronts.items in
    let p = c.self.inside.state in
    let n = c.self.inside.static_size in
    let items = with_items_is c.self.inside.pool c.settle.new.pool (c.settle.auto.pool ∙ c.deref_mut.ensures.len) in
    let base : p.base ≡ round4 (length (take n pool)) = c.self.invariant.base_is ∙ sym (ap round4 (length_static n pool fronts p c.self.invariant)) in
    let settled : Compacts p.base c.args.k pool c.settle.new.pool p.table c.settle.new.at.table c.settle.result = rw c.deref_mut.ensures.value at c.settle.ensures.compacts in
    rw items (subst
    (λ h. Compacts (base_of h.lists) c.args.k h.pool.bytes c.settle.new.pool h.pool.table c.settle.new.at.table c.settle.result)
    c.self.view_is
    (subst (λ b. Compacts b c.args.k pool c.settle.new.pool p.table c.settle.new.at.table c.settle.result) base settled))
