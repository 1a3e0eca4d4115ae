use Rattle.std.proofs.Common.{◌∙◌, ap, arith, length, refl, subst}
use Rattle.std.proofs.lemmas.List.{with_items_is}
use Rattle.nxt_heap.specs.Lists.{with_bytes, bytes_at}
use Rattle.nxt_heap.specs.Inside.Pool.{Stores}
use Rattle.nxt_heap.proofs.Seen.{Lives, lives, list_row}
use Rattle.nxt_heap.proofs.Changed.{size_lived, after_bytes, still_heap}
use Rattle.nxt_heap.specs.Moves.{RowsStay}
use Rattle.nxt_heap.proofs.heap.Heap.write.Goals as goal

living : (c : goal.After-deref_mut) → Lives c.self.inside.pool.items c.self.inside.state.table c.args.row
living c = lives c.self.inside.pool.items c.self.inside.state.table c.args.row (rw (← c.self.view_is) at c.requires.alive)

pub write_bytes-requires-clause-blocks : goal.write_bytes-requires-clause-blocks
write_bytes-requires-clause-blocks c = rw c.deref_mut.ensures.value (c.self.inside.fronts.items, c.self.inside.state, c.self.invariant.blocks, refl)

pub write_bytes-requires-clause-list : goal.write_bytes-requires-clause-list
write_bytes-requires-clause-list c =
    rw c.deref_mut.ensures.value (list_row c.self.inside.pool.items c.self.inside.state.table c.args.row 0 (living c) (omega arith))

pub write_bytes-requires-clause-at : goal.write_bytes-requires-clause-at
write_bytes-requires-clause-at c =
    let pool = c.self.inside.pool.items in
    let fronts = c.self.inside.fronts.items in
    let p = c.self.inside.state in
    let n = c.self.inside.static_size in
    let long = size_lived n pool fronts p c.args.row c.self.invariant (living c) in
    let seen = ap (λ h. length (bytes_at h.lists c.args.row)) c.self.view_is in
    rw c.deref_mut.ensures.value (omega (arith, long, seen, c.requires.at))

stores : (c : goal.After-self-1) → Stores c.self.inside.pool.items c.write_bytes.new.pool c.self.inside.state.table c.args.row c.args.at c.args.bytes.now
stores c = rw c.deref_mut.ensures.value at c.write_bytes.ensures

pub invariant_of-self : goal.invariant_of-self
invariant_of-self c =
    let pool = c.self.inside.pool.items in
    let fronts = c.self.inside.fronts.items in
    let p = c.self.inside.state in
    let n = c.self.inside.static_size in
    let items = with_items_is c.self.inside.pool c.write_bytes.new.pool (c.write_bytes.auto.pool ∙ c.deref_mut.ensures.len) in
    rw items (still_heap n pool c.write_bytes.new.pool fronts fronts p p c.self.invariant ((stores c).blocks fronts p refl c.self.invariant.blocks) refl)

pub returns-clause-lists : goal.returns-clause-lists
returns-clause-lists c =
    let pool = c.self.inside.pool.items in
    let fronts = c.self.inside.fronts.items in
    let p = c.self.inside.state in
    let n = c.self.inside.static_size in
    let l = lives pool p.table c.args.row (rw (← c.self.view_is) at c.requires.alive) in
    let items = with_items_is c.self.inside.pool c.write_bytes.new.pool (c.write_bytes.auto.pool ∙ c.deref_mut.ensures.len) in
    rw items
    (after_bytes n pool c.write_bytes.new.pool fronts p c.args.row c.args.at c.args.bytes.now c.self.invariant l (stores c)
    ∙ ap (λ h. with_bytes h.lists c.args.row c.args.at c.args.bytes.now) c.self.view_is)

pub returns-clause-stay : goal.returns-clause-stay
returns-clause-stay c =
    let items = with_items_is c.self.inside.pool c.write_bytes.new.pool (c.write_bytes.auto.pool ∙ c.deref_mut.ensures.len) in
    rw items (subst (λ h. RowsStay h.pool (record { bytes = c.write_bytes.new.pool; table = c.self.inside.state.table })) c.self.view_is (stores c).stay)
