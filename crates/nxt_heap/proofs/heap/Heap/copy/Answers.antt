use Rattle.std.proofs.Common.{◌∙◌, sym, ap, arith, take, drop, refl, subst}
use Rattle.std.proofs.lemmas.List.{with_items_is}
use Rattle.nxt_rows.specs.Rows.{dope_row}
use Rattle.nxt_heap.specs.Lists.{with_bytes, bytes_at, bytes_of}
use Rattle.nxt_heap.specs.Inside.Pool.{row_bytes, Stores}
use Rattle.nxt_heap.proofs.Seen.{Lives, lives, list_row}
use Rattle.nxt_heap.proofs.Changed.{shown, size_lived, after_bytes, still_heap}
use Rattle.nxt_heap.specs.Moves.{RowsStay}
use Rattle.nxt_heap.proofs.heap.Heap.copy.Goals as goal

living : (c : goal.After-deref_mut) → Lives c.self.inside.pool.items c.self.inside.state.table c.args.to
living c = lives c.self.inside.pool.items c.self.inside.state.table c.args.to (rw (← c.self.view_is) at c.requires.alive)

source : (c : goal.After-deref_mut) → Lives c.self.inside.pool.items c.self.inside.state.table c.args.from
source c = lives c.self.inside.pool.items c.self.inside.state.table c.args.from (rw (← c.self.view_is) at c.requires.source)

pub copy_bytes-requires-clause-blocks : goal.copy_bytes-requires-clause-blocks
copy_bytes-requires-clause-blocks c = rw c.deref_mut.ensures.value (c.self.inside.fronts.items, c.self.inside.state, c.self.invariant.blocks, refl)

pub copy_bytes-requires-clause-list : goal.copy_bytes-requires-clause-list
copy_bytes-requires-clause-list c =
    rw c.deref_mut.ensures.value (list_row c.self.inside.pool.items c.self.inside.state.table c.args.to 0 (living c) (omega arith))

pub copy_bytes-requires-clause-source : goal.copy_bytes-requires-clause-source
copy_bytes-requires-clause-source c =
    rw c.deref_mut.ensures.value (list_row c.self.inside.pool.items c.self.inside.state.table c.args.from 0 (source c) (omega arith))

pub copy_bytes-requires-clause-fits : goal.copy_bytes-requires-clause-fits
copy_bytes-requires-clause-fits c =
    let pool = c.self.inside.pool.items in
    let fronts = c.self.inside.fronts.items in
    let p = c.self.inside.state in
    let n = c.self.inside.static_size in
    let long = size_lived n pool fronts p c.args.to c.self.invariant (living c) in
    let short = size_lived n pool fronts p c.args.from c.self.invariant (source c) in
    rw c.deref_mut.ensures.value (omega (arith, long, short, rw (← c.self.view_is) at c.requires.long))

stores : (c : goal.After-self-1)
    → Stores c.self.inside.pool.items c.copy_bytes.new.pool c.self.inside.state.table c.args.to 0
    (take (row_bytes (dope_row c.self.inside.pool.items c.self.inside.state.table c.args.from)) (drop (dope_row c.self.inside.pool.items c.self.inside.state.table c.args.from).place c.self.inside.pool.items))
stores c = rw c.deref_mut.ensures.value at c.copy_bytes.ensures

pub invariant_of-self : goal.invariant_of-self
invariant_of-self c =
    let pool = c.self.inside.pool.items in
    let fronts = c.self.inside.fronts.items in
    let p = c.self.inside.state in
    let n = c.self.inside.static_size in
    let items = with_items_is c.self.inside.pool c.copy_bytes.new.pool (c.copy_bytes.auto.pool ∙ c.deref_mut.ensures.len) in
    rw items (still_heap n pool c.copy_bytes.new.pool fronts fronts p p c.self.invariant ((stores c).blocks fronts p refl c.self.invariant.blocks) refl)

pub returns-clause-lists : goal.returns-clause-lists
returns-clause-lists c =
    let pool = c.self.inside.pool.items in
    let fronts = c.self.inside.fronts.items in
    let p = c.self.inside.state in
    let n = c.self.inside.static_size in
    let l = lives pool p.table c.args.to (rw (← c.self.view_is) at c.requires.alive) in
    let k = lives pool p.table c.args.from (rw (← c.self.view_is) at c.requires.source) in
    let items = with_items_is c.self.inside.pool c.copy_bytes.new.pool (c.copy_bytes.auto.pool ∙ c.deref_mut.ensures.len) in
    let row = dope_row pool p.table c.args.from in
    let bs = take (row_bytes row) (drop row.place pool) in
    rw items
    (after_bytes n pool c.copy_bytes.new.pool fronts p c.args.to 0 bs c.self.invariant l (stores c)
    ∙ ap (λ bytes. with_bytes (shown n pool p) c.args.to 0 bytes) (sym (ap bytes_of k.is))
    ∙ ap (λ h. with_bytes h.lists c.args.to 0 (bytes_at h.lists c.args.from)) c.self.view_is)

pub returns-clause-stay : goal.returns-clause-stay
returns-clause-stay c =
    let items = with_items_is c.self.inside.pool c.copy_bytes.new.pool (c.copy_bytes.auto.pool ∙ c.deref_mut.ensures.len) in
    rw items (subst (λ h. RowsStay h.pool (record { bytes = c.copy_bytes.new.pool; table = c.self.inside.state.table })) c.self.view_is (stores c).stay)
