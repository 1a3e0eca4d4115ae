use Rattle.std.proofs.Common.{◌≡◌, ◌∙◌, ◌≤◌, ap, sym, arith, length, subst, take}
use Rattle.std.proofs.lemmas.List.{with_items_is}
use Rattle.nxt_types.specs.Pool.{round4}
use Rattle.nxt_compact.specs.Pools.{block_bytes}
use Rattle.nxt_heap.specs.Lists.{footprint, with_length, bytes_at, stride_of}
use Rattle.nxt_heap.specs.Inside.Pool.{row_bytes, HasLength}
use Rattle.nxt_heap.proofs.Seen.{lives, list_row, row_inside, footprint_state}
use Rattle.nxt_heap.proofs.Changed.{base_shown, shown, sound_shown, still_heap, after_length, size_lived, footprint_length, length_same, footprint_inside, block_inside}
use Rattle.nxt_heap.specs.Lists.{base_of}
use Rattle.nxt_heap.specs.Moves.{KeepsFront, MovesAtNeed}
use Rattle.nxt_heap.proofs.Laws.Front.{front_resized, front_same}
use Rattle.nxt_heap.specs.Inside.Pool.{pool_at, views_of}
use Rattle.nxt_heap.proofs.Needs.{unmoved}
use Rattle.nxt_heap.proofs.Seen.{length_static}
use Rattle.nxt_heap.proofs.Windows.{block_is}
use Rattle.nxt_rows.specs.Rows.{dope_row}
use Rattle.nxt_heap.specs.Moves.{NoneMoves}
use Rattle.nxt_heap.proofs.Laws.Moves.{none_same}
use Rattle.nxt_heap.proofs.heap.Heap.resize.Goals as goal

-- ---- the row

pub get-found-requires : goal.get-found-requires
get-found-requires c =
    let pool = c.self.inside.pool.items in
    let p = c.self.inside.state in
    let l = lives pool p.table c.args.row (rw (← c.self.view_is) at c.requires.alive) in
    rw c.deref.ensures.value (row_inside pool p.table p.base c.args.row c.self.invariant.blocks.is_pool l.within)

-- ---- as many bytes as there are

pub returns-then-byte_count-bytes-clause-ok : goal.returns-then-byte_count-bytes-clause-ok
returns-then-byte_count-bytes-clause-ok c =
    let pool = c.self.inside.pool.items in
    let fronts = c.self.inside.fronts.items in
    let p = c.self.inside.state in
    let n = c.self.inside.static_size in
    let l = lives pool p.table c.args.row (rw (← c.self.view_is) at c.requires.alive) in
    let found = ap row_bytes (rw c.deref.ensures.value at c.get-found.ensures) in
    let size = size_lived n pool fronts p c.args.row c.self.invariant l in
    let seen = ap (λ h. length (bytes_at h.lists c.args.row)) c.self.view_is in
    sym (length_same c.args.self.now.lists c.args.row c.args.bytes c.requires.alive (sym seen ∙ size ∙ sym (c.byte_count.ensures ∙ found) ∙ c.if-byte_count-bytes.true))

pub returns-then-byte_count-bytes-clause-fits : goal.returns-then-byte_count-bytes-clause-fits
returns-then-byte_count-bytes-clause-fits c =
    let pool = c.self.inside.pool.items in
    let fronts = c.self.inside.fronts.items in
    let p = c.self.inside.state in
    let n = c.self.inside.static_size in
    let same = returns-then-byte_count-bytes-clause-ok c in
    omega (arith, ap footprint same, ap (λ h. footprint h.lists) c.self.view_is, footprint_state n pool fronts p c.self.invariant, footprint_inside n pool fronts p c.self.invariant)

pub returns-then-byte_count-bytes-clause-moves : goal.returns-then-byte_count-bytes-clause-moves
returns-then-byte_count-bytes-clause-moves c =
    let pool = c.self.inside.pool.items in
    let fronts = c.self.inside.fronts.items in
    let p = c.self.inside.state in
    let n = c.self.inside.static_size in
    let l = lives pool p.table c.args.row (rw (← c.self.view_is) at c.requires.alive) in
    let found = ap row_bytes (rw c.deref.ensures.value at c.get-found.ensures) in
    let base : p.base ≡ round4 (length (take n pool)) = c.self.invariant.base_is ∙ sym (ap round4 (length_static n pool fronts p c.self.invariant)) in
    let long : round4 c.args.bytes ≡ block_bytes (dope_row pool p.table c.args.row) =
    ap round4 (sym c.if-byte_count-bytes.true ∙ c.byte_count.ensures ∙ found) ∙ sym (block_is (dope_row pool p.table c.args.row)) in
    subst (λ h. MovesAtNeed (base_of h.lists) h.pool h.pool c.args.row (round4 c.args.bytes)) c.self.view_is
    (subst (λ b. MovesAtNeed b (pool_at pool p) (pool_at pool p) c.args.row (round4 c.args.bytes)) base
    (unmoved pool p c.args.row (round4 c.args.bytes) c.self.invariant.blocks.is_pool l.within long))

-- ---- a growth that passes the pool

pub overflow_sub-footprint : goal.overflow_sub-footprint
overflow_sub-footprint c =
    let pool = c.self.inside.pool.items in
    let fronts = c.self.inside.fronts.items in
    let p = c.self.inside.state in
    let n = c.self.inside.static_size in
    let l = lives pool p.table c.args.row (rw (← c.self.view_is) at c.requires.alive) in
    let found = ap block_bytes (rw c.deref.ensures.value at c.get-found.ensures) in
    omega (arith, found, c.block_bytes.ensures, block_inside n pool fronts p c.args.row c.self.invariant l.within)

pub returns-then-footprint-gt-POOL_BYTES-clause-passed : goal.returns-then-footprint-gt-POOL_BYTES-clause-passed
returns-then-footprint-gt-POOL_BYTES-clause-passed c =
    let pool = c.self.inside.pool.items in
    let fronts = c.self.inside.fronts.items in
    let p = c.self.inside.state in
    let n = c.self.inside.static_size in
    let l = lives pool p.table c.args.row (rw (← c.self.view_is) at c.requires.alive) in
    let found = ap block_bytes (rw c.deref.ensures.value at c.get-found.ensures) in
    let whole = footprint_length n pool fronts p c.args.row c.args.bytes c.self.invariant l in
    let seen = ap (λ h. footprint (with_length h.lists c.args.row c.args.bytes)) c.self.view_is in
    record {
      whole = omega (arith, found, whole, seen, c.block_bytes.ensures, c.round4.ensures, block_inside n pool fronts p c.args.row c.self.invariant l.within);
      above = omega (arith, c.if-footprint-gt-POOL_BYTES.true);
    }

-- ---- a list that gets its bytes

pub resize_list-requires-clause-blocks : goal.resize_list-requires-clause-blocks
resize_list-requires-clause-blocks c = rw (c.deref_mut.ensures.value, c.deref_mut-2.ensures.value) c.self.invariant.blocks

pub resize_list-requires-clause-list : goal.resize_list-requires-clause-list
resize_list-requires-clause-list c =
    let pool = c.self.inside.pool.items in
    let table = c.self.inside.state.table in
    let l = lives pool table c.args.row (rw (← c.self.view_is) at c.requires.alive) in
    let whole = rw (ap stride_of l.is) at (rw (← c.self.view_is) at c.requires.whole) in
    rw c.deref_mut.ensures.value (list_row pool table c.args.row c.args.bytes l whole)

pub resize_list-requires-clause-fits : goal.resize_list-requires-clause-fits
resize_list-requires-clause-fits c =
    let pool = c.self.inside.pool.items in
    let fronts = c.self.inside.fronts.items in
    let p = c.self.inside.state in
    let n = c.self.inside.static_size in
    let l = lives pool p.table c.args.row (rw (← c.self.view_is) at c.requires.alive) in
    let found = ap block_bytes (rw c.deref.ensures.value at c.get-found.ensures) in
    rw c.deref_mut.ensures.value
    (omega (arith, found, c.block_bytes.ensures, c.round4.ensures, c.if-footprint-gt-POOL_BYTES.false, block_inside n pool fronts p c.args.row c.self.invariant l.within))

has : (c : goal.After-self-2-1) → HasLength c.self.inside.pool.items c.resize_list.new.pool c.resize_list.new.fronts c.self.inside.state c.resize_list.new.at c.args.row c.args.bytes
has c = rw c.deref_mut.ensures.value at c.resize_list.ensures.length

pub invariant_of-self : goal.invariant_of-self
invariant_of-self c =
    let pool = c.self.inside.pool.items in
    let fronts = c.self.inside.fronts.items in
    let p = c.self.inside.state in
    let n = c.self.inside.static_size in
    let items = with_items_is c.self.inside.pool c.resize_list.new.pool (c.resize_list.auto.pool ∙ c.deref_mut.ensures.len) in
    let noted = with_items_is c.self.inside.fronts c.resize_list.new.fronts (c.resize_list.auto.fronts ∙ c.deref_mut-2.ensures.len) in
    rw (items, noted) (still_heap n pool c.resize_list.new.pool fronts c.resize_list.new.fronts p c.resize_list.new.at c.self.invariant (has c).blocks (has c).base)

state : (c : goal.After-self-2-1) → shown c.self.inside.static_size c.resize_list.new.pool c.resize_list.new.at ≡ with_length c.args.self.now.lists c.args.row c.args.bytes
state c =
    let pool = c.self.inside.pool.items in
    let fronts = c.self.inside.fronts.items in
    let p = c.self.inside.state in
    let n = c.self.inside.static_size in
    after_length n pool c.resize_list.new.pool fronts c.resize_list.new.fronts p c.resize_list.new.at c.args.row c.args.bytes c.self.invariant (has c)
    ∙ ap (λ h. with_length h.lists c.args.row c.args.bytes) c.self.view_is

pub returns-clause-ok : goal.returns-clause-ok
returns-clause-ok c = rw (with_items_is c.self.inside.pool c.resize_list.new.pool (c.resize_list.auto.pool ∙ c.deref_mut.ensures.len)) (state c)

pub returns-clause-fits : goal.returns-clause-fits
returns-clause-fits c =
    let pool = c.self.inside.pool.items in
    let fronts = c.self.inside.fronts.items in
    let p = c.self.inside.state in
    let n = c.self.inside.static_size in
    let then = still_heap n pool c.resize_list.new.pool fronts c.resize_list.new.fronts p c.resize_list.new.at c.self.invariant (has c).blocks (has c).base in
    omega (
      arith,
      ap footprint (state c),
      footprint_state n c.resize_list.new.pool c.resize_list.new.fronts c.resize_list.new.at then,
      footprint_inside n c.resize_list.new.pool c.resize_list.new.fronts c.resize_list.new.at then,
    )

pub returns-clause-moves : goal.returns-clause-moves
returns-clause-moves c =
    let pool = c.self.inside.pool.items in
    let fronts = c.self.inside.fronts.items in
    let p = c.self.inside.state in
    let n = c.self.inside.static_size in
    let items = with_items_is c.self.inside.pool c.resize_list.new.pool (c.resize_list.auto.pool ∙ c.deref_mut.ensures.len) in
    let base : p.base ≡ round4 (length (take n pool)) = c.self.invariant.base_is ∙ sym (ap round4 (length_static n pool fronts p c.self.invariant)) in
    let new = pool_at c.resize_list.new.pool c.resize_list.new.at in
    let need : MovesAtNeed p.base (pool_at pool p) new c.args.row (round4 c.args.bytes) = rw c.deref_mut.ensures.value at c.resize_list.ensures.need in
    rw items
    (subst (λ h. MovesAtNeed (base_of h.lists) h.pool new c.args.row (round4 c.args.bytes)) c.self.view_is (subst (λ b. MovesAtNeed b (pool_at pool p) new c.args.row (round4 c.args.bytes)) base need))

-- ---- a list that gets no longer

pub returns-then-byte_count-bytes-clause-shorter : goal.returns-then-byte_count-bytes-clause-shorter
returns-then-byte_count-bytes-clause-shorter c fits = none_same c.args.self.now.pool

pub returns-clause-shorter : goal.returns-clause-shorter
returns-clause-shorter c fits =
    let pool = c.self.inside.pool.items in
    let fronts = c.self.inside.fronts.items in
    let p = c.self.inside.state in
    let n = c.self.inside.static_size in
    let l = lives pool p.table c.args.row (rw (← c.self.view_is) at c.requires.alive) in
    let size = size_lived n pool fronts p c.args.row c.self.invariant l in
    let seen = ap (λ h. length (bytes_at h.lists c.args.row)) c.self.view_is in
    let items = with_items_is c.self.inside.pool c.resize_list.new.pool (c.resize_list.auto.pool ∙ c.deref_mut.ensures.len) in
    let new = pool_at c.resize_list.new.pool c.resize_list.new.at in
    let less : round4 c.args.bytes ≤ block_bytes (dope_row pool p.table c.args.row) = omega (arith, fits, size, seen, block_is (dope_row pool p.table c.args.row)) in
    rw items (subst (λ h. NoneMoves h.pool new) c.self.view_is ((rw c.deref_mut.ensures.value at c.resize_list.ensures.shorter) less))

-- ---- the table in front

pub returns-then-byte_count-bytes-clause-front : goal.returns-then-byte_count-bytes-clause-front
returns-then-byte_count-bytes-clause-front c = front_same c.args.self.now

pub returns-clause-front : goal.returns-clause-front
returns-clause-front c =
    let pool = c.self.inside.pool.items in
    let fronts = c.self.inside.fronts.items in
    let p = c.self.inside.state in
    let q = c.resize_list.new.at in
    let n = c.self.inside.static_size in
    let items = with_items_is c.self.inside.pool c.resize_list.new.pool (c.resize_list.auto.pool ∙ c.deref_mut.ensures.len) in
    let l = lives pool p.table c.args.row (rw (← c.self.view_is) at c.requires.alive) in
    let old = views_of n (pool_at pool p) in
    let new = views_of n (pool_at c.resize_list.new.pool q) in
    let then = still_heap n pool c.resize_list.new.pool fronts c.resize_list.new.fronts p q c.self.invariant (has c).blocks (has c).base in
    let need : MovesAtNeed p.base old.pool new.pool c.args.row (round4 c.args.bytes) = rw c.deref_mut.ensures.value at c.resize_list.ensures.need in
    rw items
    (subst (λ h. KeepsFront h new) c.self.view_is
    (front_resized old new c.args.row c.args.bytes (round4 c.args.bytes) l.above (sound_shown n pool fronts p c.self.invariant) (sound_shown n c.resize_list.new.pool c.resize_list.new.fronts q then)
    (after_length n pool c.resize_list.new.pool fronts c.resize_list.new.fronts p q c.args.row c.args.bytes c.self.invariant (has c))
    (subst (λ b. MovesAtNeed b old.pool new.pool c.args.row (round4 c.args.bytes)) (base_shown n pool fronts p c.self.invariant) need)))
