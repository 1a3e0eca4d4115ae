-- Static bytes stand below all blocks.
use Rattle.std.proofs.Common.{◌≡◌, ◌∙◌, ◌+◌, ◌≤◌, ap, length, arith, refl, subst}
use Rattle.std.proofs.lemmas.List.{with_items_is}
use Rattle.nxt_types.proofs.Laws.Pool.{le-round4}
use Rattle.nxt_facts.specs.PutAt.{put_at}
use Rattle.nxt_facts.proofs.PutAt.{take-put_at}
use Rattle.nxt_heap.proofs.Changed.{footprint_inside}
use Rattle.nxt_heap.proofs.Seen.{length_static}
use Rattle.nxt_heap.proofs.Stored.{below_inside, below_blocks, below_lists, below_stay}
use Rattle.nxt_heap.specs.Moves.{RowsStay}
use Rattle.nxt_heap.proofs.heap.Heap.set_static.Goals as goal

low : (c : goal.After-deref_mut) → c.args.at + length c.args.bytes.now ≤ c.self.inside.static_size
low c =
    omega (
      arith,
      c.requires,
      length_static c.self.inside.static_size c.self.inside.pool.items c.self.inside.fronts.items c.self.inside.state c.self.invariant,
      ap (λ h. length h.lists.static_bytes) c.self.view_is,
    )

pub put-requires : goal.put-requires
put-requires c =
    let pool = c.self.inside.pool.items in
    let fronts = c.self.inside.fronts.items in
    let p = c.self.inside.state in
    let n = c.self.inside.static_size in
    rw c.deref_mut.ensures.value
    (below_inside pool fronts p c.self.invariant.blocks c.args.at c.args.bytes.now (omega (arith, low c, le-round4 n, c.self.invariant.base_is)))

pub invariant_of-self : goal.invariant_of-self
invariant_of-self c =
    let pool = c.self.inside.pool.items in
    let fronts = c.self.inside.fronts.items in
    let p = c.self.inside.state in
    let n = c.self.inside.static_size in
    let bs = c.args.bytes.now in
    let fits : c.args.at + length bs ≤ p.base = omega (arith, c.requires, length_static n pool fronts p c.self.invariant, ap (λ h. length h.lists.static_bytes) c.self.view_is, le-round4 n, c.self.invariant.base_is) in
    let made : c.put.new.pool ≡ put_at c.args.at bs pool = c.put.ensures ∙ ap (put_at c.args.at bs) c.deref_mut.ensures.value in
    let items = with_items_is c.self.inside.pool c.put.new.pool (c.put.auto.pool ∙ c.deref_mut.ensures.len) in
    rw items (rw made (record { blocks = below_blocks pool fronts p c.self.invariant.blocks c.args.at bs fits; base_is = c.self.invariant.base_is }))

pub returns-clause-lists : goal.returns-clause-lists
returns-clause-lists c =
    let pool = c.self.inside.pool.items in
    let fronts = c.self.inside.fronts.items in
    let p = c.self.inside.state in
    let n = c.self.inside.static_size in
    let bs = c.args.bytes.now in
    let low : c.args.at + length bs ≤ n = omega (arith, c.requires, length_static n pool fronts p c.self.invariant, ap (λ h. length h.lists.static_bytes) c.self.view_is) in
    let fits : c.args.at + length bs ≤ p.base = omega (arith, low, le-round4 n, c.self.invariant.base_is) in
    let made : c.put.new.pool ≡ put_at c.args.at bs pool = c.put.ensures ∙ ap (put_at c.args.at bs) c.deref_mut.ensures.value in
    let items = with_items_is c.self.inside.pool c.put.new.pool (c.put.auto.pool ∙ c.deref_mut.ensures.len) in
    let inside : n ≤ length pool =
    omega (arith, c.self.invariant.blocks.is_pool.size, footprint_inside n pool fronts p c.self.invariant, c.self.invariant.blocks.footprint_is, c.self.invariant.base_is, le-round4 n) in
    rw items (rw made
    (rw (← c.self.view_is) (rw (take-put_at n c.args.at bs pool inside low, below_lists pool fronts p c.self.invariant.blocks c.args.at bs fits) refl)))

pub returns-clause-stay : goal.returns-clause-stay
returns-clause-stay c =
    let pool = c.self.inside.pool.items in
    let fronts = c.self.inside.fronts.items in
    let p = c.self.inside.state in
    let n = c.self.inside.static_size in
    let bs = c.args.bytes.now in
    let fits : c.args.at + length bs ≤ p.base = omega (arith, c.requires, length_static n pool fronts p c.self.invariant, ap (λ h. length h.lists.static_bytes) c.self.view_is, le-round4 n, c.self.invariant.base_is) in
    let made : c.put.new.pool ≡ put_at c.args.at bs pool = c.put.ensures ∙ ap (put_at c.args.at bs) c.deref_mut.ensures.value in
    let items = with_items_is c.self.inside.pool c.put.new.pool (c.put.auto.pool ∙ c.deref_mut.ensures.len) in
    rw items (rw made (subst (λ h. RowsStay h.pool (record { bytes = put_at c.args.at bs pool; table = p.table })) c.self.view_is (below_stay pool fronts p c.self.invariant.blocks c.args.at bs fits)))
