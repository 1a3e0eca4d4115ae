-- All zeros, where every row but the first is free.
use Rattle.std.proofs.Common.{◌≡◌, ◌∙◌, arith, take, replicate, refl, subst, sym}
use Rattle.std.proofs.lemmas.List.{with_items_is}
use Rattle.nxt_types.proofs.Laws.Pool.{le-round4}
use Rattle.nxt_heap.proofs.AtStart.{take-zeros}
use Rattle.nxt_heap.specs.Inside.Pool.{IsHeap, pool_at}
use Rattle.nxt_heap.specs.Moves.{IsPacked}
use Rattle.nxt_heap.proofs.Changed.{base_shown}
use Rattle.nxt_heap.proofs.heap.Heap.new.Goals as goal

pub invariant_of-result : goal.invariant_of-result
invariant_of-result c =
    let pool = with_items_is c.in_ok-pool.pool c.lay_out-state.new.pool (c.lay_out-state.auto.pool ∙ c.deref_mut.ensures.len) in
    let fronts = with_items_is c.in_ok-fronts.fronts c.lay_out-state.new.fronts (c.lay_out-state.auto.fronts ∙ c.deref_mut-2.ensures.len) in
    rw (pool, fronts) (record { blocks = c.lay_out-state.ensures.blocks; base_is = c.lay_out-state.ensures.base ∙ c.round4-base.ensures })

pub returns-clause-lists : goal.returns-clause-lists
returns-clause-lists c =
    let pool = with_items_is c.in_ok-pool.pool c.lay_out-state.new.pool (c.lay_out-state.auto.pool ∙ c.deref_mut.ensures.len) in
    let n = c.args.static_size in
    let size = c.lay_out-state.ensures.blocks.is_pool.size in
    let static : take n c.lay_out-state.new.pool ≡ replicate n 0 =
    take-zeros c.lay_out-state.new.pool n (omega (arith, size, c.requires.fits, le-round4 n))
    (λ k below. c.lay_out-state.ensures.zeros k (omega (arith, below, c.round4-base.ensures, le-round4 n))) in
    rw (pool, static, c.lay_out-state.ensures.lists) refl

pub returns-clause-packed : goal.returns-clause-packed
returns-clause-packed c =
    let pool = with_items_is c.in_ok-pool.pool c.lay_out-state.new.pool (c.lay_out-state.auto.pool ∙ c.deref_mut.ensures.len) in
    let fronts = c.lay_out-state.new.fronts in
    let state = c.lay_out-state.result in
    let n = c.args.static_size in
    let heap : IsHeap n state c.lay_out-state.new.pool fronts = record { blocks = c.lay_out-state.ensures.blocks; base_is = c.lay_out-state.ensures.base ∙ c.round4-base.ensures } in
    rw pool
    (subst (λ b. IsPacked b (pool_at c.lay_out-state.new.pool state)) (sym c.lay_out-state.ensures.base ∙ base_shown n c.lay_out-state.new.pool fronts state heap) c.lay_out-state.ensures.packed)
