-- The pool holds the variables of the start.
use Rattle.std.proofs.Common.{◌≡◌, ◌<◌, ◌≤◌, ◌∙◌, false, length, map, ap, subst, sym, arith, Ok, Err, Result}
use Rattle.std.specs.Prelude.{OnErr, OnOk, is_ok}
use Rattle.nxt_types.specs.Shapes.{tree, members}
use Rattle.nxt_types.specs.Pool.{pool_size}
use Rattle.nxt_heap.specs.Lists.{Lists, base_of, footprint}
use Rattle.nxt_heap.specs.Moves.{IsPacked, KeepsFront}
use Rattle.nxt_heap.proofs.Laws.Front.{packs}
use Rattle.nxt_space.specs.Inside.Kept.{Stores, started_as}
use Rattle.nxt_values.specs.Fills.{needs_for_all, FillsAll}
use Rattle.nxt_values.specs.declared.reading.Region.TheVariants.{Static}
use Rattle.nxt_space.proofs.Laws.StartFilled.{start_fits, start_pool, start_entries, not_passed, start_stored}
use Rattle.nxt_space.proofs.variables.fill_start.Goals as goal

pub fill_members-filled-requires-clause-pool : goal.fill_members-filled-requires-clause-pool
fill_members-filled-requires-clause-pool c =
    start_pool c.args.toc.now (members (map tree c.args.variables.now)) c.args.heap.now.lists c.args.start.now c.requires

pub fill_members-filled-requires-clause-entries : goal.fill_members-filled-requires-clause-entries
fill_members-filled-requires-clause-entries c =
    start_entries c.args.toc.now (members (map tree c.args.variables.now)) c.args.heap.now.lists c.args.start.now c.requires

pub returns-clause-stores : goal.returns-clause-stores
returns-clause-stores c =
    let toc = c.args.toc.now in
    let ss = members (map tree c.args.variables.now) in
    let h = c.args.heap.now.lists in
    let g = c.fill_members-filled.new.heap.lists in
    let start = c.args.start.now in
    let e = c.fill_members-filled.ensures in
    let went = not_passed c.fill_members-filled.result pool_size (needs_for_all h ss start) (footprint g ≤ pool_size) (λ rest. FillsAll c.entries.result.now h g ss 0 Static 0 start rest.now) (start_fits toc ss h start c.requires) e.pool e.passed e.filled in
    let filled = subst (λ table. FillsAll table h g ss 0 Static 0 start went.1.0.now) c.entries.ensures went.1.1 in
    let some : 1 ≤ length g.by_row = omega (arith, c.row_count-rows.ensures.rows, c.row_count-rows.ensures.some) in
    subst (λ k. Stores toc h k (started_as toc.shapes start)) (sym c.compact.ensures.lists)
    (start_stored toc ss h g start went.1.0.now c.requires filled went.0 some c.recall_sound.ensures.first)

-- what holds of an answer, where no error can be
of_answer : {T E : Type 0} (r : Result T E) (P Q : Type 0) → (Q → ⊥) → OnErr r Q → OnOk r P → P
of_answer (Ok x) P Q never f h = h
of_answer (Err e) P Q never f h = absurd (never f)

pub returns-clause-packed : goal.returns-clause-packed
returns-clause-packed c same at =
    let ss = members (map tree c.args.variables.now) in
    let h = c.args.heap.now in
    let g = c.fill_members-filled.new.heap in
    let fits = start_fits c.args.toc.now ss h.lists c.args.start.now c.requires in
    let keeps : KeepsFront h g = of_answer c.fill_members-filled.result (KeepsFront h g) (pool_size < needs_for_all h.lists ss c.args.start.now) (λ passed. omega (arith, passed, fits)) c.fill_members-filled.ensures.passed c.fill_members-filled.ensures.front in
    let rows = ap (λ (k : Lists). length k.by_row) c.compact.ensures.lists in
    let front = keeps.front (omega (arith, same, rows)) at ∙ sym keeps.base in
    subst (λ (k : Lists). IsPacked (base_of k) c.compact.new.self.pool) (sym c.compact.ensures.lists)
    (packs (base_of g.lists) c.compact.result g.pool c.compact.new.self.pool c.recall_sound.ensures.apart front c.compact.ensures.settles)

-- what holds of an error holds where there is no answer
of_error : {T E : Type 0} (r : Result T E) (P : Type 0) → is_ok r ≡ false → OnErr r P → P
of_error (Ok x) P missing h = let f : ⊥ = cc in absurd f
of_error (Err e) P missing h = h

pub prove-unreachable-requires : goal.prove-unreachable-requires
prove-unreachable-requires c =
    let ss = members (map tree c.args.variables.now) in
    let none = sym c.is_ok.ensures.value ∙ c.if-prove.true in
    let passed : pool_size < needs_for_all c.args.heap.now.lists ss c.args.start.now = of_error c.fill_members-filled.result _ none c.fill_members-filled.ensures.passed in
    let fits = start_fits c.args.toc.now ss c.args.heap.now.lists c.args.start.now c.requires in
    omega (arith, passed, fits)
