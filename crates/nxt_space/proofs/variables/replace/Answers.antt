-- The value that an entry names is freed, and its place is filled anew.
use Rattle.std.proofs.Common.{◌≡◌, ◌≤◌, length, Option, None, IsSome, is_some, sym, ap, ◌∙◌, subst, arith}
use Rattle.nxt_space.proofs.Parts.KeptRows.{put_rows, fewer_bytes}
use Rattle.nxt_values.specs.declared.reading.Region.TheVariants.{Static}
use Rattle.nxt_values.specs.Writes.{has_inner_list, without}
use Rattle.nxt_values.specs.Elements.{GetsNoLonger}
use Rattle.nxt_values.specs.Fills.{Fills}
use Rattle.nxt_values.specs.Held.{rows_at}
use Rattle.nxt_heap.specs.Moves.{RowsStay, NoneMoves}
use Rattle.nxt_model.specs.Values.{elements}
use Rattle.nxt_types.specs.Shapes.{has_list, is_numbers}
use Rattle.nxt_types.specs.Names.{Name, name_among}
use Rattle.nxt_types.specs.Shapes.{tree}
use Rattle.nxt_heap.specs.Lists.{HeapViews, list_at}
use Rattle.nxt_space.specs.Inside.Kept.{Stores, Stand, rows_of, value_in, with_stored}
use Rattle.nxt_space.proofs.Parts.Replaced.{CanPut, can_put, was_put}
use Rattle.nxt_space.proofs.Parts.Standing.{Stands, is_variable, no_variable}
use Rattle.nxt_space.proofs.variables.replace.Goals as goal
use Rattle.nxt_space.proofs.variables.replace.Goals.{in-Some, in_default}

-- the shape that was found begins at the entry
here : (c : goal.After-entries) → Stands c.args.toc.now c.args.heap.now.lists (tree c.in-Some.shape.now) c.args.i
here c =
    is_variable c.args.toc.now c.args.heap.now.lists c.args.i (tree c.in-Some.shape.now) c.requires.stand c.in-Some.ensures

-- and its place can be filled
can : (c : goal.After-entries) → CanPut c.entries.result.now c.args.heap.now.lists (tree c.in-Some.shape.now) c.args.i c.args.from.now
can c =
    can_put c.args.toc.now c.entries.result.now c.args.heap.now.lists (tree c.in-Some.shape.now) c.args.i c.args.from.now c.entries.ensures c.requires.stand (here c) c.requires.fits

pub put-requires-clause-entries : goal.put-requires-clause-entries
put-requires-clause-entries c = (here c).entries

pub put-requires-clause-holds : goal.put-requires-clause-holds
put-requires-clause-holds c = (can c).holds

pub put-requires-clause-own : goal.put-requires-clause-own
put-requires-clause-own c = (can c).own

pub put-requires-clause-room : goal.put-requires-clause-room
put-requires-clause-room c = (can c).room

pub put-requires-clause-fits : goal.put-requires-clause-fits
put-requires-clause-fits c = (can c).fits

not_both : (o : Option Name) → IsSome o → o ≡ None → ⊥
not_both o some none = let f : ⊥ = cc (some, ap is_some none) in f

pub returns-clause-stores : goal.returns-clause-stores
returns-clause-stores c =
    let toc = c.args.toc.now in
    let h = c.args.heap.now.lists in
    let i = c.args.i in
    let zs = c.args.from.now in
    elim c.match-shape.branch [
      | in-Some w ↦
          let s = tree w.in-Some.shape.now in
          let filled = w.put.ensures.filled in
          let is = is_variable toc h i s c.requires.stand w.in-Some.ensures in
          let g = w.put.new.heap.lists in
          let some : 1 ≤ length g.by_row = omega (arith, c.row_count-rows.ensures.some, c.row_count-rows.ensures.rows, ap (λ (f : HeapViews). length f.lists.by_row) w.heap-is) in
          let first : list_at g 0 ≡ None = ap (λ (f : HeapViews). list_at f.lists 0) (sym w.heap-is) ∙ c.recall_sound.ensures.first in
          subst
          (λ (f : HeapViews). Stores toc h f.lists (with_stored toc h i zs))
          (sym w.heap-is)
          (was_put toc w.entries.result.now h g s i zs filled.0 w.entries.ensures c.requires.stand is filled.1 w.put.ensures.pool some first)
      | in_default w ↦ absurd (not_both (name_among toc.shapes 0 i) c.requires.named (no_variable toc i w.in_default.ensures))
    ]

-- ---- rows and blocks that stay

pub returns-clause-rows : goal.returns-clause-rows
returns-clause-rows c none =
    let toc = c.args.toc.now in
    let h = c.args.heap.now.lists in
    let i = c.args.i in
    let zs = c.args.from.now in
    elim c.match-shape.branch [
      | in-Some w ↦
          let s = tree w.in-Some.shape.now in
          let is = is_variable toc h i s c.requires.stand w.in-Some.ensures in
          let g = w.put.new.heap.lists in
          let filled = w.put.ensures.filled in
          let kept = w.put.ensures.rows (ap has_inner_list (sym is.shape) ∙ none) in
          subst
          (λ (f : HeapViews). rows_of toc f.lists ≡ rows_of toc h)
          (sym w.heap-is)
          (put_rows toc h g s i zs filled.0 c.requires.stand is
          (subst (λ t. Fills t (without h (rows_at t h s i h.static_bytes 0)) g s i Static 0 zs filled.0) w.entries.ensures filled.1)
          (subst (λ t. rows_at t g s i g.static_bytes 0 ≡ rows_at t h s i h.static_bytes 0) w.entries.ensures kept))
      | in_default w ↦ absurd (not_both (name_among toc.shapes 0 i) c.requires.named (no_variable toc i w.in_default.ensures))
    ]

pub returns-clause-stays : goal.returns-clause-stays
returns-clause-stays c none =
    let toc = c.args.toc.now in
    let h = c.args.heap.now.lists in
    let i = c.args.i in
    elim c.match-shape.branch [
      | in-Some w ↦
          let is = is_variable toc h i (tree w.in-Some.shape.now) c.requires.stand w.in-Some.ensures in
          subst (λ (f : HeapViews). RowsStay c.args.heap.now.pool f.pool) (sym w.heap-is) (w.put.ensures.stays (ap has_list (sym is.shape) ∙ none))
      | in_default w ↦ absurd (not_both (name_among toc.shapes 0 i) c.requires.named (no_variable toc i w.in_default.ensures))
    ]

pub returns-clause-shorter : goal.returns-clause-shorter
returns-clause-shorter c numbers less =
    let toc = c.args.toc.now in
    let h = c.args.heap.now.lists in
    let i = c.args.i in
    let zs = c.args.from.now in
    let stores = returns-clause-stores c in
    elim c.match-shape.branch [
      | in-Some w ↦
          let s = tree w.in-Some.shape.now in
          let is = is_variable toc h i s c.requires.stand w.in-Some.ensures in
          let g = w.put.new.heap.lists in
          let filled = w.put.ensures.filled in
          let fills = subst (λ t. Fills t (without h (rows_at t h s i h.static_bytes 0)) g s i Static 0 zs filled.0) w.entries.ensures filled.1 in
          let stand : Stand toc g = subst (λ (f : HeapViews). Stand toc f.lists) w.heap-is stores.stand in
          let now = is_variable toc g i s stand w.in-Some.ensures in
          let has = ap (λ v. length (elements v)) (sym fills.value ∙ now.value) in
          let had = ap (λ v. length (elements v)) is.value in
          let seen = ap (λ (f : HeapViews). length (elements (value_in toc f.lists i))) w.heap-is in
          let few = fewer_bytes toc.entries h s i zs (ap is_numbers (sym is.shape) ∙ numbers) is.holds (omega (arith, less, has, had, seen)) in
          subst
          (λ (f : HeapViews). NoneMoves c.args.heap.now.pool f.pool)
          (sym w.heap-is)
          (w.put.ensures.shorter (subst (λ t. GetsNoLonger t h s (record { region = Static; entry = i; base = 0 }) zs) (sym w.entries.ensures) few))
      | in_default w ↦ absurd (not_both (name_among toc.shapes 0 i) c.requires.named (no_variable toc i w.in_default.ensures))
    ]
