use Rattle.std.proofs.Common.{◌≡◌, ℕ, ◌+◌, ◌*◌, ◌≤◌, inl, inr, length, ap, sym, ◌∙◌, arith}
use Rattle.nxt_rows.specs.Rows.{dope_row, row_count}
use Rattle.nxt_compact.specs.Steps.{IsLiftable}
use Rattle.nxt_compact.proofs.Laws.Shifted.{bytes_of_table}
use Rattle.nxt_compact.proofs.Lifting.{Copied, rows_copied, table_inside, lifted, place_room, copied_from}
use Rattle.nxt_compact.proofs.up.lift.Goals as goal

room_of : (pool : _) (table above more : ℕ) → IsLiftable pool table above more → table + 10 * row_count pool table + more ≤ length pool
room_of pool table above more l =
    let rows = bytes_of_table (dope_row pool table 0) l.stride in
    omega (arith, rows, l.room 0 (record { within = l.some; some = omega (arith, rows, l.some) }), l.place)

pub get-rows-requires : goal.get-rows-requires
get-rows-requires c = omega (arith, room_of c.args.pool.now c.args.table.now c.args.above c.args.more c.requires, c.requires.some)

pub raised-to-requires : goal.raised-to-requires
raised-to-requires c = omega (arith, room_of c.args.pool.now c.args.table.now c.args.above c.args.more c.requires, c.requires.size)

copied : (c : goal.After-raise_rows-arg-1) → Copied c.args.pool.now c.copy_within.new.self c.args.table.now c.raised-to.result c.args.above c.args.more
copied c = copied_from c.args.pool.now c.copy_within.new.self c.args.table.now c.raised-to.result c.args.above c.args.more c.copy_within.ensures.len c.copy_within.ensures.by_index.0 c.copy_within.ensures.by_index.1 c.raised-to.ensures

pub raise_rows-requires-clause-rows : goal.raise_rows-requires-clause-rows
raise_rows-requires-clause-rows c =
    ap (λ d. d.count) c.get-rows.ensures
    ∙ sym (ap (λ d. d.count) (rows_copied c.args.pool.now c.copy_within.new.self c.args.table.now c.raised-to.result c.args.above c.args.more c.requires (copied c) 0 c.requires.some))

pub raise_rows-requires-clause-fits : goal.raise_rows-requires-clause-fits
raise_rows-requires-clause-fits c =
    omega (
      arith,
      table_inside c.args.pool.now c.copy_within.new.self c.args.table.now c.raised-to.result c.args.above c.args.more c.requires (copied c),
      bytes_of_table (dope_row c.args.pool.now c.args.table.now 0) c.requires.stride,
      ap (λ d. d.count) c.get-rows.ensures,
      c.copy_within.ensures.len,
    )

pub raise_rows-requires-clause-room : goal.raise_rows-requires-clause-room
raise_rows-requires-clause-room c q full = place_room c.args.pool.now c.copy_within.new.self c.args.table.now c.raised-to.result c.args.above c.args.more c.requires (copied c) q full

pub returns : goal.returns
returns c base less low =
    let count : c.get-rows.result.count ≡ row_count c.args.pool.now c.args.table.now = ap (λ d. d.count) c.get-rows.ensures in
    lifted base c.args.pool.now c.copy_within.new.self c.raise_rows.new.pool c.args.table.now c.raised-to.result c.args.above c.args.more c.requires
    (copied_from c.args.pool.now c.copy_within.new.self c.args.table.now c.raised-to.result c.args.above c.args.more c.copy_within.ensures.len c.copy_within.ensures.by_index.0 c.copy_within.ensures.by_index.1 c.raised-to.ensures)
    c.raise_rows.auto.pool
    (λ r within. c.raise_rows.ensures.rows r (omega (arith, within, count)))
    (λ k away. c.raise_rows.ensures.outside k (elim away [ inl l ↦ inl l | inr l ↦ inr (omega (arith, l, count)) ]))
    less low
