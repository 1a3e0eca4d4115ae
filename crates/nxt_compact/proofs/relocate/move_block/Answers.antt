use Rattle.std.proofs.Common.{inl, inr, sym, subst, arith}
use Rattle.nxt_rows.specs.Rows.{dope_row}
use Rattle.nxt_compact.specs.Steps.{IsMovable, moved_to}
use Rattle.nxt_compact.specs.Pools.{Moves}
use Rattle.nxt_compact.proofs.Laws.Shifted.{bytes_of_table}
use Rattle.nxt_compact.proofs.Laws.Moving.{list_moves, table_moves}
use Rattle.nxt_compact.proofs.relocate.move_block.Goals as goal

pub move_list-requires-clause-table : goal.move_list-requires-clause-table
move_list-requires-clause-table c = omega (arith, bytes_of_table (dope_row c.args.pool.now c.args.table.now 0) c.requires.stride, c.requires.table_inside)

pub move_list-requires-clause-apart : goal.move_list-requires-clause-apart
move_list-requires-clause-apart c =
    let rows = bytes_of_table (dope_row c.args.pool.now c.args.table.now 0) c.requires.stride in
    elim (c.requires.others 0 (record { within = omega (arith, c.requires.full.within); some = omega (arith, rows, c.requires.full.within) }) (λ e. c.if-row-eq0.false (sym e))) [
      | inl high ↦ inr (omega (arith, high, c.requires.place))
      | inr low ↦ inl (omega (arith, low, rows, c.requires.place))
    ]

pub returns-then-row-eq0 : goal.returns-then-row-eq0
returns-then-row-eq0 c base low less =
    let m : IsMovable c.args.pool.now c.args.table.now 0 c.args.at = subst (λ r. IsMovable c.args.pool.now c.args.table.now r c.args.at) c.if-row-eq0.true c.requires in
    let moves = table_moves c.args.pool.now c.move_table.new.pool c.args.table.now c.args.at base m
    (record { size = c.move_table.auto.pool; first = c.move_table.ensures.first; others = c.move_table.ensures.others; outside = c.move_table.ensures.outside }) low in
    subst (λ r. Moves base (moved_to (dope_row c.args.pool.now c.args.table.now r).place c.args.at) c.args.pool.now c.move_table.new.pool c.args.table.now c.args.at) (sym c.if-row-eq0.true) moves

pub returns-else-row-eq0 : goal.returns-else-row-eq0
returns-else-row-eq0 c base low less =
    list_moves c.args.pool.now c.move_list.new.pool c.args.table.now c.args.row c.args.at base c.requires (omega (arith, c.if-row-eq0.false))
    (record { size = c.move_list.auto.pool; own = c.move_list.ensures.row; others = c.move_list.ensures.others; carried = c.move_list.ensures.carried; outside = c.move_list.ensures.outside }) low less
