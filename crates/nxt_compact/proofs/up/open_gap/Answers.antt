use Rattle.std.proofs.Common.{◌≡◌, ℕ, ◌+◌, ◌-◌, ◌≤◌, ap, subst, ◌∙◌, arith}
use Rattle.nxt_types.specs.Pool.{round4}
use Rattle.nxt_rows.specs.Rows.{dope_row}
use Rattle.nxt_rows.specs.declared.DopeRow.{DopeRow}
use Rattle.nxt_compact.specs.Pools.{block_bytes, IsFull, Moves}
use Rattle.nxt_compact.specs.Steps.{IsLiftable, up_from}
use Rattle.nxt_compact.proofs.Laws.Shifted.{le-round4}
use Rattle.nxt_compact.proofs.Laws.Opening.{packs, room_for, liftable, opened}
use Rattle.nxt_compact.proofs.up.open_gap.Goals as goal

pub get-found-requires : goal.get-found-requires
get-found-requires c = let p = packs c.args.pool.now c.compact.new.pool c.args.table.now c.compact.new.table c.args.base c.compact.result c.args.row c.requires.sound c.requires.within c.compact.ensures in p.row_fits

-- ---- behind a block

record Behind (c : goal.After-struct_known-1) : Type 0 where
  had : c.block_bytes-had.result ≡ block_bytes (dope_row c.compact.new.pool c.compact.new.table c.args.row)
  place : c.get-found.result.place ≡ (dope_row c.compact.new.pool c.compact.new.table c.args.row).place
  inside : c.get-found.result.place + c.block_bytes-had.result ≤ 65536

behind : (c : goal.After-struct_known-1) → Behind c
behind c =
    let p = packs c.args.pool.now c.compact.new.pool c.args.table.now c.compact.new.table c.args.base c.compact.result c.args.row c.requires.sound c.requires.within c.compact.ensures in
    let had : c.block_bytes-had.result ≡ block_bytes (dope_row c.compact.new.pool c.compact.new.table c.args.row) = c.block_bytes-had.ensures ∙ ap block_bytes c.get-found.ensures in
    let place : c.get-found.result.place ≡ (dope_row c.compact.new.pool c.compact.new.table c.args.row).place = ap (λ d. d.place) c.get-found.ensures in
    let full : IsFull c.compact.new.pool c.compact.new.table c.args.row = record { within = omega (arith, c.requires.within, ap (λ d. d.count) (p.moves.rows 0 c.requires.sound.some)); some = omega (arith, had, c.if-had-gt0.true) } in
    record { had = had; place = place; inside = omega (arith, had, place, p.sound.within c.args.row full, p.sound.size) }

pub overflow_cast-above-then-had-gt0 : goal.overflow_cast-above-then-had-gt0
overflow_cast-above-then-had-gt0 c = omega (arith, (behind c).inside)

pub overflow_add-above : goal.overflow_add-above
overflow_add-above c = omega (arith, (behind c).inside)

pub lift-requires : goal.lift-requires
lift-requires c =
    let p = packs c.args.pool.now c.compact.new.pool c.args.table.now c.compact.new.table c.args.base c.compact.result c.args.row c.requires.sound c.requires.within c.compact.ensures in
    let had : c.block_bytes-had.result ≡ block_bytes (dope_row c.compact.new.pool c.compact.new.table c.args.row) = c.block_bytes-had.ensures ∙ ap block_bytes c.get-found.ensures in
    let place : c.get-found.result.place ≡ (dope_row c.compact.new.pool c.compact.new.table c.args.row).place = ap (λ d. d.place) c.get-found.ensures in
    let room = room_for c.args.pool.now c.args.table.now c.args.base c.args.row c.args.bytes c.requires (omega (arith, c.if-had-gt0.true, had, p.bytes)) in
    subst (IsLiftable c.compact.new.pool c.compact.new.table (c.get-found.result.place + c.block_bytes-had.result))
    (omega (arith, c.saturating_sub.ensures, c.round4-room.ensures, had, p.bytes))
    (liftable c.args.pool.now c.compact.new.pool c.args.table.now c.compact.new.table c.args.base c.args.row (round4 c.args.bytes - block_bytes (dope_row c.args.pool.now c.args.table.now c.args.row)) (c.get-found.result.place + c.block_bytes-had.result) room p.moves (omega (arith, had, place)))

pub returns-then-had-gt0 : goal.returns-then-had-gt0
returns-then-had-gt0 c =
    let p = packs c.args.pool.now c.compact.new.pool c.args.table.now c.compact.new.table c.args.base c.compact.result c.args.row c.requires.sound c.requires.within c.compact.ensures in
    let old = dope_row c.args.pool.now c.args.table.now c.args.row in
    let had : c.block_bytes-had.result ≡ block_bytes (dope_row c.compact.new.pool c.compact.new.table c.args.row) = c.block_bytes-had.ensures ∙ ap block_bytes c.get-found.ensures in
    let place : c.get-found.result.place ≡ (dope_row c.compact.new.pool c.compact.new.table c.args.row).place = ap (λ d. d.place) c.get-found.ensures in
    let more : c.saturating_sub.result ≡ round4 c.args.bytes - block_bytes old = omega (arith, c.saturating_sub.ensures, c.round4-room.ensures, had, p.bytes) in
    let full : IsFull c.compact.new.pool c.compact.new.table c.args.row = record { within = omega (arith, c.requires.within, ap (λ d. d.count) (p.moves.rows 0 c.requires.sound.some)); some = omega (arith, had, c.if-had-gt0.true) } in
    let lifted = c.lift.ensures c.args.base (omega (arith, place, p.sound.above c.args.row full)) p.above in
    record {
      behind = λ some.
          opened c.args.pool.now c.compact.new.pool c.lift.new.pool c.args.table.now c.compact.new.table c.lift.new.table c.args.base c.args.row (round4 c.args.bytes - block_bytes old) (c.get-found.result.place + c.block_bytes-had.result)
          (room_for c.args.pool.now c.args.table.now c.args.base c.args.row c.args.bytes c.requires some) p.moves (omega (arith, had, place))
          (subst (λ n. Moves c.args.base (up_from (c.get-found.result.place + c.block_bytes-had.result) n) c.compact.new.pool c.lift.new.pool c.compact.new.table c.lift.new.table) more lifted);
      idle = λ none zero. absurd (omega (arith, none, had, p.bytes, c.if-had-gt0.true));
      on_top = λ none some. absurd (omega (arith, none, had, p.bytes, c.if-had-gt0.true));
    }

-- ---- above all others

pub end_of_blocks-place-requires-clause-table : goal.end_of_blocks-place-requires-clause-table
end_of_blocks-place-requires-clause-table c = let p = packs c.args.pool.now c.compact.new.pool c.args.table.now c.compact.new.table c.args.base c.compact.result c.args.row c.requires.sound c.requires.within c.compact.ensures in record { some = p.sound.some; within = p.fits }

pub end_of_blocks-place-requires-clause-fits : goal.end_of_blocks-place-requires-clause-fits
end_of_blocks-place-requires-clause-fits c =
    let p = packs c.args.pool.now c.compact.new.pool c.args.table.now c.compact.new.table c.args.base c.compact.result c.args.row c.requires.sound c.requires.within c.compact.ensures in
    omega (arith, p.total_is, c.requires.fits, p.size, c.requires.sound.size, c.block_bytes-had.ensures ∙ ap block_bytes c.get-found.ensures, p.bytes, c.if-had-gt0.false)

pub overflow_cast-place : goal.overflow_cast-place
overflow_cast-place c =
    let p = packs c.args.pool.now c.compact.new.pool c.args.table.now c.compact.new.table c.args.base c.compact.result c.args.row c.requires.sound c.requires.within c.compact.ensures in
    omega (arith, c.end_of_blocks-place.ensures, p.total_is, c.requires.fits, p.size, c.requires.sound.size, c.block_bytes-had.ensures ∙ ap block_bytes c.get-found.ensures, p.bytes, c.if-had-gt0.false, c.if-room-gt0.true, c.round4-room.ensures)

pub set-requires : goal.set-requires
set-requires c = let p = packs c.args.pool.now c.compact.new.pool c.args.table.now c.compact.new.table c.args.base c.compact.result c.args.row c.requires.sound c.requires.within c.compact.ensures in p.row_fits

pub returns-then-room-gt0 : goal.returns-then-room-gt0
returns-then-room-gt0 c =
    let p = packs c.args.pool.now c.compact.new.pool c.args.table.now c.compact.new.table c.args.base c.compact.result c.args.row c.requires.sound c.requires.within c.compact.ensures in
    let none : block_bytes (dope_row c.args.pool.now c.args.table.now c.args.row) ≡ 0 = omega (arith, c.block_bytes-had.ensures ∙ ap block_bytes c.get-found.ensures, p.bytes, c.if-had-gt0.false) in
    let at : ℕ → DopeRow → DopeRow = λ n d. record d { place = n } in
    record {
      behind = λ some. absurd (omega (arith, none, some));
      idle = λ _ zero. absurd (omega (arith, c.if-room-gt0.true, c.round4-room.ensures, zero));
      on_top = λ _ some. (
        c.compact.new.pool,
        p.moves,
        record {
          own = c.set.ensures.row ∙ ap (at c.end_of_blocks-place.result) c.get-found.ensures
              ∙ ap (λ n. at n (dope_row c.compact.new.pool c.compact.new.table c.args.row)) (c.end_of_blocks-place.ensures ∙ ap (λ n. c.args.base + n) p.total_is);
          below = c.set.ensures.below;
          above = c.set.ensures.above;
        },
      );
    }

pub returns-else-room-gt0 : goal.returns-else-room-gt0
returns-else-room-gt0 c =
    let p = packs c.args.pool.now c.compact.new.pool c.args.table.now c.compact.new.table c.args.base c.compact.result c.args.row c.requires.sound c.requires.within c.compact.ensures in
    let none : block_bytes (dope_row c.args.pool.now c.args.table.now c.args.row) ≡ 0 = omega (arith, c.block_bytes-had.ensures ∙ ap block_bytes c.get-found.ensures, p.bytes, c.if-had-gt0.false) in
    record {
      behind = λ some. absurd (omega (arith, none, some));
      idle = λ _ zero. p.moves;
      on_top = λ _ some. absurd (omega (arith, c.if-room-gt0.false, c.round4-room.ensures, le-round4 c.args.bytes, some));
    }
