use Rattle.std.proofs.Common.{◌≡◌, refl, ap, sym, subst, ◌∙◌, arith}
use Rattle.nxt_rows.specs.Rows.{dope_row}
use Rattle.nxt_compact.specs.Pools.{block_bytes, IsFull}
use Rattle.nxt_compact.proofs.Laws.Going.{no_moves}
use Rattle.std.proofs.lemmas.Bool.{false≢true}
use Rattle.nxt_heap.specs.Moves.{holds_behind}
use Rattle.nxt_heap.specs.Inside.Pool.{IsRoom, MakesRoom, pool_at}
use Rattle.nxt_heap.proofs.Begins.{table_inside}
use Rattle.nxt_heap.proofs.Needs.{stays}
use Rattle.nxt_heap.proofs.Open.{behind_clear, no_true}
use Rattle.nxt_heap.proofs.Rooms.{behind_room}
use Rattle.nxt_heap.proofs.blocks.make_room.Goals as goal

pub get-found-requires : goal.get-found-requires
get-found-requires c = omega (arith, c.requires.may.within, table_inside c.args.pool.now c.args.at.now.table c.args.at.now.base c.requires.blocks.is_pool)

pub returns-then-is_open-clause-moves : goal.returns-then-is_open-clause-moves
returns-then-is_open-clause-moves c = ((λ p. p), record { blocks = c.requires.blocks; moves = no_moves c.args.at.now.base c.args.pool.now c.args.at.now.table; base = refl; footprint = refl })

pub returns-then-is_open-clause-room : goal.returns-then-is_open-clause-room
returns-then-is_open-clause-room c =
    let b = c.requires.blocks in
    let pool = c.args.pool.now in
    let table = c.args.at.now.table in
    let row = c.args.row in
    let had : c.block_bytes-had.result ≡ block_bytes (dope_row pool table row) = c.block_bytes-had.ensures ∙ ap block_bytes c.get-found.ensures in
    let place : c.get-found.result.place ≡ (dope_row pool table row).place = ap (λ d. d.place) c.get-found.ensures in
    let clear = (c.if-is_open.ensures {u = tt}).0 refl in
    subst (λ n. IsRoom pool table c.args.at.now.base row n c.args.bytes) (sym place)
    (behind_room pool table c.args.at.now.base c.args.fronts.now row c.args.bytes b.is_pool b.are_fronts c.requires.may (record { within = c.requires.may.within; some = omega (arith, had, c.if-had-eq0.false) })
    (omega (arith, place, clear.0)) (λ w low high. clear.1 w (omega (arith, low, had, place)) (omega (arith, high, place))))

pub place_longer-requires-clause-behind : goal.place_longer-requires-clause-behind
place_longer-requires-clause-behind c =
    let b = c.requires.blocks in
    let pool = c.args.pool.now in
    let table = c.args.at.now.table in
    let row = c.args.row in
    let had : c.block_bytes-had.result ≡ block_bytes (dope_row pool table row) = c.block_bytes-had.ensures ∙ ap block_bytes c.get-found.ensures in
    let place : c.get-found.result.place ≡ (dope_row pool table row).place = ap (λ d. d.place) c.get-found.ensures in
    let full : IsFull pool table row = record { within = c.requires.may.within; some = omega (arith, had, c.if-had-eq0.false) } in
    no_true (holds_behind c.args.at.now.base (pool_at pool c.args.at.now) row c.args.bytes) (λ e.
    let clear = behind_clear pool table c.args.at.now.base row c.args.bytes b.is_pool c.args.fronts.now b.are_fronts full c.requires.may.word e in
    false≢true ((c.if-is_open.ensures {u = tt}).1 (
      omega (arith, place, clear.0),
      λ w low high. clear.1 w (omega (arith, low, had, place)) (omega (arith, high, place)),
    )))

pub returns-then-is_open-clause-need : goal.returns-then-is_open-clause-need
returns-then-is_open-clause-need c =
    let b = c.requires.blocks in
    let pool = c.args.pool.now in
    let row = c.args.row in
    let had : c.block_bytes-had.result ≡ block_bytes (dope_row pool c.args.at.now.table row) = c.block_bytes-had.ensures ∙ ap block_bytes c.get-found.ensures in
    let place : c.get-found.result.place ≡ (dope_row pool c.args.at.now.table row).place = ap (λ d. d.place) c.get-found.ensures in
    let full : IsFull pool c.args.at.now.table row = record { within = c.requires.may.within; some = omega (arith, had, c.if-had-eq0.false) } in
    subst (MakesRoom pool pool c.args.at.now c.args.at.now row c.args.bytes) (sym place)
    (stays pool c.args.at.now row c.args.bytes b.is_pool full (subst (λ n. IsRoom pool c.args.at.now.table c.args.at.now.base row n c.args.bytes) place (returns-then-is_open-clause-room c)))
