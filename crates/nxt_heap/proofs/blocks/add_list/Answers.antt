use Rattle.std.proofs.Common.{◌≡◌, ℕ, ◌+◌, ◌*◌, List, [], ◌∷◌, ◌++◌, None, length, refl, ap, sym, subst, ◌∙◌, arith}
use Rattle.nxt_types.specs.Pool.{round4}
use Rattle.nxt_types.proofs.Laws.Pool.{le-round4}
use Rattle.nxt_rows.specs.Rows.{dope_row, row_count}
use Rattle.nxt_compact.specs.Pools.{block_bytes, IsSound}
use Rattle.nxt_compact.proofs.Laws.Going.{first_full}
use Rattle.nxt_compact.proofs.Laws.Opening.{before_most}
use Rattle.nxt_heap.specs.Lists.{empty_list}
use Rattle.nxt_heap.specs.Moves.{MovesAtNeed}
use Rattle.nxt_heap.specs.Inside.Pool.{lists_in, pool_at, IsPool, IsRoom, MakesRoom}
use Rattle.nxt_heap.proofs.AfterMoves.{moved_count, lists_moved, free_moved}
use Rattle.nxt_heap.proofs.Begins.{table_inside}
use Rattle.nxt_heap.proofs.FreeRows.{any_free-full, with_free-full, set-last, free-last}
use Rattle.nxt_heap.proofs.ListsKept.{length-lists_in}
use Rattle.nxt_heap.proofs.Needs.{row_added}
use Rattle.nxt_heap.proofs.Windows.{block_is}
use Rattle.nxt_heap.proofs.blocks.add_list.Goals as goal

pub get-row-requires : goal.get-row-requires
get-row-requires c = omega (arith, table_inside c.args.pool.now c.args.at.now.table c.args.at.now.base c.requires.blocks.is_pool, c.requires.blocks.is_pool.sound.some)

table_own : (pool : List ℕ) (table base : ℕ) → IsPool pool table base → block_bytes (dope_row pool table 0) ≡ round4 (10 * row_count pool table)
table_own pool table base p = block_is (dope_row pool table 0) ∙ ap round4 (ap (λ s. row_count pool table * s) p.sound.stride ∙ omega arith)

pub overflow_sub-footprint : goal.overflow_sub-footprint
overflow_sub-footprint c =
    let b = c.requires.blocks in
    let pool = c.args.pool.now in
    let table = c.args.at.now.table in
    let rows : c.get-row.result.count ≡ row_count pool table = ap (λ d. d.count) c.get-row.ensures in
    let was : c.round4.result ≡ round4 (10 * row_count pool table) = c.round4.ensures ∙ ap (λ n. round4 (10 * n)) rows in
    let own = table_own pool table c.args.at.now.base b.is_pool in
    let room : c.round4-room.result ≡ round4 (10 * (row_count pool table + 1)) = c.round4-room.ensures ∙ ap (λ n. round4 (10 * n + 10)) rows ∙ ap round4 (omega arith) in
    let most = before_most pool table 0 b.is_pool.sound.some in
    omega (arith, was, own, b.footprint_is, most)

pub returns-then-footprint-gt-POOL_BYTES-clause-passed : goal.returns-then-footprint-gt-POOL_BYTES-clause-passed
returns-then-footprint-gt-POOL_BYTES-clause-passed c =
    let b = c.requires.blocks in
    let pool = c.args.pool.now in
    let table = c.args.at.now.table in
    let rows : c.get-row.result.count ≡ row_count pool table = ap (λ d. d.count) c.get-row.ensures in
    let was : c.round4.result ≡ round4 (10 * row_count pool table) = c.round4.ensures ∙ ap (λ n. round4 (10 * n)) rows in
    let own = table_own pool table c.args.at.now.base b.is_pool in
    let room : c.round4-room.result ≡ round4 (10 * (row_count pool table + 1)) = c.round4-room.ensures ∙ ap (λ n. round4 (10 * n + 10)) rows ∙ ap round4 (omega arith) in
    let most = before_most pool table 0 b.is_pool.sound.some in
    record {
      full = any_free-full pool table c.args.at.now.base b.is_pool c.requires.full;
      whole = omega (arith, was, own, room, b.footprint_is, most);
      above = omega (arith, c.if-footprint-gt-POOL_BYTES.true);
    }

pub make_room-requires-clause-may : goal.make_room-requires-clause-may
make_room-requires-clause-may c =
    let b = c.requires.blocks in
    let pool = c.args.pool.now in
    let table = c.args.at.now.table in
    let rows : c.get-row.result.count ≡ row_count pool table = ap (λ d. d.count) c.get-row.ensures in
    let was : c.round4.result ≡ round4 (10 * row_count pool table) = c.round4.ensures ∙ ap (λ n. round4 (10 * n)) rows in
    let own = table_own pool table c.args.at.now.base b.is_pool in
    let room : c.round4-room.result ≡ round4 (10 * (row_count pool table + 1)) = c.round4-room.ensures ∙ ap (λ n. round4 (10 * n + 10)) rows ∙ ap round4 (omega arith) in
    let most = before_most pool table 0 b.is_pool.sound.some in
    record {
      within = b.is_pool.sound.some;
      word = omega (arith, room);
      some = omega (arith, room, le-round4 (10 * (row_count pool table + 1)));
      fits = omega (arith, was, own, room, b.footprint_is, most, c.if-footprint-gt-POOL_BYTES.false);
    }

pub add_row-requires-clause-full : goal.add_row-requires-clause-full
add_row-requires-clause-full c =
    let m = c.make_room.ensures.moves in
    let b = c.requires.blocks in
    free_moved c.args.at.now.base m.0 c.args.pool.now c.make_room.new.pool c.args.at.now.table c.make_room.new.at.table m.1.moves b.is_pool ∙ c.requires.full

pub add_row-requires-clause-room : goal.add_row-requires-clause-room
add_row-requires-clause-room c =
    let b = c.requires.blocks in
    let pool = c.args.pool.now in
    let table = c.args.at.now.table in
    let rows : c.get-row.result.count ≡ row_count pool table = ap (λ d. d.count) c.get-row.ensures in
    let was : c.round4.result ≡ round4 (10 * row_count pool table) = c.round4.ensures ∙ ap (λ n. round4 (10 * n)) rows in
    let own = table_own pool table c.args.at.now.base b.is_pool in
    let room : c.round4-room.result ≡ round4 (10 * (row_count pool table + 1)) = c.round4-room.ensures ∙ ap (λ n. round4 (10 * n + 10)) rows ∙ ap round4 (omega arith) in
    let most = before_most pool table 0 b.is_pool.sound.some in
    let m = c.make_room.ensures.moves in
    let mid = c.make_room.new.pool in
    let there = c.make_room.new.at.table in
    let count : row_count mid there ≡ row_count pool table = moved_count c.args.at.now.base m.0 pool mid table there m.1.moves b.is_pool.sound.some in
    let p = m.1.blocks.is_pool in
    let stands : c.make_room.result ≡ there = sym (c.make_room.ensures.room.own (first_full mid there c.make_room.new.at.base p.sound)) ∙ p.sound.place in
    let long : c.round4-room.result ≡ round4 (10 * (row_count mid there + 1)) = room ∙ ap (λ n. round4 (10 * (n + 1))) (sym count) in
    subst (IsRoom mid there c.make_room.new.at.base 0 there) long (subst (λ n. IsRoom mid there c.make_room.new.at.base 0 n c.round4-room.result) stands c.make_room.ensures.room)

pub returns-clause-ok : goal.returns-clause-ok
returns-clause-ok c =
    let b = c.requires.blocks in
    let pool = c.args.pool.now in
    let table = c.args.at.now.table in
    let xs = lists_in pool table in
    let m = c.make_room.ensures.moves in
    let a = c.add_row.ensures.added in
    let row : c.get-row.result.count ≡ length xs = ap (λ d. d.count) c.get-row.ensures ∙ sym (length-lists_in pool table) in
    let full = with_free-full xs (any_free-full pool table c.args.at.now.base b.is_pool c.requires.full) in
    let sound : IsSound c.make_room.new.pool c.make_room.new.at.table c.args.at.now.base = rw (sym m.1.base) m.1.blocks.is_pool.sound in
    let same = lists_moved c.args.at.now.base m.0 pool c.make_room.new.pool table c.make_room.new.at.table m.1.moves b.is_pool sound in
    record {
      blocks = a.blocks;
      base = a.base ∙ m.1.base;
      free = rw (full, row) (free-last xs (omega (arith, length-lists_in pool table, b.is_pool.sound.some)));
      lists = a.lists ∙ ap (λ ys. ys ++ empty_list c.args.stride ∷ []) same ∙ sym (set-last xs None (empty_list c.args.stride)) ∙ sym (rw (full, row) refl);
      below = λ k low. a.below k (omega (arith, low, m.1.base)) ∙ m.1.moves.below k low;
    }

pub returns-clause-need : goal.returns-clause-need
returns-clause-need c =
    let b = c.requires.blocks in
    let pool = c.args.pool.now in
    let table = c.args.at.now.table in
    let rows : c.get-row.result.count ≡ row_count pool table = ap (λ d. d.count) c.get-row.ensures in
    let room : c.round4-room.result ≡ round4 (10 * (row_count pool table + 1)) = c.round4-room.ensures ∙ ap (λ n. round4 (10 * n + 10)) rows ∙ ap round4 (omega arith) in
    let m = c.make_room.ensures.moves in
    let p = m.1.blocks.is_pool in
    let stands : c.make_room.result ≡ c.make_room.new.at.table = sym (c.make_room.ensures.room.own (first_full c.make_room.new.pool c.make_room.new.at.table c.make_room.new.at.base p.sound)) ∙ p.sound.place in
    let need = subst (λ n. MakesRoom pool c.make_room.new.pool c.args.at.now c.make_room.new.at 0 n c.make_room.new.at.table) room
    (subst (MakesRoom pool c.make_room.new.pool c.args.at.now c.make_room.new.at 0 c.round4-room.result) stands c.make_room.ensures.need) in
    subst (λ t. MovesAtNeed c.args.at.now.base (pool_at pool c.args.at.now) (record { bytes = c.add_row.new.pool; table = t }) 0 (round4 (10 * (row_count pool table + 1)))) (sym c.add_row.ensures.table)
    (row_added pool c.args.fronts.now c.make_room.new.pool c.make_room.new.fronts c.add_row.new.pool c.args.at.now c.make_room.new.at m.0 c.args.stride (round4 (10 * (row_count pool table + 1))) b.is_pool m.1 need c.add_row.ensures.rows)
