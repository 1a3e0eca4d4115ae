-- The row is taken, and its list gets its bytes.
use Rattle.std.proofs.Common.{[], subst, ◌<◌, ◌*◌, ◌%◌, length, refl, ap, ◌∙◌, arith}
use Rattle.std.specs.Int.{to_le_bytes, w16}
use Rattle.std.proofs.Math.Nat.{mul-mod_left}
use Rattle.std.proofs.lemmas.Nat.{mul-le}
use Rattle.nxt_types.specs.Pool.{pool_size, round4}
use Rattle.nxt_heap.specs.Lists.{with_length, stride_of, of_length}
use Rattle.nxt_heap.proofs.Laws.Front.{front_then}
use Rattle.nxt_heap.proofs.Laws.Lengths.{length-of_length}
use Rattle.nxt_values.specs.Held.{leaf_place}
use Rattle.nxt_values.specs.Regions.{bytes_in}
use Rattle.nxt_values.specs.Writes.{with_bytes, put}
use Rattle.nxt_values.specs.Fills.{needs}
use Rattle.nxt_values.proofs.Laws.Needs.{row_passed, list_bytes_passed, count_passed, on_err}
use Rattle.nxt_values.proofs.Laws.Opened.{made_empty, made_long, region_taken, opens}
use Rattle.nxt_values.proofs.writing.open_list.Goals as goal

pub resize-requires-clause-whole : goal.resize-requires-clause-whole
resize-requires-clause-whole c =
    ap (λ o. c.args.count * c.args.stride % stride_of o) (made_empty c.args.heap.now.lists c.new_array.new.self.lists c.in_ok-row.row c.args.stride c.in_ok-row.ensures.free c.in_ok-row.ensures.ok)
    ∙ mul-mod_left c.args.count c.args.stride

pub set_row-requires-clause-within : goal.set_row-requires-clause-within
set_row-requires-clause-within c =
    let n = c.args.count * c.args.stride in
    let made = made_long c.args.heap.now.lists c.new_array.new.self.lists c.resize.new.self.lists c.in_ok-row.row c.args.stride n c.in_ok-row.ensures.free c.in_ok-row.ensures.ok c.in_ok-resize.ensures.ok in
    let same = region_taken c.args.heap.now.lists c.resize.new.self.lists c.args.list.region c.in_ok-row.row c.args.stride (of_length n []) c.requires.region c.in_ok-row.ensures.free made in
    omega (arith, c.requires.within, c.leaf_place-place.ensures, ap length same.1)

pub returns-clause-opened : goal.returns-clause-opened
returns-clause-opened c =
    let h = c.args.heap.now.lists in
    let region = c.args.list.region in
    let n = c.args.count * c.args.stride in
    let made = made_long h c.new_array.new.self.lists c.resize.new.self.lists c.in_ok-row.row c.args.stride n c.in_ok-row.ensures.free c.in_ok-row.ensures.ok c.in_ok-resize.ensures.ok in
    let same = region_taken h c.resize.new.self.lists region c.in_ok-row.row c.args.stride (of_length n []) c.requires.region c.in_ok-row.ensures.free made in
    let bs = to_le_bytes w16 c.in_ok-row.row in
    let at = leaf_place c.args.entries.now c.args.list.entry c.args.list.base in
    record {
      is = refl;
      small = omega (arith, mul-le c.args.count c.args.stride 32768 65535 (omega arith) (omega arith));
      opened = opens
          c.args.entries.now
          h
          c.set_row.new.heap.lists
          c.args.list.entry
          region
          c.args.list.base
          at
          c.in_ok-row.row
          c.args.stride
          (of_length n [])
          c.args.count
          c.requires.region
          refl
          c.requires.within
          (omega arith)
          (length-of_length n [])
          c.in_ok-row.ensures.free
          (c.set_row.ensures.lists
          ∙ ap (λ p. with_bytes c.resize.new.self.lists region (put bs p (bytes_in c.resize.new.self.lists region))) c.leaf_place-place.ensures
          ∙ ap (λ xs. with_bytes c.resize.new.self.lists region (put bs at xs)) same.1
          ∙ ap (λ g. with_bytes g region (put bs at (bytes_in h region))) made);
    }

pub returns-then-count-gt-POOL_BYTES-clause-passed : goal.returns-then-count-gt-POOL_BYTES-clause-passed
returns-then-count-gt-POOL_BYTES-clause-passed c =
    count_passed c.args.heap.now.lists c.args.stride c.args.count c.requires.some (omega arith)

pub returns-in_err-row-clause-passed : goal.returns-in_err-row-clause-passed
returns-in_err-row-clause-passed c =
    let n = c.args.count * c.args.stride in
    on_err c.from_residual.result (pool_size < needs c.args.heap.now.lists 1 (round4 n)) (row_passed c.args.heap.now.lists _ (round4 n) c.in_err-row.ensures.passed)

pub returns-in_err-resize-clause-passed : goal.returns-in_err-resize-clause-passed
returns-in_err-resize-clause-passed c =
    let h = c.args.heap.now.lists in
    let n = c.args.count * c.args.stride in
    let k = with_length c.new_array.new.self.lists c.in_ok-row.row n in
    let made = made_long h c.new_array.new.self.lists k c.in_ok-row.row c.args.stride n c.in_ok-row.ensures.free c.in_ok-row.ensures.ok refl in
    on_err
    c.from_residual-in_err-resize.result
    (pool_size < needs h 1 (round4 n))
    (subst
    (λ m. pool_size < needs h 1 (round4 m))
    (length-of_length n [])
    (list_bytes_passed h k c.in_ok-row.row c.args.stride (of_length n []) _ c.in_ok-row.ensures.free made c.in_err-resize.ensures.passed))

pub returns-clause-front : goal.returns-clause-front
returns-clause-front c =
    front_then c.args.heap.now c.new_array.new.self c.set_row.new.heap c.in_ok-row.ensures.front
    (front_then c.new_array.new.self c.resize.new.self c.set_row.new.heap c.in_ok-resize.ensures.front c.set_row.ensures.front)
