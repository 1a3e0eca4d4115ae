-- The list keeps its row, and gets its bytes.
use Rattle.std.proofs.Common.{◌≡◌, ◌<◌, ◌≤◌, ◌*◌, length, refl, ap, sym, subst, ◌∙◌, arith}
use Rattle.std.proofs.lemmas.Nat.{mul-le}
use Rattle.nxt_types.specs.Pool.{pool_size, round4}
use Rattle.nxt_heap.specs.Lists.{Passes, bytes_at, of_length, with_length}
use Rattle.nxt_heap.proofs.Laws.Lengths.{length-of_length}
use Rattle.nxt_values.specs.Elements.{closed, row_there}
use Rattle.nxt_values.specs.Fills.{IsOpened, needs}
use Rattle.nxt_values.proofs.Laws.Needs.{list_bytes_passed, on_err}
use Rattle.nxt_values.proofs.Store.Kept.{list_reopened, reopens}
use Rattle.nxt_values.proofs.writing.reopen_list.Goals as goal

pub returns-clause-opened : goal.returns-clause-opened
returns-clause-opened c =
    let h = c.args.heap.now.lists in
    let table = c.args.entries.now in
    let list = c.args.list in
    let row : c.list_row-row.result ≡ row_there table h list = c.list_row-row.ensures in
    record {
      is = refl;
      small = omega (arith, mul-le c.args.count c.args.stride 32768 65535 (omega arith) (omega arith));
      opened = subst (λ r. IsOpened table (closed table h list) c.resize.new.self.lists list.entry list.region list.base r c.args.stride c.args.count) (sym row)
          (list_reopened table h c.resize.new.self.lists list c.args.stride c.args.count c.recall_sound.ensures.first c.requires.region c.requires.has
          (c.in_ok-resize.ensures.ok ∙ ap (λ r. with_length h r (c.args.count * c.args.stride)) row));
    }

pub returns-clause-shorter : goal.returns-clause-shorter
returns-clause-shorter c less =
    c.in_ok-resize.ensures.shorter (subst (λ r. c.args.count * c.args.stride ≤ length (bytes_at c.args.heap.now.lists r)) (sym c.list_row-row.ensures) less)

pub returns-in_err-resize-clause-passed : goal.returns-in_err-resize-clause-passed
returns-in_err-resize-clause-passed c =
    let h = c.args.heap.now.lists in
    let list = c.args.list in
    let n = c.args.count * c.args.stride in
    let row = row_there c.args.entries.now h list in
    let before = closed c.args.entries.now h list in
    let e = reopens c.args.entries.now h list c.args.stride n c.recall_sound.ensures.first c.requires.region c.requires.has in
    let f = c.in_err-resize.field-0.0.0 in
    let passed = subst (λ r. Passes (with_length h r n) f) c.list_row-row.ensures c.in_err-resize.ensures.passed in
    on_err c.from_residual.result (pool_size < needs before 1 (round4 n))
    (subst (λ m. pool_size < needs before 1 (round4 m)) (length-of_length n (bytes_at h row))
    (list_bytes_passed before (with_length h row n) row c.args.stride (of_length n (bytes_at h row)) f e.free e.is passed))
