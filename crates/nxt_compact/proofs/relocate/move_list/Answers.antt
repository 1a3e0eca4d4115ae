use Rattle.std.proofs.Common.{◌≡◌, inl, inr, ap, ◌∙◌, arith}
use Rattle.nxt_rows.specs.Rows.{dope_row}
use Rattle.nxt_rows.proofs.Laws.Writes.{dope_row-kept}
use Rattle.nxt_compact.specs.Pools.{block_bytes}
use Rattle.nxt_compact.proofs.relocate.move_list.Goals as goal

pub returns-clause-others : goal.returns-clause-others
returns-clause-others c r other within =
    let found = dope_row c.args.pool.now c.args.table c.args.row in
    let size : c.block_bytes.result ≡ block_bytes found = c.block_bytes.ensures ∙ ap block_bytes c.get-found.ensures in
    let start : c.get-found.result.place ≡ found.place = ap (λ d. d.place) c.get-found.ensures in
    c.set.ensures.others r other
    ∙ dope_row-kept c.args.pool.now c.copy_within.new.self c.args.table r (λ k low high. elim c.requires.apart [
      | inl under ↦ c.copy_within.ensures.by_index.1 k 0 (omega (arith, high, within, under))
      | inr over ↦ c.copy_within.ensures.by_index.2 k 0 (omega (arith, low, over, size, start))
    ])
