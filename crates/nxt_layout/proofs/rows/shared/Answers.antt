-- One more row is not named twice.
use Rattle.std.proofs.Common.{◌≡◌, false, ◌∙◌, nat_lt, arith, rules}
use Rattle.std.specs.Prelude.{slice_index}
use Rattle.nxt_layout.proofs.Dope.Searches.{below_next}
use Rattle.nxt_layout.proofs.rows.shared.Goals as goal

pub loop-row-preserved : goal.loop-row-preserved
loop-row-preserved c =
    let once : nat_lt 1 (slice_index c.args.marks.now c.loop-row.row) ≡ false = search rules in
    c.loop-row.invariant
    ∙ below_next (λ r. nat_lt 1 (slice_index c.args.marks.now r)) c.loop-row.row c.rows-rows.result (omega (arith, c.loop-row-test.true)) once
