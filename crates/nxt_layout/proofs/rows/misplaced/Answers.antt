-- A row that is misplaced is the first; one more that is not.
use Rattle.std.proofs.Common.{◌≡◌, ℕ, true, false, ap, sym, ◌∙◌, ◌&&◌, not, arith, rules}
use Rattle.nxt_layout.specs.Rows.{is_placed}
use Rattle.nxt_layout.specs.Inside.RowPasses.{ground_of, is_full_by, first_below}
use Rattle.nxt_layout.proofs.Dope.Searches.{below_here, below_next}
use Rattle.nxt_layout.proofs.rows.misplaced.Goals as goal

pub returns-then-not-is_placed : goal.returns-then-not-is_placed
returns-then-not-is_placed c =
    let g = ground_of c.args.space.now in
    let test = λ (r : ℕ). is_full_by g c.args.marks.now r && not (is_placed g r) in
    let here : test c.loop-row.row ≡ true = search rules in
    sym (ap (first_below test 0) (sym c.rows-rows.ensures) ∙ c.loop-row.invariant ∙ below_here test c.loop-row.row c.rows-rows.result (omega (arith, c.loop-row-test.true)) here)

pub loop-row-preserved : goal.loop-row-preserved
loop-row-preserved c =
    let g = ground_of c.args.space.now in
    let test = λ (r : ℕ). is_full_by g c.args.marks.now r && not (is_placed g r) in
    let other : test c.loop-row.row ≡ false = search rules in
    c.loop-row.invariant ∙ below_next test c.loop-row.row c.rows-rows.result (omega (arith, c.loop-row-test.true)) other
