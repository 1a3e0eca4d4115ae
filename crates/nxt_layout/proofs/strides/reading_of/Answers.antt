-- Rows that are strided evenly are read, and the least of the others is told.
use Rattle.std.proofs.Common.{◌≡◌, ℕ, Bool, List, ◌++◌, ◌&&◌, not, ap, sym, ◌∙◌, filter, append-nil}
use Rattle.std.proofs.lemmas.List.{drop_all}
use Rattle.std.specs.Rc.{rc_slice_items}
use Rattle.nxt_table.specs.Inside.Owners.{least_of}
use Rattle.nxt_layout.specs.Rows.{is_placed, is_strided_by, read_by}
use Rattle.nxt_layout.specs.Inside.RowPasses.{ground_of, least, odd_of, is_even}
use Rattle.nxt_layout.proofs.Dope.Strides.{least_of-none, read_evenly, missed_evenly}
use Rattle.nxt_layout.proofs.strides.reading_of.Goals as goal

pub returns-clause-rows : goal.returns-clause-rows
returns-clause-rows c =
    let g = ground_of c.args.space.now in
    let all = c.as_slice-all.result.now in
    let rows = rc_slice_items c.args.rows.now in
    let test : ℕ → Bool = λ r. is_placed g r && is_even g c.args.bytes (odd_of g all) r in
    let read : c.loop-row.read.items ≡ read_by g c.args.bytes rows =
    sym (append-nil c.loop-row.read.items)
    ∙ ap (λ (rs : List ℕ). c.loop-row.read.items ++ filter test rs) (sym (drop_all c.loop-row.row-index all c.loop-row-test.false))
    ∙ c.loop-row.invariant.read
    ∙ read_evenly g c.args.bytes all
    ∙ ap (read_by g c.args.bytes) c.as_slice-all.ensures.value
    in
    c.in_ok-shared.ensures (λ r. is_placed g r && is_strided_by g c.args.bytes rows r) read ∙ read

pub returns-clause-misstrided : goal.returns-clause-misstrided
returns-clause-misstrided c =
    let g = ground_of c.args.space.now in
    let all = c.as_slice-all.result.now in
    let missed : ℕ → Bool = λ r. not (is_even g c.args.bytes (odd_of g all) r) in
    sym (least_of-none c.loop-row.misstrided)
    ∙ ap (λ (rs : List ℕ). least_of c.loop-row.misstrided (least (filter missed rs))) (sym (drop_all c.loop-row.row-index all c.loop-row-test.false))
    ∙ c.loop-row.invariant.missed
    ∙ ap least (missed_evenly g c.args.bytes all)
    ∙ ap (λ (rs : List ℕ). least (filter (λ q. not (is_strided_by g c.args.bytes rs q)) rs)) c.as_slice-all.ensures.value
