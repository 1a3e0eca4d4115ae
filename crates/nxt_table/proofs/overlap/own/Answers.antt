-- One more byte is the leaf's.
use Rattle.std.proofs.Common.{ap, ◌∙◌, cond, Some, arith}
use Rattle.std.specs.BTreeMap.{get}
use Rattle.std.specs.Prelude.{◌&&◌, ◌==◌}
use Rattle.nxt_table.specs.Inside.LeafPasses.{same_array}
use Rattle.nxt_table.specs.Inside.Owners.{byte_cmp}
use Rattle.nxt_table.proofs.Placement.Owners.{same_key, one_more}
use Rattle.nxt_table.proofs.overlap.own.Goals as goal

pub loop-at-preserved : goal.loop-at-preserved
loop-at-preserved c a x =
    let l = c.args.leaf.now in
    let at = c.loop-at.at in
    c.in_ok-_other.ensures.updates.0 (a, x)
    ∙ ap (λ b. cond b (Some l.entry) (get byte_cmp c.loop-at.owners (a, x))) (same_key l.array a at x)
    ∙ ap (λ o. cond (same_array a l.array && (at == x)) (Some l.entry) o) (c.loop-at.invariant a x)
    ∙ one_more (same_array a l.array) l.place x at l.entry (get byte_cmp c.args.owners.now (a, x)) (omega arith)
