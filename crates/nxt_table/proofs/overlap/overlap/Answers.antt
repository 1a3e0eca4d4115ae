-- With one more leaf.
use Rattle.std.proofs.Common.{◌<◌, ◌≤◌, ◌∙◌, length, arith, None}
use Rattle.std.specs.BTreeMap.{get}
use Rattle.nxt_table.specs.declared.item.Item.TheVariants.{Void}
use Rattle.nxt_table.specs.declared.leaves.PlacedLeaf.{PlacedLeaf}
use Rattle.std.specs.Prelude.{false}
use Rattle.nxt_table.specs.Inside.Owners.{byte_cmp}
use Rattle.nxt_table.proofs.Placement.Owners.{pair_more, owners_more}
use Rattle.nxt_table.proofs.overlap.overlap.Goals as goal

pub loop-left-preserved : goal.loop-left-preserved
loop-left-preserved c =
    let ls = c.args.leaves.now in
    let d : PlacedLeaf = record { entry = 0; place = 0; item = Void; array = None; has_default = false } in
    let pos : 0 < c.loop-left.left = omega arith in
    let within : c.loop-left.left ≤ length ls = c.loop-left.invariant.within in
    record {
      within = omega (arith, within);
      pair =
          c.pair_or-found.ensures
          ∙ pair_more ls c.loop-left.left d (get byte_cmp c.loop-left.owners) c.first_owner.result c.loop-left.found pos within c.requires.entries c.requires.bytes
          c.loop-left.invariant.owners c.first_owner.ensures c.loop-left.invariant.pair;
      owners = λ a x. c.in_ok-own.ensures a x ∙ owners_more ls c.loop-left.left d (get byte_cmp c.loop-left.owners) pos within c.loop-left.invariant.owners a x;
    }
