-- The leaves' entries rise, and each leaf takes bytes.
use Rattle.std.proofs.Common.{◌<◌, sym, ◌∙◌, subst, All}
use Rattle.nxt_table.specs.declared.leaves.PlacedLeaf.{PlacedLeaf}
use Rattle.nxt_table.specs.Inside.LeafPasses.{width_of}
use Rattle.nxt_table.specs.Inside.Owners.{AreRising}
use Rattle.nxt_table.proofs.Placement.Owners.{solid_leaves}
use Rattle.nxt_table.proofs.Laws.Rising.{rising_leaves}
use Rattle.nxt_table.proofs.check.check_leaves.Goals as goal

pub overlap-requires-clause-entries : goal.overlap-requires-clause-entries
overlap-requires-clause-entries c =
    subst AreRising (sym (c.as_slice-2.ensures.value ∙ c.in_ok-leaves.ensures.leaves)) (rising_leaves 0 c.args.placed.now)

pub overlap-requires-clause-bytes : goal.overlap-requires-clause-bytes
overlap-requires-clause-bytes c =
    subst (λ ls. All (λ (l : PlacedLeaf). 0 < width_of l) ls) (sym (c.as_slice-2.ensures.value ∙ c.in_ok-leaves.ensures.leaves)) (solid_leaves 0 c.args.placed.now)
