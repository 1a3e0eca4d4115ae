-- The least owner of the bytes so far.
use Rattle.std.specs.BTreeMap.{get}
use Rattle.nxt_table.specs.Inside.Owners.{byte_cmp, IsLeastOwner}
use Rattle.nxt_table.proofs.overlap.first_owner.Given as goal

abbrev pub invariant-loop-at : goal.invariant-loop-at
invariant-loop-at l = IsLeastOwner (get byte_cmp l.owners) l.leaf l.at l.first
