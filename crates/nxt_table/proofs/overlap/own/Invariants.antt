-- The bytes so far are the leaf's.
use Rattle.std.proofs.Common.{◌≡◌, ℕ, Option, Some}
use Rattle.std.specs.BTreeMap.{get}
use Rattle.std.specs.Prelude.{if◌then◌else◌}
use Rattle.nxt_table.specs.Inside.Owners.{byte_cmp, is_on}
use Rattle.nxt_table.proofs.overlap.own.Given as goal

abbrev pub invariant-loop-at : goal.invariant-loop-at
invariant-loop-at l =
    (a : Option ℕ) (x : ℕ) → get byte_cmp l.owners (a, x) ≡ (if is_on (a, x) l.leaf l.at then Some l.leaf.entry else get byte_cmp l.initial.owners (a, x))
