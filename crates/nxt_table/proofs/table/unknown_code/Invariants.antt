-- None was found so far.
use Rattle.std.proofs.Common.{◌≡◌, drop}
use Rattle.nxt_table.specs.Inside.Items.{first_from}
use Rattle.nxt_table.specs.TableRules.{has_unknown_code}
use Rattle.nxt_table.proofs.table.unknown_code.Given as goal

abbrev pub invariant-loop-i : goal.invariant-loop-i
invariant-loop-i l = first_from has_unknown_code 0 l.entries ≡ first_from has_unknown_code l.i (drop l.i l.entries)
