-- None so far shares a byte with a later one.
use Rattle.std.proofs.Common.{◌≡◌, drop}
use Rattle.nxt_layout.specs.Inside.RowPasses.{first_spans}
use Rattle.nxt_layout.proofs.spans.first_pair.Given as goal

abbrev pub invariant-loop-i : goal.invariant-loop-i
invariant-loop-i l = first_spans l.spans ≡ first_spans (drop l.i l.spans)
