-- Those so far are in line.
use Rattle.std.proofs.Common.{◌≡◌, drop}
use Rattle.nxt_layout.specs.Inside.RowPasses.{follow}
use Rattle.nxt_layout.proofs.spans.are_in_line.Given as goal

abbrev pub invariant-loop-span : goal.invariant-loop-span
invariant-loop-span l = follow 0 l.spans ≡ follow l.end (drop l.span-index l.spans)
