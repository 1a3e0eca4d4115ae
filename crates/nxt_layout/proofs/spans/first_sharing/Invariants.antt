-- None so far shares a byte.
use Rattle.std.proofs.Common.{◌≡◌, drop}
use Rattle.nxt_layout.specs.Inside.RowPasses.{first_span, spans_share}
use Rattle.nxt_layout.proofs.spans.first_sharing.Given as goal

abbrev pub invariant-loop-other : goal.invariant-loop-other
invariant-loop-other l = first_span (spans_share l.span) l.spans ≡ first_span (spans_share l.span) (drop l.other-index l.spans)
