-- The text so far, and the lines that are left.
use Rattle.std.proofs.Common.{◌≡◌, ◌++◌, drop, filter}
use Rattle.nxt_model.specs.LineText.{lines_text}
use Rattle.nxt_gen.specs.Generator.{is_stop}
use Rattle.nxt_gen.proofs.tally.push_stops.Given as goal

abbrev pub invariant-loop-line : goal.invariant-loop-line
invariant-loop-line l = l.into ++ lines_text (filter is_stop (drop l.line-index l.lines)) ≡ l.fn.into ++ lines_text (filter is_stop l.lines)
