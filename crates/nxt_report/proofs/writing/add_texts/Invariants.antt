-- The texts of the lines so far are added.
use Rattle.std.proofs.Common.{◌≡◌, ◌++◌, take}
use Rattle.nxt_model.specs.LineText.{lines_text}
use Rattle.nxt_report.proofs.writing.add_texts.Given as goal

abbrev pub invariant-loop-line : goal.invariant-loop-line
invariant-loop-line l = l.text ≡ l.fn.text ++ lines_text (take l.line-index l.lines)
