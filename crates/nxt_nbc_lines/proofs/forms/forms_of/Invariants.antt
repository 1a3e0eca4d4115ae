use Rattle.std.proofs.Common.{◌≡◌, length}
use Rattle.nxt_model.specs.Nbc.Tokens.{lines_of}
use Rattle.nxt_model.specs.Nbc.Forms.{formed, formed_from}
use Rattle.nxt_nbc_lines.specs.Held.{held_formed}
use Rattle.nxt_nbc_lines.specs.Lines.{held_lines}
use Rattle.nxt_nbc_lines.specs.Seen.{formed_seen}
use Rattle.nxt_nbc_lines.proofs.LineLaws.{join}
use Rattle.nxt_nbc_lines.proofs.forms.forms_of.Given as goal

-- what was found so far and what the rest gives is what all lines give
abbrev pub invariant-loop-rest : goal.invariant-loop-rest
invariant-loop-rest l = join (formed_seen l.formed) (formed_from (held_lines l.fn.text l.rest) l.places) ≡ held_formed (formed (lines_of l.fn.text l.fn.tokens))

abbrev pub decreases-loop-rest : goal.decreases-loop-rest
decreases-loop-rest l = length l.rest
