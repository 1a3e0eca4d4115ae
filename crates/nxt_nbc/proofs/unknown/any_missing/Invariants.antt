use Rattle.std.proofs.Common.{◌≡◌, false, take}
use Rattle.nxt_model.specs.Nbc.NbcRules.{any_missing}
use Rattle.nxt_nbc_lines.specs.Seen.{terms_seen}
use Rattle.nxt_nbc_names.specs.SourceSeen.{source_seen}
use Rattle.nxt_nbc.proofs.unknown.any_missing.Given as goal

-- the operands so far are there
abbrev pub invariant-loop-term : goal.invariant-loop-term
invariant-loop-term l = any_missing (source_seen l.fn.source) l.fn.line (terms_seen (take l.term-index l.fn.terms)) ≡ false
