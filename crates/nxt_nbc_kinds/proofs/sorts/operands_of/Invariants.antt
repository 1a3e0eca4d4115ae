use Rattle.std.proofs.Common.{◌≡◌, take}
use Rattle.nxt_model.specs.Nbc.NbcRules.{sorts_of}
use Rattle.nxt_nbc_lines.specs.Seen.{terms_seen}
use Rattle.nxt_nbc_names.specs.SourceSeen.{source_seen}
use Rattle.nxt_nbc_kinds.specs.OperandsSeen.{operands_seen}
use Rattle.nxt_nbc_kinds.proofs.sorts.operands_of.Given as goal

abbrev pub invariant-loop-k : goal.invariant-loop-k
invariant-loop-k l = operands_seen l.source.structs l.operands ≡ take l.k (sorts_of (source_seen l.source) l.line l.op (terms_seen l.terms))
