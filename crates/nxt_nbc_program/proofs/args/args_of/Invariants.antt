use Rattle.std.proofs.Common.{◌≡◌, take}
use Rattle.nxt_nbc_lines.specs.Seen.{terms_seen}
use Rattle.nxt_nbc_names.specs.SourceSeen.{source_seen}
use Rattle.nxt_nbc_program.proofs.ArgLists.{args_by}
use Rattle.nxt_nbc_program.proofs.args.args_of.Given as goal

-- the operands so far
abbrev pub invariant-loop-k : goal.invariant-loop-k
invariant-loop-k l = l.args ≡ args_by (source_seen l.source) l.labels l.line l.op 0 (terms_seen (take l.k l.terms))
