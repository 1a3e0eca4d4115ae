use Rattle.std.proofs.Common.{◌≡◌, ◌<◌, ℕ, false, get_or}
use Rattle.nxt_types.specs.Opcodes.{class_in, row}
use Rattle.nxt_model.specs.Nbc.NbcRules.{is_unknown}
use Rattle.nxt_nbc_lines.specs.Seen.{term_seen}
use Rattle.nxt_nbc_lines.specs.declared.terms.Term.{Term}
use Rattle.nxt_nbc_names.specs.SourceSeen.{source_seen}
use Rattle.nxt_nbc.proofs.unknown.any_unknown.Given as goal

-- the operands so far are there
abbrev pub invariant-loop-k : goal.invariant-loop-k
invariant-loop-k l =
    (j : ℕ) (d : Term) → j < l.k → is_unknown (source_seen l.fn.source) l.fn.labels l.fn.line (class_in (row l.fn.op).operands j) (term_seen (get_or l.fn.terms j d)) ≡ false
