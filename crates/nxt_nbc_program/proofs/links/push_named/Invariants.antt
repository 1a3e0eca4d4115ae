use Rattle.std.proofs.Common.{◌≡◌, ◌++◌, take}
use Rattle.nxt_model.specs.Nbc.Text.{blocks_named}
use Rattle.nxt_nbc_lines.specs.Seen.{terms_seen}
use Rattle.nxt_nbc_names.specs.SourceSeen.{source_seen}
use Rattle.nxt_nbc_program.proofs.links.push_named.Given as goal

-- those that the operands so far name were added
abbrev pub invariant-loop-term : goal.invariant-loop-term
invariant-loop-term l =
    l.numbers ≡ l.initial.numbers ++ blocks_named (source_seen l.source) (terms_seen (take l.term-index l.terms))
