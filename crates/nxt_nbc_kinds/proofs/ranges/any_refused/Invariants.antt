use Rattle.std.proofs.Common.{◌≡◌, drop}
use Rattle.std.specs.List.{enumerate_from, list_any}
use Rattle.nxt_model.specs.Nbc.NbcRules.{is_refused_number}
use Rattle.nxt_nbc_lines.specs.Seen.{terms_seen}
use Rattle.nxt_nbc_names.specs.SourceSeen.{source_seen}
use Rattle.nxt_nbc_kinds.proofs.ranges.any_refused.Given as goal

-- none of the operands so far is out of its range
abbrev pub invariant-loop-k : goal.invariant-loop-k
invariant-loop-k l =
    let ts = terms_seen l.fn.terms in
    let test = is_refused_number (source_seen l.fn.source) l.fn.line l.fn.op ts in
    list_any test (enumerate_from 0 ts) ≡ list_any test (enumerate_from l.k (terms_seen (drop l.k l.fn.terms)))
