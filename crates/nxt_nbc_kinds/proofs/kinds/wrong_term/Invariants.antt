-- The operands before k are of their kinds.
use Rattle.std.proofs.Common.{◌≡◌, ◌<◌, ◌&&◌, ℕ, false, nat_lt, length}
use Rattle.nxt_model.specs.Nbc.NbcRules.{is_wrong_term}
use Rattle.nxt_nbc_lines.specs.Seen.{terms_seen}
use Rattle.nxt_nbc_names.specs.SourceSeen.{source_seen}
use Rattle.nxt_nbc_kinds.proofs.kinds.wrong_term.Given as goal

abbrev pub invariant-loop-k : goal.invariant-loop-k
invariant-loop-k l =
    (j : ℕ) → j < l.k → (nat_lt j (length (terms_seen l.terms)) && is_wrong_term (source_seen l.source) l.line l.op (terms_seen l.terms) j) ≡ false
