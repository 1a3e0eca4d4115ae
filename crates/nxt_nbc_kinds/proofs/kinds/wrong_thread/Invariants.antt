-- The operands before k name threads.
use Rattle.std.proofs.Common.{◌≡◌, ◌<◌, ℕ, false, slice_get}
use Rattle.nxt_model.specs.Nbc.NbcRules.{is_no_thread}
use Rattle.nxt_nbc_lines.specs.Seen.{terms_seen}
use Rattle.nxt_nbc_names.specs.SourceSeen.{source_seen}
use Rattle.nxt_nbc_kinds.proofs.kinds.wrong_thread.Given as goal

abbrev pub invariant-loop-k : goal.invariant-loop-k
invariant-loop-k l = (j : ℕ) → j < l.k → is_no_thread (source_seen l.source) l.line (slice_get (terms_seen l.terms) j) ≡ false
