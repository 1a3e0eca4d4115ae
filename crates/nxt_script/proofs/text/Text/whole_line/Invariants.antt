use Rattle.std.proofs.Common.{◌≡◌, true, ◌≤◌, ◌+◌, ◌-◌, ℕ, List, length}
use Rattle.std.specs.Prelude.{if◌then◌else◌}
use Rattle.nxt_script.specs.Rows.{most_bytes}
use Rattle.nxt_script.specs.Inside.{Passes, Reads}
use Rattle.nxt_script.proofs.text.Text.whole_line.Given as goal

-- bytes were taken, and of long lines some were passed
abbrev pub invariant-loop-end : goal.invariant-loop-end
invariant-loop-end g l = record {
  taken : (taken : List ℕ) × Reads l.initial.self l.self (g.Q.Source.left l.initial.source) (g.Q.Source.left l.source) taken × Passes l.initial.self l.self taken;
  over : l.initial.self.ended ≡ true → (l.source ≡ l.initial.source) × (l.self.ended ≡ true);
  later : g.Q.Source.faults l.initial.source ≤ g.Q.Source.faults l.source;
}

-- what may still be taken, and the end
abbrev pub decreases-loop-end : goal.decreases-loop-end
decreases-loop-end g l = (most_bytes + 1 - (l.self.counts.bytes + length l.self.pending)) + (if l.self.ended then 0 else 1)
