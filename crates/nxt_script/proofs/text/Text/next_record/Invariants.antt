use Rattle.std.proofs.Common.{◌≡◌, true, ◌≤◌, ◌-◌, ℕ, List}
use Rattle.nxt_script.specs.Rows.{most_bytes}
use Rattle.nxt_script.specs.Inside.{Passes, Reads}
use Rattle.nxt_script.proofs.text.Text.next_record.Given as goal

-- the lines that were passed held no record
abbrev pub invariant-loop-end : goal.invariant-loop-end
invariant-loop-end g l = record {
  taken : (taken : List ℕ) × Reads l.initial.self l.self (g.Q.Source.left l.initial.source) (g.Q.Source.left l.source) taken × Passes l.initial.self l.self taken;
  over : l.initial.self.ended ≡ true → (l.source ≡ l.initial.source) × (l.self.ended ≡ true);
  later : g.Q.Source.faults l.initial.source ≤ g.Q.Source.faults l.source;
}

abbrev pub decreases-loop-end : goal.decreases-loop-end
decreases-loop-end g l = most_bytes - l.self.counts.bytes
