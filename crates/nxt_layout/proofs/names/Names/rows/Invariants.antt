-- The rows so far.
use Rattle.std.proofs.Common.{◌≡◌, ℕ, Bool}
use Rattle.nxt_layout.specs.Inside.RowPasses.{ground_of, listed, names_by}
use Rattle.nxt_layout.specs.Inside.Known.{IsNamed}
use Rattle.nxt_layout.proofs.names.Names.rows.Given as goal

abbrev pub invariant-loop-row : goal.invariant-loop-row
invariant-loop-row l = record {
  rows : (c : (ℕ → Bool) → ℕ) → IsNamed (ground_of l.space) c l.self → l.rows.items ≡ listed (names_by c) l.row;
}
