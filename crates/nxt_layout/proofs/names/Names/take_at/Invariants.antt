-- The numbers that are taken, and those that are left.
use Rattle.std.proofs.Common.{ℕ, Bool, ◌+◌, ◌*◌, take, count_by}
use Rattle.nxt_layout.specs.Inside.RowPasses.{ground_of, numbers_in}
use Rattle.nxt_layout.specs.Inside.Known.{IsNamed}
use Rattle.nxt_layout.proofs.names.Names.take_at.Given as goal

abbrev pub invariant-loop-at : goal.invariant-loop-at
invariant-loop-at l = record {
  named : (c : (ℕ → Bool) → ℕ) → IsNamed (ground_of l.space) c l.initial.self → IsNamed (ground_of l.space) (λ p. c p + l.times * count_by p (numbers_in (ground_of l.space) l.place (take l.at-index l.places))) l.self;
}
