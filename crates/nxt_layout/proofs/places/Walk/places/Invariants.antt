-- The places so far.
use Rattle.std.proofs.Common.{◌≡◌, ℕ, Bool, ◌+◌, ◌*◌, count_by}
use Rattle.nxt_facts.specs.Sums.{sum_below}
use Rattle.nxt_layout.specs.Inside.RowPasses.{few, bit_of}
use Rattle.nxt_layout.specs.Inside.Known.{IsWalked}
use Rattle.nxt_layout.proofs.places.Walk.places.Given as goal

abbrev pub invariant-loop-at : goal.invariant-loop-at
invariant-loop-at l = record {
  standing : (c : ℕ → ℕ) → IsWalked c l.self → (t : ℕ → Bool) → count_by t l.once.items + 2 * count_by t l.often.items ≡ sum_below (λ q. few (c q) * bit_of (t q)) l.at;
}
