use Rattle.std.proofs.Common.{ℕ, ◌<◌}
use Rattle.nxt_rxe.specs.declared.fault.RxeFault.TheVariants as faults
use Rattle.nxt_rxe.specs.FileRules.{Broken}
use Rattle.nxt_rxe.proofs.head.first_difference.Given as goal

-- no byte before differs
abbrev pub invariant-loop-i : goal.invariant-loop-i
invariant-loop-i l = (j : ℕ) → j < l.i → Broken l.bytes (faults.Format j) → ⊥
