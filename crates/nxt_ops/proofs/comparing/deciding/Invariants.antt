-- What is left decides, and the second list reached so far.
use Rattle.std.proofs.Common.{◌≡◌, ◌≤◌, length, drop}
use Rattle.nxt_ops.specs.Ops.{deciding_numbers}
use Rattle.nxt_ops.proofs.comparing.deciding.Given as goal

abbrev pub invariant-loop-k : goal.invariant-loop-k
invariant-loop-k l =
    record {
      left : deciding_numbers l.signed (drop l.k l.xs) (drop l.k l.ys) ≡ deciding_numbers l.signed l.xs l.ys;
      reached : l.k ≤ length l.ys;
    }
