-- What is left decides.
use Rattle.std.proofs.Common.{◌≡◌, drop}
use Rattle.nxt_space.specs.Spots.{numbers_in_bytes}
use Rattle.nxt_operands.specs.Numbers.{numbers_in}
use Rattle.nxt_ops.specs.Ops.{deciding_numbers}
use Rattle.nxt_ops.proofs.comparing.deciding_in_place.Given as goal

abbrev pub invariant-loop-i : goal.invariant-loop-i
invariant-loop-i l =
    let xs = numbers_in (numbers_in_bytes l.k l.xs) in
    let ys = numbers_in (numbers_in_bytes l.l l.ys) in
    record { left : deciding_numbers l.signed (drop l.i xs) (drop l.i ys) ≡ deciding_numbers l.signed xs ys }
