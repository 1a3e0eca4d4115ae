use Rattle.std.proofs.Common.{◌≡◌, ◌+◌, length, sum_by, take}
use Rattle.nxt_types.specs.Pool.{round4}
use Rattle.nxt_asm.proofs.footprint.text_bytes.Given as goal

abbrev pub invariant-loop-place : goal.invariant-loop-place
invariant-loop-place l = l.bytes ≡ sum_by (λ text. round4 (length text + 1)) (take l.place l.constants.texts)
