-- The statements before this one are no stray jumps.
use Rattle.std.proofs.Common.{◌≡◌, drop, map}
use Rattle.nxt_code.specs.CodeRules.{leads_nowhere}
use Rattle.nxt_code.specs.Decoding.{placed_of}
use Rattle.nxt_code.proofs.Sequence.FirstAndLast.{first_of}
use Rattle.nxt_code.proofs.jumps.stray_jump.Given as goal

abbrev pub invariant-loop-placed : goal.invariant-loop-placed
invariant-loop-placed l =
    first_of (leads_nowhere l.words) (map (placed_of l.words) l.code.placed.items)
    ≡ first_of (leads_nowhere l.words) (map (placed_of l.words) (drop l.placed-index l.code.placed.items))
