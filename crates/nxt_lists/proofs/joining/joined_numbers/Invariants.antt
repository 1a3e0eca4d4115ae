-- The bytes of the numbers that the sources so far give.
use Rattle.std.proofs.Common.{take}
use Rattle.nxt_lists.specs.InBytes.{AreStored}
use Rattle.nxt_lists.specs.Pieces.{pieces_of}
use Rattle.nxt_lists.proofs.joining.joined_numbers.Given as goal

abbrev pub invariant-loop-source : goal.invariant-loop-source
invariant-loop-source l = AreStored l.to.kind l.bytes (pieces_of l.space.vars l.dest (take l.source-index l.sources))
