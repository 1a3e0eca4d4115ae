-- Frames are taken off while they are over.
use Rattle.std.proofs.Common.{◌≡◌, length}
use Rattle.nxt_table.specs.Inside.Enclosing.{still_open}
use Rattle.nxt_table.proofs.enclosing.close.Given as goal

abbrev pub invariant-loop-frames : goal.invariant-loop-frames
invariant-loop-frames l = still_open l.needed l.frames.items ≡ still_open l.needed l.initial.frames.items

abbrev pub decreases-loop-frames : goal.decreases-loop-frames
decreases-loop-frames l = length l.frames.items
