-- What the sources so far give stands behind the number of all elements.
use Rattle.std.proofs.Common.{◌≡◌, ◌∷◌, take, flat_map}
use Rattle.std.specs.Prelude.{pos}
use Rattle.nxt_model.specs.Values.{flat}
use Rattle.nxt_lists.specs.Pieces.{pieces_of}
use Rattle.nxt_lists.proofs.building.joined.Given as goal

abbrev pub invariant-loop-source : goal.invariant-loop-source
invariant-loop-source l = l.flat ≡ pos l.count ∷ flat_map flat (pieces_of l.space.vars l.dest (take l.source-index l.sources))
