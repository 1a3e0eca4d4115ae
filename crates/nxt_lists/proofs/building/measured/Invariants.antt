-- What the sources so far give was counted.
use Rattle.std.proofs.Common.{◌≡◌, take, length, map}
use Rattle.nxt_types.specs.OperandRules.{element_of}
use Rattle.nxt_model.specs.Values.{stored}
use Rattle.nxt_space.specs.Variables.{shape_of}
use Rattle.nxt_lists.specs.Pieces.{pieces_of, size_of_each}
use Rattle.nxt_lists.proofs.building.measured.Given as goal

abbrev pub invariant-loop-source : goal.invariant-loop-source
invariant-loop-source l =
    let s = element_of (shape_of l.space.vars l.dest) in
    let vs = pieces_of l.space.vars l.dest (take l.source-index l.sources) in
    record {
      count : l.count ≡ length vs;
      size : l.size ≡ size_of_each s (map (stored s) vs);
    }
