-- The sources so far give so many numbers.
use Rattle.std.proofs.Common.{◌≡◌, ◌≤◌, ◌*◌, ◌^◌, take, length}
use Rattle.std.specs.Prelude.{All}
use Rattle.nxt_lists.specs.Joined.{GivesNumbers}
use Rattle.nxt_lists.specs.Pieces.{pieces_of}
use Rattle.nxt_lists.proofs.joining.count_numbers.Given as goal

abbrev pub invariant-loop-source : goal.invariant-loop-source
invariant-loop-source l = record {
  numbers : All (GivesNumbers l.space.vars l.to.kind) (take l.source-index l.sources);
  count : l.count ≡ length (pieces_of l.space.vars l.dest (take l.source-index l.sources));
  small : l.count ≤ l.source-index * 2 ^ 32;
}
