-- The bytes of the bodies of so many texts, each of which the pool holds.
use Rattle.std.proofs.Common.{◌≡◌, ◌*◌, ◌≤◌, take, length}
use Rattle.nxt_types.specs.Pool.{pool_size}
use Rattle.nxt_texts.specs.Texts.{bodies_at}
use Rattle.nxt_texts.proofs.strings.bodies_length.Given as goal

abbrev pub invariant-loop-source : goal.invariant-loop-source
invariant-loop-source l =
    record {
      bodies : l.length ≡ length (bodies_at l.space.vars (take l.source-index l.sources));
      few : l.length ≤ pool_size * l.source-index;
    }
