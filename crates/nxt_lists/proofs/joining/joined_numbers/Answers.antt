-- One more source's numbers.
use Rattle.std.proofs.Common.{◌++◌, take, get_or, subst}
use Rattle.nxt_lists.specs.InBytes.{AreStored}
use Rattle.nxt_lists.specs.Joined.{IsPiece, numbers_given}
use Rattle.nxt_lists.specs.Pieces.{pieces_of}
use Rattle.nxt_lists.proofs.JoinedNumbers.{more_joined}
use Rattle.nxt_lists.proofs.joining.joined_numbers.Goals as goal

pub loop-source-preserved : goal.loop-source-preserved
loop-source-preserved c =
    let s = c.args.space.now.vars in
    let to = c.args.to in
    let sources = c.args.sources.now in
    let n = c.loop-source.source-index in
    let i = get_or sources n 0 in
    let p = c.in-Some.piece in
    let vs = pieces_of s c.args.dest (take n sources) in
    let found : IsPiece s to.kind i p = subst (λ k. IsPiece s k i p) c.kind.ensures c.in-Some.ensures.found in
    let pushed = subst
    (λ k. IsPiece s k i p → AreStored k c.loop-source.bytes vs → AreStored k c.push.new.into (vs ++ numbers_given s i p))
    c.kind-in-Some.ensures
    (c.in_ok-push-in-Some.ensures i vs)
    in
    more_joined s c.args.dest to sources n 0 p c.push.new.into c.requires.dest c.loop-source-test.true found (pushed found c.loop-source.invariant)
