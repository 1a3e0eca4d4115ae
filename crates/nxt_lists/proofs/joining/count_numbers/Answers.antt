-- One more source's numbers.
use Rattle.std.proofs.Common.{◌+◌, ◌<◌, ◌^◌, get_or, ap, ◌∙◌, subst, arith, rules}
use Rattle.nxt_lists.specs.Joined.{IsPiece, GivesNumbers}
use Rattle.nxt_lists.proofs.JoinedNumbers.{all_more, more_counted}
use Rattle.nxt_lists.proofs.joining.count_numbers.Goals as goal

pub loop-source-preserved : goal.loop-source-preserved
loop-source-preserved c =
    let s = c.args.space.now.vars in
    let to = c.args.to in
    let sources = c.args.sources.now in
    let n = c.loop-source.source-index in
    let i = get_or sources n 0 in
    let less = c.loop-source-test.true in
    let piece = c.in_ok-piece.piece in
    let found : IsPiece s to.kind i piece = subst (λ k. IsPiece s k i piece) c.kind.ensures c.in_ok-piece.ensures.found in
    let few : c.count.result < 2 ^ 32 = search rules in
    record {
      numbers = all_more (GivesNumbers s to.kind) sources n 0 less c.loop-source.invariant.numbers (record { piece = piece; is = found });
      count = ap (λ m. c.loop-source.count + m) c.from-count.ensures
          ∙ more_counted s c.args.dest to sources n 0 c.loop-source.count c.count.result piece c.requires.dest less found c.loop-source.invariant.count (c.count.ensures c.kind.result i c.in_ok-piece.ensures.found);
      small = omega (arith, c.loop-source.invariant.small, c.from-count.ensures, few);
    }
