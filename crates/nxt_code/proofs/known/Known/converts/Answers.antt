-- What is found of the two is kept.
use Rattle.std.proofs.Common.{◌≡◌, rules}
use Rattle.nxt_types.specs.Shapes.{convertible}
use Rattle.nxt_code.specs.Inside.KnownShapes.{shape_by}
use Rattle.nxt_code.proofs.Arguments.KnownShapes.{pairs_more}
use Rattle.nxt_code.proofs.known.Known.converts.Goals as goal

pub returns-clause-known : goal.returns-clause-known
returns-clause-known c =
    let ss = c.args.toc.now.shapes in
    let right : c.converts-answer.result ≡ convertible (shape_by ss c.args.to) (shape_by ss c.args.from) = search rules in
    record {
      wholes = pairs_more (λ p. convertible (shape_by ss p.0) (shape_by ss p.1)) c.args.self.now.wholes c.insert.new.self (c.args.to, c.args.from) c.converts-answer.result c.requires.wholes right c.in_ok-_none.ensures.updates.0;
      elements = c.requires.elements;
      taken = c.requires.taken;
      lists = c.requires.lists;
    }
