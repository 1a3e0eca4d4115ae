-- What is found of the list's element is kept.
use Rattle.std.proofs.Common.{◌≡◌, rules}
use Rattle.nxt_types.specs.Shapes.{convertible}
use Rattle.nxt_types.specs.OperandRules.{element_of}
use Rattle.nxt_code.specs.Inside.KnownShapes.{shape_by}
use Rattle.nxt_code.proofs.Arguments.KnownShapes.{pairs_more}
use Rattle.nxt_code.proofs.known.Known.takes_element.Goals as goal

pub returns-clause-known : goal.returns-clause-known
returns-clause-known c =
    let ss = c.args.toc.now.shapes in
    let right : c.converts-answer.result ≡ convertible (shape_by ss c.args.to) (element_of (shape_by ss c.args.list)) = search rules in
    record {
      wholes = c.requires.wholes;
      elements = c.requires.elements;
      taken = pairs_more (λ p. convertible (shape_by ss p.0) (element_of (shape_by ss p.1))) c.args.self.now.taken c.insert.new.self (c.args.to, c.args.list) c.converts-answer.result c.requires.taken right c.in_ok-_none.ensures.updates.0;
      lists = c.requires.lists;
    }
