-- What is found of the shape is kept.
use Rattle.std.proofs.Common.{◌≡◌, rules}
use Rattle.nxt_types.specs.Shapes.{has_list}
use Rattle.nxt_code.specs.Inside.KnownShapes.{shape_by}
use Rattle.nxt_code.proofs.Arguments.KnownShapes.{words_more}
use Rattle.nxt_code.proofs.known.Known.has_list.Goals as goal

pub returns-clause-known : goal.returns-clause-known
returns-clause-known c =
    let ss = c.args.toc.now.shapes in
    let right : c.has_list-answer.result ≡ has_list (shape_by ss c.args.word) = search rules in
    record {
      wholes = c.requires.wholes;
      elements = c.requires.elements;
      taken = c.requires.taken;
      lists = words_more (λ w. has_list (shape_by ss w)) c.args.self.now.lists c.insert.new.self c.args.word c.has_list-answer.result c.requires.lists right c.in_ok-_none.ensures.updates.0;
    }
