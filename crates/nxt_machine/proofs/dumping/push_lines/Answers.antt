-- Each line has its room.
use Rattle.std.proofs.Common.{◌≡◌, ◌++◌, ◌∷◌, [], sym, ap, ◌∙◌, arith, rules, append-nil, append_assoc}
use Rattle.std.proofs.lemmas.Grind.{common_steps}
use Rattle.std.proofs.lemmas.Iterator.Adapters.{YieldsList-from_vec}
use Rattle.std.proofs.lemmas.Iterator.Consumers.{YieldsList-turn, YieldsList-end}
use Rattle.std.proofs.lemmas.List.{length_push, map-id}
use Rattle.nxt_machine.proofs.dumping.push_lines.Goals as goal

pub loop-line-init : goal.loop-line-init
loop-line-init c = record {
  lines = c.reserve.ensures.lines ∙ sym (append-nil c.args.out.now.lines);
  room = let enough = c.in_ok-reserve.ensures.room in omega (arith, enough, c.len.ensures);
}

pub unwrap-requires : goal.unwrap-requires
unwrap-requires c =
    let turn = YieldsList-turn (YieldsList-from_vec {s = c.into_iter-line-iterator.result} c.args.lines.items (search rules) (search rules))
    c.loop-line.yielded c.loop-line.line-iterator c.loop-line.yielded_by c.next.result c.next.new.self c.in-Some.line c.in-Some.is c.next.ensures.steps in
    let room = c.loop-line.invariant.room in
    let few = turn.0 in
    c.push.ensures.succeeds (omega (arith, room, few))

pub loop-line-preserved : goal.loop-line-preserved
loop-line-preserved c =
    let told : c.push.new.self.lines ≡ c.loop-line.out.lines ++ c.in-Some.line ∷ [] = grind (arith, common_steps) in
    let longer = length_push c.loop-line.yielded c.in-Some.line in
    let room = c.loop-line.invariant.room in
    let left = c.push.ensures.room in
    record {
      lines = told ∙ ap (λ ls. ls ++ c.in-Some.line ∷ []) c.loop-line.invariant.lines ∙ append_assoc c.args.out.now.lines c.loop-line.yielded (c.in-Some.line ∷ []);
      room = omega (arith, room, left, longer);
    }

pub returns-clause-ok : goal.returns-clause-ok
returns-clause-ok c =
    let end = YieldsList-end (YieldsList-from_vec {s = c.into_iter-line-iterator.result} c.args.lines.items (search rules) (search rules))
    c.loop-line.yielded c.loop-line.line-iterator c.loop-line.yielded_by c.next.result c.next.new.self c.in-None.is c.next.ensures.steps in
    c.loop-line.invariant.lines ∙ ap (λ ls. c.args.out.now.lines ++ ls) (sym (map-id c.loop-line.yielded) ∙ end.0)
