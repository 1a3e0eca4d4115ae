-- Three statements more.
use Rattle.std.proofs.Common.{◌++◌, ◌∙◌, ◌+◌, ◌-◌, ℕ, List, ap, append_assoc, sym}
use Rattle.nxt_gen.specs.Generator.{drawn_statements, statements_from}
use Rattle.nxt_gen.proofs.Rounds.{statements_next}
use Rattle.nxt_gen.proofs.text.push_statements.Goals as goal

pub loop-preserved : goal.loop-preserved
loop-preserved c =
    let left : List ℕ = statements_from (c.args.times - (c.loop.counter + 1)) c.in_ok-seed.seed in
    ap (λ t. t ++ left) c.in_ok-seed.ensures.text
    ∙ append_assoc c.loop.text (drawn_statements c.loop.seed) left
    ∙ ap (λ x. c.loop.text ++ (drawn_statements c.loop.seed ++ statements_from (c.args.times - (c.loop.counter + 1)) x)) c.in_ok-seed.ensures.next
    ∙ ap (λ t. c.loop.text ++ t) (sym (statements_next c.args.times c.loop.counter c.loop.seed c.loop-test.true))
    ∙ c.loop.invariant
