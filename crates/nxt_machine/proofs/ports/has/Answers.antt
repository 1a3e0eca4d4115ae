-- The test of numbers is that of their words.
use Rattle.std.proofs.Common.{◌∙◌, ap, rules, tests}
use Rattle.std.specs.List.{list_any}
use Rattle.std.specs.Prelude.{◌==◌}
use Rattle.std.proofs.lemmas.Iterator.{YieldsList-from_slice}
use Rattle.std.proofs.lemmas.Iterator.Search.{any_from_yields_List}
use Rattle.nxt_types.specs.Arithmetic.{word}
use Rattle.nxt_machine.proofs.Meanings.Ports.{among_words}
use Rattle.nxt_machine.proofs.ports.has.Goals as goal

pub returns : goal.returns
returns c =
    let port = c.args.port in
    any_from_yields_List (λ z. word z == port) _ _ _ c.any.ensures.ran (YieldsList-from_slice c.as_slice.result.now cc) (λ x b q k. search (rules, tests))
    ∙ ap (list_any (λ z. word z == port)) c.as_slice.ensures
    ∙ among_words c.args.ports.now port
