-- What no rule refuses is fit.
use Rattle.std.proofs.Common.{subst, rules}
use Rattle.nxt_types.specs.Refusals.{IsAccepted}
use Rattle.nxt_code.specs.CodeRules.{program, Broken}
use Rattle.nxt_code.specs.Decoding.{IsDecoded}
use Rattle.nxt_code.proofs.Rules.Fit.{fit}
use Rattle.nxt_code.proofs.code.check_code.Goals as goal

pub returns-in-None-clause-fit : goal.returns-in-None-clause-fit
returns-in-None-clause-fit c =
    let words = c.args.words in
    let accepted : IsAccepted (Broken (program c.args.toc.now.shapes c.args.clumps c.args.dependents words)) = search rules in
    fit (program c.args.toc.now.shapes c.args.clumps c.args.dependents words) c.in_ok-decoded.decoded
    (subst (λ ws. IsDecoded ws c.in_ok-decoded.decoded) c.as_slice.ensures c.in_ok-decoded.ensures) accepted
