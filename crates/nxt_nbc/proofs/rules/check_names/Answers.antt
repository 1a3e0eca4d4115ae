use Rattle.std.proofs.Common.{subst}
use Rattle.nxt_model.specs.Nbc.NbcRules.{TwiceNamed, UnknownName, tells}
use Rattle.nxt_nbc_lines.specs.Firsts.{IsLeast}
use Rattle.nxt_nbc_lines.specs.Seen.{formed_seen}
use Rattle.nxt_nbc_lines.proofs.Laws.Refused.{twice_refused, unknown_kept, unknown_refused}
use Rattle.nxt_nbc.proofs.rules.check_names.Goals as goal

pub returns-in-Some-clause-refused : goal.returns-in-Some-clause-refused
returns-in-Some-clause-refused c = λ text ts has.
    let fd = formed_seen c.args.formed.now in
    unknown_refused text ts fd has c.requires.kept c.in-Some.line (subst (IsLeast (λ l. tells fd (UnknownName l))) c.in-Some.is c.in_ok-line.ensures)

pub returns-in-Some-twice-clause-refused : goal.returns-in-Some-twice-clause-refused
returns-in-Some-twice-clause-refused c = λ text ts has.
    let fd = formed_seen c.args.formed.now in
    let kept = unknown_kept fd c.requires.kept (subst (IsLeast (λ l. tells fd (UnknownName l))) c.in_default.is c.in_ok-line.ensures) in
    twice_refused text ts fd has kept c.in-Some-twice.line (subst (IsLeast (λ l. tells fd (TwiceNamed l))) c.in-Some-twice.is c.in_ok-declared.ensures.twice)
