use Rattle.std.proofs.Common.{subst}
use Rattle.nxt_model.specs.Nbc.NbcRules.{OutOfRange, WrongKind, tells}
use Rattle.nxt_nbc_lines.specs.Firsts.{IsLeast, IsLeastPair}
use Rattle.nxt_nbc_lines.specs.Seen.{formed_seen}
use Rattle.nxt_nbc_lines.proofs.Laws.Refused.{kind_kept, kind_refused, range_kept, range_refused}
use Rattle.nxt_nbc.proofs.rules.check_operands.Goals as goal

pub returns-in-Some-clause-refused : goal.returns-in-Some-clause-refused
returns-in-Some-clause-refused c = λ text ts has.
    let fd = formed_seen c.args.formed.now in
    kind_refused text ts fd has c.requires.kept c.in-Some.line c.in-Some.operand
    (subst (IsLeastPair (λ l k. tells fd (WrongKind l k))) c.in-Some.is c.in_ok-line.ensures)

pub returns-in-Some-2-clause-refused : goal.returns-in-Some-2-clause-refused
returns-in-Some-2-clause-refused c = λ text ts has.
    let fd = formed_seen c.args.formed.now in
    let kept = kind_kept fd c.requires.kept (subst (IsLeastPair (λ l k. tells fd (WrongKind l k))) c.in_default.is c.in_ok-line.ensures) in
    range_refused text ts fd has kept c.in-Some-2.line (subst (IsLeast (λ l. tells fd (OutOfRange l))) c.in-Some-2.is c.in_ok-line-2.ensures)

pub returns-clause-kept : goal.returns-clause-kept
returns-clause-kept c =
    let fd = formed_seen c.args.formed.now in
    let kept = kind_kept fd c.requires.kept (subst (IsLeastPair (λ l k. tells fd (WrongKind l k))) c.in_default.is c.in_ok-line.ensures) in
    range_kept fd kept (subst (IsLeast (λ l. tells fd (OutOfRange l))) c.in-None.is c.in_ok-line-2.ensures)
