use Rattle.std.proofs.Common.{subst}
use Rattle.nxt_model.specs.Nbc.NbcRules.{Syntax, tells}
use Rattle.nxt_nbc_lines.specs.Firsts.{IsLeast}
use Rattle.nxt_nbc_lines.specs.Seen.{formed_seen}
use Rattle.nxt_nbc_lines.proofs.Laws.Refused.{syntax_kept, syntax_refused}
use Rattle.nxt_nbc.proofs.rules.check_lines.Goals as goal

pub returns-in-Some-clause-refused : goal.returns-in-Some-clause-refused
returns-in-Some-clause-refused c = λ text ts has.
    let fd = formed_seen c.args.formed.now in
    syntax_refused text ts fd has c.in-Some.line (subst (IsLeast (λ l. tells fd (Syntax l))) c.in-Some.is c.bad_line.ensures)

pub returns-in-None-clause-kept : goal.returns-in-None-clause-kept
returns-in-None-clause-kept c =
    let fd = formed_seen c.args.formed.now in
    syntax_kept fd (subst (IsLeast (λ l. tells fd (Syntax l))) c.in-None.is c.bad_line.ensures)
