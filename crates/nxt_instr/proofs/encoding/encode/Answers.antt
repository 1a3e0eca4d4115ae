use Rattle.std.proofs.Common.{◌≡◌, ◌++◌, OnOk, rules}
use Rattle.std.proofs.lemmas.Result.{on_ok_weaker}
use Rattle.nxt_types.specs.Statements.{long_form_of}
use Rattle.nxt_instr.proofs.Laws.LongForms.{appended, appended_more}
use Rattle.nxt_instr.proofs.encoding.encode.Goals as goal

pub returns-clause-back : goal.returns-clause-back
returns-clause-back c =
    let ok : OnOk c.append.result (c.append.new.self ≡ c.args.into.now ++ long_form_of c.args.op c.args.cmp c.args.args.now) = search rules in
    on_ok_weaker c.append.result (appended c.args.op c.args.cmp c.args.args.now c.args.into.now c.append.new.self c.requires.takes c.requires.plain) ok

pub returns-clause-followed : goal.returns-clause-followed
returns-clause-followed c =
    let ok : OnOk c.append.result (c.append.new.self ≡ c.args.into.now ++ long_form_of c.args.op c.args.cmp c.args.args.now) = search rules in
    on_ok_weaker c.append.result (appended_more c.args.op c.args.cmp c.args.args.now c.args.into.now c.append.new.self c.requires.takes c.requires.plain) ok
