-- A rule changes neither how many clumps nor how many mutexes there are.
use Rattle.std.proofs.Common.{length, ap, ◌∙◌}
use Rattle.std.specs.Result.{result_err}
use Rattle.nxt_types.specs.Statements.{statement_of}
use Rattle.nxt_clumps.specs.Clumps.{Scheduled, head}
use Rattle.nxt_clumps.proofs.Laws.Sizes.{sizes-moved, sizes-turned}
use Rattle.nxt_machine.proofs.Kept.{clumps_by_image}
use Rattle.nxt_machine.proofs.Meanings.Ruled.{ruled_sizes}
use Rattle.nxt_machine.proofs.rules.go_on.Goals as goal

pub returns-in-Next-clause-clumps : goal.returns-in-Next-clause-clumps
returns-in-Next-clause-clumps c =
    let cs = c.args.clumps.now in
    let st = statement_of c.args.placed.now.instr c.args.program.now.code.words in
    let ruled = c.rule.ensures.ruled in
    let went = ap (λ (x : Scheduled). length x.state.mutexes) c.advance.ensures ∙ (sizes-moved (head cs.state) c.in-Next.next 1 cs.state).mutexes in
    let by_rule = ruled_sizes c.args.clock c.args.h st c.args.program.now.space.vars _ c.advance.new.self c.rule.new.clumps (result_err c.rule.result) ruled in
    let ended = ap (λ (x : Scheduled). length x.state.mutexes) c.end_bytecode.ensures.state ∙ (sizes-turned c.rule.new.clumps.state).mutexes in
    clumps_by_image c.args.program.now c.rule.new.program cs c.end_bytecode.new.self c.rule.ensures.image c.requires.clumps
    (ap (λ (x : Scheduled). x.plans) c.end_bytecode.ensures.state ∙ ruled.plans ∙ ap (λ (x : Scheduled). x.plans) c.advance.ensures)
    (ended ∙ by_rule ∙ went)
