-- Each rule, by its statement.
use Rattle.std.proofs.Common.{◌≡◌, ℕ, length, slice_get, Some, None, refl, sym, ap, ap₂, ◌∙◌, arith, w16, w64, to_z, of_z, SFits, subst, ℤ}
use Rattle.std.specs.Result.{result_err}
use Rattle.std.proofs.Math.Facts.{to_z-of_z}
use Rattle.nxt_types.specs.Arithmetic.{word}
use Rattle.nxt_types.specs.OperandRules.{AreFit}
use Rattle.nxt_types.specs.Statements.{statement_of, statements}
use Rattle.nxt_types.specs.declared.instr.Instr.{Instr}
use Rattle.nxt_model.specs.Clumps.{finish}
use Rattle.nxt_model.specs.Step.{signed16}
use Rattle.nxt_clumps.specs.Answers.{Rules, stop_in}
use Rattle.nxt_clumps.specs.Clumps.{head}
use Rattle.nxt_machine.specs.Inside.Programs.{IsProgram}
use Rattle.nxt_machine.specs.Inside.Statements.{IsRuled}
use Rattle.nxt_machine.specs.declared.program.Program.{Program}
use Rattle.nxt_machine.proofs.Kept.{there, named_below, as_many}
use Rattle.nxt_machine.proofs.Meanings.OfClumps.{acquired_within, released_within}
use Rattle.nxt_machine.proofs.Meanings.Ruled.{passed_stop, same_stop, finish_ruled, return_ruled, wait_ruled}
use Rattle.nxt_machine.proofs.rules.rule.Goals as goal

fit_there : (p : Program) → IsProgram p → (i : Instr) (k w : ℕ) → slice_get p.code.decoded.placed.items k ≡ Some (record { word = w; instr = i }) → AreFit p.space.vars.shapes (statement_of i p.code.words)
fit_there p is i k w at = is.fit k (w, statement_of i p.code.words) (there p is k (record { word = w; instr = i }) at)

-- a number of 16 bits is the one that was told of it
as_spelled : (w : ℕ) (z : ℤ) → SFits w16 z → z ≡ signed16 w → to_z w16 (of_z w16 z) ≡ signed16 w
as_spelled w z fits is = to_z-of_z {w = w16} {z = z} fits ∙ is

pub overflow_cast-i : goal.overflow_cast-i
overflow_cast-i c =
    let below = named_below c.args.program.now c.requires.program c.args.i.now c.in-Finclumpimmed.is c.requires.at.0 c.requires.at.1 c.requires.at.2 refl refl in
    let few = c.requires.program.few_clumps in
    omega (arith, below, few)

pub schedule-requires-clause-inside : goal.schedule-requires-clause-inside
schedule-requires-clause-inside c =
    let p = c.args.program.now in
    let below = named_below p c.requires.program c.args.i.now c.in-Finclumpimmed.is c.requires.at.0 c.requires.at.1 c.requires.at.2 refl refl in
    let plans = ap length c.requires.clumps.plans ∙ as_many (statements p.code.words) p.code.clumps p.code.dependents in
    let each = c.recall_sound.ensures in
    omega (arith, below, plans, each)

pub acquire-requires-clause-entry : goal.acquire-requires-clause-entry
acquire-requires-clause-entry c =
    let p = c.args.program.now in
    let within = acquired_within p.space.vars c.args.i.now p.code.words c.in-Acquire.is (fit_there p c.requires.program c.args.i.now c.requires.at.0 c.requires.at.1 c.requires.at.2) in
    let sizes = c.requires.program.sizes in
    let each = c.requires.clumps.mutexes in
    omega (arith, within, sizes, each)

pub release-requires-clause-entry : goal.release-requires-clause-entry
release-requires-clause-entry c =
    let p = c.args.program.now in
    let within = released_within p.space.vars c.args.i.now p.code.words c.in-Release.is (fit_there p c.requires.program c.args.i.now c.requires.at.0 c.requires.at.1 c.requires.at.2) in
    let sizes = c.requires.program.sizes in
    let each = c.requires.clumps.mutexes in
    omega (arith, within, sizes, each)

pub returns-in_ok-finish-in-Finclump-clause-ruled : goal.returns-in_ok-finish-in-Finclump-clause-ruled
returns-in_ok-finish-in-Finclump-clause-ruled c =
    let p = c.args.program.now in
    let cs = c.args.clumps.now in
    let first = as_spelled c.args.i.now.a c.cast_signed.result (record { sfits = c.cast_signed.type_inv }) c.cast_signed.ensures in
    let last = as_spelled c.args.i.now.b c.cast_signed-in-Finclump.result (record { sfits = c.cast_signed-in-Finclump.type_inv }) c.cast_signed-in-Finclump.ensures in
    finish_ruled c.args.clock c.args.h c.args.i.now p.code.words p.space.vars cs c.finish.new.self None c.finish.result c.in-Finclump.is c.requires.head
    (subst (λ ruled. Rules ruled cs c.finish.result c.finish.new.self) (ap₂ (λ x y. finish cs.plans x y (head cs.state) cs.state) first last) c.finish.ensures)
    (sym (ap stop_in c.in_ok-finish-in-Finclump.was))

pub returns-in_err-finish-in-Finclump-clause-ruled : goal.returns-in_err-finish-in-Finclump-clause-ruled
returns-in_err-finish-in-Finclump-clause-ruled c =
    let p = c.args.program.now in
    let cs = c.args.clumps.now in
    let first = as_spelled c.args.i.now.a c.cast_signed.result (record { sfits = c.cast_signed.type_inv }) c.cast_signed.ensures in
    let last = as_spelled c.args.i.now.b c.cast_signed-in-Finclump.result (record { sfits = c.cast_signed-in-Finclump.type_inv }) c.cast_signed-in-Finclump.ensures in
    finish_ruled c.args.clock c.args.h c.args.i.now p.code.words p.space.vars cs c.finish.new.self _ c.finish.result c.in-Finclump.is c.requires.head
    (subst (λ ruled. Rules ruled cs c.finish.result c.finish.new.self) (ap₂ (λ x y. finish cs.plans x y (head cs.state) cs.state) first last) c.finish.ensures)
    (passed_stop c.finish.result _ c.from_residual.result c.in_err-finish-in-Finclump.was c.from_residual.ensures.1)

pub returns-in_ok-call-in-Subcall-clause-ruled : goal.returns-in_ok-call-in-Subcall-clause-ruled
returns-in_ok-call-in-Subcall-clause-ruled c =
    let p = c.args.program.now in
    subst
    (λ why. IsRuled c.args.clock c.args.h (statement_of c.args.i.now p.code.words) p.space.vars c.call.new.program.space.vars c.args.clumps.now c.call.new.clumps why)
    (ap result_err c.in_ok-call-in-Subcall.was)
    (c.call.ensures.ruled c.args.clock)

pub returns-in_err-call-in-Subcall-clause-ruled : goal.returns-in_err-call-in-Subcall-clause-ruled
returns-in_err-call-in-Subcall-clause-ruled c =
    let p = c.args.program.now in
    let passed = c.from_residual-in_err-call-in-Subcall in
    subst
    (λ why. IsRuled c.args.clock c.args.h (statement_of c.args.i.now p.code.words) p.space.vars c.call.new.program.space.vars c.args.clumps.now c.call.new.clumps why)
    (same_stop c.call.result _ passed.result c.in_err-call-in-Subcall.was passed.ensures.1)
    (c.call.ensures.ruled c.args.clock)

pub returns-in_ok-ret-in-Subret-clause-ruled : goal.returns-in_ok-ret-in-Subret-clause-ruled
returns-in_ok-ret-in-Subret-clause-ruled c =
    let p = c.args.program.now in
    return_ruled c.args.clock c.args.h c.args.i.now p.code.words p.space.vars c.args.clumps.now c.ret.new.self None c.ret.result c.wrap.result c.in-Subret.is c.requires.head
    (c.wrap.ensures ∙ ap word (to_z-of_z {w = w64} {z = c.number.result} (record { sfits = c.number.type_inv }) ∙ c.number.ensures))
    c.ret.ensures (sym (ap stop_in c.in_ok-ret-in-Subret.was))

pub returns-in_err-ret-in-Subret-clause-ruled : goal.returns-in_err-ret-in-Subret-clause-ruled
returns-in_err-ret-in-Subret-clause-ruled c =
    let p = c.args.program.now in
    return_ruled c.args.clock c.args.h c.args.i.now p.code.words p.space.vars c.args.clumps.now c.ret.new.self _ c.ret.result c.wrap.result c.in-Subret.is c.requires.head
    (c.wrap.ensures ∙ ap word (to_z-of_z {w = w64} {z = c.number.result} (record { sfits = c.number.type_inv }) ∙ c.number.ensures))
    c.ret.ensures (passed_stop c.ret.result _ c.from_residual-in_err-ret-in-Subret.result c.in_err-ret-in-Subret.was c.from_residual-in_err-ret-in-Subret.ensures.1)

pub returns-in-Wait-clause-ruled : goal.returns-in-Wait-clause-ruled
returns-in-Wait-clause-ruled c =
    let p = c.args.program.now in
    wait_ruled c.args.clock c.args.h c.args.i.now p.code.words p.space.vars c.args.clumps.now c.wait.new.clumps _ c.wrap-in-Wait.result c.in-Wait.is c.requires.head
    (c.wrap-in-Wait.ensures ∙ ap word (to_z-of_z {w = w64} {z = c.number-in-Wait.result} (record { sfits = c.number-in-Wait.type_inv }) ∙ c.number-in-Wait.ensures))
    c.wait.ensures refl
