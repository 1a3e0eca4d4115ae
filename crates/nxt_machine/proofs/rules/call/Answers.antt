-- A call queues a clump, and tells it the number of its caller.
use Rattle.std.proofs.Common.{◌≡◌, ℕ, length, slice_get, Some, None, refl, sym, ap, ◌∙◌, subst, arith, w64}
use Rattle.std.proofs.Math.Facts.{to_z-of_z}
use Rattle.nxt_types.specs.Shapes.{is_number}
use Rattle.nxt_types.specs.Statements.{statement_of, statements}
use Rattle.nxt_types.specs.declared.instr.Instr.{Instr}
use Rattle.nxt_types.specs.declared.instr.Op.TheVariants.{Subcall}
use Rattle.nxt_clumps.specs.Answers.{stop_in}
use Rattle.nxt_operands.proofs.Laws.Named.{IsPart}
use Rattle.nxt_machine.specs.Inside.Programs.{IsProgram}
use Rattle.nxt_machine.specs.declared.program.Program.{Program}
use Rattle.nxt_machine.proofs.Kept.{there, program_kept, named_below, as_many}
use Rattle.nxt_machine.proofs.Meanings.OfClumps.{caller_fits}
use Rattle.nxt_machine.proofs.Meanings.Ruled.{call_ruled}
use Rattle.nxt_machine.proofs.rules.call.Goals as goal

caller : (p : Program) → IsProgram p → (i : Instr) → i.op ≡ Subcall → (k word : ℕ) → slice_get p.code.decoded.placed.items k ≡ Some (record { word = word; instr = i }) → IsPart p.space.vars i.b is_number
caller p is i e k word at = caller_fits p.space.vars i p.code.words e (is.fit k (word, statement_of i p.code.words) (there p is k (record { word = word; instr = i }) at))

pub overflow_cast-i : goal.overflow_cast-i
overflow_cast-i c =
    let below = named_below c.args.program.now c.requires.program c.args.i.now c.requires.call c.requires.at.0 c.requires.at.1 c.requires.at.2 refl refl in
    let few = c.requires.program.few_clumps in
    omega (arith, below, few)

pub call-requires-clause-inside : goal.call-requires-clause-inside
call-requires-clause-inside c =
    let p = c.args.program.now in
    let below = named_below p c.requires.program c.args.i.now c.requires.call c.requires.at.0 c.requires.at.1 c.requires.at.2 refl refl in
    let plans = ap length c.requires.clumps.plans ∙ as_many (statements p.code.words) p.code.clumps p.code.dependents in
    let each = c.recall_sound.ensures in
    omega (arith, below, plans, each)

pub set-requires : goal.set-requires
set-requires c =
    let at = c.requires.at in
    (caller c.args.program.now c.requires.program c.args.i.now c.requires.call at.0 at.1 at.2).has

pub returns-clause-ruled : goal.returns-clause-ruled
returns-clause-ruled c clock =
    let p = c.args.program.now in
    let at = c.requires.at in
    call_ruled clock c.args.h c.args.i.now p.code.words p.space.vars c.args.clumps.now c.call.new.self None c.call.result c.set.new.self.vars _ c.requires.call c.requires.head
    (caller p c.requires.program c.args.i.now c.requires.call at.0 at.1 at.2).named
    (to_z-of_z {w = w64} {z = c.from.result} (record { sfits = c.from.type_inv }) ∙ c.from.ensures)
    c.call.ensures (ap stop_in c.in_ok-call.was) refl c.set.ensures.value

pub returns-clause-program : goal.returns-clause-program
returns-clause-program c = program_kept c.args.program.now c.set.new.self (subst (λ v. v ≡ record c.args.program.now.space.vars { values = v.values; rows = v.rows }) (sym c.set.ensures.value) refl) c.requires.program
