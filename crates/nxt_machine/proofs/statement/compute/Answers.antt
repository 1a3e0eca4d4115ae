-- A statement that computes does what the plain machine does, and the program is the same but for values and rows.
use Rattle.std.proofs.Common.{◌≡◌, ℕ, ◌<◌, ◌^◌, Bool, true, false, ℤ, w32, w64, rules, sym, ap, ◌∙◌, subst, slice_get, Some, Err}
use Rattle.std.proofs.Math.Facts.{to_z-of_z}
use Rattle.std.specs.Int.Signed.{mag}
use Rattle.nxt_types.specs.Statements.{statement_of, statements, statement_number, landing, offset_of}
use Rattle.nxt_types.specs.declared.instr.Instr.{Instr}
use Rattle.nxt_code.specs.declared.statements.StatementAt.{StatementAt}
use Rattle.nxt_model.specs.Devices.{Devices, at_start}
use Rattle.nxt_model.specs.SystemCalls.{Clock}
use Rattle.nxt_space.specs.Keeping.{Leaves}
use Rattle.nxt_space.specs.Variables.{SpaceViews}
use Rattle.nxt_ops.specs.Ops.{runs as computes, statement_in, next_of, dests}
use Rattle.nxt_ops.specs.declared.run.Next.TheVariants.{Jump}
use Rattle.nxt_machine.specs.Inside.Keeping.{StatementStays}
use Rattle.nxt_machine.specs.Inside.Programs.{IsProgram, IsKept}
use Rattle.nxt_machine.specs.Inside.Statements.{Told, IsPassed}
use Rattle.nxt_machine.specs.declared.program.Program.{Program}
use Rattle.nxt_machine.proofs.Keeping.FirstStored.{computed_stays}
use Rattle.nxt_machine.proofs.Meanings.Ended.{Tells, fell, jumped, refused}
use Rattle.nxt_machine.proofs.Kept.{origin, statement_there, fit_there, kept_after, shapes_kept, still_program, same_image, unmoved}
use Rattle.nxt_machine.proofs.statement.compute.Goals as goal

pub run_op-requires : goal.run_op-requires
run_op-requires c =
    let p = c.args.program.now in
    record {
      runs = c.requires.computes;
      entries = c.requires.program.entries;
      shapes = c.requires.program.shapes;
      sound = c.recall_sound.ensures;
      fit = c.requires.program.fit c.args.place (c.args.placed.now.word, statement_in c.args.placed.now.instr) (statement_there p c.requires.program c.args.place c.args.placed.now c.requires.at c.requires.computes);
    }

-- a jump tells the offset of its first operand
offset_is : (i : Instr) (b : Bool) (z : ℤ) → Jump z ≡ next_of i b → z ≡ offset_of i.a
offset_is i true z e = cc
offset_is i false z e = let f : ⊥ = cc in absurd f

pub returns-in-Ok-Fall-clause-did : goal.returns-in-Ok-Fall-clause-did
returns-in-Ok-Fall-clause-did c d lines t =
    let p = c.args.program.now in
    fell p.space c.run_op.new.space p.code.words d lines t c.args.place c.args.placed.now.word c.args.placed.now.instr c.requires.computes
    (let g = c.in-Ok-Fall.ensures.does d t in (g.0, g.1, sym c.in-Ok-Fall.field-0-is ∙ g.2))

pub returns-in-Ok-Jump-clause-did : goal.returns-in-Ok-Jump-clause-did
returns-in-Ok-Jump-clause-did c d lines t =
    let p = c.args.program.now in
    let offset = c.in-Ok-Jump.offset in
    let told = c.in-Ok-Jump.ensures.does d t in
    let next = sym c.in-Ok-Jump.field-0-is ∙ told.2 in
    let fits : mag offset < 2 ^ 31 = search rules in
    let word =
    to_z-of_z {w = w64} {z = c.landing-word.result} (record { sfits = c.landing-word.type_inv })
    ∙ c.landing-word.ensures
    ∙ ap (landing c.args.placed.now.word) (to_z-of_z {w = w32} {z = offset} (record { sfits = fits }) ∙ offset_is c.args.placed.now.instr _ offset next)
    in
    jumped p.space c.run_op.new.space p.code.words d lines t c.args.place c.args.placed.now.word c.args.placed.now.instr c.requires.computes
    offset _ (told.0, told.1, next)
    (c.statement_number.ensures p.code.words c.requires.program.code ∙ ap (statement_number (statements p.code.words)) word)

pub returns-in-Err-PoolPassed-clause-did : goal.returns-in-Err-PoolPassed-clause-did
returns-in-Err-PoolPassed-clause-did c d lines t =
    let p = c.args.program.now in
    let old : Told = record { vars = p.space.vars; devices = d; lines = lines } in
    let new : Told = record { vars = c.run_op.new.space.vars; devices = d; lines = lines } in
    subst
    (IsPassed t (statement_of c.args.placed.now.instr p.code.words) old new)
    (sym c.in-Err-PoolPassed.bytes-is)
    (refused p.space c.run_op.new.space p.code.words d lines t c.args.place c.args.placed.now.word c.args.placed.now.instr c.requires.computes c.in-Err-PoolPassed.bytes c.recall_sound.ensures
    (subst
    (λ e. Tells p.space c.run_op.new.space p.code.words d lines t c.args.place c.args.placed.now.word c.args.placed.now.instr c.requires.computes (Err e))
    c.in-Err-PoolPassed.field-0-is
    (c.in-Err-PoolPassed.ensures.does d t)))

pub returns-in-Ok-Fall-clause-program : goal.returns-in-Ok-Fall-clause-program
returns-in-Ok-Fall-clause-program c =
    still_program _ _ c.args.program.now c.run_op.new.space c.run_op.result (c.run_op.ensures.does at_start origin) c.requires.program

pub returns-in-Ok-Fall-clause-image : goal.returns-in-Ok-Fall-clause-image
returns-in-Ok-Fall-clause-image c = same_image _ _ c.args.program.now c.run_op.new.space c.run_op.result (c.run_op.ensures.does at_start origin)

pub returns-in-Ok-Jump-clause-program : goal.returns-in-Ok-Jump-clause-program
returns-in-Ok-Jump-clause-program c =
    still_program _ _ c.args.program.now c.run_op.new.space c.run_op.result (c.run_op.ensures.does at_start origin) c.requires.program

pub returns-in-Ok-Jump-clause-image : goal.returns-in-Ok-Jump-clause-image
returns-in-Ok-Jump-clause-image c = same_image _ _ c.args.program.now c.run_op.new.space c.run_op.result (c.run_op.ensures.does at_start origin)

pub returns-in-Err-PoolPassed-clause-program : goal.returns-in-Err-PoolPassed-clause-program
returns-in-Err-PoolPassed-clause-program c =
    still_program _ _ c.args.program.now c.run_op.new.space c.run_op.result (c.run_op.ensures.does at_start origin) c.requires.program

pub returns-in-Err-PoolPassed-clause-image : goal.returns-in-Err-PoolPassed-clause-image
returns-in-Err-PoolPassed-clause-image c = same_image _ _ c.args.program.now c.run_op.new.space c.run_op.result (c.run_op.ensures.does at_start origin)

pub returns-in-Err-NoMemory-clause-program : goal.returns-in-Err-NoMemory-clause-program
returns-in-Err-NoMemory-clause-program c =
    still_program _ _ c.args.program.now c.run_op.new.space c.run_op.result (c.run_op.ensures.does at_start origin) c.requires.program

pub returns-in-Err-NoMemory-clause-image : goal.returns-in-Err-NoMemory-clause-image
returns-in-Err-NoMemory-clause-image c = same_image _ _ c.args.program.now c.run_op.new.space c.run_op.result (c.run_op.ensures.does at_start origin)

-- ---- refusals

pub returns-in-Err-PoolPassed-clause-passed : goal.returns-in-Err-PoolPassed-clause-passed
returns-in-Err-PoolPassed-clause-passed c = unmoved _ _ c.args.program.now c.run_op.new.space c.run_op.result c.in-Err-PoolPassed.field-0 c.in-Err-PoolPassed.is (c.run_op.ensures.does at_start origin)

pub returns-in-Err-NoMemory-clause-same : goal.returns-in-Err-NoMemory-clause-same
returns-in-Err-NoMemory-clause-same c = unmoved _ _ c.args.program.now c.run_op.new.space c.run_op.result c.in-Err-NoMemory.field-0 c.in-Err-NoMemory.is (c.run_op.ensures.does at_start origin)

-- ---- what stays where it is

-- it leaves what the entry tells that it writes to
stays_there : (p : Program) → IsProgram p → (place : ℕ) (x : StatementAt) → slice_get p.code.decoded.placed.items place ≡ Some x → computes x.instr.op ≡ true
    → (new : SpaceViews) → IsKept p.space.vars new.vars → Leaves (dests x.instr) p.space new → (d : Devices) (t : Clock) → StatementStays t (statement_of x.instr p.code.words) d p.space new
stays_there p is place x at run new kept left d t =
    computed_stays p.space new x.instr p.code.words d t (fit_there p is place x at) (shapes_kept p.space.vars new.vars kept) run left

pub returns-in-Ok-Fall-clause-stays : goal.returns-in-Ok-Fall-clause-stays
returns-in-Ok-Fall-clause-stays c =
    stays_there c.args.program.now c.requires.program c.args.place c.args.placed.now c.requires.at c.requires.computes c.run_op.new.space
    (kept_after _ _ c.args.program.now.space c.run_op.new.space c.run_op.result (c.run_op.ensures.does at_start origin)) c.run_op.ensures.leaves

pub returns-in-Ok-Jump-clause-stays : goal.returns-in-Ok-Jump-clause-stays
returns-in-Ok-Jump-clause-stays c =
    stays_there c.args.program.now c.requires.program c.args.place c.args.placed.now c.requires.at c.requires.computes c.run_op.new.space
    (kept_after _ _ c.args.program.now.space c.run_op.new.space c.run_op.result (c.run_op.ensures.does at_start origin)) c.run_op.ensures.leaves

pub returns-in-Err-PoolPassed-clause-stays : goal.returns-in-Err-PoolPassed-clause-stays
returns-in-Err-PoolPassed-clause-stays c =
    stays_there c.args.program.now c.requires.program c.args.place c.args.placed.now c.requires.at c.requires.computes c.run_op.new.space
    (kept_after _ _ c.args.program.now.space c.run_op.new.space c.run_op.result (c.run_op.ensures.does at_start origin)) c.run_op.ensures.leaves

pub returns-in-Err-NoMemory-clause-stays : goal.returns-in-Err-NoMemory-clause-stays
returns-in-Err-NoMemory-clause-stays c =
    stays_there c.args.program.now c.requires.program c.args.place c.args.placed.now c.requires.at c.requires.computes c.run_op.new.space
    (kept_after _ _ c.args.program.now.space c.run_op.new.space c.run_op.result (c.run_op.ensures.does at_start origin)) c.run_op.ensures.leaves
