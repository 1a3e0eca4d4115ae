-- A statement on lists or texts does what the plain machine does, and the program is the same but for values and rows.
use Rattle.std.proofs.Common.{◌≡◌, ℕ, true, [], ◌∷◌, sym, subst, slice_get, Some, Ok, Err}
use Rattle.nxt_types.specs.Statements.{statement_of}
use Rattle.nxt_code.specs.declared.statements.StatementAt.{StatementAt}
use Rattle.nxt_model.specs.Devices.{Devices, at_start}
use Rattle.nxt_model.specs.SystemCalls.{Clock}
use Rattle.nxt_space.specs.Keeping.{Leaves}
use Rattle.nxt_space.specs.Variables.{SpaceViews}
use Rattle.nxt_operands.specs.Operands.{Done}
use Rattle.nxt_arrays.specs.Arrays.{CanRun, runs as works_on_lists, values_after}
use Rattle.nxt_space.specs.Outcomes.{Does}
use Rattle.nxt_space.specs.declared.fault.OpFault.TheVariants.{PoolPassed}
use Rattle.nxt_machine.specs.Inside.Keeping.{StatementStays}
use Rattle.nxt_machine.specs.Inside.Programs.{IsProgram, IsKept}
use Rattle.nxt_machine.specs.Inside.Statements.{Told, IsPassed}
use Rattle.nxt_machine.specs.declared.program.Program.{Program}
use Rattle.nxt_machine.proofs.Keeping.FirstStored.{arranged_stays}
use Rattle.nxt_machine.proofs.Meanings.Ended.{list_ran, list_refused}
use Rattle.nxt_machine.proofs.Kept.{origin, there, fit_there, whole_there, kept_after, shapes_kept, still_program, same_image, unmoved}
use Rattle.nxt_machine.proofs.statement.arrange.Goals as goal

pub run_array-requires : goal.run_array-requires
run_array-requires c =
    let p = c.args.program.now in
    let x = c.args.placed.now in
    subst
    (λ ws. CanRun x.instr ws p.toc p.space.vars)
    (sym c.words.ensures)
    (record {
      runs = c.requires.on_lists;
      whole = whole_there p c.requires.program c.args.place x c.requires.at;
      shapes = c.requires.program.shapes;
      sound = c.recall_sound.ensures;
      fit = c.requires.program.fit c.args.place (x.word, statement_of x.instr p.code.words) (there p c.requires.program c.args.place x c.requires.at);
    })

pub returns-in-Ok-clause-did : goal.returns-in-Ok-clause-did
returns-in-Ok-clause-did c d lines t =
    let p = c.args.program.now in
    let x = c.args.placed.now in
    list_ran p.space c.run_array.new.space p.code.words d lines t c.args.place x.word x.instr c.requires.on_lists
    (subst (λ ws. Does {T = Unit {0}} Done (values_after p.space.vars x.instr ws d t) p.space (Ok tt) c.run_array.new.space)
    c.words.ensures (c.in-Ok.ensures.does d t))

pub returns-in-Err-PoolPassed-clause-did : goal.returns-in-Err-PoolPassed-clause-did
returns-in-Err-PoolPassed-clause-did c d lines t =
    let p = c.args.program.now in
    let x = c.args.placed.now in
    let old : Told = record { vars = p.space.vars; devices = d; lines = lines } in
    let new : Told = record { vars = c.run_array.new.space.vars; devices = d; lines = lines } in
    subst
    (IsPassed t (statement_of x.instr p.code.words) old new)
    (sym c.in-Err-PoolPassed.bytes-is)
    (list_refused p.space c.run_array.new.space p.code.words d lines t c.args.place x.word x.instr c.requires.on_lists
    c.in-Err-PoolPassed.bytes
    (subst (λ ws. Does {T = Unit {0}} Done (values_after p.space.vars x.instr ws d t) p.space (Err (PoolPassed c.in-Err-PoolPassed.bytes)) c.run_array.new.space)
    c.words.ensures
    (subst
    (λ e. Does {T = Unit {0}} Done (values_after p.space.vars x.instr c.words.result.now d t) p.space (Err e) c.run_array.new.space)
    c.in-Err-PoolPassed.field-0-is
    (c.in-Err-PoolPassed.ensures.does d t))))

pub returns-in-Ok-clause-program : goal.returns-in-Ok-clause-program
returns-in-Ok-clause-program c =
    still_program _ _ c.args.program.now c.run_array.new.space c.run_array.result (c.run_array.ensures.does at_start origin) c.requires.program

pub returns-in-Ok-clause-image : goal.returns-in-Ok-clause-image
returns-in-Ok-clause-image c = same_image _ _ c.args.program.now c.run_array.new.space c.run_array.result (c.run_array.ensures.does at_start origin)

pub returns-in-Err-PoolPassed-clause-program : goal.returns-in-Err-PoolPassed-clause-program
returns-in-Err-PoolPassed-clause-program c =
    still_program _ _ c.args.program.now c.run_array.new.space c.run_array.result (c.run_array.ensures.does at_start origin) c.requires.program

pub returns-in-Err-PoolPassed-clause-image : goal.returns-in-Err-PoolPassed-clause-image
returns-in-Err-PoolPassed-clause-image c = same_image _ _ c.args.program.now c.run_array.new.space c.run_array.result (c.run_array.ensures.does at_start origin)

pub returns-in-Err-NoMemory-clause-program : goal.returns-in-Err-NoMemory-clause-program
returns-in-Err-NoMemory-clause-program c =
    still_program _ _ c.args.program.now c.run_array.new.space c.run_array.result (c.run_array.ensures.does at_start origin) c.requires.program

pub returns-in-Err-NoMemory-clause-image : goal.returns-in-Err-NoMemory-clause-image
returns-in-Err-NoMemory-clause-image c = same_image _ _ c.args.program.now c.run_array.new.space c.run_array.result (c.run_array.ensures.does at_start origin)

-- ---- refusals

pub returns-in-Err-PoolPassed-clause-passed : goal.returns-in-Err-PoolPassed-clause-passed
returns-in-Err-PoolPassed-clause-passed c = unmoved _ _ c.args.program.now c.run_array.new.space c.run_array.result c.in-Err-PoolPassed.field-0 c.in-Err-PoolPassed.is (c.run_array.ensures.does at_start origin)

pub returns-in-Err-NoMemory-clause-same : goal.returns-in-Err-NoMemory-clause-same
returns-in-Err-NoMemory-clause-same c = unmoved _ _ c.args.program.now c.run_array.new.space c.run_array.result c.in-Err-NoMemory.field-0 c.in-Err-NoMemory.is (c.run_array.ensures.does at_start origin)

-- ---- what stays where it is

-- it leaves what the entry of its first operand tells
stays_there : (p : Program) → IsProgram p → (place : ℕ) (x : StatementAt) → slice_get p.code.decoded.placed.items place ≡ Some x → works_on_lists x.instr.op ≡ true
    → (new : SpaceViews) → IsKept p.space.vars new.vars → Leaves (x.instr.a ∷ []) p.space new → (d : Devices) (t : Clock) → StatementStays t (statement_of x.instr p.code.words) d p.space new
stays_there p is place x at run new kept left d t =
    arranged_stays p.space new x.instr p.code.words d t (fit_there p is place x at) (shapes_kept p.space.vars new.vars kept) run left

pub returns-in-Ok-clause-stays : goal.returns-in-Ok-clause-stays
returns-in-Ok-clause-stays c =
    stays_there c.args.program.now c.requires.program c.args.place c.args.placed.now c.requires.at c.requires.on_lists c.run_array.new.space
    (kept_after _ _ c.args.program.now.space c.run_array.new.space c.run_array.result (c.run_array.ensures.does at_start origin)) c.run_array.ensures.leaves

pub returns-in-Err-PoolPassed-clause-stays : goal.returns-in-Err-PoolPassed-clause-stays
returns-in-Err-PoolPassed-clause-stays c =
    stays_there c.args.program.now c.requires.program c.args.place c.args.placed.now c.requires.at c.requires.on_lists c.run_array.new.space
    (kept_after _ _ c.args.program.now.space c.run_array.new.space c.run_array.result (c.run_array.ensures.does at_start origin)) c.run_array.ensures.leaves

pub returns-in-Err-NoMemory-clause-stays : goal.returns-in-Err-NoMemory-clause-stays
returns-in-Err-NoMemory-clause-stays c =
    stays_there c.args.program.now c.requires.program c.args.place c.args.placed.now c.requires.at c.requires.on_lists c.run_array.new.space
    (kept_after _ _ c.args.program.now.space c.run_array.new.space c.run_array.result (c.run_array.ensures.does at_start origin)) c.run_array.ensures.leaves
