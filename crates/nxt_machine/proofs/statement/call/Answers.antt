-- A system call does what the plain machine does, and the program is the same but for values and rows.
use Rattle.std.proofs.Common.{◌≡◌, ℕ, sym, subst, arith, Some, slice_get, Ok, Err}
use Rattle.nxt_types.specs.declared.instr.Op.TheVariants as ops
use Rattle.nxt_code.specs.declared.statements.StatementAt.{StatementAt}
use Rattle.nxt_machine.specs.declared.program.Program.{Program}
use Rattle.nxt_machine.specs.Inside.Programs.{IsProgram}
use Rattle.nxt_types.specs.Statements.{statement_of}
use Rattle.nxt_model.specs.Devices.{Devices}
use Rattle.nxt_model.specs.SystemCalls.{Clock as Moments}
use Rattle.nxt_types.specs.Calls.{call_of}
use Rattle.nxt_space.specs.Variables.{SpaceViews, AreSound}
use Rattle.nxt_operands.specs.Operands.{Done}
use Rattle.nxt_sys.specs.Calls.{Calls, clock_of}
use Rattle.nxt_sys.specs.Keeping.{LeavesAfter}
use Rattle.nxt_machine.specs.Inside.Keeping.{StatementStays}
use Rattle.nxt_machine.proofs.Keeping.Called.{called_stays}
use Rattle.nxt_machine.specs.Inside.Statements.{Told, IsPassed}
use Rattle.nxt_machine.proofs.Kept.{there, few_before, kept_after, shapes_kept, still_program}
use Rattle.nxt_machine.proofs.Meanings.Calls.{IsCall, call_fits, can_call, call_ran, call_refused}
use Rattle.nxt_machine.proofs.statement.call.Goals as goal

-- what stands there is the call of a cluster
is_call : (p : Program) → IsProgram p → (place : ℕ) (x : StatementAt) → slice_get p.code.decoded.placed.items place ≡ Some x → x.instr.op ≡ ops.Syscall → IsCall p.space.vars x.instr
is_call p is place x at e =
    call_fits p.space.vars x.instr p.code.words e (is.fit place (x.word, statement_of x.instr p.code.words) (there p is place x at))

pub syscall-requires : goal.syscall-requires
syscall-requires c = can_call c.args.program.now.space.vars c.args.placed.now.instr c.recall_sound.ensures (is_call c.args.program.now c.requires.program c.args.place c.args.placed.now c.requires.at c.requires.call)

pub overflow_add-result : goal.overflow_add-result
overflow_add-result c = let few = few_before c.args.program.now c.requires.program c.args.place c.args.placed.now c.requires.at in omega (arith, few)

pub returns-in-Ok-clause-did : goal.returns-in-Ok-clause-did
returns-in-Ok-clause-did c =
    let p = c.args.program.now in
    let x = c.args.placed.now in
    call_ran p.space c.syscall.new.space p.code.words c.args.place x.word (clock_of c.args.clock) x.instr c.args.io.now c.syscall.new.io c.args.out.now c.syscall.new.out c.requires.call
    (is_call c.args.program.now c.requires.program c.args.place c.args.placed.now c.requires.at c.requires.call).cluster.named c.in-Ok.ensures.calls

pub returns-in-Ok-clause-program : goal.returns-in-Ok-clause-program
returns-in-Ok-clause-program c = still_program Done _ c.args.program.now c.syscall.new.space (Ok tt) c.in-Ok.ensures.calls.0 c.requires.program

pub returns-in-Err-PoolPassed-clause-did : goal.returns-in-Err-PoolPassed-clause-did
returns-in-Err-PoolPassed-clause-did c =
    let p = c.args.program.now in
    let x = c.args.placed.now in
    let t = clock_of c.args.clock in
    let old : Told = record { vars = p.space.vars; devices = c.args.io.now; lines = c.args.out.now.lines } in
    let new : Told = record { vars = c.syscall.new.space.vars; devices = c.syscall.new.io; lines = c.syscall.new.out.lines } in
    subst
    (IsPassed t (statement_of x.instr p.code.words) old new)
    (sym c.in-Err-PoolPassed.bytes-is)
    (call_refused p.space c.syscall.new.space p.code.words c.args.place x.word t x.instr c.args.io.now c.syscall.new.io c.args.out.now c.syscall.new.out c.requires.call
    (is_call c.args.program.now c.requires.program c.args.place c.args.placed.now c.requires.at c.requires.call).cluster.named c.in-Err-PoolPassed.bytes
    (subst
    (λ e. Calls x.instr.a x.instr.b t p.space c.args.io.now c.args.out.now (Err e) c.syscall.new.space c.syscall.new.io c.syscall.new.out)
    c.in-Err-PoolPassed.field-0-is
    c.in-Err-PoolPassed.ensures.calls))

-- ---- what stays where it is

-- it leaves what the members of its cluster tell that it writes to
stays_there : (p : Program) → IsProgram p → (place : ℕ) (x : StatementAt) → slice_get p.code.decoded.placed.items place ≡ Some x → x.instr.op ≡ ops.Syscall
    → (sound : AreSound p.space.vars) (new : SpaceViews) → new.vars.shapes ≡ p.space.vars.shapes → LeavesAfter (call_of x.instr.a) x.instr.b p.space new → (d : Devices) (t : Moments) → StatementStays t (statement_of x.instr p.code.words) d p.space new
stays_there p is place x at e sound new same left d t = called_stays p.space new x.instr p.code.words d t e sound (is_call p is place x at e) same left

pub returns-in-Ok-clause-stays : goal.returns-in-Ok-clause-stays
returns-in-Ok-clause-stays c =
    let s = c.args.program.now.space in
    stays_there c.args.program.now c.requires.program c.args.place c.args.placed.now c.requires.at c.requires.call c.recall_sound.ensures c.syscall.new.space
    (shapes_kept s.vars c.syscall.new.space.vars (kept_after Done _ s c.syscall.new.space (Ok tt) c.in-Ok.ensures.calls.0)) c.syscall.ensures.leaves c.args.io.now (clock_of c.args.clock)

pub returns-in-Err-PoolPassed-clause-stays : goal.returns-in-Err-PoolPassed-clause-stays
returns-in-Err-PoolPassed-clause-stays c =
    let s = c.args.program.now.space in
    stays_there c.args.program.now c.requires.program c.args.place c.args.placed.now c.requires.at c.requires.call c.recall_sound.ensures c.syscall.new.space
    (shapes_kept s.vars c.syscall.new.space.vars (kept_after Done _ s c.syscall.new.space (Err _) c.in-Err-PoolPassed.ensures.calls.0)) c.syscall.ensures.leaves c.args.io.now (clock_of c.args.clock)

pub returns-in-Err-NoMemory-clause-stays : goal.returns-in-Err-NoMemory-clause-stays
returns-in-Err-NoMemory-clause-stays c =
    let s = c.args.program.now.space in
    stays_there c.args.program.now c.requires.program c.args.place c.args.placed.now c.requires.at c.requires.call c.recall_sound.ensures c.syscall.new.space
    (shapes_kept s.vars c.syscall.new.space.vars (kept_after Done _ s c.syscall.new.space (Err _) c.in-Err-NoMemory.ensures.calls.0)) c.syscall.ensures.leaves c.args.io.now (clock_of c.args.clock)
