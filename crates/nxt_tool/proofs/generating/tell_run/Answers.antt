-- The machine of the text runs the rows, and its lines are told.
use Rattle.std.proofs.Common.{◌≡◌, ◌∙◌, ◌++◌, ℕ, List, [], sym, ap, subst}
use Rattle.std.specs.Prelude.{Result, Ok, Err, MatchResult, IsErrAnd, flat_map}
use Rattle.nxt_gen.specs.Generator.{told_of}
use Rattle.nxt_model.specs.declared.event.ScriptRow.{ScriptRow}
use Rattle.nxt_model.specs.declared.line.Line.{Line}
use Rattle.nxt_model.specs.Image as image
use Rattle.nxt_model.specs.Program.{start}
use Rattle.nxt_model.specs.Step.{events_of, run}
use Rattle.nxt_tool.specs.Assembling.{HasTextCause, IsTextImage, IsTold}
use Rattle.nxt_machine.specs.Machines.{MachineViews}
use Rattle.nxt_tool.specs.Runs.{HasRun}
use Rattle.nxt_tool.specs.declared.fault.AcceptFault.{AcceptFault}
use Rattle.nxt_tool.specs.declared.fault.AcceptFault.TheVariants.{NoMemory}
use Rattle.nxt_tool.proofs.generating.tell_run.Goals as goal

-- want of memory is free
no_memory : {T : Type 0} (r : Result T AcceptFault) (P : T → Type 0) (text : List ℕ) → IsErrAnd r (λ e. e ≡ NoMemory) → MatchResult r P (HasTextCause text)
no_memory (Ok x) P text e = absurd e
no_memory (Err f) P text e = subst (HasTextCause text) (sym e) tt

-- the lines of the image are those of the text
told_by : (text : List ℕ) (rows : List ScriptRow) (n : ℕ) (m m' : MachineViews) (before after : List Line) (told : List ℕ) → IsTextImage text m.image → m.state ≡ start (image.program_of m.image) → before ≡ []
    → HasRun m m' (flat_map events_of rows) before after → told ≡ told_of n after → IsTold text rows n told
told_by text rows n m m' before after told i first none r is =
    let es = flat_map events_of rows in
    record {
      program = i.program;
      spelled = i.spelled;
      kept = i.kept;
      told_is = is
          ∙ ap (told_of n)
          (r.lines
          ∙ ap (λ ls. ls ++ (run (image.program_of m.image) es m.state).lines) none
          ∙ ap (λ s. (run (image.program_of m.image) es s).lines) first
          ∙ ap (λ im. (run (image.program_of im) es (start (image.program_of im))).lines) i.image_is
          ∙ sym (i.faithful.runs.lines es));
    }

pub returns-in_err-run_rows : goal.returns-in_err-run_rows
returns-in_err-run_rows c =
    no_memory c.from_residual-in_err-run_rows.result (IsTold c.args.text.now c.args.rows.now c.args.number) c.args.text.now c.from_residual-in_err-run_rows.ensures.1

pub returns-in_err-told : goal.returns-in_err-told
returns-in_err-told c =
    no_memory c.from_residual-in_err-told.result (IsTold c.args.text.now c.args.rows.now c.args.number) c.args.text.now c.from_residual-in_err-told.ensures.1

pub returns : goal.returns
returns c =
    told_by c.args.text.now c.args.rows.now c.args.number c.in_ok-machine.machine c.run_rows.new.machine c.new-lines.result.lines c.run_rows.new.lines.lines c.in_ok-told.field-0
    c.in_ok-machine.ensures.spelled c.in_ok-machine.ensures.start c.new-lines.ensures c.in_ok-run_rows.ensures
    (c.in_ok-told.ensures ∙ ap (told_of c.args.number) c.as_slice.ensures)
