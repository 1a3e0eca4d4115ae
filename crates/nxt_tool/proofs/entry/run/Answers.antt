-- What is due to a program, by how far it was read.
use Rattle.std.proofs.Common.{◌≡◌, inr, ℕ, ◌≤◌, ◌∙◌, List, Option, Some, None, Err, refl, sym, ap, subst, length}
use Rattle.nxt_edge.proofs.Laws.{Consumes-longer}
use Rattle.nxt_model.specs.Image.{Image}
use Rattle.nxt_tool.specs.Due.{Accepts, AcceptsProgram, refused_answer}
use Rattle.nxt_tool.specs.Programs.{HasProgramCause, IsProgramOf}
use Rattle.nxt_tool.specs.declared.fault.AcceptFault.TheVariants.{Refused}
use Rattle.nxt_tool.specs.declared.words.Command.TheVariants.{Run}
use Rattle.nxt_tool.specs.declared.words.Language.{Language}
use Rattle.nxt_tool.proofs.Reports.CutRuns.{cut_image}
use Rattle.nxt_tool.proofs.Reports.Ends.{due}
use Rattle.nxt_tool.proofs.Reports.Programs.{cut_program, no_memory_program, program_goes_on, ran_program, reads_program, refused_program, uncut_program, unread_program}
use Rattle.nxt_tool.proofs.Reports.Statuses.{long_list, read_is, read_not_done}
use Rattle.nxt_tool.proofs.entry.run.Goals as goal

pub returns-in-Err-clause-told : goal.returns-in-Err-clause-told
returns-in-Err-clause-told g c = λ b s bytes program script.
    rw c.of_read.ensures (unread_program c.args.language c.args.effort c.in-Err.fault b s _ bytes (λ large.
    let taken = c.in-Err.ensures.too_large (ap (λ (x : _). Err x) large) in
    long_list _ b 262144 program (Consumes-longer _ _ 262144 taken.0 taken.1 taken.2)))

if_told : (l : Language) (effort : ℕ) (o : Option (List ℕ)) → ((b : List ℕ) → o ≡ Some b → AcceptsProgram l b) → Accepts (Run l effort) o
if_told l effort None reads = tt
if_told l effort (Some b) reads = reads b refl

-- the bytes that were read are those of an accepted program
accepts : (l : Language) (b bytes lent : List ℕ) (image : Image) → bytes ≡ b → lent ≡ bytes → length bytes ≤ 262144 → IsProgramOf l lent image → AcceptsProgram l b
accepts l b bytes lent image same own few is = reads_program l b bytes image same few (subst (λ (x : List ℕ). IsProgramOf l x image) own is)

pub returns-in-Ok-machine_of_program-clause-read : goal.returns-in-Ok-machine_of_program-clause-read
returns-in-Ok-machine_of_program-clause-read g c =
    λ failed. inr (
      if_told c.args.language c.args.effort _ (λ b told.
          accepts c.args.language b c.in-Ok.bytes c.as_slice.result.now c.in-Ok-machine_of_program.machine.image (read_is _ b _ told c.in-Ok.ensures.all) c.as_slice.ensures c.in-Ok.ensures.within
          c.in-Ok-machine_of_program.ensures.accepted),
      c.run_program.ensures.read failed,
    )

pub returns-in-Ok-machine_of_program-clause-unread : goal.returns-in-Ok-machine_of_program-clause-unread
returns-in-Ok-machine_of_program-clause-unread g c =
    λ refused. absurd (refused (if_told c.args.language c.args.effort _ (λ b told.
    accepts c.args.language b c.in-Ok.bytes c.as_slice.result.now c.in-Ok-machine_of_program.machine.image (read_is _ b _ told c.in-Ok.ensures.all) c.as_slice.ensures c.in-Ok.ensures.within
    c.in-Ok-machine_of_program.ensures.accepted)))

pub returns-in-Ok-machine_of_program-clause-told : goal.returns-in-Ok-machine_of_program-clause-told
returns-in-Ok-machine_of_program-clause-told g c = λ b s bytes program script.
    let m = c.in-Ok-machine_of_program.machine in
    let l = c.args.language in
    let effort = c.args.effort in
    let same : c.in-Ok.bytes ≡ b = read_is _ b _ program c.in-Ok.ensures.all in
    let few : length b ≤ 262144 = subst (λ (x : List ℕ). length x ≤ 262144) same c.in-Ok.ensures.within in
    let is : IsProgramOf l b m.image = subst (λ (x : List ℕ). IsProgramOf l x m.image) (c.as_slice.ensures ∙ same) c.in-Ok-machine_of_program.ensures.accepted in
    let reads : AcceptsProgram l b = accepts l b c.in-Ok.bytes c.as_slice.result.now m.image same c.as_slice.ensures c.in-Ok.ensures.within c.in-Ok-machine_of_program.ensures.accepted in
    let found = due m effort c.in-Ok-machine_of_program.ensures.effort c.in-Ok-machine_of_program.ensures.start (program_goes_on l b m.image is effort) s _ _ c.run_program.result c.run_program.ensures.accepted (c.run_program.ensures.told s (script reads)) in
    (found.0, ran_program l effort b s m.image found.0 few is found.1, found.2)

pub returns-in-Err-NoMemory-clause-told : goal.returns-in-Err-NoMemory-clause-told
returns-in-Err-NoMemory-clause-told g c = λ b s bytes program script. no_memory_program c.args.language c.args.effort b s _ bytes

pub returns-clause-told : goal.returns-clause-told
returns-clause-told g c = λ b s bytes program script.
    let refusal = c.in-Err-Refused.refusal in
    let l = c.args.language in
    let same : c.in-Ok.bytes ≡ b = read_is _ b _ program c.in-Ok.ensures.all in
    let few : length b ≤ 262144 = subst (λ (x : List ℕ). length x ≤ 262144) same c.in-Ok.ensures.within in
    let cause : HasProgramCause l c.as_slice.result.now (Refused refusal) = rw c.in-Err-Refused.field-0-is at c.in-Err-Refused.ensures.accepted in
    let refused : HasProgramCause l b (Refused refusal) = subst (λ (x : List ℕ). HasProgramCause l x (Refused refusal)) (c.as_slice.ensures ∙ same) cause in
    (refused_answer refusal, refused_program l c.args.effort b s refusal few refused, c.refuse.ensures.told)

-- ---- a fault of the script's source

pub returns-in-Err-clause-cut : goal.returns-in-Err-clause-cut
returns-in-Err-clause-cut g c = λ b s program reads script failed. uncut_program c.args.language c.args.effort b s reads _ _

pub returns-in-Ok-machine_of_program-clause-cut : goal.returns-in-Ok-machine_of_program-clause-cut
returns-in-Ok-machine_of_program-clause-cut g c = λ b s program reads script failed.
    let m = c.in-Ok-machine_of_program.machine in
    let l = c.args.language in
    let same : c.in-Ok.bytes ≡ b = read_is _ b _ program c.in-Ok.ensures.all in
    let is : IsProgramOf l b m.image = subst (λ (x : List ℕ). IsProgramOf l x m.image) (c.as_slice.ensures ∙ same) c.in-Ok-machine_of_program.ensures.accepted in
    cut_program l c.args.effort b m.image is s _ _ _ _
    (cut_image m c.args.effort c.in-Ok-machine_of_program.ensures.effort c.in-Ok-machine_of_program.ensures.start s _ _ _ _ (c.run_program.ensures.cut s script failed))

pub returns-in-Err-NoMemory-clause-cut : goal.returns-in-Err-NoMemory-clause-cut
returns-in-Err-NoMemory-clause-cut g c = λ b s program reads script failed. absurd cc

pub returns-clause-cut : goal.returns-clause-cut
returns-clause-cut g c = λ b s program reads script failed. absurd (c.refuse.ensures.only.0 failed)

-- ---- the end of the script

pub returns-in-Err-clause-done : goal.returns-in-Err-clause-done
returns-in-Err-clause-done g c done = absurd (read_not_done c.in-Err.fault (sym c.of_read.ensures ∙ done))

pub returns-clause-done : goal.returns-clause-done
returns-clause-done g c done = absurd (c.refuse.ensures.refused done)
