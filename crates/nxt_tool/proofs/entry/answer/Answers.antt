-- What is due to each command, and to words of no form.
use Rattle.std.proofs.Common.{rules, ◌≡◌, refl, Some, None, [], inl, inr, ⊎_elim}
use Rattle.nxt_tool.specs.Due.{answer}
use Rattle.nxt_tool.specs.Words.{command_of, texts_of}
use Rattle.nxt_tool.specs.declared.words.Command.TheVariants.{Run, Assemble, Describe, Generate}
use Rattle.nxt_report.specs.declared.status.Status.TheVariants as status
use Rattle.nxt_tool.proofs.Reports.Programs.{no_image_program}
use Rattle.nxt_tool.proofs.Reports.Statuses.{unused, unwritten, no_image_description, due_to, no_words_answer}
use Rattle.nxt_tool.proofs.Reports.Generated.{no_image_generated}
use Rattle.nxt_tool.proofs.Reports.CutRuns.{reads_as}
use Rattle.nxt_tool.proofs.entry.answer.Goals as goal

pub returns-in-Some-Run-clause-told : goal.returns-in-Some-Run-clause-told
returns-in-Some-Run-clause-told g c = λ b s bytes program script.
    let words = texts_of c.args.words.now in
    let form : command_of words ≡ Some (Run c.in-Some-Run.language c.in-Some-Run.effort) = search rules in
    let told = c.run.ensures.told b s bytes (program (search rules)) (λ reads. script (Run c.in-Some-Run.language c.in-Some-Run.effort, form, reads)) in (
      told.0,
      due_to words (Some (Run c.in-Some-Run.language c.in-Some-Run.effort)) b s told.0 form told.1,
      record { report_text = told.2; image_text = unused c.run.result told.0 _ _ _ (no_image_program c.in-Some-Run.language c.in-Some-Run.effort b s told.0 told.1) told.2; in_turn = inr (unwritten told.0 _ (no_image_program c.in-Some-Run.language c.in-Some-Run.effort b s told.0 told.1)) },
    )

pub returns-in-Some-Run-clause-read : goal.returns-in-Some-Run-clause-read
returns-in-Some-Run-clause-read g c = λ failed.
    let words = texts_of c.args.words.now in
    let form : command_of words ≡ Some (Run c.in-Some-Run.language c.in-Some-Run.effort) = search rules in
    ⊎_elim inl (λ rose. inr ((Run c.in-Some-Run.language c.in-Some-Run.effort, form, rose.0), rose.1)) (c.run.ensures.read failed)

pub returns-in-Some-Run-clause-script : goal.returns-in-Some-Run-clause-script
returns-in-Some-Run-clause-script g c = λ no.
    let words = texts_of c.args.words.now in
    let form : command_of words ≡ Some (Run c.in-Some-Run.language c.in-Some-Run.effort) = search rules in
    c.run.ensures.unread (λ accepts. no (Run c.in-Some-Run.language c.in-Some-Run.effort, form, accepts))

pub returns-in-Some-Assemble-clause-told : goal.returns-in-Some-Assemble-clause-told
returns-in-Some-Assemble-clause-told g c = λ b s bytes program script.
    let words = texts_of c.args.words.now in
    let form : command_of words ≡ Some Assemble = search rules in
    let told = c.assemble_file.ensures.told b bytes (program (search rules)) in
    (told.0, due_to words (Some Assemble) b s told.0 form told.1, told.2)

pub returns-in-Some-Assemble-clause-write : goal.returns-in-Some-Assemble-clause-write
returns-in-Some-Assemble-clause-write g c = λ failed.
    let words = texts_of c.args.words.now in
    let form : command_of words ≡ Some Assemble = search rules in
    ⊎_elim inl (λ rose. inr ((form, rose.0), rose.1)) (c.assemble_file.ensures.write failed)

pub returns-in-Some-Assemble-clause-image : goal.returns-in-Some-Assemble-clause-image
returns-in-Some-Assemble-clause-image g c = λ no.
    let words = texts_of c.args.words.now in
    let form : command_of words ≡ Some Assemble = search rules in
    c.assemble_file.ensures.unwritten (λ images. no (form, images))

pub returns-in-Some-Describe-clause-told : goal.returns-in-Some-Describe-clause-told
returns-in-Some-Describe-clause-told g c = λ b s bytes program script.
    let words = texts_of c.args.words.now in
    let d = c.in-Some-Describe.description in
    let form : command_of words ≡ Some (Describe d) = search rules in
    let told = c.describe_file.ensures.told b bytes (program (search rules)) in (
      told.0,
      due_to words (Some (Describe d)) b s told.0 form told.1,
      record { report_text = told.2; image_text = unused c.describe_file.result told.0 _ _ _ (no_image_description d b told.0 told.1) told.2; in_turn = inr (unwritten told.0 _ (no_image_description d b told.0 told.1)) },
    )

pub returns-in-Some-Generate-clause-told : goal.returns-in-Some-Generate-clause-told
returns-in-Some-Generate-clause-told g c = λ b s bytes program script.
    let words = texts_of c.args.words.now in
    let n = c.in-Some-Generate.number in
    let form : command_of words ≡ Some (Generate n) = search rules in
    let told = c.tell_generated.ensures.told in (
      told.0,
      due_to words (Some (Generate n)) b s told.0 form told.1,
      record { report_text = told.2; image_text = unused c.tell_generated.result told.0 _ _ _ (no_image_generated n told.0 told.1) told.2; in_turn = inr (unwritten told.0 _ (no_image_generated n told.0 told.1)) },
    )

pub returns-in-None-clause-told : goal.returns-in-None-clause-told
returns-in-None-clause-told g c = λ b s bytes program script.
    let words = texts_of c.args.words.now in
    let form : command_of words ≡ None = search rules in
    (answer status.Words [] [], due_to words None b s (answer status.Words [] []) form refl, no_words_answer _ _)

-- ---- a fault of the script's source

pub returns-in-Some-Run-clause-cut : goal.returns-in-Some-Run-clause-cut
returns-in-Some-Run-clause-cut g c = λ b s program uses script failed.
    let words = texts_of c.args.words.now in
    let form : command_of words ≡ Some (Run c.in-Some-Run.language c.in-Some-Run.effort) = search rules in
    (Run c.in-Some-Run.language c.in-Some-Run.effort, form, c.run.ensures.cut b s program (reads_as words b (Run c.in-Some-Run.language c.in-Some-Run.effort) form uses) script failed)

pub returns-in-Some-Assemble-clause-cut : goal.returns-in-Some-Assemble-clause-cut
returns-in-Some-Assemble-clause-cut g c = λ b s program uses script failed.
    let words = texts_of c.args.words.now in
    let form : command_of words ≡ Some Assemble = search rules in
    absurd (reads_as words b Assemble form uses)

pub returns-in-Some-Describe-clause-cut : goal.returns-in-Some-Describe-clause-cut
returns-in-Some-Describe-clause-cut g c = λ b s program uses script failed.
    let words = texts_of c.args.words.now in
    let form : command_of words ≡ Some (Describe c.in-Some-Describe.description) = search rules in
    absurd (reads_as words b (Describe c.in-Some-Describe.description) form uses)

pub returns-in-Some-Generate-clause-cut : goal.returns-in-Some-Generate-clause-cut
returns-in-Some-Generate-clause-cut g c = λ b s program uses script failed.
    let words = texts_of c.args.words.now in
    let form : command_of words ≡ Some (Generate c.in-Some-Generate.number) = search rules in
    absurd (reads_as words b (Generate c.in-Some-Generate.number) form uses)

-- ---- the end of the script

pub returns-in-Some-Run-clause-done : goal.returns-in-Some-Run-clause-done
returns-in-Some-Run-clause-done g c l effort form done = c.run.ensures.done done
