-- What is due to a program that is run, by how it is written.
use Rattle.std.proofs.Common.{◌≡◌, ℕ, ◌≤◌, List, [], Option, true, sym, subst, length}
use Rattle.std.specs.Prelude.{nat_lt}
use Rattle.nxt_edge.specs.Edge.{AreBytes}
use Rattle.nxt_edge.specs.declared.read_write.ReadAllFault.{ReadAllFault}
use Rattle.nxt_edge.specs.declared.read_write.ReadAllFault.TheVariants.{TooLarge}
use Rattle.nxt_model.specs.Image.{Image}
use Rattle.nxt_model.specs.Report.{setting, text_setting}
use Rattle.nxt_report.specs.declared.status.Status.TheVariants as status
use Rattle.nxt_tool.specs.Accepted.{IsAcceptedAs}
use Rattle.nxt_tool.specs.Assembling.{IsTextImage}
use Rattle.nxt_tool.specs.Cut.{CutReport, CutRun}
use Rattle.nxt_tool.specs.Due.{AcceptsProgram, Answer, Meets, RunOn, Runs, read_status, refused_answer}
use Rattle.nxt_tool.specs.Programs.{HasProgramCause, IsProgramOf}
use Rattle.nxt_tool.specs.declared.fault.AcceptFault.TheVariants.{Refused}
use Rattle.nxt_tool.specs.declared.fault.Refusal.{Refusal}
use Rattle.nxt_tool.specs.declared.words.Command.TheVariants.{Run}
use Rattle.nxt_tool.specs.declared.words.Language.{Language}
use Rattle.nxt_tool.specs.declared.words.Language.TheVariants.{Rxe, Nbc}
use Rattle.nxt_tool.proofs.Reports.CutRuns.{cut_text, uncut}
use Rattle.nxt_tool.proofs.Reports.Going.{GoesOn, assembled_goes_on, image_goes_on}
use Rattle.nxt_tool.proofs.Reports.Statuses.{accepted_run, no_image, no_memory_run, refused_run, unread_run}
use Rattle.nxt_tool.proofs.Reports.TextRuns.{no_image_text, no_memory_text_run, refused_text_run, spelled_text_run, text_on, unread_text_run}

-- nothing is written where a program isn't read to its end
pub unread_program : (l : Language) (effort : ℕ) (fault : ReadAllFault) (program script : List ℕ) (w : Option (List ℕ)) → AreBytes program
    → (fault ≡ TooLarge → nat_lt 262144 (length program) ≡ true) → (a : Answer) × Runs l effort program script a × Meets (read_status fault) a w w
unread_program Rxe effort fault program script w bytes long = unread_run effort fault program script w bytes long
unread_program Nbc effort fault program script w bytes long = unread_text_run effort fault program script w long

pub no_memory_program : (l : Language) (effort : ℕ) (program script : List ℕ) (w : Option (List ℕ)) → AreBytes program → (a : Answer) × Runs l effort program script a × Meets status.NoMemory a w w
no_memory_program Rxe effort program script w bytes = no_memory_run effort program script w bytes
no_memory_program Nbc effort program script w bytes = no_memory_text_run effort program script w

-- no image text is due to a run
pub no_image_program : (l : Language) (effort : ℕ) (program script : List ℕ) (a : Answer) → Runs l effort program script a → a.image ≡ []
no_image_program Rxe effort program script a due = no_image effort program script a due
no_image_program Nbc effort program script a due = no_image_text effort program script a due

-- the line of a refused program is due
pub refused_program : (l : Language) (effort : ℕ) (program script : List ℕ) (r : Refusal) → length program ≤ 262144 → HasProgramCause l program (Refused r) → Runs l effort program script (refused_answer r)
refused_program Rxe effort program script r few refused = refused_run effort program script r few refused
refused_program Nbc effort program script r few refused = refused_text_run effort program script r few refused

-- ---- accepted programs

-- the script is read behind a program that is accepted
pub reads_program : (l : Language) (b bytes : List ℕ) (image : Image) → bytes ≡ b → length bytes ≤ 262144 → IsProgramOf l bytes image → AcceptsProgram l b
reads_program Rxe b bytes image same within accepted =
    record {
      within = subst (λ (l : List ℕ). length l ≤ 262144) same within;
      image = image;
      accepted = subst (λ (l : List ℕ). IsAcceptedAs l image) same accepted;
    }
reads_program Nbc b bytes image same within is =
    let own : IsTextImage b image = subst (λ (l : List ℕ). IsTextImage l image) same is in
    record { within = subst (λ (l : List ℕ). length l ≤ 262144) same within; text = own.program; spelled = own.spelled; kept = own.kept }

-- whatever is told of it goes on to a whole report
pub program_goes_on : (l : Language) (b : List ℕ) (image : Image) → IsProgramOf l b image → (effort : ℕ) → GoesOn (setting image effort)
program_goes_on Rxe b image accepted effort = image_goes_on b image accepted effort
program_goes_on Nbc b image is effort = subst (λ i. GoesOn (setting i effort)) (sym is.image_is) (assembled_goes_on b is.program is.spelled is.kept effort)

-- what is due to a script on its image is due
pub ran_program : (l : Language) (effort : ℕ) (b s : List ℕ) (image : Image) (a : Answer) → length b ≤ 262144 → IsProgramOf l b image → RunOn image effort s a → Runs l effort b s a
ran_program Rxe effort b s image a few accepted on = accepted_run effort b s image a few accepted on
ran_program Nbc effort b s image a few is on =
    spelled_text_run effort b s is.program a few is.spelled is.kept
    (text_on b is.program is.spelled is.kept effort s a (subst (λ i. RunOn i effort s a) is.image_is on))

-- ---- a fault of the script's source

-- a report of its image, with no last line, is one of the program
pub cut_program : (l : Language) (effort : ℕ) (b : List ℕ) (image : Image) → IsProgramOf l b image → (script : List ℕ) (left left' old new : Option (List ℕ))
    → CutReport (setting image effort) script left left' old new → CutRun (Run l effort) b script left left' old new
cut_program Rxe effort b image accepted script left left' old new cut = (image, accepted, cut)
cut_program Nbc effort b image is script left left' old new cut = (
  is.program,
  is.spelled,
  is.kept,
  cut_text b is.program is.spelled is.kept effort script left left' old new (subst (λ i. CutReport (setting i effort) script left left' old new) is.image_is cut),
)

-- where the program isn't read to its end nothing is read of the script, and nothing written
pub uncut_program : (l : Language) (effort : ℕ) (b script : List ℕ) → AcceptsProgram l b → (left written : Option (List ℕ)) → CutRun (Run l effort) b script left left written written
uncut_program Rxe effort b script reads left written = (reads.image, reads.accepted, uncut (setting reads.image effort) script left written)
uncut_program Nbc effort b script reads left written = (reads.text, reads.spelled, reads.kept, uncut (text_setting reads.text effort) script left written)
