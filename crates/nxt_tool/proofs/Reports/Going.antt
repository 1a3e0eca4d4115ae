-- What was told goes on to a whole report, and what an image may tell its text may tell.
use Rattle.std.proofs.Common.{ℕ, List, ◌++◌, Option, None, sym, subst}
use Rattle.nxt_types.specs.Refusals.{IsAccepted}
use Rattle.nxt_asm_rules.specs.AsmRules.{Broken}
use Rattle.nxt_model.specs.Assembled.{assembled}
use Rattle.nxt_model.specs.Dump.{Mark}
use Rattle.nxt_model.specs.declared.event.Event.{Event}
use Rattle.nxt_model.specs.Image.{Image}
use Rattle.nxt_model.specs.Program.{State, start}
use Rattle.nxt_model.specs.Report.{Setting, Tells, Told, setting, text_setting}
use Rattle.nxt_model.specs.TextProgram.{Text}
use Rattle.nxt_layout.specs.Start.{image_of}
use Rattle.nxt_dumps.proofs.Laws.Files.{few_entries, runnable_parts}
use Rattle.nxt_dumps.proofs.Laws.GoesOn.{told_goes_on}
use Rattle.nxt_nbc.specs.Checked.{Spells}
use Rattle.nxt_asm_laws_runs.proofs.Spelled.{spelled_faithful, spelled_runnable}
use Rattle.nxt_tool.specs.Accepted.{IsAcceptedAs}

-- whatever events told and whatever comes, some whole text begins with what was told
abbrev pub GoesOn : Setting → Type 0
GoesOn s =
    (es more : List Event) (text : List ℕ) (st : State) (mark : Option Mark) → Told s (start s.program) None es text st mark
    → (rest : List ℕ) × Tells s (start s.program) None (es ++ more) (text ++ rest)

pub image_goes_on : (file : List ℕ) (image : Image) → IsAcceptedAs file image → (effort : ℕ) → GoesOn (setting image effort)
image_goes_on file image accepted effort =
    let p = accepted.0 in
    let is = accepted.2 in
    subst (λ i. GoesOn (setting i effort)) (sym is.image_is)
    (told_goes_on (setting (image_of p is.shapes is.vars) effort) (runnable_parts p is.shapes is.vars (few_entries file p accepted.1) is.sound.layout is.sound.code is.starts effort))

module _ (text : List ℕ) (t : Text) (spelled : Spells text t) (kept : IsAccepted (Broken t)) (effort : ℕ) where
  pub assembled_goes_on : GoesOn (setting (assembled t) effort)
  assembled_goes_on = told_goes_on (setting (assembled t) effort) (spelled_runnable effort text t spelled kept)

  -- dumps and all
  pub text_tells : (es : List Event) (told : List ℕ) → Tells (setting (assembled t) effort) (start (setting (assembled t) effort).program) None es told
      → Tells (text_setting t effort) (start (text_setting t effort).program) None es told
  text_tells = (spelled_faithful text t spelled kept).tells effort
