-- What is reported where the source of a script fails.
use Rattle.std.specs.Prelude.{ℕ, List, take, Option}
use Rattle.std.specs.Io.KnownBytes.{Consumes, Appends}
use Rattle.nxt_model.specs.Image.{Image}
use Rattle.nxt_model.specs.Report.{Setting, IsReport, TooLarge, setting, text_setting}
use Rattle.nxt_model.specs.TextProgram.{Text}
use Rattle.nxt_types.specs.Refusals.{IsAccepted}
use Rattle.nxt_nbc.specs.Checked.{Spells}
use Rattle.nxt_asm_rules.specs.AsmRules as assembler_rules
use Rattle.nxt_script.specs.Rows.{rows}
use Rattle.nxt_report.specs.Cut.{RanRows}
use Rattle.nxt_tool.specs.Accepted.{IsAcceptedAs}
use Rattle.nxt_tool.specs.declared.words.Command.{Command}
use Rattle.nxt_tool.specs.declared.words.Command.TheVariants.{Run, Assemble, Describe, Generate}
use Rattle.nxt_tool.specs.declared.words.Language.TheVariants.{Rxe, Nbc}

-- a report of the first rows was written, and no last line
pub record CutReport (s : Setting) (script : List ℕ) (left left' old new : Option (List ℕ)) : Type 0 where
  pub m : ℕ
  pub taken : List ℕ
  pub text : List ℕ
  pub consumes : Consumes left left' taken
  pub ran : RanRows script taken m
  pub is : IsReport s (take m (rows script).rows) TooLarge text
  pub wrote : Appends old new text

-- so it is of the program that a command runs
abbrev pub CutRun : Command → List ℕ → List ℕ → Option (List ℕ) → Option (List ℕ) → Option (List ℕ) → Option (List ℕ) → Type 0
CutRun (Run Rxe effort) program script left left' old new = (image : Image) × IsAcceptedAs program image × CutReport (setting image effort) script left left' old new
CutRun (Run Nbc effort) program script left left' old new = (t : Text) × Spells program t × IsAccepted (assembler_rules.Broken t) × CutReport (text_setting t effort) script left left' old new
CutRun Assemble program script left left' old new = ⊥
CutRun (Describe d) program script left left' old new = ⊥
CutRun (Generate n) program script left left' old new = ⊥
