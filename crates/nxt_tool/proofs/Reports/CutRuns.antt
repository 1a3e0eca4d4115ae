-- What is reported of a program whose script's source fails.
use Rattle.std.proofs.Common.{◌≡◌, ℕ, List, [], take, Option, Some, refl, sym, ◌∙◌, subst, arith}
use Rattle.std.proofs.lemmas.List.{append-nil}
use Rattle.std.specs.Prelude.{IfSome, flat_map}
use Rattle.nxt_edge.proofs.Laws.{Consumes-none, Appends-none}
use Rattle.nxt_types.specs.Refusals.{IsAccepted}
use Rattle.nxt_asm_rules.specs.AsmRules.{Broken}
use Rattle.nxt_machine.specs.Machines.{MachineViews}
use Rattle.nxt_model.specs.Assembled.{assembled}
use Rattle.nxt_model.specs.Image.{program_of}
use Rattle.nxt_model.specs.Program.{start}
use Rattle.nxt_model.specs.Report.{Setting, setting, text_setting}
use Rattle.nxt_model.specs.Step.{events_of}
use Rattle.nxt_model.specs.TextProgram.{Text}
use Rattle.nxt_nbc.specs.Checked.{Spells}
use Rattle.nxt_report.specs.Cut.{CutText}
use Rattle.nxt_script.specs.Rows.{rows}
use Rattle.nxt_tool.specs.Cut.{CutReport}
use Rattle.nxt_tool.specs.Due.{ReadsScript, UsesScript}
use Rattle.nxt_tool.specs.Words.{command_of}
use Rattle.nxt_tool.specs.declared.words.Command.{Command}
use Rattle.nxt_tool.proofs.Reports.Ends.{tells_from}
use Rattle.nxt_tool.proofs.Reports.Going.{text_tells}

-- ---- runs

-- what a machine told of the first rows is a report of its image, with no last line
pub cut_image : (m : MachineViews) (effort : ℕ) → m.effort ≡ effort → m.state ≡ start (program_of m.image) → (script : List ℕ) (left left' old new : Option (List ℕ)) → CutText m script left left' old new
    → CutReport (setting m.image effort) script left left' old new
cut_image m effort same first script left left' old new cut = record {
  m = cut.m;
  taken = cut.taken;
  text = cut.text;
  consumes = cut.consumes;
  ran = cut.ran;
  is = (cut.text, tells_from m effort same first (flat_map events_of (take cut.m (rows script).rows)) cut.text cut.told, sym (append-nil cut.text));
  wrote = cut.wrote;
}

-- and of the text of that image
pub cut_text : (text : List ℕ) (t : Text) → Spells text t → IsAccepted (Broken t) → (effort : ℕ) (script : List ℕ) (left left' old new : Option (List ℕ)) → CutReport (setting (assembled t) effort) script left left' old new
    → CutReport (text_setting t effort) script left left' old new
cut_text text t spelled kept effort script left left' old new cut = record {
  m = cut.m;
  taken = cut.taken;
  text = cut.text;
  consumes = cut.consumes;
  ran = cut.ran;
  is = (cut.is.0, text_tells text t spelled kept effort (flat_map events_of (take cut.m (rows script).rows)) cut.is.0 cut.is.1, cut.is.2);
  wrote = cut.wrote;
}

-- where the program isn't read to its end nothing is read of the script, and nothing written
pub uncut : (s : Setting) (script : List ℕ) (left written : Option (List ℕ)) → CutReport s script left left written written
uncut s script left written = record {
  m = 0;
  taken = [];
  text = [];
  consumes = Consumes-none left;
  ran = record { within = omega arith; far = omega arith };
  is = ([], refl, refl);
  wrote = Appends-none written;
}

-- ---- commands

-- a command that reads a script is the one that its words spell
pub reads_as : (words : List (List ℕ)) (b : List ℕ) (k : Command) → command_of words ≡ Some k → UsesScript words b → ReadsScript k b
reads_as words b k form uses = by (sym uses.1 ∙ form)
  where
    by : Some uses.0 ≡ Some k → ReadsScript k b
    by same = subst (λ (o : Option Command). IfSome o (λ c. ReadsScript c b)) same uses.2
