-- The answer that is due to a command, and what a call does of it.
use Rattle.std.specs.Prelude.{◌≡◌, ◌⊎◌, ◌≤◌, ℕ, List, [], length, nat_lt, Bool, true, false, MatchBool, Option, Some, None, IfSome, IsSome}
use Rattle.std.specs.Io.KnownBytes.{Appends}
use Rattle.nxt_edge.specs.Edge.{AppendsFront, Rose}
use Rattle.nxt_model.specs.Image.{Image}
use Rattle.nxt_model.specs.Report.{IsReport, setting, text_setting}
use Rattle.nxt_model.specs.TextProgram.{Text}
use Rattle.nxt_types.specs.Refusals.{IsAccepted}
use Rattle.nxt_nbc.specs.Checked.{Spells}
use Rattle.nxt_asm_rules.specs.AsmRules as assembler_rules
use Rattle.nxt_tool.specs.declared.words.Command.{Command}
use Rattle.nxt_tool.specs.declared.words.Command.TheVariants.{Run, Assemble, Describe, Generate}
use Rattle.nxt_tool.specs.declared.words.Description.{Description}
use Rattle.nxt_tool.specs.declared.words.Language.{Language}
use Rattle.nxt_tool.specs.declared.words.Language.TheVariants.{Rxe, Nbc}
use Rattle.nxt_tool.specs.Words.{command_of, program_word}
use Rattle.nxt_tool.specs.Accepted.{IsAcceptedAs, IsRefused, IsDescribed, refused_line}
use Rattle.nxt_tool.specs.Assembling.{IsAssembled, IsGenerated, IsRefusedText}
use Rattle.nxt_tool.specs.Refused.{told}
use Rattle.nxt_tool.specs.declared.fault.Refusal.{Refusal}
use Rattle.nxt_machine.specs.Machines.{MachineViews}
use Rattle.nxt_report.specs.Running.{Reports, ReportsUpTo}
use Rattle.nxt_report.specs.Statuses.{IsRunEnd, status_of}
use Rattle.nxt_script.specs.Rows.{Listing, rows}
use Rattle.nxt_edge.specs.declared.read_write.ReadAllFault.{ReadAllFault}
use Rattle.nxt_edge.specs.declared.read_write.ReadAllFault.TheVariants as read
use Rattle.nxt_report.specs.declared.writing.Fault.{Fault}
use Rattle.nxt_report.specs.declared.writing.Fault.TheVariants as faults
use Rattle.nxt_report.specs.declared.status.Status.{Status}
use Rattle.nxt_report.specs.declared.status.Status.TheVariants as statuses

-- a status, the text for the image and the text for the report
pub record Answer : Type 0 where
  pub status : Status
  pub image : List ℕ
  pub report : List ℕ

abbrev pub answer : Status → List ℕ → List ℕ → Answer
answer status image report = record { status = status; image = image; report = report }

-- a report of a script's rows on an image, with an effort
abbrev pub RunOn : Image → ℕ → List ℕ → Answer → Type 0
RunOn image effort script a =
    (text : List ℕ)
    × IsReport (setting image effort) (rows script).rows (rows script).end text
    × (a ≡ answer (status_of (rows script).end) [] text)

-- and on what a text spells, by the meaning of its own statements
abbrev pub RunOnText : Text → ℕ → List ℕ → Answer → Type 0
RunOnText t effort script a =
    (text : List ℕ)
    × IsReport (text_setting t effort) (rows script).rows (rows script).end text
    × (a ≡ answer (status_of (rows script).end) [] text)

-- ended by neither a fault nor want of memory
abbrev pub is_settled : Status → Bool
is_settled statuses.Done = true
is_settled statuses.Refused = true
is_settled statuses.Words = true
is_settled statuses.ReadFault = false
is_settled statuses.WriteFault = false
is_settled statuses.NoMemory = false
is_settled statuses.ScriptRefused = true
is_settled statuses.TooLarge = true

-- with this status a call gave the answer whole, or after a fault or want of memory a front of its text
abbrev pub Meets : Status → Answer → Option (List ℕ) → Option (List ℕ) → Type 0
Meets statuses.Done d old new = (statuses.Done ≡ d.status) × Appends old new d.report
Meets statuses.Refused d old new = (statuses.Refused ≡ d.status) × Appends old new d.report
Meets statuses.Words d old new = (statuses.Words ≡ d.status) × Appends old new d.report
Meets statuses.ScriptRefused d old new = (statuses.ScriptRefused ≡ d.status) × Appends old new d.report
Meets statuses.TooLarge d old new = (statuses.TooLarge ≡ d.status) × Appends old new d.report
Meets statuses.ReadFault d old new = AppendsFront old new d.report
Meets statuses.WriteFault d old new = AppendsFront old new d.report
Meets statuses.NoMemory d old new = AppendsFront old new d.report

abbrev pub read_status : ReadAllFault → Status
read_status read.Failed = statuses.ReadFault
read_status read.TooLarge = statuses.TooLarge
read_status read.NoMemory = statuses.NoMemory

abbrev pub fault_status : Fault → Status
fault_status faults.Read = statuses.ReadFault
fault_status faults.Write = statuses.WriteFault
fault_status faults.NoMemory = statuses.NoMemory

-- the run of rows on a machine ended so: with a whole report and its status, or after a fault or want of memory with a front of
-- a report, as far as it goes
pub record Ended (m : MachineViews) (l : Listing) (s : Status) (old new : Option (List ℕ)) : Type 0 where
  pub whole : IsRunEnd s → (s ≡ status_of l.end) × ((text : List ℕ) × Reports m l text × Appends old new text)
  pub part : (IsRunEnd s → ⊥) → (text : List ℕ) × ReportsUpTo m l text × AppendsFront old new text

-- ---- commands

abbrev pub most_program_bytes : ℕ
most_program_bytes = 262144

-- a refused file has its line
abbrev pub refused_answer : Refusal → Answer
refused_answer r = answer statuses.Refused [] (refused_line (told r))

-- an accepted one has what is told of it
abbrev pub described_answer : List ℕ → Answer
described_answer text = answer statuses.Done [] text

-- of an accepted file `go` says what is due
abbrev pub OfFile : List ℕ → (Image → Answer → Type 0) → Answer → Type 0
OfFile bytes go a =
    ((r : Refusal) × IsRefused bytes r × (a ≡ refused_answer r)) ⊎ ((image : Image) × IsAcceptedAs bytes image × go image a)

-- a program that is too large, or another, of which `go` says what is due
abbrev pub Within : List ℕ → (List ℕ → Answer → Type 0) → Answer → Type 0
Within program go a = MatchBool (nat_lt most_program_bytes (length program)) (a ≡ answer statuses.TooLarge [] []) (go program a)

-- an answer to an image and a script, with an effort: the line of its first broken rule, or a report
abbrev pub OnImage : ℕ → List ℕ → List ℕ → Answer → Type 0
OnImage effort program script a = OfFile program (λ image. RunOn image effort script) a

-- and to a text and a script: the line of its first broken rule, or a report on what it spells
abbrev pub OnText : ℕ → List ℕ → List ℕ → Answer → Type 0
OnText effort text script a =
    ((r : Refusal) × IsRefusedText text r × (a ≡ refused_answer r))
    ⊎ ((t : Text) × Spells text t × IsAccepted (assembler_rules.Broken t) × RunOnText t effort script a)

abbrev pub OnProgram : Language → ℕ → List ℕ → List ℕ → Answer → Type 0
OnProgram Rxe effort program script a = OnImage effort program script a
OnProgram Nbc effort program script a = OnText effort program script a

abbrev pub Runs : Language → ℕ → List ℕ → List ℕ → Answer → Type 0
Runs language effort program script a = Within program (λ bytes. OnProgram language effort bytes script) a

-- the answer to a program that is described: the line of its first broken rule, or what is told of it
abbrev pub DescribedFile : Description → List ℕ → Answer → Type 0
DescribedFile d bytes a =
    ((r : Refusal) × IsRefused bytes r × (a ≡ refused_answer r))
    ⊎ ((text : List ℕ) × IsDescribed d bytes text × (a ≡ described_answer text))

abbrev pub Describes : Description → List ℕ → Answer → Type 0
Describes d program a = Within program (DescribedFile d) a

-- the answer to a text that is assembled: the line of its first broken rule, or its image and what is told of it
abbrev pub assembled_answer : List ℕ → List ℕ → Answer
assembled_answer file line = answer statuses.Done file line

abbrev pub AssembledText : List ℕ → Answer → Type 0
AssembledText text a =
    ((r : Refusal) × IsRefusedText text r × (a ≡ refused_answer r))
    ⊎ ((file line : List ℕ) × IsAssembled text file line × (a ≡ assembled_answer file line))

abbrev pub Assembles : List ℕ → Answer → Type 0
Assembles program a = Within program AssembledText a

-- the answer to a number: what is told of the run of the program that it gives
abbrev pub Generated : ℕ → Answer → Type 0
Generated n a = (text : List ℕ) × IsGenerated n text × (a ≡ described_answer text)

abbrev pub DueTo : Option Command → List ℕ → List ℕ → Answer → Type 0
DueTo None program script a = a ≡ answer statuses.Words [] []
DueTo (Some (Run language effort)) program script a = Runs language effort program script a
DueTo (Some Assemble) program script a = Assembles program a
DueTo (Some (Describe d)) program script a = Describes d program a
DueTo (Some (Generate n)) program script a = Generated n a

abbrev pub Due : List (List ℕ) → List ℕ → List ℕ → Answer → Type 0
Due words program script a = DueTo (command_of words) program script a

-- ---- what is used

abbrev pub UsesProgram : List (List ℕ) → Type 0
UsesProgram words = IsSome (program_word (length words) (command_of words))

-- an image that is neither too large nor refused
pub record AcceptsImage (program : List ℕ) : Type 0 where
  pub within : length program ≤ 262144
  pub image : Image
  pub accepted : IsAcceptedAs program image

-- and such a text
pub record AcceptsText (program : List ℕ) : Type 0 where
  pub within : length program ≤ 262144
  pub text : Text
  pub spelled : Spells program text
  pub kept : IsAccepted (assembler_rules.Broken text)

abbrev pub AcceptsProgram : Language → List ℕ → Type 0
AcceptsProgram Rxe program = AcceptsImage program
AcceptsProgram Nbc program = AcceptsText program

-- behind such a program the script is read
abbrev pub ReadsScript : Command → List ℕ → Type 0
ReadsScript (Run language effort) program = AcceptsProgram language program
ReadsScript Assemble program = ⊥
ReadsScript (Describe d) program = ⊥
ReadsScript (Generate n) program = ⊥

abbrev pub UsesScript : List (List ℕ) → List ℕ → Type 0
UsesScript words program = (c : Command) × (command_of words ≡ Some c) × ReadsScript c program

-- the program's bytes, where they are told, are those of a program behind which the script is read
abbrev pub Accepts : Command → Option (List ℕ) → Type 0
Accepts c program = IfSome program (ReadsScript c)

abbrev pub MayReadScript : List (List ℕ) → Option (List ℕ) → Type 0
MayReadScript words program = (c : Command) × (command_of words ≡ Some c) × Accepts c program

-- a text that is neither too large nor refused, so that its image is written
pub record WritesImage (program : List ℕ) : Type 0 where
  pub within : length program ≤ 262144
  pub file : List ℕ
  pub line : List ℕ
  pub assembled : IsAssembled program file line

-- the text's bytes, where they are told, are those of a text whose image is written
abbrev pub Images : Option (List ℕ) → Type 0
Images program = IfSome program WritesImage

abbrev pub MayWriteImage : List (List ℕ) → Option (List ℕ) → Type 0
MayWriteImage words program = (command_of words ≡ Some Assemble) × Images program

-- each sink got its text whole, or a front of it, and the report nothing before the image is whole
pub record Answers (s : Status) (d : Answer) (image image' report report' : Option (List ℕ)) : Type 0 where
  pub report_text : Meets s d report report'
  pub image_text : Meets s (record d { report = d.image }) image image'
  pub in_turn : Appends report report' [] ⊎ Appends image image' d.image

-- no fault came: each count that may have risen stayed
abbrev pub IsQuiet : ℕ → ℕ → Type 0
IsQuiet before now = Rose before now → ⊥

-- it isn't one of the statuses that come before the script is read
abbrev pub NotRefused : Status → Type 0
NotRefused s = (s ≡ statuses.Refused → ⊥) × (s ≡ statuses.Words → ⊥)
