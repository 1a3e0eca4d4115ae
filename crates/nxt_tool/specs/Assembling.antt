-- Texts that are assembled, and those that are refused.
use Rattle.std.specs.Prelude.{◌≡◌, ℕ, List, [], ◌∷◌, length, flat_map, codes, decimal, Some}
use Rattle.nxt_types.specs.Refusals.{IsRefusal, IsAccepted}
use Rattle.nxt_model.specs.Assembled.{assembled}
use Rattle.nxt_model.specs.Image.{Image}
use Rattle.nxt_model.specs.LineText.{line_of}
use Rattle.nxt_model.specs.declared.event.ScriptRow.{ScriptRow}
use Rattle.nxt_gen.specs.Generator.{generated_rows, generated_text, told_of}
use Rattle.nxt_model.specs.Nbc.NbcRules as text_rules
use Rattle.nxt_model.specs.Program.{start}
use Rattle.nxt_model.specs.SameRuns.{IsFaithful}
use Rattle.nxt_model.specs.Step.{events_of, run}
use Rattle.nxt_model.specs.TextProgram as program
use Rattle.nxt_model.specs.TextProgram.{program_of}
use Rattle.nxt_rxe.specs.Files.{file_of}
use Rattle.nxt_nbc.specs.Checked.{Spells}
use Rattle.nxt_nbc.specs.Faults.{fault_seen}
use Rattle.nxt_asm_parts.specs.AssembledParts.{parts_of}
use Rattle.nxt_asm_rules.specs.AsmRules as assembler_rules
use Rattle.nxt_asm_rules.specs.AsmRules.{start_footprint}
use Rattle.nxt_tool.specs.declared.fault.AcceptFault.{AcceptFault}
use Rattle.nxt_tool.specs.declared.fault.AcceptFault.TheVariants.{Refused, NoMemory}
use Rattle.nxt_tool.specs.declared.fault.Refusal.{Refusal}
use Rattle.nxt_tool.specs.declared.fault.Refusal.TheVariants.{Text, Assembler}

-- the bytes of the image's file, and those of the pool that its start needs
abbrev pub assembled_line : ℕ → ℕ → List ℕ
assembled_line bytes footprint = line_of (codes "assembled") (decimal bytes ∷ decimal footprint ∷ [])

-- the text keeps all rules, and what it spells those of the assembler; the file is that of its image, and the line tells of it
pub record IsAssembled (text file line : List ℕ) : Type 0 where
  pub program : program.Text
  pub spelled : Spells text program
  pub kept : IsAccepted (assembler_rules.Broken program)
  pub file_is : file ≡ file_of (parts_of program)
  pub line_is : line ≡ assembled_line (length file) (start_footprint program)

-- the text keeps all rules, and what it spells those of the assembler; and this is its image, which runs as the text
pub record IsTextImage (text : List ℕ) (image : Image) : Type 0 where
  pub program : program.Text
  pub spelled : Spells text program
  pub kept : IsAccepted (assembler_rules.Broken program)
  pub image_is : image ≡ assembled program
  pub faithful : IsFaithful program

-- what a text does for rows, told under a number: the program that it spells is assembled, and these are its lines
pub record IsTold (text : List ℕ) (rows : List ScriptRow) (n : ℕ) (told : List ℕ) : Type 0 where
  pub program : program.Text
  pub spelled : Spells text program
  pub kept : IsAccepted (assembler_rules.Broken program)
  pub told_is :
      told ≡ told_of n (run (program_of program) (flat_map events_of rows) (start (program_of program))).lines

-- the text and the rows are those that the number gives
abbrev pub IsGenerated : ℕ → List ℕ → Type 0
IsGenerated n told = IsTold (generated_text n) generated_rows n told

-- the text is refused: by the first broken rule of texts, or what it spells by that of the assembler
abbrev pub IsRefusedText : List ℕ → Refusal → Type 0
IsRefusedText text (Text f) = (g : text_rules.TextFault) × (fault_seen f ≡ Some g) × IsRefusal (text_rules.Broken text) text_rules.rank g
IsRefusedText text (Assembler f) =
    (p : program.Text) × Spells text p × IsRefusal (assembler_rules.Broken p) assembler_rules.rank f
IsRefusedText text r = ⊥

-- a refusal has its cause; want of memory is free
abbrev pub HasTextCause : List ℕ → AcceptFault → Type 0
HasTextCause text (Refused r) = IsRefusedText text r
HasTextCause text NoMemory = Unit {0}
