-- Refusals, and what each tells.
use Rattle.std.specs.Prelude.{ℕ, List, [], Option, Some, None}
use Rattle.nxt_rxe.specs.declared.fault.RxeFault.{RxeFault}
use Rattle.nxt_rxe.specs.declared.fault.RxeFault.TheVariants as sections
use Rattle.nxt_rxe.specs.FileRules as file_rules
use Rattle.nxt_layout.specs.declared.fault.LayoutFault.{LayoutFault}
use Rattle.nxt_layout.specs.declared.fault.LayoutFault.TheVariants as layout
use Rattle.nxt_layout.specs.LayoutRules as layout_rules
use Rattle.nxt_code.specs.declared.fault.CodeFault.{CodeFault}
use Rattle.nxt_code.specs.declared.fault.CodeFault.TheVariants as code
use Rattle.nxt_code.specs.CodeRules as code_rules
use Rattle.nxt_model.specs.Nbc.NbcRules as text_rules
use Rattle.nxt_nbc_lines.specs.declared.fault.NbcFault.{NbcFault}
use Rattle.nxt_nbc_lines.specs.declared.fault.NbcFault.TheVariants as text
use Rattle.nxt_nbc.specs.Faults.{fault_seen}
use Rattle.nxt_asm_rules.specs.declared.fault.AsmFault.{AsmFault}
use Rattle.nxt_asm_rules.specs.declared.fault.AsmFault.TheVariants as assembler
use Rattle.nxt_asm_rules.specs.AsmRules as assembler_rules
use Rattle.nxt_tool.specs.declared.fault.Refusal.{Refusal}
use Rattle.nxt_tool.specs.declared.fault.Refusal.TheVariants.{Sections, Layout, Code, Text, Assembler}
use Rattle.nxt_tool.specs.declared.fault.AcceptFault.{AcceptFault}
use Rattle.nxt_tool.specs.declared.fault.AcceptFault.TheVariants.{Refused, NoMemory}

-- of a fault of a text; want of memory tells nothing
abbrev pub text_told : Option text_rules.TextFault → List ℕ
text_told None = []
text_told (Some f) = text_rules.rank f

-- the rule's number, and the numbers of its place
abbrev pub told : Refusal → List ℕ
told (Sections f) = file_rules.rank f
told (Layout f) = layout_rules.rank f
told (Code f) = code_rules.rank f
told (Text f) = text_told (fault_seen f)
told (Assembler f) = assembler_rules.told f

-- a fault of a step on the way from a file to its program: want of memory, or a refusal
abbrev pub of_sections : RxeFault → AcceptFault
of_sections sections.NoMemory = NoMemory
of_sections f = Refused (Sections f)

abbrev pub of_layout : LayoutFault → AcceptFault
of_layout layout.NoMemory = NoMemory
of_layout f = Refused (Layout f)

abbrev pub of_code : CodeFault → AcceptFault
of_code code.NoMemory = NoMemory
of_code f = Refused (Code f)

abbrev pub of_text : NbcFault → AcceptFault
of_text text.NoMemory = NoMemory
of_text f = Refused (Text f)

abbrev pub of_assembler : AsmFault → AcceptFault
of_assembler assembler.NoMemory = NoMemory
of_assembler f = Refused (Assembler f)
