use Rattle.std.proofs.Common.{◌≡◌, ℕ, List, Result, Ok, Err, sym, subst}
use Rattle.std.specs.Prelude.{IfOk, OnOk}
use Rattle.nxt_types.specs.Refusals.{IsAccepted}
use Rattle.nxt_model.specs.TextProgram.{text_of}
use Rattle.nxt_model.specs.declared.nbc.NbcProgram.{NbcProgram}
use Rattle.nxt_nbc.specs.Checked.{IsParsed}
use Rattle.nxt_asm_parts.specs.AssembledParts.{parts_of}
use Rattle.nxt_asm_laws.proofs.Laws.Texts.{sound}
use Rattle.nxt_asm_rules.specs.AsmRules.{Broken}
use Rattle.nxt_asm_rules.specs.declared.fault.AsmFault.{AsmFault}
use Rattle.nxt_asm_laws_runs.specs.Runs.{RunsAs}
use Rattle.nxt_asm_laws_runs.proofs.Laws.{runs}
use Rattle.nxt_asm.specs.declared.assembly.Assembled.{Assembled}
use Rattle.nxt_asm.proofs.assembly.assemble.Goals as goal

pub assemble_sound-requires : goal.assemble_sound-requires
assemble_sound-requires c = sound c.requires.0 c.args.program.now c.requires.1

-- the parts of a text that is assembled run as it does
runs_by : (bytes : List ℕ) (p : NbcProgram) → IsParsed bytes p → (r : Result Assembled AsmFault) → IfOk r (λ a. a.parts ≡ parts_of (text_of p))
    → OnOk r (IsAccepted (Broken (text_of p))) → IfOk r (λ a. RunsAs (text_of p) a.parts)
runs_by bytes p parsed (Ok a) parts kept = subst (RunsAs (text_of p)) (sym parts) (runs bytes p parsed kept)
runs_by bytes p parsed (Err f) parts kept = tt

pub returns-clause-runs : goal.returns-clause-runs
returns-clause-runs c =
    runs_by c.requires.0 c.args.program.now c.requires.1 c.assemble_sound.result c.assemble_sound.ensures.parts c.assemble_sound.ensures.kept
