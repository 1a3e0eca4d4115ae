-- What is due to a number.
use Rattle.std.proofs.Common.{◌≡◌, ℕ, List, [], Option, refl, ap, subst}
use Rattle.std.specs.Prelude.{flat_map}
use Rattle.nxt_types.specs.Refusals.{IsAccepted}
use Rattle.nxt_gen.specs.Generator.{generated_rows, generated_text, told_of}
use Rattle.nxt_asm_rules.specs.AsmRules.{Broken}
use Rattle.nxt_model.specs.Program.{start}
use Rattle.nxt_model.specs.Step.{events_of, run}
use Rattle.nxt_model.specs.TextProgram as program
use Rattle.nxt_model.specs.TextProgram.{program_of}
use Rattle.nxt_nbc.specs.Checked.{Spells}
use Rattle.nxt_nbc.proofs.Laws.{one_program}
use Rattle.nxt_gen_laws.proofs.Laws.Generated.{generated}
use Rattle.nxt_tool.specs.Assembling.{IsRefusedText}
use Rattle.nxt_tool.specs.Due.{Answer, Generated, Meets, described_answer}
use Rattle.nxt_tool.specs.declared.fault.Refusal.{Refusal}
use Rattle.nxt_tool.specs.declared.fault.Refusal.TheVariants.{Sections, Layout, Code, Text, Assembler}
use Rattle.nxt_report.specs.declared.status.Status.TheVariants as status
use Rattle.nxt_tool.proofs.Reports.Statuses.{nothing_yet}

kept_by : (n : ℕ) (t u : program.Text) → Spells (generated_text n) t → IsAccepted (Broken t) → Spells (generated_text n) u → IsAccepted (Broken u)
kept_by n t u spelled kept also = subst (λ (p : program.Text). IsAccepted (Broken p)) (one_program (generated_text n) t u spelled also) kept

-- no text that a number gives is refused
pub never_refused : (n : ℕ) (r : Refusal) → IsRefusedText (generated_text n) r → ⊥
never_refused n (Sections f) h = h
never_refused n (Layout f) h = h
never_refused n (Code f) h = h
never_refused n (Text f) h = let law = generated n in law.1.accepted h.0 h.2.broken
never_refused n (Assembler f) h = let law = generated n in kept_by n law.0 h.0 law.1 law.2 h.1 f h.2.broken

-- some answer is due to every number
pub no_memory_generated : (n : ℕ) (w : Option (List ℕ)) → (a : Answer) × Generated n a × Meets status.NoMemory a w w
no_memory_generated n w =
    let law = generated n in
    let told : List ℕ = told_of n (run (program_of law.0) (flat_map events_of generated_rows) (start (program_of law.0))).lines in (
      described_answer told,
      (told, record { program = law.0; spelled = law.1; kept = law.2; told_is = refl }, refl),
      nothing_yet w told,
    )

-- no image is due
pub no_image_generated : (n : ℕ) (a : Answer) → Generated n a → a.image ≡ []
no_image_generated n a due = ap (λ (x : Answer). x.image) due.2
