-- What holds of each text that is accepted, whatever spells it: it runs as its image, and a right dump of that is always to be had.
use Rattle.std.proofs.Common.{◌≡◌, ℕ, ◌^◌, ◌<◌, List, [], ◌∷◌, ◌++◌, map, length, sym, ap, subst, arith}
use Rattle.nxt_types.specs.Refusals.{IsAccepted}
use Rattle.nxt_types.specs.Shapes.{Number, Shape, member, members}
use Rattle.nxt_types.specs.declared.kind.Kind.TheVariants.{Slong}
use Rattle.nxt_model.specs.Assembled.{all_shapes, assembled, code_from, leaves_sizes, places, records_from}
use Rattle.nxt_model.specs.Image.{Image}
use Rattle.nxt_model.specs.Report.{setting}
use Rattle.nxt_model.specs.SameRuns.{IsFaithful}
use Rattle.nxt_model.specs.TextProgram.{Text, constants, declared, returns, shapes, text_of, text_shape, texts}
use Rattle.nxt_model.specs.declared.nbc.NbcProgram.{NbcProgram}
use Rattle.nxt_code.specs.CodeRules.{program}
use Rattle.nxt_nbc.specs.Checked.{IsParsed, Spells}
use Rattle.nxt_asm_parts.specs.AssembledParts.{parts_of}
use Rattle.nxt_asm_rules.specs.AsmRules.{Broken}
use Rattle.nxt_asm_rules.proofs.Laws.Counts.{table_length}
use Rattle.nxt_asm_rules.proofs.Laws.Sums.{sizes-members}
use Rattle.nxt_asm_laws_code.proofs.Laws.Accepted.{few_entries, code_accepted}
use Rattle.nxt_asm_laws_layout.proofs.Laws.Accepted.{layout_accepted, rows_are, starts_as}
use Rattle.nxt_asm_laws_layout.proofs.Laws.Parts.{AreVariables}
use Rattle.nxt_asm_laws_layout.proofs.Laws.TableAccepted.{variables}
use Rattle.nxt_dumps.specs.Runnable.{IsRunnable}
use Rattle.nxt_dumps.specs.Tables.{HasTable}
use Rattle.nxt_dumps.proofs.Laws.Files.{has_table, operands_fit}
use Rattle.nxt_dumps.proofs.Laws.Images.{runnable_image}
use Rattle.nxt_asm_laws_runs.proofs.Laws.{faithful}
use Rattle.nxt_asm_laws_runs.proofs.Typed.{typed}

-- ---- the table

few : (p : Text) → IsAccepted (Broken p) → length (assembled p).entries < 2 ^ 16
few p accepted =
    let ss = members (all_shapes p) in
    omega (arith, few_entries p accepted, table_length ss (places (leaves_sizes ss)), sizes-members (all_shapes p))

abbrev with_rows : Image → ℕ → Image
with_rows i n = record i { rows = n }

table_sound : (bytes : List ℕ) (p : NbcProgram) → IsParsed bytes p → IsAccepted (Broken (text_of p)) → HasTable (assembled (text_of p))
table_sound bytes p parsed accepted =
    let t = text_of p in
    let e = has_table (parts_of t) (members (all_shapes t)) (assembled t).values (few t accepted) (layout_accepted bytes p parsed accepted) (starts_as bytes p parsed accepted) in
    subst HasTable (ap (with_rows (assembled t)) (rows_are bytes p parsed accepted)) e

runnable : (bytes : List ℕ) (p : NbcProgram) → IsParsed bytes p → IsAccepted (Broken (text_of p)) → (effort : ℕ) → IsRunnable (setting (assembled (text_of p)) effort)
runnable bytes p parsed accepted effort =
    let t = text_of p in
    runnable_image (assembled t) effort (table_sound bytes p parsed accepted)
    (operands_fit (program (members (all_shapes t)) (records_from 0 t.blocks) (assembled t).dependents (code_from t 0 t.blocks)) (code_accepted bytes p parsed accepted))

-- ---- texts

variables_front : (xs ys : List Shape) → AreVariables (members (xs ++ ys)) → AreVariables (members xs)
variables_front [] ys h = tt
variables_front (x ∷ xs) ys h = (h.0, variables_front xs ys h.1)

-- what a text spells is a program
pub spelled_program : (text : List ℕ) (t : Text) → Spells text t → (p : NbcProgram) × (text_of p ≡ t)
spelled_program text t spells =
    let numbers : List Shape = map (λ z. Number Slong) (constants t) in
    let others : List Shape = map (λ s. text_shape) (texts t) in
    typed t (variables_front (declared t) (returns t) (variables_front (shapes t) numbers (variables_front (shapes t ++ numbers) others (variables text t spells))))

-- so what holds of the programs that texts spell holds of what they spell
by_program : (P : Text → Type 0) → ((bytes : List ℕ) (p : NbcProgram) → IsParsed bytes p → IsAccepted (Broken (text_of p)) → P (text_of p)) → (text : List ℕ) (t : Text) → Spells text t → IsAccepted (Broken t) → P t
by_program P h text t spells accepted =
    let found = spelled_program text t spells in
    let same : text_of found.0 ≡ t = found.1 in
    subst P same (h text found.0 (subst (Spells text) (sym same) spells) (subst (λ u. IsAccepted (Broken u)) (sym same) accepted))

-- ---- accepted texts

pub spelled_faithful : (text : List ℕ) (t : Text) → Spells text t → IsAccepted (Broken t) → IsFaithful t
spelled_faithful = by_program IsFaithful faithful

pub spelled_runnable : (effort : ℕ) (text : List ℕ) (t : Text) → Spells text t → IsAccepted (Broken t) → IsRunnable (setting (assembled t) effort)
spelled_runnable effort = by_program (λ t. IsRunnable (setting (assembled t) effort)) (λ bytes p parsed accepted. runnable bytes p parsed accepted effort)
