-- A fault on the way from a file to its program has its cause.
use Rattle.std.proofs.Common.{◌≡◌, ◌⊎◌, ℕ, List, inl, inr, Ok, Err, Result, subst, sym}
use Rattle.std.specs.Prelude.{IsErrAnd, MatchResult}
use Rattle.nxt_types.specs.Refusals.{IsRefusal, IsAccepted}
use Rattle.nxt_types.specs.Shapes.{Members}
use Rattle.nxt_rxe.specs.declared.parts.Parts.{Parts}
use Rattle.nxt_rxe.specs.declared.fault.RxeFault.{RxeFault}
use Rattle.nxt_rxe.specs.declared.fault.RxeFault.TheVariants as sections
use Rattle.nxt_rxe.specs.FileRules as file_rules
use Rattle.nxt_rxe.specs.Files.{IsFile}
use Rattle.nxt_layout.specs.declared.fault.LayoutFault.{LayoutFault}
use Rattle.nxt_layout.specs.declared.fault.LayoutFault.TheVariants as layouts
use Rattle.nxt_layout.specs.LayoutRules as layout_rules
use Rattle.nxt_layout.specs.Start.{HasShapes}
use Rattle.nxt_code.specs.declared.fault.CodeFault.{CodeFault}
use Rattle.nxt_code.specs.declared.fault.CodeFault.TheVariants as codes
use Rattle.nxt_code.specs.CodeRules as code_rules
use Rattle.nxt_tool.specs.declared.fault.AcceptFault.{AcceptFault}
use Rattle.nxt_tool.specs.declared.fault.AcceptFault.TheVariants.{Refused, NoMemory}
use Rattle.nxt_tool.specs.declared.fault.Refusal.TheVariants as refusals
use Rattle.nxt_tool.specs.Refused.{of_sections, of_layout, of_code}
use Rattle.nxt_tool.specs.Accepted.{HasCause, PartsCause, code_in}

pub sections_cause : (bytes : List ℕ) (f : RxeFault) → (f ≡ sections.NoMemory) ⊎ IsRefusal (file_rules.Broken bytes) file_rules.rank f → HasCause bytes (of_sections f)
sections_cause bytes f (inl e) = subst (λ x. HasCause bytes (of_sections x)) (sym e) tt
sections_cause bytes sections.NoMemory (inr h) = tt
sections_cause bytes (sections.Short n) (inr h) = h
sections_cause bytes _ (inr h) = h

pub layout_cause : (p : Parts) (f : LayoutFault) → (f ≡ layouts.NoMemory) ⊎ IsRefusal (layout_rules.Broken p) layout_rules.rank f → PartsCause p (of_layout f)
layout_cause p f (inl e) = subst (λ x. PartsCause p (of_layout x)) (sym e) tt
layout_cause p layouts.NoMemory (inr h) = tt
layout_cause p (layouts.Table t) (inr h) = h
layout_cause p _ (inr h) = h

pub code_cause : (p : Parts) (ss : Members) (f : CodeFault) → IsAccepted (layout_rules.Broken p) → HasShapes p ss → (f ≡ codes.NoMemory) ⊎ IsRefusal (code_rules.Broken (code_in p ss)) code_rules.rank f → PartsCause p (of_code f)
code_cause p ss f sound shapes (inl e) = subst (λ x. PartsCause p (of_code x)) (sym e) tt
code_cause p ss codes.NoMemory sound shapes (inr h) = tt
code_cause p ss (codes.ClumpCount n) sound shapes (inr h) = (sound, ss, shapes, h)
code_cause p ss _ sound shapes (inr h) = (sound, ss, shapes, h)

-- what a `?` hands on
pub handed_on : {T : Type 0} (r : Result T AcceptFault) (a : AcceptFault) (P : T → Type 0) (Q : AcceptFault → Type 0) → IsErrAnd r (λ e. e ≡ a) → Q a → MatchResult r P Q
handed_on (Ok x) a P Q h q = absurd h
handed_on (Err e) a P Q h q = subst Q (sym h) q

-- a fault of a file's parts is one of the file
pub parts_cause : (bytes : List ℕ) (p : Parts) → IsFile bytes p → (f : AcceptFault) → PartsCause p f → HasCause bytes f
parts_cause bytes p file NoMemory h = tt
parts_cause bytes p file (Refused (refusals.Sections f)) h = absurd h
parts_cause bytes p file (Refused (refusals.Text f)) h = absurd h
parts_cause bytes p file (Refused (refusals.Assembler f)) h = absurd h
parts_cause bytes p file (Refused (refusals.Layout f)) h = (p, file, h)
parts_cause bytes p file (Refused (refusals.Code f)) h = (p, file, h)
