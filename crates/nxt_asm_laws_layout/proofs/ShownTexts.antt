-- The starting values of a parsed text are those of its variables' shapes.
use Rattle.std.proofs.Common.{◌≡◌, ℕ, true, false, List, [], sym, subst}
use Rattle.nxt_types.specs.Shapes.{members}
use Rattle.nxt_model.specs.Assembled.{all_shapes, all_values}
use Rattle.nxt_model.specs.Nbc.Tokens.{Token, lines_of}
use Rattle.nxt_model.specs.Nbc.Forms.{Formed, formed}
use Rattle.nxt_model.specs.Nbc.NbcRules.{TextFault, start_fits, tells}
use Rattle.nxt_model.specs.Nbc.Text.{Source, Variable, source_of}
use Rattle.nxt_model.specs.Nbc.Types.{shape_in}
use Rattle.nxt_model.specs.TextProgram.{Text, first_values, text_of}
use Rattle.nxt_model.specs.declared.nbc.NbcProgram.{NbcProgram}
use Rattle.nxt_nbc.specs.Checked.{IsParsed}
use Rattle.nxt_asm_laws.proofs.Laws.Kept.{lines_kept}
use Rattle.nxt_asm_laws.proofs.Laws.Lines.{each_formed}
use Rattle.nxt_asm_laws.proofs.Laws.Source.{VariableHolds, variables_hold}
use Rattle.nxt_facts.proofs.Each.{Each, each_both}
use Rattle.nxt_asm_laws_layout.proofs.Held.{AreHeld}
use Rattle.nxt_asm_laws_layout.proofs.Laws.Parts.{IsVariable}
use Rattle.nxt_asm_laws_layout.proofs.Laws.TableAccepted.{declared_of, nothing_told}
use Rattle.nxt_asm_laws_layout.proofs.TextValues.{GivenBytes, IsGiven, source_held}
use Rattle.nxt_asm_laws_layout.proofs.ShownBytes.{args_shown, starts_shown}

module _ (text : List ℕ) (p : NbcProgram) (parsed : IsParsed text p) where
  abbrev ts : List Token
  ts = parsed.tokens.0

  abbrev fd : Formed
  fd = formed (lines_of text ts)

  abbrev src : Source
  src = source_of fd.forms

  told : (f : TextFault) → tells fd f ≡ false
  told = nothing_told text ts parsed.accepted parsed.tokens.1

  hold : Each (VariableHolds src.types) src.vars
  hold = variables_hold fd.forms (lines_kept fd told) (each_formed (lines_of text ts) [])

  given : Each (IsGiven src.types) src.vars
  given =
      each_both (λ (v : Variable). IsVariable (shape_in src.types v.type) × (start_fits (shape_in src.types v.type) v.given ≡ true))
      (λ (v : Variable). VariableHolds src.types v × GivenBytes v.given) (IsGiven src.types)
      (λ v a b. let one : IsGiven src.types v = record { range = a.1; holds = b.0; bytes = b.1 } in one) src.vars
      (declared_of text (text_of p) parsed)
      (each_both (VariableHolds src.types) (λ (v : Variable). GivenBytes v.given) (λ (v : Variable). VariableHolds src.types v × GivenBytes v.given)
      (λ v a b. (a, b)) src.vars hold (starts_shown text ts parsed.tokens.1))

  -- each value is one of its shape
  held : AreHeld (members (all_shapes (text_of p))) (all_values (text_of p) (first_values (text_of p)))
  held =
      subst (λ (x : Text). AreHeld (members (all_shapes x)) (all_values x (first_values x))) (sym parsed.tokens.2)
      (source_held src given (args_shown text ts parsed.tokens.1))

pub values_held : (text : List ℕ) (p : NbcProgram) → IsParsed text p → AreHeld (members (all_shapes (text_of p))) (all_values (text_of p) (first_values (text_of p)))
values_held text p parsed = held text p parsed
