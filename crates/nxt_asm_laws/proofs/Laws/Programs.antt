-- Programs that the tokens of texts spell can be assembled.
use Rattle.std.proofs.Common.{◌≡◌, ℕ, ◌<◌, ◌≤◌, false, List, [], map, length, Ok, refl, sym, ap, subst, ◌∙◌, arith}
use Rattle.std.specs.Prelude.{All}
use Rattle.std.proofs.lemmas.Bool.{false_from_ne_true, ltb-false}
use Rattle.nxt_types.specs.Refusals.{IsAccepted}
use Rattle.nxt_model.specs.declared.nbc.NbcProgram.{NbcProgram}
use Rattle.nxt_model.specs.declared.nbc.NbcVar.{NbcVar}
use Rattle.nxt_model.specs.Nbc.Tokens.{Token, lines_of, tokens_of}
use Rattle.nxt_model.specs.Nbc.Forms.{Formed, formed}
use Rattle.nxt_model.specs.Nbc.NbcRules.{TextFault, Broken, Lex, TooMany, tells}
use Rattle.nxt_model.specs.Nbc.Text.{Source, Variable, program_of, program_var, source_of}
use Rattle.nxt_model.specs.Nbc.Types.{Struct, shape_in}
use Rattle.nxt_model.specs.TextProgram as program
use Rattle.nxt_model.specs.TextProgram.{Text, shape_by, struct_shapes, text_of}
use Rattle.nxt_nbc_lines.specs.Firsts.{Ascends}
use Rattle.nxt_nbc_lines.proofs.Laws.Ascending.{forms_ascend}
use Rattle.nxt_asm_parts.specs.Codable.{IsCodableBlock}
use Rattle.nxt_asm_parts.specs.Defaults.{StartFits}
use Rattle.nxt_asm_parts.specs.Sound.{AreNamedIn, AreShortIn, IsSound}
use Rattle.nxt_asm_laws.proofs.Laws.Lists.{Each, all_each, each_alike}
use Rattle.nxt_asm_laws.proofs.Laws.Forms.{LineFormed}
use Rattle.nxt_asm_laws.proofs.Laws.Lines.{blocks_formed, each_formed}
use Rattle.nxt_asm_laws.proofs.Laws.Starts.{start_has}
use Rattle.nxt_asm_laws.proofs.Laws.Named.{blocks_named}
use Rattle.nxt_asm_laws.proofs.Laws.Short.{blocks_short}
use Rattle.nxt_asm_laws.proofs.Laws.Blocks.{blocks_codable}
use Rattle.nxt_asm_laws.proofs.Laws.Dependents.{blocks_lower, length-program_of}
use Rattle.nxt_asm_laws.proofs.Laws.Kept.{lines_kept}
use Rattle.nxt_asm_laws.proofs.Laws.Source.{VariableHolds, parts_within, variables_hold}

-- ---- variables

abbrev var_seen : NbcProgram → NbcVar → program.Variable
var_seen p v = record { shape = shape_by (struct_shapes p.structs) v.shape; start = v.start }

-- each start has the form of its type
var_fits : (p : NbcProgram) (types : List Struct) (v : NbcVar) (w : Variable) → var_seen p v ≡ program_var types w → VariableHolds types w → StartFits v.shape v.start
var_fits p types v w same h =
    subst (StartFits v.shape) (sym (ap (λ x. x.start) same)) (start_has p.structs v.shape (shape_in types w.type) w.given (ap (λ x. x.shape) same) h)

vars_fit : (p : NbcProgram) (types : List Struct) (ws : List Variable) → map (var_seen p) p.vars ≡ map (program_var types) ws → Each (VariableHolds types) ws
    → All (λ v. StartFits v.shape v.start) p.vars
vars_fit p types ws same hold =
    let fits = λ (v : NbcVar). StartFits v.shape v.start in
    all_each fits p.vars (each_alike (var_seen p) (program_var types) (VariableHolds types) fits (var_fits p types) p.vars ws same hold)

-- ---- programs

-- by the forms of the text's lines
sound_by : (fd : Formed) (p : NbcProgram) → ((f : TextFault) → tells fd f ≡ false) → Ascends 0 fd.forms → Each LineFormed fd.forms → text_of p ≡ program_of (source_of fd.forms)
    → IsSound p
sound_by fd p told up whole e =
    let fs = fd.forms in
    let src : Source = source_of fs in
    let spelled : Text = program_of src in
    let kept = lines_kept fd told in
    let few : length src.blocks ≤ 255 = ltb-false 255 (length src.blocks) (told (TooMany 0)) in
    record {
      starts = vars_fit p src.types src.vars (ap (λ (x : Text). x.vars) e) (variables_hold fs kept whole);
      named = subst (λ (x : Text). All (AreNamedIn x) x.blocks) (sym e) (all_each (AreNamedIn spelled) spelled.blocks (blocks_named src (parts_within fs)));
      short = subst (λ (x : Text). All AreShortIn x.blocks) (sym e) (all_each AreShortIn spelled.blocks (blocks_short src few));
      codable = subst (λ (x : Text). All IsCodableBlock x.blocks) (sym e) (all_each IsCodableBlock spelled.blocks (blocks_codable src (blocks_formed fs whole)));
      dependents = subst (λ (x : Text). All (λ b. length b.dependents < 256) x.blocks) (sym e) (all_each _ spelled.blocks (blocks_lower src few));
      blocks = let count = ap (λ (x : Text). length x.blocks) e ∙ length-program_of src in omega (arith, count, few);
    }

-- ---- texts

-- no rule is broken by what the tokens spell
nothing_told : (text : List ℕ) (ts : List Token) → IsAccepted (Broken text) → tokens_of text ≡ Ok ts → (f : TextFault) → tells (formed (lines_of text ts)) f ≡ false
nothing_told text ts accepted e (Lex line) = refl
nothing_told text ts accepted e f = false_from_ne_true (tells (formed (lines_of text ts)) f) (λ is. accepted f (ts, e, is))

-- the program that a text's tokens spell can be assembled, where no rule is broken
pub sound_spelled : (text : List ℕ) (ts : List Token) (p : NbcProgram) → IsAccepted (Broken text) → tokens_of text ≡ Ok ts
    → text_of p ≡ program_of (source_of (formed (lines_of text ts)).forms) → IsSound p
sound_spelled text ts p accepted e spelled =
    sound_by (formed (lines_of text ts)) p (nothing_told text ts accepted e) (forms_ascend text ts e) (each_formed (lines_of text ts) []) spelled
