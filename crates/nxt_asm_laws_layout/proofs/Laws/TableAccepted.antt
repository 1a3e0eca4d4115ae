-- The table of the parts of an assembled text breaks no rule.
use Rattle.std.proofs.Common.{◌≡◌, ℕ, ◌+◌, ◌≤◌, Bool, true, false, cond, ◌==◌, nat_lt, List, [], ◌∷◌, ◌++◌, map, flat_map, length, Option, Some, None, Ok, refl, sym, subst, ◌∙◌, arith, eq-eqb, ltb-false}
use Rattle.std.specs.Prelude.{IsTrue}
use Rattle.std.proofs.lemmas.Bool.{false_from_ne_true}
use Rattle.nxt_types.specs.Refusals.{IsAccepted, passes}
use Rattle.nxt_types.specs.Shapes.{Shape, Number, members, leaves_bytes}
use Rattle.nxt_types.specs.declared.kind.Kind.TheVariants.{Ubyte, Slong}
use Rattle.nxt_model.specs.Assembled.{all_shapes}
use Rattle.nxt_model.specs.Nbc.Tokens.{Token, lines_of, tokens_of}
use Rattle.nxt_model.specs.Nbc.Forms.{formed}
use Rattle.nxt_model.specs.Nbc.NbcRules as rules
use Rattle.nxt_model.specs.Nbc.NbcRules.{TextFault, Lex, tells}
use Rattle.nxt_model.specs.Nbc.Types.{shape_in}
use Rattle.nxt_model.specs.Nbc.Text.{Source, Variable, program_of, program_var, source_of}
use Rattle.nxt_model.specs.TextProgram as program
use Rattle.nxt_model.specs.TextProgram.{Text, constants, returns, static_size, subroutines, text_of, text_shape, texts}
use Rattle.nxt_model.specs.declared.nbc.NbcProgram.{NbcProgram}
use Rattle.nxt_nbc.specs.Checked.{IsParsed, Spells}
use Rattle.nxt_asm_parts.specs.AssembledParts.{parts_of, dynamic_defaults}
use Rattle.nxt_asm_parts.specs.Elements.{elements_in, elements_among, first_large, most_element}
use Rattle.nxt_asm_parts.proofs.Laws.LargeElements.{elements_listed}
use Rattle.nxt_table.specs.TableRules as table_rules
use Rattle.nxt_asm_rules.specs.AsmRules.{Broken, large_element}
use Rattle.nxt_asm_rules.specs.Fits.{PartsFit}
use Rattle.nxt_asm_rules.specs.declared.fault.AsmFault.TheVariants.{TooLarge}
use Rattle.nxt_asm_rules.proofs.Laws.Sums.{leaves_bytes-members}
use Rattle.nxt_asm_rules.proofs.Laws.DataSizes.{static_is}
use Rattle.nxt_asm_rules.proofs.Laws.Fitting.{parts_fit}
use Rattle.nxt_asm_laws.proofs.Laws.Texts.{sound}
use Rattle.nxt_facts.proofs.Each.{Each, each_from, each_join, each_mapped, each_then}
use Rattle.nxt_asm_laws_layout.proofs.Laws.Parts.{IsVariable, AreVariables}
use Rattle.nxt_asm_laws_layout.proofs.Closed.{structs_close}
use Rattle.nxt_asm_laws_layout.proofs.TextShapes.{IsDeclared, none_bad, variables_declared}
use Rattle.nxt_asm_laws_layout.proofs.Laws.TableKept.{HasTable, table_kept}

-- ---- shapes

all_variables : (ss : List Shape) → Each IsVariable ss → AreVariables (members ss)
all_variables [] h = tt
all_variables (s ∷ ss) h = (h.0, all_variables ss h.1)

-- by the variables of a text
shapes_of_source : (src : Source) → Each (λ (v : Variable). IsVariable (shape_in src.types v.type)) src.vars → Each IsVariable (all_shapes (program_of src))
shapes_of_source src h =
    let t : Text = program_of src in
    let vars = map (program_var src.types) src.vars in
    let declared = map (λ (v : program.Variable). v.shape) vars in
    let numbers = map (λ z. Number Slong) (constants t) in
    let others = map (λ b. text_shape) (texts t) in
    each_join IsVariable (declared ++ returns t ++ numbers) others
    (each_join IsVariable (declared ++ returns t) numbers
    (each_join IsVariable declared (returns t)
    (each_mapped IsVariable (λ (v : program.Variable). v.shape) vars (each_mapped (λ (v : program.Variable). IsVariable v.shape) (program_var src.types) src.vars h))
    (each_mapped IsVariable (λ b. Number Ubyte) (subroutines t.blocks) (each_from _ (λ b. (tt, omega arith)) (subroutines t.blocks))))
    (each_mapped IsVariable (λ z. Number Slong) (constants t) (each_from _ (λ z. (tt, omega arith)) (constants t))))
    (each_mapped IsVariable (λ b. text_shape) (texts t) (each_from _ (λ b. ((refl, tt), omega arith)) (texts t)))

-- ---- texts

-- what the forms of a parsed text tell
pub nothing_told : (text : List ℕ) (ts : List Token) → IsAccepted (rules.Broken text) → tokens_of text ≡ Ok ts → (f : TextFault) → tells (formed (lines_of text ts)) f ≡ false
nothing_told text ts accepted e (Lex line) = refl
nothing_told text ts accepted e f = false_from_ne_true (tells (formed (lines_of text ts)) f) (λ is. accepted f (ts, e, is))

-- the variables of a parsed text are declared, with starts in range
pub declared_of : (text : List ℕ) (t : Text) → (parsed : Spells text t)
    → Each (IsDeclared (formed (lines_of text parsed.tokens.0)) (nothing_told text parsed.tokens.0 parsed.accepted parsed.tokens.1)) (source_of (formed (lines_of text parsed.tokens.0)).forms).vars
declared_of text t parsed =
    let ls = lines_of text parsed.tokens.0 in
    let told = nothing_told text parsed.tokens.0 parsed.accepted parsed.tokens.1 in
    variables_declared (formed ls) told (structs_close ls (none_bad (formed ls) told))

-- its variables and constants have the shapes of variables
pub variables : (text : List ℕ) (t : Text) → Spells text t → AreVariables (members (all_shapes t))
variables text t parsed =
    let fd = formed (lines_of text parsed.tokens.0) in
    let told = nothing_told text parsed.tokens.0 parsed.accepted parsed.tokens.1 in
    subst (λ (x : Text). AreVariables (members (all_shapes x))) (sym parsed.tokens.2)
    (all_variables (all_shapes (program_of (source_of fd.forms)))
    (shapes_of_source (source_of fd.forms) (each_then (IsDeclared fd told) (λ (v : Variable). IsVariable (shape_in (source_of fd.forms).types v.type)) (λ v h. h.0) (source_of fd.forms).vars (declared_of text t parsed))))

-- ---- room

-- the bytes of the leaves are the static bytes
pub static_bytes_are : (t : Text) → leaves_bytes (members (all_shapes t)) ≡ static_size t
static_bytes_are t = leaves_bytes-members (all_shapes t) ∙ static_is t

not_passed : (o : Option ℕ) → ((n : ℕ) → IsTrue (passes (λ m. m == n) o) → ⊥) → o ≡ None
not_passed None fails = refl
not_passed (Some n) fails = absurd (fails n (eq-eqb n n refl))

none_some : (x : ℕ) → Some x ≡ None → ⊥
none_some x e = cc

none_large : (ns : List ℕ) → first_large ns ≡ None → Each (λ n. n ≤ 32768) ns
none_large [] none = tt
none_large (n ∷ ns) none = by (nat_lt most_element n) refl none (none_large ns)
  where
    by : (b : Bool) → nat_lt most_element n ≡ b → cond b (Some n) (first_large ns) ≡ None → (first_large ns ≡ None → Each (λ m. m ≤ 32768) ns)
        → (n ≤ 32768) × Each (λ m. m ≤ 32768) ns
    by true e none rest = absurd (none_some n none)
    by false e none rest = (ltb-false most_element n e, rest none)

-- no element is too large
pub low_elements : (t : Text) → IsAccepted (Broken t) → Each (λ n. n ≤ 32768) (elements_among (members (all_shapes t)))
low_elements t kept =
    subst (Each (λ n. n ≤ 32768)) (elements_listed (all_shapes t))
    (none_large (flat_map elements_in (all_shapes t)) (not_passed (large_element t) (λ n. kept (TooLarge 2 n))))

same_le : (a b : ℕ) → a ≡ b → a ≤ b
same_le a b e = omega (arith, e)

room_behind : (a b c d : ℕ) → a ≡ b → c ≡ b → a ≤ c + d
room_behind a b c d e f = omega (arith, e, f)

-- ---- the table

pub has_table : (text : List ℕ) (p : NbcProgram) → IsParsed text p → IsAccepted (Broken (text_of p)) → HasTable (parts_of (text_of p)) (members (all_shapes (text_of p)))
has_table text p parsed kept =
    let t : Text = text_of p in
    let fits : PartsFit t = parts_fit p (sound text p parsed) kept in
    record {
      toc = refl;
      variables = variables text (text_of p) parsed;
      static = same_le _ _ (static_bytes_are t);
      defaults = room_behind (leaves_bytes (members (all_shapes t))) (static_size t) _ (length (dynamic_defaults t)) (static_bytes_are t) fits.static;
      low = low_elements t kept;
    }

-- no rule of the table is broken
pub table_accepted : (text : List ℕ) (p : NbcProgram) → IsParsed text p → IsAccepted (Broken (text_of p)) → IsAccepted (table_rules.Broken (parts_of (text_of p)))
table_accepted text p parsed kept = table_kept (parts_of (text_of p)) (members (all_shapes (text_of p))) (has_table text p parsed kept)
