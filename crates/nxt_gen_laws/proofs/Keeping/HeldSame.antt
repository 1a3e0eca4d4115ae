-- The numbers of a generated text are small, and so are held as they are.
use Rattle.std.proofs.Common.{◌≡◌, ℕ, suc, min, List, [], ◌∷◌, map, None, refl, ap, ap₂, arith, pos}
use Rattle.nxt_types.specs.declared.kind.Cmp.TheVariants.{Lt}
use Rattle.nxt_model.specs.Nbc.Forms.{Do, Form, Formed, Literal, Term}
use Rattle.nxt_nbc_lines.specs.Held.{held_form, held_formed, held_term, most_held}
use Rattle.nxt_gen_laws.specs.Head.{head_forms}
use Rattle.nxt_gen_laws.specs.Rows.{AreSmall, AreSmallRows, Flags, IsSmall, Numeral, Operand, Port, Power, Row, Speed, TheList, TheSize, operand_term, operands, row_forms, row_op}

term_same : (o : Operand) → IsSmall o → held_term (operand_term o) ≡ operand_term o
term_same (TheList i) small = refl
term_same (Numeral v) small = let same : min v most_held ≡ v = omega (arith, small) in ap (λ n. Literal (pos n)) same
term_same TheSize small = refl
term_same Port small = refl
term_same Power small = refl
term_same Flags small = refl
term_same Speed small = refl

terms_same : (os : List Operand) → AreSmall os → map held_term (map operand_term os) ≡ map operand_term os
terms_same [] small = refl
terms_same (o ∷ os) small = ap₂ (λ (t : Term) (ts : List Term). t ∷ ts) (term_same o small.0) (terms_same os small.1)

abbrev held_line : ℕ × Form → ℕ × Form
held_line l = (l.0, held_form l.1)

rows_same : (line : ℕ) (rs : List Row) → AreSmallRows rs → map held_line (row_forms line rs) ≡ row_forms line rs
rows_same line [] small = refl
rows_same line (r ∷ rs) small =
    ap₂ (λ (ts : List Term) (fs : List (ℕ × Form)). (line, Do None (row_op r) Lt ts) ∷ fs) (terms_same (operands r) small.0) (rows_same (suc line) rs small.1)

abbrev whole : List (ℕ × Form) → Formed
whole fs = record { forms = head_forms fs; bad = None }

pub text_same : (rs : List Row) → AreSmallRows rs → held_formed (record { forms = head_forms (row_forms 14 rs); bad = None }) ≡ record { forms = head_forms (row_forms 14 rs); bad = None }
text_same rs small = ap whole (rows_same 14 rs small)
