-- The forms of the lines of a generated text: each has one, and all that is opened is closed.
use Rattle.std.proofs.Common.{◌≡◌, ℕ, suc, List, [], ◌∷◌, Some, None, refl, ap, ◌∙◌}
use Rattle.nxt_model.specs.Nbc.Forms.{Form, Formed, InThread, Open, form_in, formed, formed_from, formed_line, put_form}
use Rattle.nxt_gen_laws.specs.Head.{head_forms, head_lines}
use Rattle.nxt_gen_laws.specs.Rows.{Built, Counted, Cut, Driven, Filled, Moved, Row, row_form, row_forms, row_lines, row_words}

abbrev in_main : Open
in_main = (13, InThread) ∷ []

row_formed : (r : Row) → form_in in_main (row_words r) ≡ Some (row_form r)
row_formed (Filled of byte number) = refl
row_formed (Cut of from number) = refl
row_formed (Built of from byte) = refl
row_formed (Moved of from) = refl
row_formed (Counted of) = refl
row_formed Driven = refl

-- these forms, and no bad line
abbrev whole : List (ℕ × Form) → Formed
whole fs = record { forms = fs; bad = None }

rows_formed : (line : ℕ) (rs : List Row) → formed_from (row_lines line rs) in_main ≡ whole (row_forms line rs)
rows_formed line [] = refl
rows_formed line (r ∷ rs) =
    ap (λ f. formed_line line f in_main (formed_from (row_lines (suc line) rs))) (row_formed r)
    ∙ ap (put_form line (row_form r)) (rows_formed (suc line) rs)

-- the lines in front of them
abbrev behind_head : Formed → Formed
behind_head f = record f { forms = head_forms f.forms }

pub text_formed : (rs : List Row) → formed (head_lines (row_lines 14 rs)) ≡ record { forms = head_forms (row_forms 14 rs); bad = None }
text_formed rs = ap behind_head (rows_formed 14 rs)
