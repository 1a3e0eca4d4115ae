-- Statements by their operation, and labels.
use Rattle.std.specs.Prelude.{ℕ, ◌==◌, List, [], ◌∷◌, Option, Some, None, option_and_then, if◌then◌else◌}
use Rattle.nxt_types.specs.declared.instr.Op.{Op}
use Rattle.nxt_types.specs.declared.kind.Cmp.TheVariants.{Lt}
use Rattle.nxt_types.specs.Opcodes.{has_comparison}
use Rattle.nxt_model.specs.Nbc.Tokens.{Word, Name, Sign}
use Rattle.nxt_model.specs.Nbc.Forms.{Form, Term, Named, by_commas, compared, terms_of, with_terms}

-- the statement of an operation, by the words behind its name
abbrev pub form_of_op : Option (List ℕ) → List Word → Op → Option Form
form_of_op label ws op =
    if has_comparison op then compared label op (by_commas ws) else option_and_then (with_terms label op Lt) (terms_of ws)

-- the label in front of words, and what is behind its colon
abbrev pub label_of : List Word → Option (List ℕ × List Word)
label_of (Name l ∷ Sign b ∷ ws) = if b == 58 then Some (l, ws) else None
label_of _ = None

-- an operand that is one name without members
abbrev pub single_name : Term → Option (List ℕ)
single_name (Named (n ∷ [])) = Some n
single_name _ = None
