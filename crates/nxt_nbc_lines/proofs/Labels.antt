-- Lines with labels, by their label.
use Rattle.std.proofs.Common.{◌≡◌, ℕ, ◌≤◌, Bool, true, false, List, [], ◌∷◌, length, Option, Some, None, refl, ap, sym, ◌∙◌, arith}
use Rattle.std.specs.Prelude.{◌==◌, if◌then◌else◌}
use Rattle.nxt_model.specs.Nbc.Tokens.{Word, Name, Sign}
use Rattle.nxt_model.specs.Nbc.Forms.{Form, Label, labelled_form, statement_form}
use Rattle.nxt_nbc_lines.specs.Statements.{label_of}

-- a label alone, or a statement behind it
abbrev behind : List ℕ → List Word → Option Form
behind l [] = Some (Label l)
behind l (w ∷ ws) = statement_form (Some l) (w ∷ ws)

abbrev by_label : List Word → Option (List ℕ × List Word) → Option Form
by_label ws None = statement_form None ws
by_label ws (Some r) = behind r.0 r.1

alone_by : (l : List ℕ) (b : ℕ) (c : Bool) → (if c then Some (Label l) else statement_form None (Name l ∷ Sign b ∷ [])) ≡ by_label (Name l ∷ Sign b ∷ []) (if c then Some (l, []) else None)
alone_by l b true = refl
alone_by l b false = refl

before_by : (l : List ℕ) (b : ℕ) (w : Word) (ws : List Word) (c : Bool)
    → (if c then statement_form (Some l) (w ∷ ws) else statement_form None (Name l ∷ Sign b ∷ w ∷ ws)) ≡ by_label (Name l ∷ Sign b ∷ w ∷ ws) (if c then Some (l, w ∷ ws) else None)
before_by l b w ws true = refl
before_by l b w ws false = refl

labelled : (ws : List Word) → labelled_form ws ≡ by_label ws (label_of ws)
labelled (Name l ∷ Sign b ∷ []) = alone_by l b (b == 58)
labelled (Name l ∷ Sign b ∷ w ∷ ws) = before_by l b w ws (b == 58)
labelled _ = refl

pub no_label : (ws : List Word) → None ≡ label_of ws → statement_form None ws ≡ labelled_form ws
no_label ws e = ap (by_label ws) e ∙ sym (labelled ws)

pub label_alone : (ws : List Word) (l : List ℕ) → Some (l, []) ≡ label_of ws → Some (Label l) ≡ labelled_form ws
label_alone ws l e = ap (by_label ws) e ∙ sym (labelled ws)

some_left : (l : List ℕ) (rest : List Word) → 1 ≤ length rest → statement_form (Some l) rest ≡ behind l rest
some_left l [] le = absurd (omega (arith, le))
some_left l (w ∷ ws) le = refl

pub label_before : (ws : List Word) (l : List ℕ) (rest : List Word) → 1 ≤ length rest → Some (l, rest) ≡ label_of ws → statement_form (Some l) rest ≡ labelled_form ws
label_before ws l rest le e = some_left l rest le ∙ ap (by_label ws) e ∙ sym (labelled ws)
