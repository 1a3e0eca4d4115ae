-- The lines of a block.
use Rattle.std.proofs.Common.{◌≡◌, ℕ, suc, Bool, true, false, List, [], ◌∷◌, map, take, position, cond, Option, Some, None, option_map, refl, sym, ap, ◌∙◌}
use Rattle.nxt_model.specs.Nbc.Forms.{Form}
use Rattle.nxt_model.specs.Nbc.Forms as forms
use Rattle.nxt_model.specs.Nbc.Text.{items_of}
use Rattle.nxt_nbc_lines.specs.Seen.{form_seen, line_form_seen}
use Rattle.nxt_nbc_lines.specs.declared.forms.LineForm.{LineForm}
use Rattle.nxt_nbc_names.specs.Inside.Blocks.{closes_block}
use Rattle.nxt_nbc_names.proofs.Positions.{position_front}

-- up to the one that closes it
items_first : (n : ℕ) (f : Form) (fs : List (ℕ × Form)) → items_of ((n, f) ∷ fs) ≡ (n, f) ∷ cond (closes_block f) [] (items_of fs)
items_first n forms.CloseBlock fs = refl
items_first n f fs = refl

abbrev closes : LineForm → Bool
closes l = closes_block (form_seen l.form)

-- through a position, or all where there is none
abbrev through : Option ℕ → List LineForm → List LineForm
through None ls = ls
through (Some i) ls = take (suc i) ls

pub items_through : (ls : List LineForm) → map line_form_seen (through (position closes ls) ls) ≡ items_of (map line_form_seen ls)
items_through [] = refl
items_through (l ∷ ls) =
    ap (λ o. map line_form_seen (through o (l ∷ ls))) (position_front closes l ls)
    ∙ by (closes l) (position closes ls) (items_through ls)
    ∙ sym (items_first l.line (form_seen l.form) (map line_form_seen ls))
  where
    by : (b : Bool) (o : Option ℕ) → map line_form_seen (through o ls) ≡ items_of (map line_form_seen ls)
        → map line_form_seen (through (cond b (Some 0) (option_map suc o)) (l ∷ ls)) ≡ line_form_seen l ∷ cond b [] (items_of (map line_form_seen ls))
    by true o e = refl
    by false None e = ap (λ fs. line_form_seen l ∷ fs) e
    by false (Some i) e = ap (λ fs. line_form_seen l ∷ fs) e

pub items_to : (ls : List LineForm) (o : Option ℕ) → o ≡ position closes ls → map line_form_seen (through o ls) ≡ items_of (map line_form_seen ls)
items_to ls o e = ap (λ p. map line_form_seen (through p ls)) e ∙ items_through ls
