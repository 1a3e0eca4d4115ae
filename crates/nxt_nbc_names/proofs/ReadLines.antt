-- Structs that are read line by line.
use Rattle.std.proofs.Common.{◌≡◌, ℕ, ◌+◌, ◌≤◌, ◌<◌, List, [], ◌∷◌, ◌++◌, map, length, drop, get_or, sym, ap, ◌∙◌, arith}
use Rattle.std.proofs.lemmas.List.{drop_more}
use Rattle.nxt_model.specs.Nbc.Types.{Struct}
use Rattle.nxt_nbc_lines.specs.Seen.{line_form_seen}
use Rattle.nxt_nbc_lines.specs.declared.forms.LineForm.{LineForm}
use Rattle.nxt_nbc_names.specs.Structs.{Rises, RisesTo}

-- structs that rise to a line rise with one more on it
pub rises_push : (n line : ℕ) (ds : List Struct) (d : Struct) → d.line ≡ line → RisesTo n line ds → Rises n (ds ++ d ∷ [])
rises_push n line [] d at rises = (omega (arith, at, rises), tt)
rises_push n line (s ∷ more) d at rises = (rises.0, rises_push s.line line more d at rises.1)

pub rises_still : (n line : ℕ) (ds : List Struct) (d : Struct) → d.line ≡ line → RisesTo n line ds → RisesTo n line (ds ++ d ∷ [])
rises_still n line [] d at rises = (omega (arith, at, rises), omega (arith, at))
rises_still n line (s ∷ more) d at rises = (rises.0, rises_still s.line line more d at rises.1)

-- they rise to a line behind
pub rises_on : (n line next : ℕ) (ds : List Struct) → line ≤ next → RisesTo n line ds → RisesTo n next ds
rises_on n line next [] le rises = omega (arith, le, rises)
rises_on n line next (s ∷ more) le rises = (rises.0, rises_on s.line line next more le rises.1)

-- the lines from one on are that line and those behind it
pub lines_from : (lines : List LineForm) (i : ℕ) (line : LineForm) → i < length lines → line ≡ get_or lines i line
    → map line_form_seen (drop i lines) ≡ line_form_seen line ∷ map line_form_seen (drop (i + 1) lines)
lines_from lines i line within there =
    ap (map line_form_seen) (drop_more lines i line within)
    ∙ ap (λ l. line_form_seen l ∷ map line_form_seen (drop (i + 1) lines)) (sym there)
