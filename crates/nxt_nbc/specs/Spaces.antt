-- Names that are declared again.
use Rattle.std.specs.Prelude.{ℕ, Bool, ◌||◌, if◌then◌else◌, List, [], ◌∷◌, ◌++◌, bytes_eq, Option, Some, None}
use Rattle.std.specs.List.{list_any}
use Rattle.nxt_model.specs.Nbc.NbcRules.{Declared}
use Rattle.nxt_nbc_lines.specs.Firsts.{lesser}

-- whether a name stands among names
abbrev pub is_among : List (List ℕ) → List ℕ → Bool
is_among names name = list_any (λ n. bytes_eq n name) names

-- a line that declares a name again, or else a later one
abbrev pub again : Bool → ℕ → Option ℕ → Option ℕ
again twice line later = if twice then lesser (Some line) later else later

-- the least line of names that declares one again, behind names, or one that is taken
abbrev pub least_again : (ℕ → List ℕ → Bool) → List (List ℕ) → List Declared → Option ℕ
least_again taken before [] = None
least_again taken before ((line, name) ∷ ds) =
    again (is_among before name || taken line name) line (least_again taken (before ++ name ∷ []) ds)

-- that of several spaces
abbrev pub least_in_spaces : (ℕ → List ℕ → Bool) → List (List Declared) → Option ℕ
least_in_spaces taken [] = None
least_in_spaces taken (ds ∷ more) = lesser (least_again taken [] ds) (least_in_spaces taken more)
