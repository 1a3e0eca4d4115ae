-- What names stand for, by their parts.
use Rattle.std.proofs.Common.{◌≡◌, ℕ, ◌<◌, List, map, length, slice_get, slice_index_or, Some, option_map, refl, sym, ap, ◌∙◌}
use Rattle.std.proofs.lemmas.Option.{slice_get-map, slice_get_read}
use Rattle.nxt_model.specs.Nbc.Text.{Variable}
use Rattle.nxt_nbc_names.specs.VariablesSeen.{variable_seen}
use Rattle.nxt_nbc_names.specs.declared.variables.Variable.{Variable as ProgramVariable}

-- the variable at a position
pub variable_at : (vs : List Variable) (xs : List ProgramVariable) (i : ℕ) (x : ProgramVariable) → map variable_seen xs ≡ vs → i < length xs → x ≡ slice_index_or xs i x
    → slice_get vs i ≡ Some (variable_seen x)
variable_at vs xs i x e within there =
    ap (λ ys. slice_get ys i) (sym e)
    ∙ slice_get-map variable_seen xs i
    ∙ ap (option_map variable_seen) (slice_get_read xs (length xs) i x refl within there)
