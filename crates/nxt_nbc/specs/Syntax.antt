-- A form that no line may have.
use Rattle.std.specs.Prelude.{ℕ, Bool, ◌||◌, List}
use Rattle.nxt_model.specs.Nbc.Forms.{Form}
use Rattle.nxt_model.specs.Nbc.Types.{Struct}
use Rattle.nxt_model.specs.Nbc.NbcRules.{has_large_type, has_wrong_text}

-- its type is too large, or it starts with a text and isn't of bytes
abbrev pub is_bad_form : List Struct → ℕ → Form → Bool
is_bad_form types line f = has_large_type types line f || has_wrong_text types line f
