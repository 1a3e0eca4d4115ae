-- Structs that convert to one another.
use Rattle.std.specs.Prelude.{◌≡◌, ℕ, Bool, false, ◌==◌, List, slice_index_or, Option, Some, None}
use Rattle.nxt_types.specs.Shapes.{Void, convertible}
use Rattle.nxt_model.specs.Nbc.Types.{type_shapes}
use Rattle.nxt_model.specs.Nbc.Structs.{Types}

-- two structs that convert are of one kind
abbrev pub are_of_a_kind : Option ℕ → Option ℕ → Bool
are_of_a_kind (Some a) (Some b) = a == b
are_of_a_kind _ _ = false

-- structs convert to one another where they are of one kind
abbrev pub AreConversions : Types → List (Option ℕ) → Type 0
AreConversions t ks =
    (i j : ℕ) → convertible (slice_index_or (type_shapes t.structs) i Void) (slice_index_or (type_shapes t.structs) j Void)
    ≡ are_of_a_kind (slice_index_or ks i None) (slice_index_or ks j None)
