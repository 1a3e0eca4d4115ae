-- The rows and the bytes of lists, written one after another.
use Rattle.std.specs.Prelude.{ℕ, ◌+◌, ◌^◌, ◌<◌, List, [], ◌∷◌, ◌++◌, filter, flat_map, length, ⊤}
use Rattle.nxt_types.specs.Shapes.{Shape, leaf_bytes}
use Rattle.nxt_model.specs.Values.{elements}
use Rattle.nxt_model.specs.TextProgram.{Variable}
use Rattle.nxt_asm_parts.specs.AssembledParts.{Valued, element_of, is_array, list_bytes_of, rows_from}
use Rattle.nxt_asm_parts.specs.Defaults.{var_leaves, zero_leaves}
use Rattle.nxt_asm_parts.specs.declared.lists.ListsSoFar.{ListsSoFar}

-- the arrays of a shape, all empty, and those of a declared variable
abbrev pub zero_arrays : Shape → List Valued
zero_arrays s = filter is_array (zero_leaves s)

abbrev pub var_arrays : Variable → List Valued
var_arrays v = filter is_array (var_leaves v)

-- where the next list stands
abbrev pub next_list : ListsSoFar → ℕ
next_list d = d.start + length d.lists

abbrev pub lists_bytes : List Valued → List ℕ
lists_bytes as' = flat_map list_bytes_of as'

-- with those of more arrays
abbrev pub with_arrays : ListsSoFar → List Valued → ListsSoFar
with_arrays d as' = record { rows = d.rows ++ rows_from (next_list d) as'; lists = d.lists ++ lists_bytes as'; start = d.start }

-- strides and counts have 16 bits
abbrev pub AreSmall : List Valued → Type 0
AreSmall [] = ⊤
AreSmall (a ∷ as') = (leaf_bytes (element_of a.0) < 2 ^ 16) × (length (elements a.1) < 2 ^ 16) × AreSmall as'

-- the numbers in the rows of more arrays have 16 bits
pub record ListsFit (d : ListsSoFar) (as' : List Valued) : Type 0 where
  pub places : next_list d + length (lists_bytes as') < 2 ^ 16
  pub small : AreSmall as'
