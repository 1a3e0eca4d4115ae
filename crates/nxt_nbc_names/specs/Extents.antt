-- How much a type holds.
use Rattle.std.specs.Prelude.{ℕ, Bool, min}
use Rattle.nxt_types.specs.Shapes.{Shape, Members, has_list, some_list}
use Rattle.nxt_types.specs.Names.{size, sizes}
use Rattle.nxt_model.specs.Nbc.Types.{depth_of, depth_among}
use Rattle.nxt_nbc_names.specs.declared.extent.Extent.{Extent}

-- one above the most table entries of a declared type, and above the most arrays and structs around a part of it
abbrev pub too_many_entries : ℕ
too_many_entries = 49152

abbrev pub too_many_nested : ℕ
too_many_nested = 9

abbrev pub extent : ℕ → ℕ → Bool → Extent
extent entries nested has_list =
    record { entries = min entries too_many_entries; nested = min nested too_many_nested; has_list = has_list }

abbrev pub extent_of : Shape → Extent
extent_of s = extent (size s) (depth_of s) (has_list s)

-- that of a struct's members
abbrev pub extent_of_all : Members → Extent
extent_of_all ss = extent (sizes ss) (depth_among ss) (some_list ss)
