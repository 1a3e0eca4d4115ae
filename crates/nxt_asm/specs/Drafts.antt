-- A program with what its image is made from.
use Rattle.std.specs.Prelude.{◌≡◌, ℕ, List, map, sum_by}
use Rattle.nxt_types.specs.Names.{size}
use Rattle.nxt_model.specs.Assembled.{all_shapes, arrays_in}
use Rattle.nxt_model.specs.TextProgram.{constants, shape_by, static_size, struct_shapes, text_of, texts}
use Rattle.nxt_model.specs.declared.nbc.NbcProgram.{NbcProgram}
use Rattle.nxt_model.specs.declared.nbc.NbcStruct.{NbcStruct}
use Rattle.nxt_model.specs.declared.nbc.NbcType.{NbcType}
use Rattle.nxt_asm_parts.specs.Constants.{AllConstants}
use Rattle.nxt_asm_parts.specs.Starts.{blocks_starts}

-- the structs, the constants, the words at which statements begin, and the types of all that the table has
pub record IsFound (p : NbcProgram) (structs : List NbcStruct) (all : AllConstants) (starts : List (List ℕ)) (types : List NbcType) : Type 0 where
  pub measured : structs ≡ p.structs
  pub numbers : all.numbers ≡ constants (text_of p)
  pub texts : all.texts ≡ texts (text_of p)
  pub begun : starts ≡ blocks_starts 0 p.blocks
  pub typed : map (shape_by (struct_shapes p.structs)) types ≡ all_shapes (text_of p)

-- the table's entries, the static bytes, and the arrays that stand in no element
pub record AreCounted (p : NbcProgram) (entries static_bytes arrays : ℕ) : Type 0 where
  pub entries_are : entries ≡ sum_by size (all_shapes (text_of p))
  pub bytes_are : static_bytes ≡ static_size (text_of p)
  pub arrays_are : arrays ≡ sum_by arrays_in (all_shapes (text_of p))
