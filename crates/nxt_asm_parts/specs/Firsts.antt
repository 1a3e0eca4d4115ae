-- The first table entries of shapes, and the return variables of blocks.
use Rattle.std.specs.Prelude.{ℕ, ◌+◌, List, [], ◌∷◌, length, sum_by}
use Rattle.nxt_types.specs.Shapes.{Shape}
use Rattle.nxt_types.specs.Names.{size}
use Rattle.nxt_model.specs.declared.nbc.NbcBlock.{NbcBlock}
use Rattle.nxt_model.specs.TextProgram.{subroutines}
use Rattle.nxt_asm_parts.specs.Measures.{held}
use Rattle.nxt_asm_parts.specs.declared.firsts.FirstEntries.{FirstEntries}
use Rattle.nxt_asm_parts.specs.declared.firsts.ReturnPlaces.{ReturnPlaces}

-- of each shape the entries before it, where the first stands behind so many
abbrev pub firsts_from : ℕ → List Shape → List ℕ
firsts_from here [] = []
firsts_from here (s ∷ ss) = held here ∷ firsts_from (here + size s) ss

abbrev pub firsts_of : List Shape → FirstEntries
firsts_of ss = record { of_each = firsts_from 0 ss; behind = held (sum_by size ss) }

-- of each block the number of subroutines before it, where n are before the first
abbrev pub before_from : ℕ → List NbcBlock → List ℕ
before_from n [] = []
before_from n (b ∷ bs) = n ∷ before_from (n + length (subroutines (b ∷ []))) bs

abbrev pub places_of : List NbcBlock → ReturnPlaces
places_of bs = record { before = before_from 0 bs; count = length (subroutines bs) }
