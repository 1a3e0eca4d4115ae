-- Worked pools.
use Rattle.std.proofs.Common.{◌≡◌, ℕ, refl, List, [], ◌∷◌}
use Rattle.std.specs.Prelude.{false}
use Rattle.nxt_model.specs.Reading.{Block}
use Rattle.nxt_blocks.specs.Blocks.{settle, unsettled, slide, is_open}
use Rattle.nxt_blocks.specs.Standing.{settle_below}

abbrev block : ℕ → ℕ → Block
block place bytes = record { place = place; bytes = bytes }

-- the table, two lists of 10,000 bytes, and the gap that a third one left between them
abbrev three : List Block
three = block 24 40 ∷ block 64 10000 ∷ block 20064 10000 ∷ []

one_unsettled : unsettled 24 three ≡ 1
one_unsettled = refl

settles : settle 1 24 three ≡ block 24 40 ∷ block 64 10000 ∷ block 10064 10000 ∷ []
settles = refl

none_left : unsettled 24 (settle 1 24 three) ≡ 0
none_left = refl

settles_none : settle 0 24 three ≡ three
settles_none = refl

-- the first list gets 22,000 bytes: in place there are 20,000, and no hole has them
not_in_place : is_open 24 32768 (block 24 40 ∷ block 20064 10000 ∷ []) 64 22000 ≡ false
not_in_place = refl

slides : slide 24 three 64 12000 ≡ block 24 40 ∷ block 64 22000 ∷ block 22064 10000 ∷ []
slides = refl

-- in any order of the list, with the table on top
abbrev mixed_pool : List Block
mixed_pool = block 100 8 ∷ block 200 20 ∷ block 40 12 ∷ block 12 4 ∷ []

two_of_three : settle 2 12 mixed_pool ≡ block 28 8 ∷ block 200 20 ∷ block 16 12 ∷ block 12 4 ∷ []
two_of_three = refl

one_more : unsettled 12 mixed_pool ≡ 3
one_more = refl

one_after : unsettled 12 (settle 2 12 mixed_pool) ≡ 1
one_after = refl

same_below : settle_below 101 12 mixed_pool ≡ settle 2 12 mixed_pool
same_below = refl
