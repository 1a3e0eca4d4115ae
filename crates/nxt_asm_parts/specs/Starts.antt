-- Where the statements of a program's blocks begin.
use Rattle.std.specs.Prelude.{ℕ, ◌+◌, List, [], ◌∷◌}
use Rattle.nxt_model.specs.declared.nbc.NbcBlock.{NbcBlock}
use Rattle.nxt_model.specs.Assembled.{starts_from, block_words}

-- of each block the words at which its statements begin, and the word behind it
abbrev pub blocks_starts : ℕ → List NbcBlock → List (List ℕ)
blocks_starts here [] = []
blocks_starts here (b ∷ bs) = starts_from here b.body ∷ blocks_starts (here + block_words b) bs
