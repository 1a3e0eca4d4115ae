-- The order of blocks by their numbers is that of the definitions.
use Rattle.std.proofs.Common.{◌≡◌, refl}
use Rattle.nxt_model.specs.Nbc.Text.{Source, ordered}
use Rattle.nxt_nbc_names.specs.Blocks.{main_first}

pub ordered_is : (src : Source) → ordered src ≡ main_first src.blocks
ordered_is src = refl
