-- How the blocks of a text are kept.
use Rattle.std.specs.Prelude.{◌≡◌, ℕ, Bool, true, false, List, map}
use Rattle.nxt_model.specs.Nbc.Forms.{Form}
use Rattle.nxt_model.specs.Nbc.Forms as forms
use Rattle.nxt_model.specs.Nbc.Text.{Block}
use Rattle.nxt_nbc_names.specs.Blocks.{main_first}

-- a line that closes a block
abbrev pub closes_block : Form → Bool
closes_block forms.CloseBlock = true
closes_block _ = false

pub record AreBlocks (in_text numbered : List Block) (kept : List (List ℕ)) : Type 0 where
  pub order : numbered ≡ main_first in_text
  pub names : kept ≡ map (λ b. b.name) numbered
