-- Lines that have as many operands as they may have.
use Rattle.std.specs.Prelude.{◌≡◌, ℕ, ◌≤◌, true, List, [], ◌∷◌, length, ⊤}
use Rattle.nxt_types.specs.Opcodes.{arity, takes}
use Rattle.nxt_model.specs.Nbc.Forms.{Form, Precedes, Follows, Do}
use Rattle.nxt_model.specs.Nbc.Text.{Block}
use Rattle.nxt_nbc_lines.specs.Firsts.{Ascends}

-- no text has more lines, and no line more operands
abbrev pub most_in_text : ℕ
most_in_text = 16777216

-- a statement has as many operands as its operation takes
abbrev pub IsWhole : Form → Type 0
IsWhole (Do label op cmp ts) = (takes (arity op) (length ts) ≡ true) × (length ts ≤ most_in_text)
IsWhole (Precedes ts) = length ts ≤ most_in_text
IsWhole (Follows ts) = length ts ≤ most_in_text
IsWhole f = ⊤

abbrev pub AreWhole : List (ℕ × Form) → Type 0
AreWhole [] = ⊤
AreWhole ((line, f) ∷ fs) = IsWhole f × AreWhole fs

-- what holds of the lines of every text
pub record AreLines (fs : List (ℕ × Form)) : Type 0 where
  pub ascend : Ascends 0 fs
  pub whole : AreWhole fs
  pub few : length fs ≤ most_in_text

-- and of those of its blocks
abbrev pub BlocksAreWhole : List Block → Type 0
BlocksAreWhole [] = ⊤
BlocksAreWhole (b ∷ bs) = AreWhole b.items × (length b.items ≤ most_in_text) × BlocksAreWhole bs
