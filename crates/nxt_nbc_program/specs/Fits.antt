-- What a program counts fits in its fields.
use Rattle.std.specs.Prelude.{ℕ, ◌<◌, ◌≤◌, ◌^◌, List, [], ◌∷◌, length, ⊤}
use Rattle.nxt_model.specs.Nbc.Types.{Struct}
use Rattle.nxt_model.specs.Nbc.Text.{Source, LabelAt}
use Rattle.nxt_nbc_lines.specs.Whole.{most_in_text}
use Rattle.nxt_nbc_names.specs.declared.denoted.Denoted.{Denoted}
use Rattle.nxt_nbc_names.specs.declared.denoted.Denoted.TheVariants.{Part, Block}

abbrev pub AreBelow : ℕ → List ℕ → Type 0
AreBelow n [] = ⊤
AreBelow n (k ∷ ks) = (k < n) × AreBelow n ks

-- no struct has more members than a text has lines
abbrev pub HaveFewMembers : List Struct → Type 0
HaveFewMembers [] = ⊤
HaveFewMembers (s ∷ ss) = (length s.members ≤ most_in_text) × HaveFewMembers ss

pub record SourceFits (src : Source) : Type 0 where
  pub types : HaveFewMembers src.types
  pub vars : length src.vars ≤ most_in_text
  pub blocks : length src.blocks ≤ 255

abbrev pub LabelsFit : List LabelAt → Type 0
LabelsFit [] = ⊤
LabelsFit (l ∷ ls) = (l.position ≤ most_in_text) × LabelsFit ls

-- what an operand stands for
abbrev pub IsDenoted : Denoted → Type 0
IsDenoted (Part p) = (p.variable < 2 ^ 32) × AreBelow (2 ^ 63) p.path
IsDenoted (Block k sub) = k < 2 ^ 8
IsDenoted d = ⊤
