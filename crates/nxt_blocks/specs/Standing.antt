-- Blocks that share no byte, in the form in which their laws are proved.
use Rattle.std.specs.Prelude.{ℕ, ◌+◌, ◌<◌, ◌≤◌, ◌⊎◌, if◌then◌else◌, nat_lt, List, map}
use Rattle.std.specs.List.{AllByRecursion}
use Rattle.nxt_facts.specs.Pairs.{EachPair}
use Rattle.nxt_model.specs.Reading.{Block}
use Rattle.nxt_blocks.specs.Blocks.{packed, at_place}

-- two blocks share no byte
abbrev pub IsApart : Block → Block → Type 0
IsApart a b = (a.place + a.bytes ≤ b.place) ⊎ (b.place + b.bytes ≤ a.place)

-- blocks that share no byte, between two places
pub record Stand (base top : ℕ) (blocks : List Block) : Type 0 where
  pub apart : EachPair IsApart blocks
  pub some : AllByRecursion (λ b. 0 < b.bytes) blocks
  pub above : AllByRecursion (λ b. base ≤ b.place) blocks
  pub within : AllByRecursion (λ b. b.place + b.bytes ≤ top) blocks

-- the blocks that begin below `upto` stand without gaps
abbrev pub settled_place : ℕ → ℕ → List Block → ℕ → ℕ
settled_place upto base blocks place = if nat_lt place upto then packed base blocks place else place

abbrev pub settle_below : ℕ → ℕ → List Block → List Block
settle_below upto base blocks = map (λ b. at_place (settled_place upto base blocks b.place) b) blocks
