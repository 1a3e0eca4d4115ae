-- What variables give for a list of numbers.
use Rattle.std.specs.Prelude.{◌≡◌, ℕ, List, [], ◌∷◌}
use Rattle.nxt_types.specs.declared.kind.Kind.{Kind}
use Rattle.nxt_model.specs.Values.{Value, elements}
use Rattle.nxt_space.specs.Spots.{IsSpot, IsListSpot}
use Rattle.nxt_space.specs.Variables.{Variables, value_of}
use Rattle.nxt_lists.specs.declared.joining.Piece.{Piece}
use Rattle.nxt_lists.specs.declared.joining.Piece.TheVariants.{Single, Each}

-- the variable is a number, or a list of numbers of the kind
abbrev pub IsPiece : Variables → Kind → ℕ → Piece → Type 0
IsPiece s k i (Single spot) = IsSpot s i spot
IsPiece s k i (Each list) = IsListSpot s i list × (list.kind ≡ k)

pub record GivesNumbers (s : Variables) (k : Kind) (i : ℕ) : Type 0 where
  pub piece : Piece
  pub is : IsPiece s k i piece

-- the numbers that it gives
abbrev pub numbers_given : Variables → ℕ → Piece → List Value
numbers_given s i (Single spot) = value_of s i ∷ []
numbers_given s i (Each list) = elements (value_of s i)
