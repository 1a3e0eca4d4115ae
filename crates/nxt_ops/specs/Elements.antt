-- What operators give for numbers and lists of numbers.
use Rattle.std.specs.Prelude.{ℕ, Bool, List, [], ◌∷◌, map, zip, length, slice_index_or, ℤ, pos}
use Rattle.nxt_types.specs.Shapes.{Shape, Array}
use Rattle.nxt_model.specs.Values.{Value, number}
use Rattle.nxt_operands.specs.Numbers.{numbers_in}
use Rattle.nxt_ops.specs.declared.lists.Source.{Source}
use Rattle.nxt_ops.specs.declared.lists.Source.TheVariants.{All, Each}
use Rattle.nxt_ops.specs.declared.operator.Two.{Two}
use Rattle.nxt_ops.specs.declared.operator.One.{One}
use Rattle.nxt_ops.specs.Ops.{word_of_two, word_of_one}

-- what stands for the places of a list
abbrev pub numbers_by : Shape → Value → Source
numbers_by (Array stride s) v = Each (numbers_in v)
numbers_by _ v = All (number v)

abbrev pub place_number : Source → ℕ → ℤ
place_number (All z) k = z
place_number (Each zs) k = slice_index_or zs k (pos 0)

-- the numbers of two sources, place by place
abbrev pub pairs_of : Source → Source → List (ℤ × ℤ)
pairs_of (Each xs) (Each ys) = zip xs ys
pairs_of (Each xs) (All y) = map (λ a. (a, y)) xs
pairs_of (All x) (Each ys) = map (λ b. (x, b)) ys
pairs_of (All x) (All y) = []

-- the flat forms of lists of words
abbrev pub words_of_pairs : Two → Bool → List (ℤ × ℤ) → List ℤ
words_of_pairs op signed pairs = pos (length pairs) ∷ map (λ p. pos (word_of_two op signed p.0 p.1)) pairs

abbrev pub words_of_each : One → Bool → List ℤ → List ℤ
words_of_each op signed zs = pos (length zs) ∷ map (λ z. pos (word_of_one op signed z)) zs
