-- Lists of numbers as words.
use Rattle.std.specs.Prelude.{replicate, ℤ, ℕ, Bool, List, map, zip, length, pos, ◌*◌, ◌≡◌}
use Rattle.nxt_types.specs.Arithmetic.{leaf_size, word, cut}
use Rattle.nxt_types.specs.declared.kind.Kind.{Kind}
use Rattle.nxt_model.specs.Values.{Value, Num, elements, list_of, number}
use Rattle.nxt_space.specs.Spots.{numbers_in_bytes}
use Rattle.nxt_ops.specs.declared.operator.Two.{Two}
use Rattle.nxt_ops.specs.declared.operator.One.{One}
use Rattle.nxt_ops.specs.Ops.{word_of_two, word_of_one}

-- the words of a list's numbers
abbrev pub words_of : Value → List ℕ
words_of v = map (λ u. word (number u)) (elements v)

-- the list that words give
abbrev pub list_of_words : List ℕ → Value
list_of_words ws = list_of (map (λ w. Num (pos w)) ws)

-- the words that an operator gives for words, place by place: the shorter list ends it
abbrev pub two_words : Two → Bool → List ℕ → List ℕ → List ℕ
two_words op signed us vs = map (λ p. word_of_two op signed (pos p.0) (pos p.1)) (zip us vs)

-- each word of a list beside one word, and one word beside each
abbrev pub words_before : Two → Bool → List ℕ → ℕ → List ℕ
words_before op signed us v = two_words op signed us (replicate (length us) v)

abbrev pub words_behind : Two → Bool → ℕ → List ℕ → List ℕ
words_behind op signed u vs = two_words op signed (replicate (length vs) u) vs

-- the list of the words that an operator gives for pairs of numbers
abbrev pub list_of_pairs : Two → Bool → List (ℤ × ℤ) → Value
list_of_pairs op signed pairs = list_of (map (λ p. Num (pos (word_of_two op signed p.0 p.1))) pairs)

-- and for the words of one list
abbrev pub one_words : One → Bool → List ℕ → List ℕ
one_words op signed ws = map (λ w. word_of_one op signed (pos w)) ws

-- the words stand in the bytes, cut to the kind
pub record AreWritten (k : Kind) (bytes : List ℕ) (ws : List ℕ) : Type 0 where
  pub long : length bytes ≡ length ws * leaf_size k
  pub are : elements (numbers_in_bytes k bytes) ≡ map (λ w. Num (cut k (pos w))) ws
