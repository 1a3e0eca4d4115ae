-- What operators give depends on the words of numbers alone.
use Rattle.std.proofs.Common.{◌≡◌, ℕ, ◌+◌, ◌-◌, ◌*◌, ◌%◌, ◌^◌, Bool, List, [], ◌∷◌, map, zip, length, take, pos, refl, sym, ap, ap₂, ◌∙◌}
use Rattle.std.specs.Prelude.{ℤ, bit_and, bit_or, bit_xor, ◌==◌}
use Rattle.nxt_types.specs.Arithmetic.{word, taken, leaf_size, quotient, remainder, compares}
use Rattle.nxt_types.specs.Shapes.{Shape, Number}
use Rattle.nxt_types.specs.declared.kind.Arith.{Arith}
use Rattle.nxt_types.specs.declared.kind.Arith.TheVariants.{Add, Sub, Mul, Div, Mod, And, Or, Xor}
use Rattle.nxt_model.specs.Means.Effects.{element}
use Rattle.nxt_model.specs.Means.Numbers.{signed_kind, either_signed, truth}
use Rattle.nxt_model.specs.Values.{Value, Num, elements, list_of, number, stored}
use Rattle.nxt_space.specs.Spots.{IsListSpot, IsSpot}
use Rattle.nxt_space.specs.Variables.{Variables, shape_of, value_of}
use Rattle.nxt_space.specs.declared.spots.ListSpot.{ListSpot}
use Rattle.nxt_space.specs.declared.spots.Spot.{Spot}
use Rattle.nxt_space.proofs.Laws.Words.{stored_word}
use Rattle.nxt_operands.specs.Operands.{given}
use Rattle.nxt_model.proofs.Laws.Values.{items-values}
use Rattle.nxt_ops.specs.declared.operator.Two.{Two}
use Rattle.nxt_ops.specs.declared.operator.Two.TheVariants.{Calculate, Compare}
use Rattle.nxt_ops.specs.declared.operator.One.{One}
use Rattle.nxt_ops.specs.declared.operator.One.TheVariants.{Neg, Not, Test}
use Rattle.nxt_ops.specs.Ops.{word_of_two, word_of_one, value_of_two, value_of_one}
use Rattle.nxt_ops.specs.Elements.{numbers_by, pairs_of}
use Rattle.nxt_ops.specs.Passes.{words_of, list_of_words, list_of_pairs, two_words, one_words, words_before, words_behind}
use Rattle.nxt_space.proofs.Laws.Words.{word_twice}
use Rattle.nxt_ops.proofs.DecidingInPlace.{word_taken}
use Rattle.nxt_ops.proofs.Words.{two_words as two_listed}

-- ---- one place

calculate_same : (a : Arith) (s : Bool) (x y : ℤ) → word_of_two (Calculate a) s (pos (word x)) (pos (word y)) ≡ word_of_two (Calculate a) s x y
calculate_same Add s x y = ap₂ (λ u v. (u + v) % 2 ^ 32) (word_twice x) (word_twice y)
calculate_same Sub s x y = ap₂ (λ u v. (u + (2 ^ 32 - v)) % 2 ^ 32) (word_twice x) (word_twice y)
calculate_same Mul s x y = ap₂ (λ u v. (u * v) % 2 ^ 32) (word_twice x) (word_twice y)
calculate_same Div s x y = ap₂ (λ a b. word (quotient a b)) (word_taken s x) (word_taken s y)
calculate_same Mod s x y = ap₂ (λ a b. word (remainder a b)) (word_taken s x) (word_taken s y)
calculate_same And s x y = ap₂ bit_and (word_twice x) (word_twice y)
calculate_same Or s x y = ap₂ bit_or (word_twice x) (word_twice y)
calculate_same Xor s x y = ap₂ bit_xor (word_twice x) (word_twice y)

two_same : (op : Two) (s : Bool) (x y : ℤ) → word_of_two op s (pos (word x)) (pos (word y)) ≡ word_of_two op s x y
two_same (Calculate a) s x y = calculate_same a s x y
two_same (Compare c) s x y = ap₂ (λ a b. truth (compares c a b)) (word_taken s x) (word_taken s y)

one_same : (op : One) (s : Bool) (x : ℤ) → word_of_one op s (pos (word x)) ≡ word_of_one op s x
one_same Neg s x = ap (λ v. (0 + (2 ^ 32 - v)) % 2 ^ 32) (word_twice x)
one_same Not s x = ap (λ v. truth (v == 0)) (word_twice x)
one_same (Test c) s x = ap (λ a. truth (compares c a (taken s (pos 0)))) (word_taken s x)

-- ---- lists

-- a list's words, each as a value
abbrev as_word : Value → ℕ
as_word v = word (number v)

pub zip_cut : (xs ys : List ℕ) → zip (take (length ys) xs) ys ≡ zip xs ys
zip_cut [] [] = refl
zip_cut [] (y ∷ ys) = refl
zip_cut (x ∷ xs) [] = refl
zip_cut (x ∷ xs) (y ∷ ys) = ap (λ ps. (x, y) ∷ ps) (zip_cut xs ys)

zip_values : (op : Two) (s : Bool) (us vs : List Value) → list_of_words (two_words op s (map as_word us) (map as_word vs)) ≡ list_of_pairs op s (zip (map number us) (map number vs))
zip_values op s us vs = ap list_of (each us vs)
  where
    each : (us vs : List Value) → map (λ w. Num (pos w)) (two_words op s (map as_word us) (map as_word vs)) ≡ map (λ (p : ℤ × ℤ). Num (pos (word_of_two op s p.0 p.1))) (zip (map number us) (map number vs))
    each [] vs = refl
    each (u ∷ us) [] = refl
    each (u ∷ us) (v ∷ vs) = ap₂ (λ w ws. Num (pos w) ∷ ws) (two_same op s (number u) (number v)) (each us vs)

before_values : (op : Two) (s : Bool) (z : ℤ) (us : List Value) → list_of_words (words_before op s (map as_word us) (word z)) ≡ list_of_pairs op s (map (λ a. (a, z)) (map number us))
before_values op s z us = ap list_of (each us)
  where
    each : (us : List Value) → map (λ w. Num (pos w)) (words_before op s (map as_word us) (word z)) ≡ map (λ (p : ℤ × ℤ). Num (pos (word_of_two op s p.0 p.1))) (map (λ a. (a, z)) (map number us))
    each [] = refl
    each (u ∷ us) = ap₂ (λ w ws. Num (pos w) ∷ ws) (two_same op s (number u) z) (each us)

behind_values : (op : Two) (s : Bool) (z : ℤ) (us : List Value) → list_of_words (words_behind op s (word z) (map as_word us)) ≡ list_of_pairs op s (map (λ b. (z, b)) (map number us))
behind_values op s z us = ap list_of (each us)
  where
    each : (us : List Value) → map (λ w. Num (pos w)) (words_behind op s (word z) (map as_word us)) ≡ map (λ (p : ℤ × ℤ). Num (pos (word_of_two op s p.0 p.1))) (map (λ b. (z, b)) (map number us))
    each [] = refl
    each (u ∷ us) = ap₂ (λ w ws. Num (pos w) ∷ ws) (two_same op s z (number u)) (each us)

map_values : (op : One) (s : Bool) (vs : List Value) → map (λ w. Num (pos w)) (one_words op s (map as_word vs)) ≡ map (λ v. Num (pos (word_of_one op s (number v)))) vs
map_values op s [] = refl
map_values op s (v ∷ vs) = ap₂ (λ w ws. Num (pos w) ∷ ws) (one_same op s (number v)) (map_values op s vs)

-- two values, of which the one or the other may be a number
abbrev sides_of : Variables → ℕ → ℕ → List (ℤ × ℤ)
sides_of s i j = pairs_of (numbers_by (shape_of s i) (value_of s i)) (numbers_by (shape_of s j) (value_of s j))

pub lists_beside : (s : Variables) (op : Two) (signed : Bool) (i j : ℕ) (x y : ListSpot) (ws : List ℕ) → IsListSpot s i x → IsListSpot s j y → ws ≡ two_words op signed (words_of (value_of s i)) (words_of (value_of s j)) → list_of_words ws ≡ list_of_pairs op signed (sides_of s i j)
lists_beside s op signed i j x y ws mine theirs is =
    ap list_of_words is
    ∙ zip_values op signed (elements (value_of s i)) (elements (value_of s j))
    ∙ sym (ap₂ (λ t u. list_of_pairs op signed (pairs_of (numbers_by t (value_of s i)) (numbers_by u (value_of s j)))) mine.shape theirs.shape)

pub number_behind : (s : Variables) (op : Two) (signed : Bool) (i j : ℕ) (x : ListSpot) (y : Spot) (ws : List ℕ) → IsListSpot s i x → IsSpot s j y → ws ≡ words_before op signed (words_of (value_of s i)) (word (number (value_of s j))) → list_of_words ws ≡ list_of_pairs op signed (sides_of s i j)
number_behind s op signed i j x y ws mine theirs is =
    ap list_of_words is
    ∙ before_values op signed (number (value_of s j)) (elements (value_of s i))
    ∙ sym (ap₂ (λ t u. list_of_pairs op signed (pairs_of (numbers_by t (value_of s i)) (numbers_by u (value_of s j)))) mine.shape theirs.shape)

pub number_before : (s : Variables) (op : Two) (signed : Bool) (i j : ℕ) (x : Spot) (y : ListSpot) (ws : List ℕ) → IsSpot s i x → IsListSpot s j y → ws ≡ words_behind op signed (word (number (value_of s i))) (words_of (value_of s j)) → list_of_words ws ≡ list_of_pairs op signed (sides_of s i j)
number_before s op signed i j x y ws mine theirs is =
    ap list_of_words is
    ∙ behind_values op signed (number (value_of s i)) (elements (value_of s j))
    ∙ sym (ap₂ (λ t u. list_of_pairs op signed (pairs_of (numbers_by t (value_of s i)) (numbers_by u (value_of s j)))) mine.shape theirs.shape)

pub no_lists_beside : (s : Variables) (op : Two) (signed : Bool) (i j : ℕ) (x y : Spot) (ws : List ℕ) → IsSpot s i x → IsSpot s j y → ws ≡ [] → list_of_words ws ≡ list_of_pairs op signed (sides_of s i j)
no_lists_beside s op signed i j x y ws mine theirs is =
    ap list_of_words is
    ∙ sym (ap₂ (λ t u. list_of_pairs op signed (pairs_of (numbers_by t (value_of s i)) (numbers_by u (value_of s j)))) mine.shape theirs.shape)

-- what an operator gives for them
pub two_by_words : (s : Variables) (op : Two) (dest x y : ℕ) (signed : Bool) (to : ListSpot) (ws : List ℕ) → IsListSpot s dest to → signed ≡ either_signed (element (shape_of s x)) (element (shape_of s y)) → list_of_words ws ≡ list_of_pairs op signed (sides_of s x y) → list_of_words ws ≡ value_of_two op (shape_of s dest) (given s x) (given s y)
two_by_words s op dest x y signed to ws mine kinds is =
    is
    ∙ ap (λ k. list_of_pairs op k (sides_of s x y)) kinds
    ∙ sym (two_listed op (leaf_size to.kind) to.kind (shape_of s x) (shape_of s y) (value_of s x) (value_of s y))
    ∙ sym (ap (λ d. value_of_two op d (given s x) (given s y)) mine.shape)

-- and for one
pub one_by_words : (s : Variables) (op : One) (dest x : ℕ) (signed : Bool) (to a : ListSpot) (ws : List ℕ) → IsListSpot s dest to → IsListSpot s x a → signed ≡ signed_kind (element (shape_of s x)) → ws ≡ one_words op signed (words_of (value_of s x)) → list_of_words ws ≡ value_of_one op (shape_of s dest) (given s x)
one_by_words s op dest x signed to a ws mine first kinds is =
    let v = value_of s x in
    ap list_of_words (is ∙ ap (λ k. one_words op k (words_of v)) kinds)
    ∙ ap list_of (map_values op (signed_kind (element (shape_of s x))) (elements v))
    ∙ sym (ap (λ d. value_of_one op d (given s x)) mine.shape)

-- ---- a list in one of another kind

own_words : (t : Shape) (vs : List Value) → ((v : Value) → stored t (Num (pos (as_word v))) ≡ stored t v) → map (stored t) (map (λ w. Num (pos w)) (map as_word vs)) ≡ map (stored t) vs
own_words t [] same = refl
own_words t (v ∷ vs) same = ap₂ (λ w ws. w ∷ ws) (same v) (own_words t vs same)

pub same_by_words : (s : Variables) (i : ℕ) (to : ListSpot) (v : Value) (ws : List ℕ) → IsListSpot s i to → ws ≡ words_of v → stored (shape_of s i) (list_of_words ws) ≡ stored (shape_of s i) v
same_by_words s i to v ws mine is =
    let t = Number to.kind in
    ap₂ (λ u us. stored u (list_of_words us)) mine.shape is
    ∙ ap (λ us. list_of (map (stored t) us)) (items-values (map (λ w. Num (pos w)) (words_of v)))
    ∙ ap list_of (own_words t (elements v) (λ u. stored_word t (number u) refl))
    ∙ sym (ap (λ u. stored u v) mine.shape)
