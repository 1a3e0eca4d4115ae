-- Words of operators, number by number.
use Rattle.std.proofs.Common.{◌≡◌, ℕ, ◌+◌, ◌<◌, Bool, List, [], ◌∷◌, ◌++◌, map, length, take, get_or, sym, ap, ap₂, ◌∙◌, arith}
use Rattle.std.specs.Prelude.{ℤ, pos}
use Rattle.std.proofs.lemmas.List.{take_more, map-append, length-map, get_or-map}
use Rattle.std.proofs.lemmas.Slice.Zip.{length-zip, get_or-zip}
use Rattle.nxt_ops.specs.declared.lists.Source.{Source}
use Rattle.nxt_ops.specs.declared.lists.Source.TheVariants.{All, Each}
use Rattle.nxt_ops.specs.declared.operator.One.{One}
use Rattle.nxt_ops.specs.declared.operator.Two.{Two}
use Rattle.nxt_ops.specs.Elements.{place_number, pairs_of}
use Rattle.nxt_ops.specs.Ops.{word_of_two, word_of_one}

-- ---- the numbers for a place

pair_at : (xs ys : Source) (k : ℕ) → k < length (pairs_of xs ys) → get_or (pairs_of xs ys) k (pos 0, pos 0) ≡ (place_number xs k, place_number ys k)
pair_at (Each xs) (Each ys) k less =
    let n = length-zip xs ys in
    get_or-zip xs ys k (pos 0, pos 0) (omega (arith, less, n)) (omega (arith, less, n))
pair_at (Each xs) (All y) k less =
    let within : k < length xs = omega (arith, less, length-map {B = ℤ × ℤ} xs (λ a. (a, y))) in
    get_or-map {Y = ℤ × ℤ} (λ a. (a, y)) xs k (pos 0) (pos 0, pos 0) within
pair_at (All x) (Each ys) k less =
    let within : k < length ys = omega (arith, less, length-map {B = ℤ × ℤ} ys (λ b. (x, b))) in
    get_or-map {Y = ℤ × ℤ} (λ b. (x, b)) ys k (pos 0) (pos 0, pos 0) within
pair_at (All x) (All y) k less = absurd (omega (arith, less))

-- ---- words

-- the words for so many pairs, behind the number of all
abbrev pub pair_words : Two → Bool → List (ℤ × ℤ) → ℕ → List ℤ
pair_words op signed pairs k = pos (length pairs) ∷ map (λ p. pos (word_of_two op signed p.0 p.1)) (take k pairs)

-- one more
pub pair_more : (op : Two) (signed : Bool) (xs ys : Source) (k : ℕ) (x y word : ℤ) (flat more : List ℤ) → k < length (pairs_of xs ys) → flat ≡ pair_words op signed (pairs_of xs ys) k → x ≡ place_number xs k → y ≡ place_number ys k → word ≡ pos (word_of_two op signed x y) → more ≡ flat ++ word ∷ [] → more ≡ pair_words op signed (pairs_of xs ys) (k + 1)
pair_more op signed xs ys k x y word flat more less e ex ey is added =
    let pairs = pairs_of xs ys in
    let f = λ (p : ℤ × ℤ). pos (word_of_two op signed p.0 p.1) in
    let here : word ≡ f (get_or pairs k (pos 0, pos 0)) =
    is ∙ ap₂ (λ a b. f (a, b)) ex ey ∙ ap f (sym (pair_at xs ys k less))
    in
    added
    ∙ ap₂ (λ zs z. zs ++ z ∷ []) e here
    ∙ ap
    (λ zs. pos (length pairs) ∷ zs)
    (sym (ap (map f) (take_more pairs k (pos 0, pos 0) less) ∙ map-append f (take k pairs) (get_or pairs k (pos 0, pos 0) ∷ [])))

-- the same for numbers
abbrev pub number_words : One → Bool → List ℤ → ℕ → List ℤ
number_words op signed zs k = pos (length zs) ∷ map (λ z. pos (word_of_one op signed z)) (take k zs)
