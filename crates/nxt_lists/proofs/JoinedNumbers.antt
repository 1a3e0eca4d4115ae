-- What sources give for a list of numbers, one after another.
use Rattle.std.proofs.Common.{◌≡◌, ℕ, ◌+◌, ◌-◌, ◌*◌, ◌^◌, ◌<◌, ◌≤◌, List, [], ◌∷◌, ◌++◌, map, take, drop, length, get_or, refl, sym, ap, ap₂, ◌∙◌, subst, arith, length-append}
use Rattle.std.proofs.Math.Seq.{take-length}
use Rattle.std.proofs.lemmas.List.{map-append, take_more}
use Rattle.std.proofs.lemmas.List.Elements.{All-nil, All-cons, All-append}
use Rattle.std.specs.Prelude.{All}
use Rattle.nxt_types.specs.Arithmetic.{leaf_size}
use Rattle.nxt_types.specs.Shapes.{Number}
use Rattle.nxt_types.specs.declared.kind.Kind.{Kind}
use Rattle.nxt_model.specs.Means.Arrays.{pieces}
use Rattle.nxt_model.specs.Means.Effects.{Given}
use Rattle.nxt_model.specs.Values.{Value, elements, list_of, stored}
use Rattle.nxt_model.proofs.Laws.Values.{items-values}
use Rattle.nxt_space.specs.Spots.{IsSpot, IsListSpot, numbers_in_bytes}
use Rattle.nxt_space.specs.Variables.{Variables, AreSound, shape_of, value_of}
use Rattle.nxt_space.specs.declared.spots.ListSpot.{ListSpot}
use Rattle.nxt_space.specs.declared.spots.Spot.{Spot}
use Rattle.nxt_operands.specs.Operands.{given}
use Rattle.nxt_lists.specs.InBytes.{AreStored}
use Rattle.nxt_lists.specs.Joined.{IsPiece, numbers_given}
use Rattle.nxt_lists.specs.Pieces.{pieces_of}
use Rattle.nxt_lists.specs.declared.joining.Piece.{Piece}
use Rattle.nxt_lists.specs.declared.joining.Piece.TheVariants.{Single, Each}
use Rattle.nxt_lists.proofs.NumberSections.{numbers_ordered}
use Rattle.nxt_lists.proofs.Replaced.{own_elements}
use Rattle.nxt_lists.proofs.Sources.{one_source_more}

-- one of them
piece_gives : (s : Variables) (dest i : ℕ) (to : ListSpot) (p : Piece) → IsListSpot s dest to → IsPiece s to.kind i p → pieces (shape_of s dest) (given s i) ≡ numbers_given s i p
piece_gives s dest i to (Single spot) mine is = ap₂ (λ l u. pieces l (Given u (value_of s i))) mine.shape is.shape
piece_gives s dest i to (Each list) mine is = ap₂ (λ l u. pieces l (Given u (value_of s i))) mine.shape is.0.shape

-- those of one source more
pub numbers_more : (s : Variables) (dest : ℕ) (to : ListSpot) (sources : List ℕ) (k d : ℕ) (p : Piece) → IsListSpot s dest to → k < length sources → IsPiece s to.kind (get_or sources k d) p → pieces_of s dest (take (k + 1) sources) ≡ pieces_of s dest (take k sources) ++ numbers_given s (get_or sources k d) p
numbers_more s dest to sources k d p mine less is =
    one_source_more s dest sources k d less
    ∙ ap (λ vs. pieces_of s dest (take k sources) ++ vs) (piece_gives s dest (get_or sources k d) to p mine is)

pub more_joined : (s : Variables) (dest : ℕ) (to : ListSpot) (sources : List ℕ) (k d : ℕ) (p : Piece) (bytes : List ℕ) → IsListSpot s dest to → k < length sources → IsPiece s to.kind (get_or sources k d) p → AreStored to.kind bytes (pieces_of s dest (take k sources) ++ numbers_given s (get_or sources k d) p) → AreStored to.kind bytes (pieces_of s dest (take (k + 1) sources))
more_joined s dest to sources k d p bytes mine less is e =
    subst (AreStored to.kind bytes) (sym (numbers_more s dest to sources k d p mine less is)) e

pub more_counted : (s : Variables) (dest : ℕ) (to : ListSpot) (sources : List ℕ) (k d count more : ℕ) (p : Piece) → IsListSpot s dest to → k < length sources → IsPiece s to.kind (get_or sources k d) p → count ≡ length (pieces_of s dest (take k sources)) → more ≡ length (numbers_given s (get_or sources k d) p) → count + more ≡ length (pieces_of s dest (take (k + 1) sources))
more_counted s dest to sources k d count more p mine less is counted found =
    ap₂ (λ m n. m + n) counted found
    ∙ sym (length-append (pieces_of s dest (take k sources)) (numbers_given s (get_or sources k d) p))
    ∙ ap length (sym (numbers_more s dest to sources k d p mine less is))

pub all_more : (P : ℕ → Type 0) (xs : List ℕ) (n d : ℕ) → n < length xs → All P (take n xs) → P (get_or xs n d) → All P (take (n + 1) xs)
all_more P xs n d less all one =
    let x = get_or xs n d in
    subst (All P) (sym (take_more xs n d less)) (All-append P (take n xs) (x ∷ []) all (All-cons P x [] one (All-nil P)))

-- ---- behind a list's own

-- a list is the first of its sources
pub list_first : (s : Variables) (dest : ℕ) (to : ListSpot) (sources : List ℕ) → IsListSpot s dest to → pieces_of s dest (dest ∷ sources) ≡ elements (value_of s dest) ++ pieces_of s dest sources
list_first s dest to sources mine = ap (λ vs. vs ++ pieces_of s dest sources) (piece_gives s dest dest to (Each to) mine (mine, refl))

-- and a number is the other one
pub number_behind : (s : Variables) (dest j : ℕ) (to : ListSpot) (number : Spot) (sources : List ℕ) → IsListSpot s dest to → IsSpot s j number → sources ≡ dest ∷ j ∷ [] → pieces_of s dest sources ≡ elements (value_of s dest) ++ value_of s j ∷ []
number_behind s dest j to number sources mine is are =
    ap (pieces_of s dest) are
    ∙ list_first s dest to (j ∷ []) mine
    ∙ ap (λ vs. elements (value_of s dest) ++ (vs ++ [])) (piece_gives s dest j to (Single number) mine is)

pub list_extended : (s : Variables) (i : ℕ) (to : ListSpot) (more : List ℕ) (us : List Value) → AreSound s → IsListSpot s i to → AreStored to.kind more us → list_of (elements (value_of s i) ++ elements (numbers_in_bytes to.kind more)) ≡ stored (shape_of s i) (list_of (elements (value_of s i) ++ us))
list_extended s i to more us sound mine e =
    let t = stored (Number to.kind) in
    let xs = elements (value_of s i) in
    ap
    list_of
    (ap₂ (λ ys zs. ys ++ zs) (sym (own_elements s i i to to sound mine mine refl)) e.are
    ∙ sym (map-append t xs us)
    ∙ ap (map t) (sym (items-values (xs ++ us))))
    ∙ ap (λ u. stored u (list_of (xs ++ us))) (sym mine.shape)

-- the first of the sources, and the others
first_source : (sources : List ℕ) → 1 ≤ length sources → sources ≡ get_or sources 0 0 ∷ take (length sources - 1) (drop 1 sources)
first_source [] some = absurd (omega (arith, some))
first_source (i ∷ sources) some =
    let n : length (i ∷ sources) - 1 ≡ length sources = omega arith in
    sym (ap (λ xs. i ∷ xs) (ap (λ m. take m sources) n ∙ take-length sources))

pub list_then : (s : Variables) (dest : ℕ) (to : ListSpot) (sources : List ℕ) → IsListSpot s dest to → 1 ≤ length sources → get_or sources 0 0 ≡ dest → pieces_of s dest sources ≡ elements (value_of s dest) ++ pieces_of s dest (take (length sources - 1) (drop 1 sources))
list_then s dest to sources mine some same =
    let others = take (length sources - 1) (drop 1 sources) in
    ap (pieces_of s dest) (first_source sources some ∙ ap (λ i. i ∷ others) same) ∙ list_first s dest to others mine

pub rest_few : (k : Kind) (vs us ws : List Value) → vs ≡ us ++ ws → length vs * leaf_size k < 2 ^ 31 → length ws * leaf_size k < 2 ^ 31
rest_few k vs us ws is few =
    let less : length ws ≤ length vs = omega (arith, ap length is, length-append us ws) in
    omega (arith, numbers_ordered k (length ws) (length vs) less, few)
