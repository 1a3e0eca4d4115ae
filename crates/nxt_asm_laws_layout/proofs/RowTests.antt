-- Tests of rows that no array of an assembled text passes.
use Rattle.std.proofs.Common.{◌≡◌, ℕ, ◌+◌, ◌<◌, Bool, true, false, ◌&&◌, ◌||◌, ◌==◌, not, nat_le, nat_lt, List, [], ◌∷◌, ◌++◌, filter, flat_map, length, refl, sym, ap, ap₂, ◌∙◌, arith, eq-eqb, eqb-true, le-leb, leb-true, length-append, true≢false}
use Rattle.std.specs.List.{list_all, list_any}
use Rattle.std.proofs.lemmas.Bool.{false_from_ne_true}
use Rattle.std.proofs.lemmas.List.Elements.{filter-append}
use Rattle.nxt_types.specs.Shapes.{Shape, Void, Number, Array, Cluster, Mutex, Members, no_members, member, bare, bares, has_list, some_list}
use Rattle.nxt_model.specs.Values.{Value, elements}
use Rattle.nxt_model.specs.Reading.{row_count}
use Rattle.nxt_asm_parts.specs.AssembledParts.{is_array, leaves_in, leaves_among}
use Rattle.nxt_table.specs.Leaves.{Leaf, extent}
use Rattle.nxt_layout.specs.LayoutRules.{names_no_row}
use Rattle.nxt_layout.specs.Rows.{Ground, has_elements, is_beyond, is_strided, reached_through, row}
use Rattle.nxt_facts.proofs.Each.{Each}
use Rattle.nxt_asm_laws_layout.proofs.Held.{AreHeld, IsHeld}
use Rattle.nxt_asm_laws_layout.proofs.Numbers.{HasRow, Inside, IsNumbered, Outside}
use Rattle.nxt_asm_laws_layout.proofs.LayoutStart.{g, reached_all}

-- ---- tests

pub any_none : {X : Type 0} (p : X → Bool) (xs : List X) → Each (λ x. p x ≡ false) xs → list_any p xs ≡ false
any_none p [] h = refl
any_none p (x ∷ xs) h = ap₂ (λ (a b : Bool). a || b) h.0 (any_none p xs h.1)

-- the facts of a test of five
pub five : (a b c d e : Bool) → (a && b && c && d && e) ≡ true → (a ≡ true) × (b ≡ true) × (c ≡ true) × (e ≡ true)
five true true true true true h = (refl, refl, refl, refl)
five true true true true false h = absurd (true≢false (sym h))
five true true true false e h = absurd (true≢false (sym h))
five true true false d e h = absurd (true≢false (sym h))
five true false c d e h = absurd (true≢false (sym h))
five false b c d e h = absurd (true≢false (sym h))

pub five_from : (a b c d e : Bool) → a ≡ true → b ≡ true → c ≡ true → d ≡ true → e ≡ true → (a && b && c && d && e) ≡ true
five_from true true true true true h i j k l = refl
five_from false b c d e h i j k l = absurd (true≢false (sym h))
five_from true false c d e h i j k l = absurd (true≢false (sym i))
five_from true true false d e h i j k l = absurd (true≢false (sym j))
five_from true true true false e h i j k l = absurd (true≢false (sym k))
five_from true true true true false h i j k l = absurd (true≢false (sym l))

-- what is reached in each way is what is numbered
pub flat_same : {X Y : Type 0} (f k : X → List Y) (xs : List X) → Each (λ x. f x ≡ k x) xs → flat_map f xs ≡ flat_map k xs
flat_same f k [] h = refl
flat_same f k (x ∷ xs) h = ap₂ (λ a b. a ++ b) h.0 (flat_same f k xs h.1)

-- ---- single arrays

module _ (ground : Ground) where
  pub none_beyond : (l : Leaf) → IsNumbered ground l → names_no_row ground l ≡ false
  none_beyond l (Outside h) = ap (list_any (is_beyond ground)) h.numbers ∙ ap (λ b. b || false) (not_le (row_count ground.memory) h.number h.below)
    where
      not_le : (m n : ℕ) → n < m → nat_le m n ≡ false
      not_le m n less = false_from_ne_true (nat_le m n) (λ e. let le = leb-true m n e in omega (arith, less, le))
  none_beyond l (Inside e) = ap (list_any (is_beyond ground)) e

  own_stride : (l : Leaf) → (h : HasRow ground l) → is_strided ground l.entry (h.number ∷ []) h.number ≡ true
  own_stride l h = by (has_elements ground h.number) (nat_le (extent ground.leaves l.entry) (row ground h.number).stride) _ enough same
    where
      enough : nat_le (extent ground.leaves l.entry) (row ground h.number).stride ≡ true
      enough = let e = h.stride in le-leb (extent ground.leaves l.entry) (row ground h.number).stride (omega (arith, e))

      same : list_all (λ q. not (nat_lt q h.number && has_elements ground q) || ((row ground q).stride == (row ground h.number).stride)) (h.number ∷ []) ≡ true
      same =
          ap (λ b. (not (nat_lt h.number h.number && has_elements ground h.number) || b) && true) (eq-eqb (row ground h.number).stride (row ground h.number).stride refl)
          ∙ either (not (nat_lt h.number h.number && has_elements ground h.number))
        where
          either : (b : Bool) → ((b || true) && true) ≡ true
          either true = refl
          either false = refl

      by : (a b c : Bool) → b ≡ true → c ≡ true → (not a || (b && c)) ≡ true
      by false b c e f = refl
      by true true true e f = refl
      by true false c e f = absurd (true≢false (sym e))
      by true true false e f = absurd (true≢false (sym f))

  pub none_missstrided : (r : ℕ) (l : Leaf) → IsNumbered ground l
      → (let rows = reached_through ground l in list_any (λ q. q == r) rows && not (is_strided ground l.entry rows r)) ≡ false
  none_missstrided r l (Outside h) =
      ap (λ rows. list_any (λ q. q == r) rows && not (is_strided ground l.entry rows r)) (reached_all ground l (Outside h) ∙ h.numbers) ∙ by (h.number == r) refl
    where
      by : (b : Bool) → (h.number == r) ≡ b → ((b || false) && not (is_strided ground l.entry (h.number ∷ []) r)) ≡ false
      by false e = refl
      by true e =
          let same : h.number ≡ r = eqb-true h.number r e in
          ap (λ q. not (is_strided ground l.entry (h.number ∷ []) q)) (sym same) ∙ ap not (own_stride l h)
  none_missstrided r l (Inside e) =
      ap (λ rows. list_any (λ q. q == r) rows && not (is_strided ground l.entry rows r)) (reached_all ground l (Inside e) ∙ e)

-- ---- lists of shapes

mutual
  has_array : (s : Shape) (v : Value) → IsHeld s v → has_list (bare s) ≡ true → 0 < length (filter is_array (leaves_in s v))
  has_array Void v h e = absurd (true≢false (sym e))
  has_array (Number k) v h e = absurd (true≢false (sym e))
  has_array (Array n s) v h e = omega arith
  has_array (Cluster ss) v h e = some_array ss (elements v) h.1 e
  has_array Mutex v h e = absurd (true≢false (sym e))

  pub some_array : (ss : Members) (vs : List Value) → AreHeld ss vs → some_list (bares ss) ≡ true → 0 < length (filter is_array (leaves_among ss vs))
  some_array no_members vs h e = absurd (true≢false (sym e))
  some_array (member s ss) [] h e = absurd h
  some_array (member s ss) (v ∷ vs) h e = by (has_list (bare s)) refl e (has_array s v h.0) (some_array ss vs h.1)
    where
      sum : length (filter is_array (leaves_in s v ++ leaves_among ss vs)) ≡ length (filter is_array (leaves_in s v)) + length (filter is_array (leaves_among ss vs))
      sum = ap length (filter-append is_array (leaves_in s v) (leaves_among ss vs)) ∙ length-append (filter is_array (leaves_in s v)) (filter is_array (leaves_among ss vs))

      by : (b : Bool) → has_list (bare s) ≡ b → (b || some_list (bares ss)) ≡ true → (has_list (bare s) ≡ true → 0 < length (filter is_array (leaves_in s v)))
          → (some_list (bares ss) ≡ true → 0 < length (filter is_array (leaves_among ss vs))) → 0 < length (filter is_array (leaves_in s v ++ leaves_among ss vs))
      by true f g first rest = let some = first f in omega (arith, sum, some)
      by false f g first rest = let some = rest g in omega (arith, sum, some)
