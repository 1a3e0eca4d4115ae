-- The first position of a name in a list that grows.
use Rattle.std.proofs.Common.{◌≡◌, ℕ, ◌+◌, suc, Bool, true, false, List, [], ◌∷◌, ◌++◌, map, length, position, cond, nat_lt, bytes_eq, Option, Some, None, is_some, option_map, not, refl, sym, ap, ◌∙◌, inl, inr, arith, Bor}
use Rattle.std.specs.List.{position_or_len}
use Rattle.std.proofs.lemmas.Bool.{cases_lt}
use Rattle.std.proofs.lemmas.Bool.Decides.{nat_tests}
use Rattle.std.proofs.lemmas.Slice.Eq.{bytes_eq-Decides}
use Rattle.indexmap.specs.IndexMap.{IndexMap, get, Updates}
use Rattle.nxt_nbc_names.specs.Inside.Names.{ArePlaced, same_name}

-- the position, or that of one more item where the test passes it
abbrev pub or_last : Option ℕ → Bool → ℕ → Option ℕ
or_last (Some i) passes n = Some i
or_last None passes n = cond passes (Some n) None

module _ {X : Type 0} (p : X → Bool) where
  -- of a list by its first item
  pub position_front : (x : X) (xs : List X) → position p (x ∷ xs) ≡ cond (p x) (Some 0) (option_map suc (position p xs))
  position_front x xs = by (p x) refl
    where
      by : (b : Bool) → p x ≡ b → position p (x ∷ xs) ≡ cond b (Some 0) (option_map suc (position p xs))
      by true e =
          let first : nat_lt 0 (suc (length xs)) ≡ true = grind (arith, nat_tests) in
          let shown : position p (x ∷ xs) ≡ cond (nat_lt 0 (suc (length xs))) (Some 0) None = rw e refl in
          rw first at shown
      by false e =
          let n = position_or_len p xs in
          let shown : position p (x ∷ xs) ≡ cond (nat_lt (1 + n) (suc (length xs))) (Some (1 + n)) None = rw e refl in
          elim (cases_lt n (length xs)) [
            | inl under ↦
                let more : nat_lt (1 + n) (suc (length xs)) ≡ true = grind (arith, nat_tests) in
                let same : nat_lt n (length xs) ≡ true = grind (arith, nat_tests) in
                let one : 1 + n ≡ suc n = omega arith in
                (rw more at shown) ∙ ap Some one ∙ sym (rw same refl)
            | inr over ↦
                let more : nat_lt (1 + n) (suc (length xs)) ≡ false = grind (arith, nat_tests) in
                let same : nat_lt n (length xs) ≡ false = grind (arith, nat_tests) in
                (rw more at shown) ∙ sym (rw same refl)
          ]

  -- of a list with one more item
  pub position_push : (xs : List X) (y : X) → position p (xs ++ y ∷ []) ≡ or_last (position p xs) (p y) (length xs)
  position_push [] y = by (p y) refl
    where
      by : (b : Bool) → p y ≡ b → position p (y ∷ []) ≡ cond (p y) (Some 0) None
      by true e = rw e refl
      by false e = rw e refl
  position_push (x ∷ xs) y =
      position_front x (xs ++ y ∷ [])
      ∙ ap (λ o. cond (p x) (Some 0) (option_map suc o)) (position_push xs y)
      ∙ lifted (p x) (position p xs) (p y)
      ∙ sym (ap (λ o. or_last o (p y) (length (x ∷ xs))) (position_front x xs))
    where
      lifted : (b : Bool) (o : Option ℕ) (c : Bool) → cond b (Some 0) (option_map suc (or_last o c (length xs))) ≡ or_last (cond b (Some 0) (option_map suc o)) c (suc (length xs))
      lifted true o c = refl
      lifted false (Some i) c = refl
      lifted false None true = refl
      lifted false None false = refl

-- among what is made of items
pub position_map : {X Y : Type 0} (f : X → Y) (p : Y → Bool) (xs : List X) → position p (map f xs) ≡ position (λ x. p (f x)) xs
position_map f p [] = refl
position_map f p (x ∷ xs) =
    position_front p (f x) (map f xs)
    ∙ ap (λ o. cond (p (f x)) (Some 0) (option_map suc o)) (position_map f p xs)
    ∙ sym (position_front (λ x. p (f x)) x xs)

-- equal bytes, by the test
same_bytes : (a b : List ℕ) → bytes_eq a b ≡ true → a ≡ b
same_bytes a b e = (bytes_eq-Decides a b).0 e

-- names that are placed stay so with one more, whose first position the map holds
module _ {S : Type 0} (names : List (List ℕ)) (old : IndexMap (Bor (List ℕ)) ℕ S) (name : Bor (List ℕ)) (placed : ArePlaced names old) where
  -- a name that is there already
  pub placed_again : (i : ℕ) → get same_name old name ≡ Some i → ArePlaced (names ++ name.now ∷ []) old
  placed_again i there q =
      placed q ∙ by (bytes_eq name.now q.now) refl ∙ sym (position_push (λ n. bytes_eq n q.now) names name.now)
    where
      by : (b : Bool) → bytes_eq name.now q.now ≡ b → position (λ n. bytes_eq n q.now) names ≡ or_last (position (λ n. bytes_eq n q.now) names) (bytes_eq name.now q.now) (length names)
      by true e =
          let is : position (λ n. bytes_eq n q.now) names ≡ Some i = ap (λ t. position (λ n. bytes_eq n t) names) (sym (same_bytes name.now q.now e)) ∙ sym (placed name) ∙ there in
          is ∙ sym (ap (λ o. or_last o (bytes_eq name.now q.now) (length names)) is)
      by false e = none_more (position (λ n. bytes_eq n q.now) names) ∙ sym (ap (λ b. or_last (position (λ n. bytes_eq n q.now) names) b (length names)) e)
        where
          none_more : (o : Option ℕ) → o ≡ or_last o false (length names)
          none_more None = refl
          none_more (Some k) = refl

  -- a new one
  pub placed_new : (new : IndexMap (Bor (List ℕ)) ℕ S) → get same_name old name ≡ None → Updates same_name old new name (Some (length names)) → ArePlaced (names ++ name.now ∷ []) new
  placed_new new missing updates q =
      updates.0 q ∙ ap (cond (bytes_eq name.now q.now) (Some (length names))) (placed q) ∙ by (bytes_eq name.now q.now) refl
      ∙ sym (position_push (λ n. bytes_eq n q.now) names name.now)
    where
      by : (b : Bool) → bytes_eq name.now q.now ≡ b
          → cond (bytes_eq name.now q.now) (Some (length names)) (position (λ n. bytes_eq n q.now) names) ≡ or_last (position (λ n. bytes_eq n q.now) names) (bytes_eq name.now q.now) (length names)
      by true e =
          let is : position (λ n. bytes_eq n q.now) names ≡ None = ap (λ t. position (λ n. bytes_eq n t) names) (sym (same_bytes name.now q.now e)) ∙ sym (placed name) ∙ missing in
          rw (e, is) refl
      by false e = rw e (none_more (position (λ n. bytes_eq n q.now) names))
        where
          none_more : (o : Option ℕ) → o ≡ or_last o false (length names)
          none_more None = refl
          none_more (Some k) = refl

-- the map of the names, with one more
module _ {S : Type 0} (names : List (List ℕ)) (old new : IndexMap (Bor (List ℕ)) ℕ S) (name : Bor (List ℕ)) (o : Option ℕ) (b : Bool) (placed : ArePlaced names old)
    (found : o ≡ position (λ n. bytes_eq n name.now) names) (asked : is_some o ≡ not b) where
  pub pushed_new : b ≡ true → Updates same_name old new name (Some (length names)) → ArePlaced (names ++ name.now ∷ []) new
  pushed_new is_new updates = placed_new names old name placed new (placed name ∙ sym found ∙ none_of o (asked ∙ ap not is_new)) updates
    where
      none_of : (o : Option ℕ) → is_some o ≡ false → o ≡ None
      none_of None e = refl
      none_of (Some i) e = let f : ⊥ = cc in absurd f

  pub pushed_again : b ≡ false → ArePlaced (names ++ name.now ∷ []) old
  pushed_again known = by o refl
    where
      by : (p : Option ℕ) → o ≡ p → ArePlaced (names ++ name.now ∷ []) old
      by None e = let f : ⊥ = cc in absurd f
      by (Some i) e = placed_again names old name placed i (placed name ∙ sym found ∙ e)
