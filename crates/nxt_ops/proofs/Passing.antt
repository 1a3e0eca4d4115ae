-- A list whose elements are changed one after another, from the front.
use Rattle.std.proofs.Common.{◌≡◌, ℕ, zero, suc, ◌+◌, ◌<◌, ◌≤◌, List, [], ◌∷◌, ◌++◌, map, length, take, drop, get_or, set, refl, sym, ap, ap₂, ◌∙◌, arith, length-set}
use Rattle.std.proofs.Math.Seq.{take-length}
use Rattle.std.proofs.lemmas.List.{take_more, take_more_set, drop-set-lt, map-append}

-- so many elements are what f gives for the items at their places, and the others are as they were
pub record Passed {X Y : Type 0} (f : X → Y) (items : List X) (old now : List Y) (k : ℕ) : Type 0 where
  pub long : length now ≡ length old
  pub front : take k now ≡ map f (take k items)
  pub rest : (j : ℕ) → k ≤ j → drop j now ≡ drop j old

pub passed_none : {X Y : Type 0} (f : X → Y) (items : List X) (old : List Y) → Passed f items old old 0
passed_none f items old = record { long = refl; front = refl; rest = λ j more. refl }

-- one more
pub passed_more : {X Y : Type 0} (f : X → Y) (items : List X) (old now : List Y) (k : ℕ) (d : X) (y : Y) → k < length items → length old ≡ length items → Passed f items old now k → y ≡ f (get_or items k d) → Passed f items old (set now k y) (k + 1)
passed_more f items old now k d y less many e is =
    record {
      long = length-set now k y ∙ e.long;
      front = take_more_set now k y (omega (arith, less, many, e.long))
          ∙ ap₂ (λ zs z. zs ++ z ∷ []) e.front is
          ∙ sym (ap (map f) (take_more items k d less) ∙ map-append f (take k items) (get_or items k d ∷ []));
      rest = λ j more. drop-set-lt j now k y (omega (arith, more)) ∙ e.rest j (omega (arith, more));
    }

first_left : {Y : Type 0} (xs : List Y) (k : ℕ) (d : Y) → get_or xs k d ≡ get_or (drop k xs) 0 d
first_left xs zero d = refl
first_left [] (suc k) d = refl
first_left (x ∷ xs) (suc k) d = first_left xs k d

-- the next one is as it was
pub next_kept : {X Y : Type 0} {f : X → Y} {items : List X} {old now : List Y} {k : ℕ} (d : Y) → Passed f items old now k → get_or now k d ≡ get_or old k d
next_kept {X} {Y} {f} {items} {old} {now} {k} d e =
    first_left now k d ∙ ap (λ xs. get_or xs 0 d) (e.rest k (omega arith)) ∙ sym (first_left old k d)

-- all of them
pub passed_all : {X Y : Type 0} (f : X → Y) (items : List X) (old now : List Y) (k : ℕ) → k ≡ length items → length old ≡ length items → Passed f items old now k → now ≡ map f items
passed_all f items old now k end many e =
    let all : k ≡ length now = omega (arith, end, many, e.long) in
    sym (ap (λ n. take n now) all ∙ take-length now) ∙ e.front ∙ ap (map f) (ap (λ n. take n items) end ∙ take-length items)
