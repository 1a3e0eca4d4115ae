-- Constants of operands are among the program's.
use Rattle.std.proofs.Common.{◌≡◌, ℕ, zero, suc, ◌+◌, ◌<◌, Bool, true, false, ◌||◌, not, cond, List, [], ◌∷◌, ◌++◌, length, take, Some, refl, sym, ap, ◌∙◌, arith, bytes_eq}
use Rattle.std.specs.Prelude.{ℤ, ⊤, filter, flat_map, if◌then◌else◌, slice_get}
use Rattle.std.specs.List.{list_any}
use Rattle.std.specs.Ordering.{int_eq}
use Rattle.std.proofs.lemmas.Bool.{or_left, or_right}
use Rattle.std.proofs.lemmas.Bool.Decides.{Decides-int_eq}
use Rattle.std.proofs.lemmas.List.{length-map}
use Rattle.std.proofs.lemmas.List.Folds.{list_any-append}
use Rattle.std.proofs.lemmas.Option.{none-some, same_Some}
use Rattle.std.proofs.lemmas.Slice.Eq.{bytes_eq-Decides}
use Rattle.nxt_types.specs.Shapes.{Number}
use Rattle.nxt_types.specs.declared.kind.Kind.TheVariants.{Ubyte}
use Rattle.nxt_model.specs.declared.nbc.NbcArg.{NbcArg}
use Rattle.nxt_model.specs.declared.nbc.NbcArg.TheVariants as args
use Rattle.nxt_model.specs.declared.nbc.NbcBlock.{NbcBlock}
use Rattle.nxt_model.specs.declared.nbc.NbcStatement.{NbcStatement}
use Rattle.nxt_model.specs.Assembled.{place_among}
use Rattle.nxt_model.specs.TextProgram.{Text, all_args, constant, constants, distinct, numbers_in, returns, subroutines, texts, texts_in}
use Rattle.nxt_asm_laws.proofs.Laws.Lists.{Each, each_weaker}

-- ---- places

-- what is found has a place
place_below : {X : Type 0} (same : X → X → Bool) (x : X) (xs : List X) → list_any (same x) xs ≡ true → place_among same x xs < length xs
place_below same x [] e = absurd (let no : ⊥ = cc in no)
place_below same x (y ∷ ys) e = by (same x y) e (place_below same x ys)
  where
    by : (b : Bool) → (b || list_any (same x) ys) ≡ true → (list_any (same x) ys ≡ true → place_among same x ys < length ys)
        → (if b then 0 else place_among same x ys + 1) < suc (length ys)
    by true e more = omega arith
    by false e more = let lt = more e in omega (arith, lt)

-- what is found among all is found among those that are distinct
module _ {X : Type 0} (same : X → X → Bool) (alike : (x y : X) → same x y ≡ true → x ≡ y) where
  kept_any : (x y : X) (zs : List X) → same x y ≡ false → list_any (same x) zs ≡ true → list_any (same x) (filter (λ z. not (same y z)) zs) ≡ true
  kept_any x y [] other e = e
  kept_any x y (z ∷ zs) other e = by (same y z) (same x z) refl refl e (kept_any x y zs other)
    where
      by : (b c : Bool) → same y z ≡ b → same x z ≡ c → (c || list_any (same x) zs) ≡ true → (list_any (same x) zs ≡ true → list_any (same x) (filter (λ w. not (same y w)) zs) ≡ true)
          → list_any (same x) (cond (not b) (z ∷ filter (λ w. not (same y w)) zs) (filter (λ w. not (same y w)) zs)) ≡ true
      by false true is is_not e more = or_left (same x z) (list_any (same x) (filter (λ w. not (same y w)) zs)) is_not
      by false false is is_not e more = or_right (same x z) (list_any (same x) (filter (λ w. not (same y w)) zs)) (more e)
      by true false is is_not e more = more e
      by true true is is_not e more =
          let both : y ≡ z = alike y z is in
          absurd (let f : false ≡ true = sym other ∙ ap (same x) both ∙ is_not in cc)

  -- and the whole list
  any_distinct : (x : X) (xs : List X) → list_any (same x) xs ≡ true → list_any (same x) (distinct same xs) ≡ true
  any_distinct x [] e = e
  any_distinct x (y ∷ ys) e = by (same x y) refl e (any_distinct x ys)
    where
      by : (b : Bool) → same x y ≡ b → (b || list_any (same x) ys) ≡ true → (list_any (same x) ys ≡ true → list_any (same x) (distinct same ys) ≡ true)
          → list_any (same x) (y ∷ filter (λ z. not (same y z)) (distinct same ys)) ≡ true
      by true is e more = or_left (same x y) (list_any (same x) (filter (λ z. not (same y z)) (distinct same ys))) is
      by false is e more =
          or_right (same x y) (list_any (same x) (filter (λ z. not (same y z)) (distinct same ys))) (kept_any x y (distinct same ys) is (more e))

-- ---- operands

-- the constant of an operand is in these lists
abbrev Found : List ℤ → List (List ℕ) → NbcArg → Type 0
Found zs ts (args.Number z) = list_any (int_eq (constant z)) zs ≡ true
Found zs ts (args.Text bytes) = list_any (bytes_eq bytes) ts ≡ true
Found zs ts a = ⊤

-- an operand's constant is in its own lists, and in longer ones
found_here : (a : NbcArg) (zs : List ℤ) (ts : List (List ℕ)) → Found (numbers_in a ++ zs) (texts_in a ++ ts) a
found_here (args.Number z) zs ts = or_left (int_eq (constant z) (constant z)) (list_any (int_eq (constant z)) zs) ((Decides-int_eq (constant z) (constant z)).1 refl)
found_here (args.Text bytes) zs ts = or_left (bytes_eq bytes bytes) (list_any (bytes_eq bytes) ts) ((bytes_eq-Decides bytes bytes).1 refl)
found_here args.Left zs ts = tt
found_here (args.Var i path) zs ts = tt
found_here (args.Imm n) zs ts = tt
found_here (args.Block n) zs ts = tt
found_here (args.Back n) zs ts = tt
found_here (args.Jump n) zs ts = tt

found_more : (front : List ℤ) (before : List (List ℕ)) (zs : List ℤ) (ts : List (List ℕ)) (a : NbcArg) → Found zs ts a → Found (front ++ zs) (before ++ ts) a
found_more front before zs ts (args.Number z) h =
    list_any-append (int_eq (constant z)) front zs ∙ or_right (list_any (int_eq (constant z)) front) (list_any (int_eq (constant z)) zs) h
found_more front before zs ts (args.Text bytes) h =
    list_any-append (bytes_eq bytes) before ts ∙ or_right (list_any (bytes_eq bytes) before) (list_any (bytes_eq bytes) ts) h
found_more front before zs ts args.Left h = tt
found_more front before zs ts (args.Var i path) h = tt
found_more front before zs ts (args.Imm n) h = tt
found_more front before zs ts (args.Block n) h = tt
found_more front before zs ts (args.Back n) h = tt
found_more front before zs ts (args.Jump n) h = tt

all_found : (xs : List NbcArg) → Each (Found (flat_map numbers_in xs) (flat_map texts_in xs)) xs
all_found [] = tt
all_found (x ∷ xs) =
    let zs : List ℤ = flat_map numbers_in xs in
    let ts : List (List ℕ) = flat_map texts_in xs in
    (found_here x zs ts, each_weaker (Found zs ts) (Found (numbers_in x ++ zs) (texts_in x ++ ts)) xs (found_more (numbers_in x) (texts_in x) zs ts) (all_found xs))

-- the constant of an operand has a place among the program's
abbrev pub IsListed : Text → NbcArg → Type 0
IsListed p (args.Number z) = place_among int_eq (constant z) (constants p) < length (constants p)
IsListed p (args.Text bytes) = place_among bytes_eq bytes (texts p) < length (texts p)
IsListed p a = ⊤

-- what is in the lists has a place
found_listed : (p : Text) (a : NbcArg) → Found (flat_map numbers_in (all_args p)) (flat_map texts_in (all_args p)) a → IsListed p a
found_listed p (args.Number z) h =
    place_below int_eq (constant z) (constants p) (any_distinct int_eq (λ x y. (Decides-int_eq x y).0) (constant z) (flat_map numbers_in (all_args p)) h)
found_listed p (args.Text bytes) h =
    place_below bytes_eq bytes (texts p) (any_distinct bytes_eq (λ x y. (bytes_eq-Decides x y).0) bytes (flat_map texts_in (all_args p)) h)
found_listed p args.Left h = tt
found_listed p (args.Var i path) h = tt
found_listed p (args.Imm n) h = tt
found_listed p (args.Block n) h = tt
found_listed p (args.Back n) h = tt
found_listed p (args.Jump n) h = tt

-- what holds of each element of lists behind one another holds of each list's
each_front : {X : Type 0} (P : X → Type 0) (xs ys : List X) → Each P (xs ++ ys) → Each P xs
each_front P [] ys h = tt
each_front P (x ∷ xs) ys h = (h.0, each_front P xs ys h.1)

each_back : {X : Type 0} (P : X → Type 0) (xs ys : List X) → Each P (xs ++ ys) → Each P ys
each_back P [] ys h = h
each_back P (x ∷ xs) ys h = each_back P xs ys h.1

-- each list's elements
pub each_parts : {X Y : Type 0} (P : Y → Type 0) (f : X → List Y) (xs : List X) → Each P (flat_map f xs) → Each (λ x. Each P (f x)) xs
each_parts P f [] h = tt
each_parts P f (x ∷ xs) h = (each_front P (f x) (flat_map f xs) h, each_parts P f xs (each_back P (f x) (flat_map f xs) h))

-- the constants of a program's operands
pub blocks_listed : (p : Text) → Each (λ (b : NbcBlock). Each (λ (s : NbcStatement). Each (IsListed p) s.args) b.body) p.blocks
blocks_listed p =
    let listed : Each (IsListed p) (all_args p) = each_weaker (Found (flat_map numbers_in (all_args p)) (flat_map texts_in (all_args p))) (IsListed p) (all_args p) (found_listed p) (all_found (all_args p)) in
    let in_body : NbcBlock → List NbcArg = λ b. flat_map (λ (s : NbcStatement). s.args) b.body in
    each_weaker (λ (b : NbcBlock). Each (IsListed p) (in_body b)) _ p.blocks (λ b h. each_parts (IsListed p) (λ (s : NbcStatement). s.args) b.body h)
    (each_parts (IsListed p) in_body p.blocks listed)

-- ---- return variables

-- a subroutine has one
pub return_below : (bs : List NbcBlock) (k : ℕ) (b : NbcBlock) → slice_get bs k ≡ Some b → b.subroutine ≡ true → length (subroutines (take k bs)) < length (subroutines bs)
return_below [] k b e sub = absurd (none-some b e)
return_below (x ∷ bs) zero b e sub =
    let is : x.subroutine ≡ true = ap (λ (y : NbcBlock). y.subroutine) (same_Some x b e) ∙ sub in
    let all : length (cond x.subroutine (x ∷ subroutines bs) (subroutines bs)) ≡ suc (length (subroutines bs)) = ap (λ c. length (cond c (x ∷ subroutines bs) (subroutines bs))) is in
    omega (arith, all)
return_below (x ∷ bs) (suc k) b e sub = by x.subroutine (return_below bs k b e sub)
  where
    by : (c : Bool) → length (subroutines (take k bs)) < length (subroutines bs)
        → length (cond c (x ∷ subroutines (take k bs)) (subroutines (take k bs))) < length (cond c (x ∷ subroutines bs) (subroutines bs))
    by true lt = omega (arith, lt)
    by false lt = lt

-- as many as there are subroutines
pub length-returns : (p : Text) → length (returns p) ≡ length (subroutines p.blocks)
length-returns p = length-map (subroutines p.blocks) (λ b. Number Ubyte)
