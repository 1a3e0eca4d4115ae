-- Leaves behind one another, and their defaults.
use Rattle.std.proofs.Common.{◌≡◌, ℕ, zero, suc, ◌+◌, ◌<◌, ◌≤◌, ℤ, pos, Bool, true, false, if◌then◌else◌, List, [], ◌∷◌, ◌++◌, map, flat_map, length, take, slice_index_or, Result, OnOk, refl, sym, ap, subst, ◌∙◌, append_assoc, append-nil, arith}
use Rattle.std.proofs.lemmas.List.{take_more}
use Rattle.std.proofs.lemmas.List.Concat.{flat_map-append}
use Rattle.nxt_types.specs.Shapes.{Shape, Void, Number, Array, Cluster, Mutex, members}
use Rattle.nxt_types.specs.declared.kind.Kind.TheVariants.{Ubyte, Slong}
use Rattle.nxt_model.specs.Values.{Value, Num, items, values, zero_of, zeros_of}
use Rattle.nxt_model.specs.TextProgram.{arrays_of, Text, Variable, constants, declared, returns, starts_as, subroutines, text_of, text_shape, text_value, texts}
use Rattle.nxt_model.specs.declared.nbc.NbcBlock.{NbcBlock}
use Rattle.nxt_model.specs.declared.nbc.NbcProgram.{NbcProgram}
use Rattle.nxt_model.specs.declared.nbc.NbcStruct.{NbcStruct}
use Rattle.nxt_model.specs.declared.nbc.NbcVar.{NbcVar}
use Rattle.nxt_asm_parts.specs.AssembledParts.{Valued, defaults_from, leaves_among, leaves_in, leaves_of}
use Rattle.nxt_asm_parts.specs.Defaults.{RowsFit, array_count, constant_leaves, return_leaves, text_leaves, var_leaves, variable_of, with_leaves, zero_leaves}
use Rattle.nxt_asm_parts.specs.declared.defaults.DefaultsSoFar.{DefaultsSoFar}

-- ---- counts

count_append : (xs ys : List Valued) → array_count (xs ++ ys) ≡ array_count xs + array_count ys
count_append [] ys = omega arith
count_append ((Void, v) ∷ xs) ys = count_append xs ys
count_append ((Number k, v) ∷ xs) ys = count_append xs ys
count_append ((Array n s, v) ∷ xs) ys = omega (arith, count_append xs ys)
count_append ((Cluster ss, v) ∷ xs) ys = count_append xs ys
count_append ((Mutex, v) ∷ xs) ys = count_append xs ys

-- ---- bytes

defaults_append : (row : ℕ) (xs ys : List Valued) → defaults_from row (xs ++ ys) ≡ defaults_from row xs ++ defaults_from (row + array_count xs) ys
defaults_append row [] ys = let same : row ≡ row + 0 = omega arith in ap (λ n. defaults_from n ys) same
defaults_append row ((Void, v) ∷ xs) ys = defaults_append row xs ys
defaults_append row ((Number k, v) ∷ xs) ys = grind (arith, append_assoc, defaults_append row xs ys)
defaults_append row ((Array n s, v) ∷ xs) ys =
    let next : row + 1 + array_count xs ≡ row + (array_count xs + 1) = omega arith in
    grind (arith, append_assoc, next, defaults_append (row + 1) xs ys)
defaults_append row ((Cluster ss, v) ∷ xs) ys = defaults_append row xs ys
defaults_append row ((Mutex, v) ∷ xs) ys = ap (λ l. 0 ∷ 0 ∷ 0 ∷ 0 ∷ l) (defaults_append row xs ys)

-- leaves behind others
pub then_leaves : (d : DefaultsSoFar) (xs ys : List Valued) → with_leaves (with_leaves d xs) ys ≡ with_leaves d (xs ++ ys)
then_leaves d xs ys =
    let bytes : (d.bytes ++ defaults_from d.row xs) ++ defaults_from (d.row + array_count xs) ys ≡ d.bytes ++ defaults_from d.row (xs ++ ys) =
    append_assoc d.bytes (defaults_from d.row xs) (defaults_from (d.row + array_count xs) ys)
    ∙ ap (λ l. d.bytes ++ l) (sym (defaults_append d.row xs ys)) in
    let row : d.row + array_count xs + array_count ys ≡ d.row + array_count (xs ++ ys) = omega (arith, count_append xs ys) in
    λ i. record { bytes = bytes i; row = row i }

pub no_leaves : (d : DefaultsSoFar) → d ≡ with_leaves d []
no_leaves d = let bytes = sym (append-nil d.bytes) in let row : d.row ≡ d.row + 0 = omega arith in λ i. record { bytes = bytes i; row = row i }

-- a number
pub number_leaf : (d e : DefaultsSoFar) (bytes : List ℕ) → e.bytes ≡ d.bytes ++ bytes → e.row ≡ d.row
    → e ≡ record { bytes = d.bytes ++ (bytes ++ []); row = d.row + 0 }
number_leaf d e bytes written same =
    let all : e.bytes ≡ d.bytes ++ (bytes ++ []) = written ∙ ap (λ l. d.bytes ++ l) (sym (append-nil bytes)) in
    let row : e.row ≡ d.row + 0 = omega (arith, same) in
    λ i. record { bytes = all i; row = row i }

-- ---- one by one

module _ {X : Type 0} (f : X → List Valued) where
  pub taken_more : (xs : List X) (i : ℕ) (d : X) → i < length xs → flat_map f (take (i + 1) xs) ≡ flat_map f (take i xs) ++ f (slice_index_or xs i d)
  taken_more xs i d under =
      ap (flat_map f) (take_more xs i d under)
      ∙ flat_map-append f (take i xs) (slice_index_or xs i d ∷ [])
      ∙ ap (λ l. flat_map f (take i xs) ++ l) (append-nil (f (slice_index_or xs i d)))

  -- one item more
  pub leaves_more : (xs : List X) (i : ℕ) (d : X) (begun now next : DefaultsSoFar) → i < length xs
      → now ≡ with_leaves begun (flat_map f (take i xs)) → next ≡ with_leaves now (f (slice_index_or xs i d))
      → next ≡ with_leaves begun (flat_map f (take (i + 1) xs))
  leaves_more xs i d begun now next under before is =
      is
      ∙ ap (λ e. with_leaves e (f (slice_index_or xs i d))) before
      ∙ then_leaves begun (flat_map f (take i xs)) (f (slice_index_or xs i d))
      ∙ ap (with_leaves begun) (sym (taken_more xs i d under))

  taken_fit : (xs : List X) (i : ℕ) → array_count (flat_map f (take i xs)) ≤ array_count (flat_map f xs)
  taken_fit [] zero = omega arith
  taken_fit [] (suc i) = omega arith
  taken_fit (x ∷ xs) zero = omega arith
  taken_fit (x ∷ xs) (suc i) =
      omega (arith, count_append (f x) (flat_map f (take i xs)), count_append (f x) (flat_map f xs), taken_fit xs i)

  -- where the rows of all fit, those of the next item fit
  pub next_fits : (xs : List X) (i : ℕ) (d : X) (begun now : DefaultsSoFar) → i < length xs → RowsFit begun (flat_map f xs)
      → now ≡ with_leaves begun (flat_map f (take i xs)) → RowsFit now (f (slice_index_or xs i d))
  next_fits xs i d begun now under fits before =
      let more = ap array_count (taken_more xs i d under) ∙ count_append (flat_map f (take i xs)) (f (slice_index_or xs i d)) in
      let row = ap (λ e. e.row) before in
      omega (arith, more, row, fits, taken_fit xs (i + 1))

  -- the same, where the item is known by a name
  pub leaves_next : (xs : List X) (i : ℕ) (x : X) (begun now next : DefaultsSoFar) → i < length xs → x ≡ slice_index_or xs i x
      → now ≡ with_leaves begun (flat_map f (take i xs)) → next ≡ with_leaves now (f x) → next ≡ with_leaves begun (flat_map f (take (i + 1) xs))
  leaves_next xs i x begun now next under there before is =
      leaves_more xs i x begun now next under before (is ∙ ap (λ y. with_leaves now (f y)) there)

  pub next_row_fits : (xs : List X) (i : ℕ) (x : X) (begun now : DefaultsSoFar) → i < length xs → x ≡ slice_index_or xs i x
      → RowsFit begun (flat_map f xs) → now ≡ with_leaves begun (flat_map f (take i xs)) → RowsFit now (f x)
  next_row_fits xs i x begun now under there fits before =
      subst (λ y. RowsFit now (f y)) (sym there) (next_fits xs i x begun now under fits before)

-- ---- types

pub zeros_are : {X : Type 0} (shape : X → Shape) (ts : List X)
    → leaves_among (members (map shape ts)) (items (zeros_of (members (map shape ts)))) ≡ flat_map (λ t. zero_leaves (shape t)) ts
zeros_are shape [] = refl
zeros_are shape (t ∷ ts) = ap (λ l. zero_leaves (shape t) ++ l) (zeros_are shape ts)

-- an array has one leaf
pub array_leaf : {T E : Type 0} (n : ℕ) (s : Shape) (d e : DefaultsSoFar) (r : Result T E) → 0 < n
    → ((m : ℕ) (t : Shape) (v : Value) → OnOk r (e ≡ with_leaves d ((Array m t, v) ∷ []))) → OnOk r (e ≡ with_leaves d (zero_leaves (arrays_of n s)))
array_leaf zero s d e r some is = absurd (omega arith)
array_leaf (suc n) s d e r some is = is 0 Void (Num (pos 0))

pub list_leaf : {T E : Type 0} (n : ℕ) (s : Shape) (start : Shape → Value) (d e : DefaultsSoFar) (r : Result T E) → n ≡ 1
    → ((m : ℕ) (t : Shape) (v : Value) → OnOk r (e ≡ with_leaves d ((Array m t, v) ∷ [])))
    → OnOk r (e ≡ with_leaves d (leaves_in (arrays_of n s) (start (arrays_of n s))))
list_leaf zero s start d e r one is = absurd (omega (arith, one))
list_leaf (suc n) s start d e r one is = is 0 Void (Num (pos 0))

-- ---- the leaves of a program

items_are : (vs : List Value) → items (values vs) ≡ vs
items_are [] = refl
items_are (v ∷ vs) = ap (λ l. v ∷ l) (items_are vs)

leaves_behind : {X : Type 0} (f : X → Shape) (g : X → Value) (xs : List X) (ss : List Shape) (vs : List Value)
    → leaves_among (members (map f xs ++ ss)) (map g xs ++ vs) ≡ flat_map (λ x. leaves_in (f x) (g x)) xs ++ leaves_among (members ss) vs
leaves_behind f g [] ss vs = refl
leaves_behind f g (x ∷ xs) ss vs =
    ap (λ l. leaves_in (f x) (g x) ++ l) (leaves_behind f g xs ss vs)
    ∙ sym (append_assoc (leaves_in (f x) (g x)) (flat_map (λ y. leaves_in (f y) (g y)) xs) (leaves_among (members ss) vs))

last_leaves : {X : Type 0} (f : X → Shape) (g : X → Value) (xs : List X)
    → leaves_among (members (map f xs)) (map g xs) ≡ flat_map (λ x. leaves_in (f x) (g x)) xs
last_leaves f g [] = refl
last_leaves f g (x ∷ xs) = ap (λ l. leaves_in (f x) (g x) ++ l) (last_leaves f g xs)

one_return : (c : Bool) (b : NbcBlock) (bs : List NbcBlock) (ls : List Valued) → flat_map (λ a. (Number Ubyte, Num (pos 0)) ∷ []) bs ≡ ls
    → flat_map (λ a. (Number Ubyte, Num (pos 0)) ∷ []) (if c then b ∷ bs else bs) ≡ (if c then (Number Ubyte, Num (pos 0)) ∷ [] else []) ++ ls
one_return true b bs ls is = ap (λ l. (Number Ubyte, Num (pos 0)) ∷ l) is
one_return false b bs ls is = is

returns_are : (bs : List NbcBlock) → flat_map (λ a. (Number Ubyte, Num (pos 0)) ∷ []) (subroutines bs) ≡ flat_map return_leaves bs
returns_are [] = refl
returns_are (b ∷ bs) = one_return b.subroutine b (subroutines bs) (flat_map return_leaves bs) (returns_are bs)

zeros_returned : (bs : List NbcBlock) → map zero_of (map (λ b. Number Ubyte) bs) ≡ map (λ b. Num (pos 0)) bs
zeros_returned [] = refl
zeros_returned (b ∷ bs) = ap (λ l. Num (pos 0) ∷ l) (zeros_returned bs)

behind_three : {X : Type 0} (as' bs cs ds : List X) → as' ++ bs ++ cs ++ ds ≡ as' ++ (bs ++ (cs ++ ds))
behind_three as' bs cs ds = append_assoc (as' ++ bs) cs ds ∙ append_assoc as' bs (cs ++ ds)

pub all_leaves : (p : Text)
    → leaves_of p
    ≡ flat_map var_leaves p.vars ++ (flat_map return_leaves p.blocks ++ (flat_map constant_leaves (constants p) ++ flat_map text_leaves (texts p)))
all_leaves p =
    let third : List Shape = map (λ z. Number Slong) (constants p) in
    let last : List Shape = map (λ t. text_shape) (texts p) in
    let first_starts : List Value = map (λ v. starts_as v.shape v.start) p.vars in
    let return_starts : List Value = map zero_of (returns p) in
    let number_starts : List Value = map Num (constants p) in
    let text_starts : List Value = map text_value (texts p) in
    let all_starts : List Value = first_starts ++ return_starts ++ number_starts ++ text_starts in
    let subs : List NbcBlock = subroutines p.blocks in
    ap (leaves_among (members (declared p ++ returns p ++ third ++ last))) (items_are all_starts)
    ∙ ap (λ ss. leaves_among (members ss) all_starts) (behind_three (declared p) (returns p) third last)
    ∙ ap (leaves_among (members (declared p ++ (returns p ++ (third ++ last))))) (behind_three first_starts return_starts number_starts text_starts)
    ∙ leaves_behind (λ (v : Variable). v.shape) (λ (v : Variable). starts_as v.shape v.start) p.vars (returns p ++ (third ++ last)) (return_starts ++ (number_starts ++ text_starts))
    ∙ ap (λ l. flat_map var_leaves p.vars ++ leaves_among (members (returns p ++ (third ++ last))) (l ++ (number_starts ++ text_starts))) (zeros_returned subs)
    ∙ ap (λ l. flat_map var_leaves p.vars ++ l)
    (leaves_behind (λ (b : NbcBlock). Number Ubyte) (λ (b : NbcBlock). Num (pos 0)) subs (third ++ last) (number_starts ++ text_starts)
    ∙ ap (λ l. l ++ leaves_among (members (third ++ last)) (number_starts ++ text_starts)) (returns_are p.blocks)
    ∙ ap (λ l. flat_map return_leaves p.blocks ++ l)
    (leaves_behind (λ (z : ℤ). Number Slong) Num (constants p) last text_starts
    ∙ ap (λ l. flat_map constant_leaves (constants p) ++ l) (last_leaves (λ (t : List ℕ). text_shape) text_value (texts p))))

declared_leaves : (structs : List NbcStruct) (vars : List NbcVar)
    → flat_map (λ v. var_leaves (variable_of structs v)) vars ≡ flat_map var_leaves (map (variable_of structs) vars)
declared_leaves structs [] = refl
declared_leaves structs (v ∷ vars) = ap (λ l. var_leaves (variable_of structs v) ++ l) (declared_leaves structs vars)

-- the same, of the parts that the code goes through
pub program_leaves : (p : NbcProgram) (structs : List NbcStruct) (vars : List NbcVar) (blocks : List NbcBlock) (zs : List ℤ) (ts : List (List ℕ))
    → structs ≡ p.structs → vars ≡ p.vars → blocks ≡ p.blocks → zs ≡ constants (text_of p) → ts ≡ texts (text_of p)
    → leaves_of (text_of p)
    ≡ flat_map (λ v. var_leaves (variable_of structs v)) vars ++ (flat_map return_leaves blocks ++ (flat_map constant_leaves zs ++ flat_map text_leaves ts))
program_leaves p structs vars blocks zs ts same_structs same_vars same_blocks same_zs same_ts =
    let first : List NbcStruct → List NbcVar → List Valued = λ ss vs. flat_map (λ v. var_leaves (variable_of ss v)) vs in
    let last : List Valued = flat_map constant_leaves (constants (text_of p)) ++ flat_map text_leaves (texts (text_of p)) in
    all_leaves (text_of p)
    ∙ ap (λ l. l ++ (flat_map return_leaves p.blocks ++ last)) (sym (declared_leaves p.structs p.vars))
    ∙ ap (λ ss. first ss p.vars ++ (flat_map return_leaves p.blocks ++ last)) (sym same_structs)
    ∙ ap (λ vs. first structs vs ++ (flat_map return_leaves p.blocks ++ last)) (sym same_vars)
    ∙ ap (λ bs. first structs vars ++ (flat_map return_leaves bs ++ last)) (sym same_blocks)
    ∙ ap (λ ys. first structs vars ++ (flat_map return_leaves blocks ++ (flat_map constant_leaves ys ++ flat_map text_leaves (texts (text_of p))))) (sym same_zs)
    ∙ ap (λ ys. first structs vars ++ (flat_map return_leaves blocks ++ (flat_map constant_leaves zs ++ flat_map text_leaves ys))) (sym same_ts)

-- four parts behind one another
pub four_leaves : (d e f g h : DefaultsSoFar) (xs ys zs ws : List Valued) → e ≡ with_leaves d xs → f ≡ with_leaves e ys → g ≡ with_leaves f zs
    → h ≡ with_leaves g ws → h ≡ with_leaves d (xs ++ (ys ++ (zs ++ ws)))
four_leaves d e f g h xs ys zs ws first second third fourth =
    fourth
    ∙ ap (λ t. with_leaves t ws) third
    ∙ then_leaves f zs ws
    ∙ ap (λ t. with_leaves t (zs ++ ws)) second
    ∙ then_leaves e ys (zs ++ ws)
    ∙ ap (λ t. with_leaves t (ys ++ (zs ++ ws))) first
    ∙ then_leaves d xs (ys ++ (zs ++ ws))

pub first_fits : (all xs ys : List Valued) (d : DefaultsSoFar) → d.row ≡ 1 → all ≡ xs ++ ys → array_count all ≤ 65535 → RowsFit d xs
first_fits all xs ys d one whole few = omega (arith, one, ap array_count whole, count_append xs ys, few)

pub last_fits : (all : List Valued) (d e f g : DefaultsSoFar) (xs ys zs ws : List Valued) → d.row ≡ 1 → e ≡ with_leaves d xs → f ≡ with_leaves e ys
    → g ≡ with_leaves f zs → all ≡ xs ++ (ys ++ (zs ++ ws)) → array_count all ≤ 65535 → RowsFit g ws
last_fits all d e f g xs ys zs ws one first second third whole few =
    omega (
      arith,
      one,
      ap (λ t. t.row) first,
      ap (λ t. t.row) second,
      ap (λ t. t.row) third,
      ap array_count whole,
      count_append xs (ys ++ (zs ++ ws)),
      count_append ys (zs ++ ws),
      count_append zs ws,
      few,
    )
