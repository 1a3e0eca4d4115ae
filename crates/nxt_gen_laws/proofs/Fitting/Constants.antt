-- What the operands of the program of a generated text add to its table: a few numbers, and no texts.
use Rattle.std.proofs.Common.{◌≡◌, ℕ, zero, suc, ◌*◌, ◌≤◌, Bool, true, false, cond, not, filter, List, [], ◌∷◌, ◌++◌, bytes_eq, flat_map, length, refl, ap, arith}
use Rattle.nxt_model.specs.TextProgram.{all_args, constants, distinct, numbers_in, texts, texts_in}
use Rattle.nxt_model.specs.declared.nbc.NbcArg.{NbcArg}
use Rattle.nxt_model.specs.declared.nbc.NbcStatement.{NbcStatement}
use Rattle.nxt_gen_laws.specs.Rows.{Built, Counted, Cut, Driven, Filled, Moved, Row, rows_from}
use Rattle.nxt_gen_laws.specs.Spelled.{row_statements, spelled}
use Rattle.nxt_gen.specs.Generator.{seed_behind}
use Rattle.std.specs.Ordering.{int_eq}

-- ---- lists

fewer : {X : Type 0} (p : X → Bool) (xs : List X) → length (filter p xs) ≤ length xs
fewer p [] = omega arith
fewer p (x ∷ xs) = by (p x) (fewer p xs)
  where
    by : (b : Bool) → length (filter p xs) ≤ length xs → length (cond b (x ∷ filter p xs) (filter p xs)) ≤ suc (length xs)
    by true few = omega (arith, few)
    by false few = omega (arith, few)

fewer_distinct : {X : Type 0} (same : X → X → Bool) (xs : List X) → length (distinct same xs) ≤ length xs
fewer_distinct same [] = omega arith
fewer_distinct same (x ∷ xs) =
    let all = fewer_distinct same xs in
    let some = fewer (λ y. not (same x y)) (distinct same xs) in
    omega (arith, all, some)

-- ---- operands

-- those of statements, in front of others
abbrev args_with : ℕ → List Row → List NbcArg → List NbcArg
args_with line rs others = flat_map (λ (s : NbcStatement). s.args) (row_statements line rs) ++ others

no_texts : (line : ℕ) (rs : List Row) → flat_map texts_in (args_with line rs []) ≡ []
no_texts line [] = refl
no_texts line (Filled of byte v ∷ rs) = no_texts (suc line) rs
no_texts line (Cut of from v ∷ rs) = no_texts (suc line) rs
no_texts line (Built of from byte ∷ rs) = no_texts (suc line) rs
no_texts line (Moved of from ∷ rs) = no_texts (suc line) rs
no_texts line (Counted of ∷ rs) = no_texts (suc line) rs
no_texts line (Driven ∷ rs) = no_texts (suc line) rs

few_numbers : (line : ℕ) (rs : List Row) → length (flat_map numbers_in (args_with line rs [])) ≤ 2 * length rs
few_numbers line [] = omega arith
few_numbers line (Filled of byte v ∷ rs) = let few = few_numbers (suc line) rs in omega (arith, few)
few_numbers line (Cut of from v ∷ rs) = let few = few_numbers (suc line) rs in omega (arith, few)
few_numbers line (Built of from byte ∷ rs) = let few = few_numbers (suc line) rs in omega (arith, few)
few_numbers line (Moved of from ∷ rs) = let few = few_numbers (suc line) rs in omega (arith, few)
few_numbers line (Counted of ∷ rs) = let few = few_numbers (suc line) rs in omega (arith, few)
few_numbers line (Driven ∷ rs) = let few = few_numbers (suc line) rs in omega (arith, few)

-- ---- the program

pub texts_are : (rs : List Row) → texts (spelled rs) ≡ []
texts_are rs = ap (distinct bytes_eq) (no_texts 14 rs)

pub constants_few : (rs : List Row) → length (constants (spelled rs)) ≤ 2 * length rs
constants_few rs =
    let all = fewer_distinct int_eq (flat_map numbers_in (all_args (spelled rs))) in
    let few = few_numbers 14 rs in
    omega (arith, all, few)

-- three statements a draw
pub rows_many : (times x : ℕ) → length (rows_from times x) ≡ 3 * times
rows_many zero x = refl
rows_many (suc n) x = let rest = rows_many n (seed_behind x) in omega (arith, rest)
