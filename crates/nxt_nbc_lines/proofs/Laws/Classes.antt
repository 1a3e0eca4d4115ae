-- The classes of a statement's operands, by their positions.
use Rattle.std.proofs.Common.{◌≡◌, ℕ, zero, suc, ◌-◌, ◌*◌, ◌/◌, ◌%◌, ◌<◌, ◌==◌, nat_le, Bool, true, false, List, [], ◌∷◌, length, refl, sym, ap, ◌∙◌, arith, get_or}
use Rattle.std.specs.Prelude.{if◌then◌else◌, zip}
use Rattle.std.specs.List.{list_any}
use Rattle.std.proofs.lemmas.List.{length-replicate, get_or-replicate}
use Rattle.std.proofs.lemmas.Bool.{eqb-true, ne_eqb, and_parts, leb-true, or_from, or_left, or_right}
use Rattle.nxt_types.specs.Opcodes.{Operands, fixed, first_and_more, first_and_pairs, arity, arity_of, takes, classes, classes_of, pairs_of, class_in, row}
use Rattle.nxt_types.specs.declared.instr.Op.{Op}
use Rattle.nxt_types.specs.declared.opcodes.Class.{Class}
use Rattle.nxt_types.specs.declared.opcodes.Class.TheVariants.{Immediate}

-- ---- classes

pairs_count : (d e : Class) (n : ℕ) → length (pairs_of d e n) ≡ 2 * n
pairs_count d e zero = refl
pairs_count d e (suc n) = let more = pairs_count d e n in omega (arith, more)

count_by_row : (os : Operands) (n : ℕ) → takes (arity_of os) n ≡ true → length (classes_of os n) ≡ n
count_by_row (fixed cs) n h = sym (eqb-true n (length cs) h)
count_by_row (first_and_more c d) n h =
    let l = leb-true 2 n h in
    let r = length-replicate (n - 1) d in
    omega (arith, l, r)
count_by_row (first_and_pairs c d e) n h =
    let p = and_parts (nat_le 3 n) (n % 2 == 1) h in
    let l = leb-true 3 n p.0 in
    let o = eqb-true (n % 2) 1 p.1 in
    let r = pairs_count d e ((n - 1) / 2) in
    omega (arith, l, o, r)

pair_at : (d e : Class) (n j : ℕ) → j < 2 * n → get_or (pairs_of d e n) j Immediate ≡ (if suc j % 2 == 1 then d else e)
pair_at d e zero j l = absurd (omega (arith, l))
pair_at d e (suc n) zero l = refl
pair_at d e (suc n) (suc zero) l = refl
pair_at d e (suc n) (suc (suc j)) l =
    let m : suc j % 2 ≡ suc (suc (suc j)) % 2 = omega arith in
    pair_at d e n j (omega (arith, l)) ∙ ap (λ r. if r == 1 then d else e) m

by_row : (os : Operands) (n k : ℕ) → takes (arity_of os) n ≡ true → k < n → get_or (classes_of os n) k Immediate ≡ class_in os k
by_row (fixed cs) n k h l = refl
by_row (first_and_more c d) n zero h l = refl
by_row (first_and_more c d) n (suc k) h l =
    get_or-replicate (n - 1) k d Immediate (omega (arith, l)) ∙ sym (ap (λ b. if b then c else d) (ne_eqb (suc k) 0 (λ e. omega (arith, e))))
by_row (first_and_pairs c d e) n zero h l = refl
by_row (first_and_pairs c d e) n (suc k) h l =
    let p = and_parts (nat_le 3 n) (n % 2 == 1) h in
    let o = eqb-true (n % 2) 1 p.1 in
    pair_at d e ((n - 1) / 2) k (omega (arith, l, o))
    ∙ sym (ap (λ b. if b then c else (if suc k % 2 == 1 then d else e)) (ne_eqb (suc k) 0 (λ f. omega (arith, f))))

-- an operation has a class for each operand that it takes
pub count_classes : (op : Op) (n : ℕ) → takes (arity op) n ≡ true → length (classes op n) ≡ n
count_classes op n h = count_by_row (row op).operands n h

pub class_there : (op : Op) (n k : ℕ) → takes (arity op) n ≡ true → k < n → get_or (classes op n) k Immediate ≡ class_in (row op).operands k
class_there op n k h l = by_row (row op).operands n k h l

-- ---- operands with their classes

module _ {X : Type 0} (p : Class × X → Bool) where
  zip_any : (cs : List Class) (xs : List X) (k : ℕ) (d : X) → length cs ≡ length xs → k < length xs → p (get_or cs k Immediate, get_or xs k d) ≡ true
      → list_any p (zip cs xs) ≡ true
  zip_any [] [] k d e l h = absurd (omega (arith, l))
  zip_any [] (x ∷ xs) k d e l h = absurd (omega (arith, e))
  zip_any (c ∷ cs) [] k d e l h = absurd (omega (arith, e))
  zip_any (c ∷ cs) (x ∷ xs) zero d e l h = or_left (p (c, x)) (list_any p (zip cs xs)) h
  zip_any (c ∷ cs) (x ∷ xs) (suc k) d e l h =
      or_right (p (c, x)) (list_any p (zip cs xs)) (zip_any cs xs k d (omega (arith, e)) (omega (arith, l)) h)

  zip_none : (cs : List Class) (xs : List X) → length cs ≡ length xs → ((k : ℕ) (d : X) → k < length xs → p (get_or cs k Immediate, get_or xs k d) ≡ false)
      → list_any p (zip cs xs) ≡ false
  zip_none [] xs e h = refl
  zip_none (c ∷ cs) [] e h = absurd (omega (arith, e))
  zip_none (c ∷ cs) (x ∷ xs) e h =
      or_from (p (c, x)) (list_any p (zip cs xs)) (h 0 x (omega arith)) (zip_none cs xs (omega (arith, e)) (λ k d l. h (suc k) d (omega (arith, l))))

  module _ (op : Op) (xs : List X) (taken : takes (arity op) (length xs) ≡ true) where
    -- a test finds one of the operands with its class
    pub any_classed : (k : ℕ) (d : X) → k < length xs → p (class_in (row op).operands k, get_or xs k d) ≡ true → list_any p (zip (classes op (length xs)) xs) ≡ true
    any_classed k d l h =
        zip_any (classes op (length xs)) xs k d (count_classes op (length xs) taken) l (ap (λ c. p (c, get_or xs k d)) (class_there op (length xs) k taken l) ∙ h)

    -- or none of them
    pub none_classed : ((k : ℕ) (d : X) → k < length xs → p (class_in (row op).operands k, get_or xs k d) ≡ false) → list_any p (zip (classes op (length xs)) xs) ≡ false
    none_classed h =
        zip_none (classes op (length xs)) xs (count_classes op (length xs) taken)
        (λ k d l. ap (λ c. p (c, get_or xs k d)) (class_there op (length xs) k taken l) ∙ h k d l)
