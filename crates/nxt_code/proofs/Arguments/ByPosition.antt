-- Operands by position.
use Rattle.std.proofs.Common.{◌≡◌, ◌≢◌, ◌⊎◌, inl, inr, ℕ, zero, suc, ◌+◌, ◌-◌, ◌*◌, ◌<◌, ◌≤◌, ◌==◌, nat_le, nat_lt, ◌%◌, ◌/◌, Bool, true, false, not, ◌&&◌, List, [], ◌∷◌, length, map, refl, sym, ap, ◌∙◌, arith, get_or, Option, Some, None}
use Rattle.std.specs.Prelude.{if◌then◌else◌, zip}
use Rattle.std.proofs.lemmas.List.{get_or_past, length-replicate, get_or-replicate}
use Rattle.std.proofs.lemmas.Bool.{eqb-true, ne_eqb, and_parts, leb-true, and_from, and_left, and_right, lt-ltb, le-leb}
use Rattle.nxt_code.specs.Inside.Places.{Finds}
use Rattle.nxt_types.specs.declared.instr.Instr.{Instr}
use Rattle.nxt_types.specs.Shapes.{Members}
use Rattle.nxt_types.specs.Names.{Name, named}
use Rattle.nxt_types.specs.Opcodes.{Operands, fixed, first_and_more, first_and_pairs, arity_of, takes, classes_of, pairs_of, class_in, row}
use Rattle.nxt_types.specs.Statements.{statement_of, IsWhole}
use Rattle.nxt_types.specs.OperandRules.{Absent, Unknown, sort_of, sort_of_name, sort_at, shape_of, is_of_class}
use Rattle.nxt_types.specs.declared.opcodes.Class.{Class}
use Rattle.nxt_types.specs.declared.opcodes.Class.TheVariants as classes
use Rattle.nxt_operand_rules.specs.SeenOf.{seen, seen_by}
use Rattle.nxt_code.specs.OperandsSeen.{operands}

-- ---- classes

count_pairs : (d e : Class) (n : ℕ) → length (pairs_of d e n) ≡ 2 * n
count_pairs d e zero = refl
count_pairs d e (suc n) = let ih = count_pairs d e n in omega (arith, ih)

least_two : (n : ℕ) → nat_le 2 n ≡ true → 2 ≤ n
least_two n h = leb-true 2 n h

count_classes : (os : Operands) (n : ℕ) → takes (arity_of os) n ≡ true → length (classes_of os n) ≡ n
count_classes (fixed cs) n h = sym (eqb-true n (length cs) h)
count_classes (first_and_more c d) n h =
    let l = least_two n h in
    let r = length-replicate (n - 1) d in
    omega (arith, l, r)
count_classes (first_and_pairs c d e) n h =
    let p = and_parts (nat_le 3 n) (n % 2 == 1) h in
    let l = leb-true 3 n p.0 in
    let o = eqb-true (n % 2) 1 p.1 in
    let r = count_pairs d e ((n - 1) / 2) in
    omega (arith, l, o, r)

pair_at : (d e : Class) (n j : ℕ) → j < 2 * n → get_or (pairs_of d e n) j classes.Immediate ≡ (if suc j % 2 == 1 then d else e)
pair_at d e zero j l = absurd (omega (arith, l))
pair_at d e (suc n) zero l = refl
pair_at d e (suc n) (suc zero) l = refl
pair_at d e (suc n) (suc (suc j)) l =
    let m : suc j % 2 ≡ suc (suc (suc j)) % 2 = omega arith in
    pair_at d e n j (omega (arith, l)) ∙ ap (λ r. if r == 1 then d else e) m

class_there : (os : Operands) (n k : ℕ) → takes (arity_of os) n ≡ true → k < n → get_or (classes_of os n) k classes.Immediate ≡ class_in os k
class_there (fixed cs) n k h l = refl
class_there (first_and_more c d) n zero h l = refl
class_there (first_and_more c d) n (suc k) h l =
    get_or-replicate (n - 1) k d classes.Immediate (omega (arith, l)) ∙ sym (ap (λ b. if b then c else d) (ne_eqb (suc k) 0 (λ e. omega (arith, e))))
class_there (first_and_pairs c d e) n zero h l = refl
class_there (first_and_pairs c d e) n (suc k) h l =
    let p = and_parts (nat_le 3 n) (n % 2 == 1) h in
    let o = eqb-true (n % 2) 1 p.1 in
    pair_at d e ((n - 1) / 2) k (omega (arith, l, o))
    ∙ sym (ap (λ b. if b then c else (if suc k % 2 == 1 then d else e)) (ne_eqb (suc k) 0 (λ f. omega (arith, f))))

-- ---- what an operand is

zipped : (ss : Members) (cs : List Class) (ws : List ℕ) (k : ℕ) → k < length cs → k < length ws →
    get_or (map (λ p. sort_of ss p.0 p.1) (zip cs ws)) k Unknown ≡ sort_of ss (get_or cs k classes.Immediate) (get_or ws k 0)
zipped ss [] ws k l m = absurd (omega (arith, l))
zipped ss (c ∷ cs) [] k l m = absurd (omega (arith, m))
zipped ss (c ∷ cs) (w ∷ ws) zero l m = refl
zipped ss (c ∷ cs) (w ∷ ws) (suc k) l m = zipped ss cs ws k (omega (arith, l)) (omega (arith, m))

count_zipped : (ss : Members) (cs : List Class) (ws : List ℕ) → length cs ≡ length ws → length (map (λ p. sort_of ss p.0 p.1) (zip cs ws)) ≡ length ws
count_zipped ss [] [] e = refl
count_zipped ss [] (w ∷ ws) e = absurd (omega (arith, e))
count_zipped ss (c ∷ cs) [] e = absurd (omega (arith, e))
count_zipped ss (c ∷ cs) (w ∷ ws) e = ap suc (count_zipped ss cs ws (omega (arith, e)))

module _ (ss : Members) (i : Instr) (words : List ℕ) (is : IsWhole words i) where
  abbrev args : List ℕ
  args = (statement_of i words).args

  abbrev table : Operands
  table = (row i.op).operands

  pub operands_count : length (operands ss i words) ≡ length args
  operands_count = count_zipped ss (classes_of table (length args)) args (count_classes table (length args) is.number)

  pub class_here : (k : ℕ) → k < length args → get_or (classes_of table (length (operands ss i words))) k classes.Immediate ≡ class_in table k
  class_here k l =
      ap (λ n. get_or (classes_of table n) k classes.Immediate) operands_count ∙ class_there table (length args) k is.number l

  pub sort_there : (k : ℕ) (c : Class) (w : ℕ) → k < length args → c ≡ class_in table k → w ≡ get_or args k 0 → sort_at (operands ss i words) k ≡ sort_of ss c w
  sort_there k c w l e f =
      let n = count_classes table (length args) is.number in
      zipped ss (classes_of table (length args)) args k (omega (arith, n, l)) l
      ∙ ap (λ d. sort_of ss d (get_or args k 0)) (class_there table (length args) k is.number l ∙ sym e)
      ∙ ap (sort_of ss c) (sym f)

  pub sort_past : (k : ℕ) → length args ≤ k → sort_at (operands ss i words) k ≡ Unknown
  sort_past k l = let n = operands_count in get_or_past (operands ss i words) k Unknown (omega (arith, n, l))

-- ---- what is seen of an operand

seen_named : (ss : Members) (w : ℕ) → seen (sort_of_name (named ss w)) ≡ seen_by (shape_of (sort_of_name (named ss w)))
seen_named ss w = by (named ss w)
  where
    by : (o : Option Name) → seen (sort_of_name o) ≡ seen_by (shape_of (sort_of_name o))
    by None = refl
    by (Some n) = refl

pub seen_optional : (ss : Members) (c : Class) (w : ℕ) → (c ≡ classes.OptionalOut) ⊎ (c ≡ classes.OptionalIn) → w ≢ 65535 → seen_by (shape_of (sort_of_name (named ss w))) ≡ seen (sort_of ss c w)
seen_optional ss c w which some = sym (elim which [ inl e ↦ ap (λ d. seen (sort_of ss d w)) e ∙ there | inr e ↦ ap (λ d. seen (sort_of ss d w)) e ∙ there ])
  where
    there : seen (if w == 65535 then Absent else sort_of_name (named ss w)) ≡ seen_by (shape_of (sort_of_name (named ss w)))
    there = ap (λ b. seen (if b then Absent else sort_of_name (named ss w))) (ne_eqb w 65535 some) ∙ seen_named ss w

pub seen_part : (ss : Members) (c : Class) (w : ℕ) → c ≢ classes.Immediate → c ≢ classes.Clump → c ≢ classes.Offset → c ≢ classes.OptionalOut → c ≢ classes.OptionalIn
    → seen_by (shape_of (sort_of_name (named ss w))) ≡ seen (sort_of ss c w)
seen_part ss classes.Immediate w a b d e f = absurd (a refl)
seen_part ss classes.Clump w a b d e f = absurd (b refl)
seen_part ss classes.Offset w a b d e f = absurd (d refl)
seen_part ss classes.OptionalOut w a b d e f = absurd (e refl)
seen_part ss classes.OptionalIn w a b d e f = absurd (f refl)
seen_part ss classes.NumberOut w a b d e f = sym (seen_named ss w)
seen_part ss classes.NumberIn w a b d e f = sym (seen_named ss w)
seen_part ss classes.List w a b d e f = sym (seen_named ss w)
seen_part ss classes.Text w a b d e f = sym (seen_named ss w)
seen_part ss classes.Anything w a b d e f = sym (seen_named ss w)
seen_part ss classes.Mutex w a b d e f = sym (seen_named ss w)

-- ---- the first that doesn't fit

module _ (fits : ℕ → Bool) (n : ℕ) where
  -- place k, counted from 1, doesn't fit
  abbrev refused : ℕ → Bool
  refused k = nat_lt 0 k && nat_le k n && not (fits (k - 1))

  pub first_refused : (k : ℕ) → k < n → fits k ≡ false → ((j : ℕ) → j < k → fits j ≡ true) → Finds refused (Some (k + 1))
  first_refused k l e before = (
    and_from (nat_lt 0 (k + 1) && nat_le (k + 1) n) (not (fits (k + 1 - 1)))
        (and_from (nat_lt 0 (k + 1)) (nat_le (k + 1) n) (lt-ltb 0 (k + 1) (omega arith)) (le-leb (k + 1) n (omega (arith, l))))
        (ap not (ap fits (let m : k + 1 - 1 ≡ k = omega arith in m) ∙ e)),
    λ v m. earlier v m,
  )
    where
      earlier : (v : ℕ) → v < k + 1 → refused v ≡ false
      earlier zero m = refl
      earlier (suc v) m = and_right (nat_lt 0 (suc v) && nat_le (suc v) n) (not (fits (suc v - 1))) (ap not (ap fits (let o : suc v - 1 ≡ v = omega arith in o) ∙ before v (omega (arith, m))))

-- ---- the three tests

pub first_fails : (A B C : Bool) → A ≡ false → false ≡ (A && B && C)
first_fails A B C e = sym (and_left (A && B) C (and_left A B e))

pub last_fails : (A B C : Bool) → C ≡ false → false ≡ (A && B && C)
last_fails A B C e = sym (and_right (A && B) C e)

pub middle_decides : (v A B C : Bool) → A ≡ true → C ≡ true → v ≡ B → v ≡ (A && B && C)
middle_decides v true true true e f g = g
middle_decides v true false true e f g = g
middle_decides v true B false e f g = cc
middle_decides v false B C e f g = cc

module _ (ss : Members) (i : Instr) (words : List ℕ) (is : IsWhole words i) where
  pub class_test_there : (clumps k : ℕ) (c : Class) → k < length (statement_of i words).args → c ≡ class_in (row i.op).operands k →
      is_of_class clumps c (sort_at (operands ss i words) k) ≡ is_of_class clumps (get_or (classes_of (row i.op).operands (length (operands ss i words))) k classes.Immediate) (sort_at (operands ss i words) k)
  class_test_there clumps k c l e = ap (λ d. is_of_class clumps d (sort_at (operands ss i words) k)) (e ∙ sym (class_here ss i words is k l))
