-- Shapes that convert to one another convert to the same shapes.
use Rattle.std.proofs.Common.{◌≡◌, ℕ, zero, suc, Bool, true, false, ◌&&◌, ◌==◌, refl, sym, ap, ap₂, ◌∙◌, arith}
use Rattle.std.proofs.lemmas.Bool.{and_parts, and_from}
use Rattle.std.proofs.lemmas.Bool.Decides.{nat_tests}
use Rattle.nxt_types.specs.OperandRules.{is_list}
use Rattle.nxt_types.specs.Shapes.{Shape, Void, Number, Array, Cluster, Mutex, Members, no_members, member, convertible, convertible_members}
use Rattle.nxt_model.specs.TextProgram.{arrays_of}

pub void_never : (x : Shape) → convertible Void x ≡ false
void_never Void = refl
void_never (Number k) = refl
void_never (Array n s) = refl
void_never (Cluster ss) = refl
void_never Mutex = refl

pub mutex_never : (x : Shape) → convertible Mutex x ≡ false
mutex_never Void = refl
mutex_never (Number k) = refl
mutex_never (Array n s) = refl
mutex_never (Cluster ss) = refl
mutex_never Mutex = refl

-- ---- both ways

mutual
  pub both_ways : (s t : Shape) → convertible s t ≡ convertible t s
  both_ways (Number k) (Number l) = refl
  both_ways (Array n s) (Array m t) = both_ways s t
  both_ways (Cluster ss) (Cluster ts) = all_both_ways ss ts
  both_ways Void Void = refl
  both_ways Mutex Mutex = refl
  both_ways s t = refl

  pub all_both_ways : (ss ts : Members) → convertible_members ss ts ≡ convertible_members ts ss
  all_both_ways no_members no_members = refl
  all_both_ways (member s ss) (member t ts) = ap₂ (λ a b. a && b) (both_ways s t) (all_both_ways ss ts)
  all_both_ways ss ts = refl

mutual
  pub through : (s t u : Shape) → convertible s t ≡ true → convertible t u ≡ true → convertible s u ≡ true
  through (Number k) (Number l) (Number m) a b = refl
  through (Array n s) (Array m t) (Array k u) a b = through s t u a b
  through (Cluster ss) (Cluster ts) (Cluster us) a b = all_through ss ts us a b
  through s t u a b = let f : ⊥ = cc in absurd f

  all_through : (ss ts us : Members) → convertible_members ss ts ≡ true → convertible_members ts us ≡ true → convertible_members ss us ≡ true
  all_through no_members no_members no_members a b = refl
  all_through (member s ss) (member t ts) (member u us) a b =
      let first = and_parts (convertible s t) (convertible_members ss ts) a in
      let second = and_parts (convertible t u) (convertible_members ts us) b in
      and_from (convertible s u) (convertible_members ss us) (through s t u first.0 second.0) (all_through ss ts us first.1 second.1)
  all_through ss ts us a b = let f : ⊥ = cc in absurd f

same_tests : (a b : Bool) → (a ≡ true → b ≡ true) → (b ≡ true → a ≡ true) → a ≡ b
same_tests true b to from = sym (to refl)
same_tests false true to from = from refl
same_tests false false to from = refl

-- shapes that two shapes convert to stand for these
pub alike : (s t u v : Shape) → convertible s u ≡ true → convertible t v ≡ true → convertible s t ≡ convertible u v
alike s t u v su tv =
    let us : convertible u s ≡ true = both_ways u s ∙ su in
    let vt : convertible v t ≡ true = both_ways v t ∙ tv in
    same_tests (convertible s t) (convertible u v)
    (λ e. through u s v us (through s t v e tv))
    (λ e. through s u t su (through u v t e vt))

-- ---- arrays

pub arrays_convert : (n : ℕ) (s t : Shape) → convertible s t ≡ true → convertible (arrays_of n s) (arrays_of n t) ≡ true
arrays_convert zero s t e = e
arrays_convert (suc n) s t e = arrays_convert n s t e

pub arrays_never : (n : ℕ) (s : Shape) → ((x : Shape) → convertible s x ≡ false) → (x : Shape) → convertible (arrays_of n s) x ≡ false
arrays_never zero s never x = never x
arrays_never (suc n) s never (Array m x) = arrays_never n s never x
arrays_never (suc n) s never x = refl

no_list : (s : Shape) (m : ℕ) (t : Shape) → is_list s ≡ false → convertible s (Array m t) ≡ false
no_list (Array n s) m t e = let f : ⊥ = cc in absurd f
no_list Void m t e = refl
no_list (Number k) m t e = refl
no_list (Cluster ss) m t e = refl
no_list Mutex m t e = refl

and_true : (b : Bool) → b ≡ (b && true)
and_true true = refl
and_true false = refl

and_false : (b : Bool) → false ≡ (b && false)
and_false true = refl
and_false false = refl

-- what isn't an array converts as often made one
pub as_many_arrays : (n m : ℕ) (s t : Shape) → is_list s ≡ false → is_list t ≡ false
    → convertible (arrays_of n s) (arrays_of m t) ≡ (convertible s t && n == m)
as_many_arrays zero zero s t one other = and_true (convertible s t)
as_many_arrays zero (suc m) s t one other =
    let differ : (0 == suc m) ≡ false = grind (arith, nat_tests) in
    no_list s _ (arrays_of m t) one ∙ and_false (convertible s t) ∙ ap (λ b. convertible s t && b) (sym differ)
as_many_arrays (suc n) zero s t one other =
    let differ : (suc n == 0) ≡ false = grind (arith, nat_tests) in
    both_ways (arrays_of (suc n) s) t ∙ no_list t _ (arrays_of n s) other ∙ and_false (convertible s t) ∙ ap (λ b. convertible s t && b) (sym differ)
as_many_arrays (suc n) (suc m) s t one other =
    let same : (n == m) ≡ (suc n == suc m) = grind (arith, nat_tests) in
    as_many_arrays n m s t one other ∙ ap (λ b. convertible s t && b) same
