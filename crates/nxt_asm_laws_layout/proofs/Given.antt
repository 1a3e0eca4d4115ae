-- The static defaults of leaves: each lies within those of all.
use Rattle.std.proofs.Common.{◌≡◌, ℕ, ◌+◌, ◌≤◌, Bool, true, false, cond, ◌&&◌, nat_lt, List, [], ◌∷◌, drop, filter, length, sum_by, refl, ap, ◌∙◌, arith, le-ltb}
use Rattle.std.proofs.lemmas.List.Sums.{sum_by-cons}
use Rattle.nxt_types.specs.Shapes.{Shape, Void, Number, Array, Cluster, Mutex, Members, no_members, member, leaf_bytes, leaves_bytes}
use Rattle.nxt_types.specs.Names.{size}
use Rattle.nxt_rxe.specs.declared.parts.Parts.{Parts}
use Rattle.nxt_model.specs.Assembled.{leaf_sizes, places}
use Rattle.nxt_table.specs.Leaves.{Leaf, width}
use Rattle.nxt_table.specs.Dataspace.{default_place, default_end}
use Rattle.nxt_table.specs.TableRules.{lacks_default}
use Rattle.nxt_facts.proofs.Each.{Each, each_then}
use Rattle.nxt_facts.proofs.Sums.{total, total-append}
use Rattle.nxt_asm_laws_layout.proofs.Weights.{total_below}
use Rattle.nxt_asm_laws_layout.proofs.OwnLeaves.{own, all_own}

-- ---- sums

one_more : {X : Type 0} (w : X → ℕ) (x : X) (xs : List X) (b : Bool) (n : ℕ) → sum_by w xs ≡ n → sum_by w (cond b (x ∷ xs) xs) ≡ cond b (w x) 0 + n
one_more w x xs true n e = sum_by-cons w x xs ∙ ap (λ k. w x + k) e
one_more w x xs false n e = let same : n ≡ 0 + n = omega arith in e ∙ same

pub kept_total : {X : Type 0} (w : X → ℕ) (p : X → Bool) (xs : List X) → sum_by w (filter p xs) ≡ total (λ x. cond (p x) (w x) 0) xs
kept_total w p [] = refl
kept_total w p (x ∷ xs) = one_more w x (filter p xs) (p x) (total (λ y. cond (p y) (w y) 0) xs) (kept_total w p xs)

-- ---- bytes of defaults

-- those of a leaf, and of a leaf that stands before another
abbrev pub given : Leaf → ℕ
given l = cond l.has_default (width l) 0

abbrev pub before : Leaf → Leaf → ℕ
before l m = cond (m.has_default && nat_lt m.entry l.entry) (width m) 0

fewer : (l m : Leaf) → before l m ≤ given m
fewer l m = by m.has_default (nat_lt m.entry l.entry)
  where
    by : (a b : Bool) → cond (a && b) (width m) 0 ≤ cond a (width m) 0
    by true true = omega arith
    by true false = omega arith
    by false b = omega arith

not_itself : (l : Leaf) → before l l ≡ 0
not_itself l = ap (λ b. cond (l.has_default && b) (width l) 0) (le-ltb l.entry l.entry (omega arith)) ∙ by l.has_default
  where
    by : (a : Bool) → cond (a && false) (width l) 0 ≡ 0
    by true = refl
    by false = refl

own_given : (l : Leaf) → l.has_default ≡ true → given l ≡ width l
own_given l e = ap (λ b. cond b (width l) 0) e

abbrev IsWithin : List Leaf → Leaf → Type 0
IsWithin ls l = l.has_default ≡ true → total (before l) ls + width l ≤ total given ls

-- the defaults before a leaf, and its own, are no more than all
pub defaults_within : (ls : List Leaf) → Each (λ l. l.has_default ≡ true → total (before l) ls + width l ≤ total given ls) ls
defaults_within [] = tt
defaults_within (x ∷ ls) = (
  λ e. let a = not_itself x in let b = own_given x e in let c = total_below (before x) given (fewer x) ls in omega (arith, a, b, c),
  each_then (IsWithin ls) (IsWithin (x ∷ ls)) (λ l h e. let a = h e in let b = fewer l x in omega (arith, a, b)) ls (defaults_within ls),
)

-- ---- of shapes

mutual
  none_inside : (s : Shape) (ps : List ℕ) (i a : ℕ) (around : List ℕ) → total given (own s ps i (a ∷ around)) ≡ 0
  none_inside Void ps i a around = refl
  none_inside (Number k) ps i a around = refl
  none_inside (Array n s) ps i a around = let rest = none_inside s (places (leaf_sizes s)) (i + 1) i (a ∷ around) in omega (arith, rest)
  none_inside (Cluster ss) ps i a around = all_none_inside ss ps (i + 1) a around
  none_inside Mutex ps i a around = refl

  all_none_inside : (ss : Members) (ps : List ℕ) (i a : ℕ) (around : List ℕ) → total given (all_own ss ps i (a ∷ around)) ≡ 0
  all_none_inside no_members ps i a around = refl
  all_none_inside (member s ss) ps i a around =
      let rest = drop (length (leaf_sizes s)) ps in
      omega (
        arith,
        total-append given (own s ps i (a ∷ around)) (all_own ss rest (i + size s) (a ∷ around)),
        none_inside s ps i a around,
        all_none_inside ss rest (i + size s) a around,
      )

mutual
  pub given_bytes : (s : Shape) (ps : List ℕ) (i : ℕ) → total given (own s ps i []) ≡ leaf_bytes s
  given_bytes Void ps i = refl
  given_bytes (Number k) ps i = omega arith
  given_bytes (Array n s) ps i = let rest = none_inside s (places (leaf_sizes s)) (i + 1) i [] in omega (arith, rest)
  given_bytes (Cluster ss) ps i = all_given_bytes ss ps (i + 1)
  given_bytes Mutex ps i = refl

  -- the defaults of the leaves of shapes are as many bytes as the leaves outside have
  pub all_given_bytes : (ss : Members) (ps : List ℕ) (i : ℕ) → total given (all_own ss ps i []) ≡ leaves_bytes ss
  all_given_bytes no_members ps i = refl
  all_given_bytes (member s ss) ps i =
      let rest = drop (length (leaf_sizes s)) ps in
      omega (arith, total-append given (own s ps i []) (all_own ss rest (i + size s) []), given_bytes s ps i, all_given_bytes ss rest (i + size s))

-- ---- the rule

pub default_placed : (ls : List Leaf) (l : Leaf) → default_place ls l ≡ total (before l) ls
default_placed ls l = kept_total width (λ m. m.has_default && nat_lt m.entry l.entry) ls

has_it : (p : Parts) (ls : List Leaf) (l : Leaf) → total given ls ≤ p.header.default_size → IsWithin ls l → lacks_default p ls l ≡ false
has_it p ls l enough h = by l.has_default refl
  where
    by : (b : Bool) → l.has_default ≡ b → lacks_default p ls l ≡ false
    by true e =
        let within = h e in
        let place = default_placed ls l in
        ap (λ b. b && nat_lt p.header.default_size (default_end ls l)) e
        ∙ le-ltb p.header.default_size (default_end ls l) (omega (arith, within, place, enough))
    by false e = ap (λ b. b && nat_lt p.header.default_size (default_end ls l)) e

-- no leaf lacks its default
pub all_have : (p : Parts) (ls : List Leaf) → total given ls ≤ p.header.default_size → Each (λ l. lacks_default p ls l ≡ false) ls
all_have p ls enough = each_then (IsWithin ls) (λ l. lacks_default p ls l ≡ false) (λ l. has_it p ls l enough) ls (defaults_within ls)
