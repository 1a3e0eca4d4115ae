-- The variables of a table, one after another.
use Rattle.std.proofs.Common.{◌≡◌, ℕ, ◌+◌, ◌-◌, ◌≤◌, true, false, cond, List, [], ◌∷◌, ◌++◌, Option, Some, None, refl, sym, ap, ap₂, ◌∙◌, subst, arith}
use Rattle.std.proofs.lemmas.Bool.Decides.{nat_tests}
use Rattle.std.specs.Prelude.{nat_lt, option_map}
use Rattle.nxt_types.specs.Names.{Name, below, size, sizes, name_in, name_among}
use Rattle.nxt_types.specs.Shapes.{Shape, Void, Number, Array, Cluster, Mutex, Members, no_members, member, members}
use Rattle.nxt_types.proofs.Laws.Shapes.{size_positive}

abbrev pub joined : Members → Members → Members
joined no_members more = more
joined (member s ss) more = member s (joined ss more)

abbrev pub shape_of : Option Name → Option Shape
shape_of o = option_map (λ n. n.shape) o

-- these variables come first, and others behind them from an entry on
pub record Walked (ss before : Members) (entry : ℕ) : Type 0 where
  pub left : Members
  pub split : joined before left ≡ ss
  pub entries : entry ≡ sizes before

below_shape : (k : ℕ) (o : Option Name) → shape_of (option_map (below k) o) ≡ shape_of o
below_shape k None = refl
below_shape k (Some n) = refl

-- a variable is found by its entry alone
behind_one : (k i : ℕ) (s : Shape) (ss : Members) → name_among (member s ss) k (size s + i) ≡ name_among ss (k + 1) i
behind_one k i s ss =
    let more : nat_lt (size s + i) (size s) ≡ false = grind (arith, nat_tests) in
    let rest : size s + i - size s ≡ i = omega arith in
    ap (λ b. cond b (option_map (below k) (name_in s (size s + i))) (name_among ss (k + 1) (size s + i - size s))) more
    ∙ ap (name_among ss (k + 1)) rest

whole_shape : (s : Shape) → name_in s 0 ≡ Some (record { path = []; shape = s })
whole_shape Void = refl
whole_shape (Number k) = refl
whole_shape (Array stride s) = refl
whole_shape (Cluster ss) = refl
whole_shape Mutex = refl

first_shape : (k : ℕ) (s : Shape) (ss : Members) → shape_of (name_among (member s ss) k 0) ≡ Some s
first_shape k s ss =
    let some = size_positive s in
    let less : nat_lt 0 (size s) ≡ true = grind (arith, nat_tests, some) in
    ap (λ b. shape_of (cond b (option_map (below k) (name_in s 0)) (name_among ss (k + 1) (0 - size s)))) less
    ∙ below_shape k (name_in s 0)
    ∙ ap shape_of (whole_shape s)

abbrev head_of : Members → Option Shape
head_of no_members = None
head_of (member s ss) = Some s

head_here : (k : ℕ) (ss : Members) → shape_of (name_among ss k 0) ≡ head_of ss
head_here k no_members = refl
head_here k (member s ss) = first_shape k s ss

found_behind : (k : ℕ) (before left : Members) → shape_of (name_among (joined before left) k (sizes before)) ≡ head_of left
found_behind k no_members left = head_here k left
found_behind k (member s ss) left = ap shape_of (behind_one k (sizes ss) s (joined ss left)) ∙ found_behind (k + 1) ss left

pub joined-none : (ss : Members) → joined ss no_members ≡ ss
joined-none no_members = refl
joined-none (member s ss) = ap (member s) (joined-none ss)

joined_assoc : (ss ts us : Members) → joined (joined ss ts) us ≡ joined ss (joined ts us)
joined_assoc no_members ts us = refl
joined_assoc (member s ss) ts us = ap (member s) (joined_assoc ss ts us)

pub sizes-joined : (ss ts : Members) → sizes (joined ss ts) ≡ sizes ss + sizes ts
sizes-joined no_members ts = omega arith
sizes-joined (member s ss) ts = omega (arith, sizes-joined ss ts)

members-append : (ss : List Shape) (s : Shape) → members (ss ++ s ∷ []) ≡ joined (members ss) (member s no_members)
members-append [] s = refl
members-append (t ∷ ts) s = ap (member t) (members-append ts s)

pub walk_begins : (ss : Members) → Walked ss no_members 0
walk_begins ss = record { left = ss; split = refl; entries = refl }

next : (ss before left : Members) (s : Shape) (entry : ℕ) → joined before left ≡ ss → entry ≡ sizes before → Some s ≡ head_of left → Walked ss (joined before (member s no_members)) (entry + size s) × (entry + size s ≤ sizes ss)
next ss before no_members s entry split entries found = let f : ⊥ = cc in absurd f
next ss before (member t ts) s entry split entries found =
    let same : s ≡ t = cc in
    let counted : sizes ss ≡ sizes before + (size t + sizes ts) = ap sizes (sym split) ∙ sizes-joined before (member t ts) in (
      record {
        left = ts;
        split = joined_assoc before (member s no_members) ts ∙ ap (λ x. joined before (member x ts)) same ∙ split;
        entries = omega (arith, entries, sizes-joined before (member s no_members));
      },
      omega (arith, entries, counted, ap size same),
    )

-- the shape at the entry is that of the next variable
pub walk_goes_on : (ss : Members) (before : List Shape) (s : Shape) (entry : ℕ) → Walked ss (members before) entry → Some s ≡ shape_of (name_among ss 0 entry) → Walked ss (members (before ++ s ∷ [])) (entry + size s) × (entry + size s ≤ sizes ss)
walk_goes_on ss before s entry w found =
    let all = next ss (members before) w.left s entry w.split w.entries (found ∙ ap₂ (λ ts i. shape_of (name_among ts 0 i)) (sym w.split) w.entries ∙ found_behind 0 (members before) w.left) in
    (subst (λ ts. Walked ss ts (entry + size s)) (sym (members-append before s)) all.0, all.1)

none_left : (left : Members) → None ≡ head_of left → left ≡ no_members
none_left no_members e = refl
none_left (member s ss) e = let f : ⊥ = cc in absurd f

-- and where none begins the variables are these
pub walk_ends : (ss before : Members) (entry : ℕ) → Walked ss before entry → None ≡ shape_of (name_among ss 0 entry) → before ≡ ss
walk_ends ss before entry w none =
    let end = none_left w.left (none ∙ ap₂ (λ ts i. shape_of (name_among ts 0 i)) (sym w.split) w.entries ∙ found_behind 0 before w.left) in
    sym (joined-none before) ∙ ap (joined before) (sym end) ∙ w.split
