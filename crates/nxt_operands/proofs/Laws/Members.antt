-- What an entry names among the members of a cluster that another entry names.
use Rattle.std.proofs.Common.{◌≡◌, ℕ, zero, suc, ◌+◌, ◌-◌, ◌≤◌, ◌<◌, inl, inr, [], ◌++◌, Some, None, option_map, refl, sym, ap, ◌∙◌, subst, arith}
use Rattle.std.specs.Prelude.{if◌then◌else◌}
use Rattle.std.proofs.lemmas.Bool.{lt-ltb, le-ltb}
use Rattle.nxt_types.specs.Shapes.{Shape, Void, Number, Array, Cluster, Mutex, Members, no_members, member}
use Rattle.nxt_space.proofs.Laws.Members.{first_or_behind}
use Rattle.nxt_types.specs.Names.{Name, below, size, sizes, name_in, name_among}

-- ---- how far a part goes

pub some_entry : (s : Shape) → 0 < size s
some_entry Void = omega arith
some_entry (Number k) = omega arith
some_entry (Array n s) = omega arith
some_entry (Cluster ss) = omega arith
some_entry Mutex = omega arith

abbrev whole : Shape → Name
whole s = record { path = []; shape = s }

whole_fits : (s : Shape) (n : Name) → Some (whole s) ≡ Some n → 0 + size n.shape ≤ size s
whole_fits s n e =
    let same : whole s ≡ n = cc in
    let here : 0 + size s ≤ size s = omega arith in
    subst (λ (m : Name). 0 + size m.shape ≤ size s) same here

nothing_fits : (s : Shape) (i : ℕ) (n : Name) → None ≡ Some n → i + size n.shape ≤ size s
nothing_fits s i n e = let f : ⊥ = cc in absurd f

mutual
  fits_in : (s : Shape) (i : ℕ) (n : Name) → name_in s i ≡ Some n → i + size n.shape ≤ size s
  fits_in Void zero n e = whole_fits Void n e
  fits_in Void (suc i) n e = nothing_fits Void (suc i) n e
  fits_in (Number k) zero n e = whole_fits (Number k) n e
  fits_in (Number k) (suc i) n e = nothing_fits (Number k) (suc i) n e
  fits_in (Array stride s) zero n e = whole_fits (Array stride s) n e
  fits_in (Array stride s) (suc i) n e = nothing_fits (Array stride s) (suc i) n e
  fits_in (Cluster ss) zero n e = whole_fits (Cluster ss) n e
  fits_in (Cluster ss) (suc i) n e = omega (arith, fits_among ss 0 i n e)
  fits_in Mutex zero n e = whole_fits Mutex n e
  fits_in Mutex (suc i) n e = nothing_fits Mutex (suc i) n e

  fits_among : (ss : Members) (k i : ℕ) (n : Name) → name_among ss k i ≡ Some n → i + size n.shape ≤ sizes ss
  fits_among no_members k i n e = let f : ⊥ = cc in absurd f
  fits_among (member s ss) k i n e =
      elim (first_or_behind s ss k i n e) [
        | inl here ↦
            let inner : i + size here.inner.shape ≤ size s = fits_in s i here.inner here.names in
            let more : i + size here.inner.shape ≤ sizes (member s ss) = omega arith in
            subst (λ (m : Name). i + size m.shape ≤ sizes (member s ss)) here.same more
        | inr there ↦ omega (arith, there.past, fits_among ss (k + 1) (i - size s) n there.names)
      ]

-- entry i of members is one of theirs
pub entry_within : (ss : Members) (i : ℕ) (n : Name) → name_among ss 0 i ≡ Some n → i < sizes ss
entry_within ss i n e = omega (arith, fits_among ss 0 i n e, some_entry n.shape)

-- ---- parts of a part

-- the part that the second name leads to from the one of the first
abbrev pub under : Name → Name → Name
under n m = record { path = n.path ++ m.path; shape = m.shape }

-- the first member's entries
pub name_in_first : (s : Shape) (ss : Members) (k i : ℕ) (n : Name) → i < size s → name_in s i ≡ Some n → name_among (member s ss) k i ≡ Some (below k n)
name_in_first s ss k i n less e =
    ap (λ b. if b then option_map (below k) (name_in s i) else name_among ss (k + 1) (i - size s)) (lt-ltb i (size s) less)
    ∙ ap (option_map (below k)) e

pub name_behind : (s : Shape) (ss : Members) (k i : ℕ) → size s ≤ i → name_among (member s ss) k i ≡ name_among ss (k + 1) (i - size s)
name_behind s ss k i past =
    ap (λ b. if b then option_map (below k) (name_in s i) else name_among ss (k + 1) (i - size s)) (le-ltb i (size s) past)

whole_under : (ts ss : Members) (o j : ℕ) (n m : Name) → 0 + o ≡ j → Some (whole (Cluster ts)) ≡ Some n → n.shape ≡ Cluster ss → name_among ss 0 o ≡ Some m → name_in (Cluster ts) (suc j) ≡ Some (under n m)
whole_under ts ss o j n m at e is inner =
    let same : whole (Cluster ts) ≡ n = cc in
    let shape : Cluster ts ≡ Cluster ss = ap (λ (x : Name). x.shape) same ∙ is in
    let members : ts ≡ ss = cc in
    let there : o ≡ j = omega (arith, at) in
    subst
    (λ (x : Name). name_in (Cluster ts) (suc j) ≡ Some (under x m))
    same
    (ap (λ ws. name_among ws 0 j) members ∙ ap (name_among ss 0) (sym there) ∙ inner)

is_cluster : (s : Shape) (ss : Members) (n : Name) → Some (whole s) ≡ Some n → n.shape ≡ Cluster ss → s ≡ Cluster ss
is_cluster s ss n e is = let same : whole s ≡ n = cc in ap (λ (x : Name). x.shape) same ∙ is

mutual
  under_in : (s : Shape) (ss : Members) (i o j : ℕ) (n m : Name) → i + o ≡ j → name_in s i ≡ Some n → n.shape ≡ Cluster ss → name_among ss 0 o ≡ Some m → name_in s (suc j) ≡ Some (under n m)
  under_in Void ss zero o j n m at e is inner = let f : ⊥ = cc (is_cluster Void ss n e is) in absurd f
  under_in Void ss (suc i) o j n m at e is inner = let f : ⊥ = cc in absurd f
  under_in (Number k) ss zero o j n m at e is inner = let f : ⊥ = cc (is_cluster (Number k) ss n e is) in absurd f
  under_in (Number k) ss (suc i) o j n m at e is inner = let f : ⊥ = cc in absurd f
  under_in (Array stride s) ss zero o j n m at e is inner = let f : ⊥ = cc (is_cluster (Array stride s) ss n e is) in absurd f
  under_in (Array stride s) ss (suc i) o j n m at e is inner = let f : ⊥ = cc in absurd f
  under_in (Cluster ts) ss zero o j n m at e is inner = whole_under ts ss o j n m at e is inner
  under_in (Cluster ts) ss (suc i) o zero n m at e is inner = let f : ⊥ = omega (arith, at) in absurd f
  under_in (Cluster ts) ss (suc i) o (suc j) n m at e is inner = under_among ts ss 0 i o j n m (omega (arith, at)) e is inner
  under_in Mutex ss zero o j n m at e is inner = let f : ⊥ = cc (is_cluster Mutex ss n e is) in absurd f
  under_in Mutex ss (suc i) o j n m at e is inner = let f : ⊥ = cc in absurd f

  under_among : (ts ss : Members) (k i o j : ℕ) (n m : Name) → i + o ≡ j → name_among ts k i ≡ Some n → n.shape ≡ Cluster ss → name_among ss 0 o ≡ Some m → name_among ts k (suc j) ≡ Some (under n m)
  under_among no_members ss k i o j n m at e is inner = let f : ⊥ = cc in absurd f
  under_among (member s ts) ss k i o j n m at e is inner =
      elim (first_or_behind s ts k i n e) [
        | inl here ↦
            let shape : here.inner.shape ≡ Cluster ss = ap (λ (x : Name). x.shape) here.same ∙ is in
            let long : i + size here.inner.shape ≤ size s = fits_in s i here.inner here.names in
            let size_is : size here.inner.shape ≡ sizes ss + 1 = ap size shape in
            let less : suc j < size s = omega (arith, long, size_is, entry_within ss o m inner, at) in
            subst
            (λ (x : Name). name_among (member s ts) k (suc j) ≡ Some (under x m))
            here.same
            (name_in_first s ts k (suc j) (under here.inner m) less (under_in s ss i o j here.inner m at here.names shape inner))
        | inr there ↦
            let left : suc j - size s ≡ suc (j - size s) = omega (arith, there.past, at) in
            name_behind s ts k (suc j) (omega (arith, there.past, at))
            ∙ ap (name_among ts (k + 1)) left
            ∙ under_among ts ss (k + 1) (i - size s) o (j - size s) n m (omega (arith, there.past, at)) there.names is inner
      ]

-- behind the entry that names a cluster its members' entries name its parts
pub name_under : (ss ts : Members) (i o : ℕ) (n m : Name) → name_among ss 0 i ≡ Some n → n.shape ≡ Cluster ts → name_among ts 0 o ≡ Some m → name_among ss 0 (i + (1 + o)) ≡ Some (under n m)
name_under ss ts i o n m e is inner =
    let at : i + (1 + o) ≡ suc (i + o) = omega arith in
    ap (name_among ss 0) at ∙ under_among ss ts 0 i o (i + o) n m refl e is inner
