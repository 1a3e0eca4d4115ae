-- Each shape's entries spell it.
use Rattle.std.proofs.Common.{◌≡◌, ℕ, ◌++◌, ◌∷◌, ◌+◌, List, map, drop, length, refl, ap, ap₂, ◌∙◌}
use Rattle.std.proofs.lemmas.List.{map-append}
use Rattle.nxt_types.specs.Shapes.{Shape, Void, Number, Array, Cluster, Mutex, Members, no_members, member, bare, bares, count, outline, spelling, spellings}
use Rattle.nxt_types.specs.declared.kind.Kind.TheVariants.{Ubyte, Sbyte, Uword, Sword, Ulong, Slong}
use Rattle.nxt_model.specs.Assembled.{all_entries, entries_of, leaf_sizes, places}

mutual
  spelled : (s : Shape) (ps : List ℕ) → map outline (entries_of s ps) ≡ spelling s
  spelled Void ps = refl
  spelled (Number Ubyte) ps = refl
  spelled (Number Sbyte) ps = refl
  spelled (Number Uword) ps = refl
  spelled (Number Sword) ps = refl
  spelled (Number Ulong) ps = refl
  spelled (Number Slong) ps = refl
  spelled (Array stride s) ps = ap (λ l. (7, 0) ∷ l) (spelled s (places (leaf_sizes s)))
  spelled (Cluster ss) ps = ap (λ l. (8, count ss) ∷ l) (all_spelled ss ps)
  spelled Mutex ps = refl

  -- the entries of members spell them
  pub all_spelled : (ss : Members) (ps : List ℕ) → map outline (all_entries ss ps) ≡ spellings ss
  all_spelled no_members ps = refl
  all_spelled (member s ss) ps =
      let rest = drop (length (leaf_sizes s)) ps in
      map-append outline (entries_of s ps) (all_entries ss rest)
      ∙ ap₂ (λ (a b : List (ℕ × ℕ)). a ++ b) (spelled s ps) (all_spelled ss rest)

-- ---- strides don't matter

count-bares : (ss : Members) → count (bares ss) ≡ count ss
count-bares no_members = refl
count-bares (member s ss) = ap (λ n. n + 1) (count-bares ss)

mutual
  pub spelling-bare : (s : Shape) → spelling (bare s) ≡ spelling s
  spelling-bare Void = refl
  spelling-bare (Number k) = refl
  spelling-bare (Array n s) = ap (λ l. (7, 0) ∷ l) (spelling-bare s)
  spelling-bare (Cluster ss) = ap₂ (λ (n : ℕ) (l : List (ℕ × ℕ)). (8, n) ∷ l) (count-bares ss) (spellings-bares ss)
  spelling-bare Mutex = refl

  pub spellings-bares : (ss : Members) → spellings (bares ss) ≡ spellings ss
  spellings-bares no_members = refl
  spellings-bares (member s ss) = ap₂ (λ (a b : List (ℕ × ℕ)). a ++ b) (spelling-bare s) (spellings-bares ss)

mutual
  bare-twice : (s : Shape) → bare (bare s) ≡ bare s
  bare-twice Void = refl
  bare-twice (Number k) = refl
  bare-twice (Array n s) = ap (Array 0) (bare-twice s)
  bare-twice (Cluster ss) = ap Cluster (bares-twice ss)
  bare-twice Mutex = refl

  pub bares-twice : (ss : Members) → bares (bares ss) ≡ bares ss
  bares-twice no_members = refl
  bares-twice (member s ss) = ap₂ member (bare-twice s) (bares-twice ss)
