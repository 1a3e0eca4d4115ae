-- A table spells at most one list of shapes, strides aside.
use Rattle.std.proofs.Common.{◌≡◌, ℕ, ◌≤◌, List, [], ◌∷◌, ◌++◌, refl, sym, ap, ◌∙◌, arith, append_assoc, drop, Option, Some, None, get_or}
use Rattle.nxt_types.specs.declared.kind.Kind.{Kind}
use Rattle.nxt_types.specs.declared.kind.Kind.TheVariants.{Ubyte, Sbyte, Uword, Sword, Ulong, Slong}
use Rattle.nxt_types.specs.declared.shape.TocEntry.{TocEntry}
use Rattle.nxt_types.specs.Shapes.{Shape, Void, Number, Array, Cluster, Mutex, Members, no_members, member, count, code_of, bare, bares, spelling, spellings, SpellsAll}
use Rattle.nxt_types.specs.Names.{size}

abbrev head : List (ℕ × ℕ) → ℕ × ℕ
head [] = (0, 0)
head (x ∷ xs) = x

-- a number's kind by its code
abbrev kind_at : ℕ → Option Kind
kind_at code = get_or (None ∷ Some Ubyte ∷ Some Sbyte ∷ Some Uword ∷ Some Sword ∷ Some Ulong ∷ Some Slong ∷ []) code None

kind_code : (k : Kind) → kind_at (code_of k) ≡ Some k
kind_code Ubyte = refl
kind_code Sbyte = refl
kind_code Uword = refl
kind_code Sword = refl
kind_code Ulong = refl
kind_code Slong = refl

-- a number's entry is no other's
no_number : (k : Kind) (c : ℕ) → kind_at c ≡ None → code_of k ≡ c → ⊥
no_number k c n e = let h : Some k ≡ None = sym (kind_code k) ∙ ap kind_at e ∙ n in cc

same_kind : (k l : Kind) → code_of k ≡ code_of l → Some k ≡ Some l
same_kind k l e = sym (kind_code k) ∙ ap kind_at e ∙ kind_code l

number_of : Option Kind → Shape
number_of None = Void
number_of (Some k) = Number k

code : List (ℕ × ℕ) → ℕ
code l = (head l).0

mutual
  unfolding code number_of

  pub spelling_front : (s t : Shape) (a b : List (ℕ × ℕ)) → spelling s ++ a ≡ spelling t ++ b → (bare s ≡ bare t) × (a ≡ b)
  spelling_front Void Void a b e = (refl, ap (drop 1) e)
  spelling_front Void (Number l) a b e = absurd (no_number l 0 refl (sym (ap code e)))
  spelling_front Void (Array n t) a b e = let h : 0 ≡ 7 = ap code e in let f : ⊥ = omega (arith, h) in absurd f
  spelling_front Void (Cluster ts) a b e = let h : 0 ≡ 8 = ap code e in let f : ⊥ = omega (arith, h) in absurd f
  spelling_front Void Mutex a b e = let h : 0 ≡ 9 = ap code e in let f : ⊥ = omega (arith, h) in absurd f
  spelling_front (Number k) Void a b e = absurd (no_number k 0 refl (ap code e))
  spelling_front (Number k) (Number l) a b e = (ap number_of (same_kind k l (ap code e)), ap (drop 1) e)
  spelling_front (Number k) (Array n t) a b e = absurd (no_number k 7 refl (ap code e))
  spelling_front (Number k) (Cluster ts) a b e = absurd (no_number k 8 refl (ap code e))
  spelling_front (Number k) Mutex a b e = absurd (no_number k 9 refl (ap code e))
  spelling_front (Array m s) Void a b e = let h : 7 ≡ 0 = ap code e in let f : ⊥ = omega (arith, h) in absurd f
  spelling_front (Array m s) (Number l) a b e = absurd (no_number l 7 refl (sym (ap code e)))
  spelling_front (Array m s) (Array n t) a b e =
      let ih = spelling_front s t a b (ap (drop 1) e) in (ap (Array 0) ih.0, ih.1)
  spelling_front (Array m s) (Cluster ts) a b e = let h : 7 ≡ 8 = ap code e in let f : ⊥ = omega (arith, h) in absurd f
  spelling_front (Array m s) Mutex a b e = let h : 7 ≡ 9 = ap code e in let f : ⊥ = omega (arith, h) in absurd f
  spelling_front (Cluster ss) Void a b e = let h : 8 ≡ 0 = ap code e in let f : ⊥ = omega (arith, h) in absurd f
  spelling_front (Cluster ss) (Number l) a b e = absurd (no_number l 8 refl (sym (ap code e)))
  spelling_front (Cluster ss) (Array n t) a b e = let h : 8 ≡ 7 = ap code e in let f : ⊥ = omega (arith, h) in absurd f
  spelling_front (Cluster ss) (Cluster ts) a b e =
      let ih = spellings_front ss ts a b (ap (λ l. (head l).1) e) (ap (drop 1) e) in (ap Cluster ih.0, ih.1)
  spelling_front (Cluster ss) Mutex a b e = let h : 8 ≡ 9 = ap code e in let f : ⊥ = omega (arith, h) in absurd f
  spelling_front Mutex Void a b e = let h : 9 ≡ 0 = ap code e in let f : ⊥ = omega (arith, h) in absurd f
  spelling_front Mutex (Number l) a b e = absurd (no_number l 9 refl (sym (ap code e)))
  spelling_front Mutex (Array n t) a b e = let h : 9 ≡ 7 = ap code e in let f : ⊥ = omega (arith, h) in absurd f
  spelling_front Mutex (Cluster ts) a b e = let h : 9 ≡ 8 = ap code e in let f : ⊥ = omega (arith, h) in absurd f
  spelling_front Mutex Mutex a b e = (refl, ap (drop 1) e)

  pub spellings_front : (ss ts : Members) (a b : List (ℕ × ℕ)) → count ss ≡ count ts → spellings ss ++ a ≡ spellings ts ++ b → (bares ss ≡ bares ts) × (a ≡ b)
  spellings_front no_members no_members a b n e = (refl, e)
  spellings_front no_members (member t ts) a b n e = let f : ⊥ = omega (arith, n) in absurd f
  spellings_front (member s ss) no_members a b n e = let f : ⊥ = omega (arith, n) in absurd f
  spellings_front (member s ss) (member t ts) a b n e =
      let first = spelling_front s t (spellings ss ++ a) (spellings ts ++ b) (sym (append_assoc (spelling s) (spellings ss) a) ∙ e ∙ append_assoc (spelling t) (spellings ts) b) in
      let m : count ss ≡ count ts = omega (arith, n) in
      let rest = spellings_front ss ts a b m first.1 in
      (ap (λ p. member p (bares ss)) first.0 ∙ ap (member (bare t)) rest.0, rest.1)

some_entry : (t : Shape) (xs : List (ℕ × ℕ)) → [] ≡ spelling t ++ xs → ⊥
some_entry Void xs e = cc
some_entry (Number k) xs e = cc
some_entry (Array n t) xs e = cc
some_entry (Cluster ts) xs e = cc
some_entry Mutex xs e = cc

spellings_whole : (ss ts : Members) → spellings ss ≡ spellings ts → bares ss ≡ bares ts
spellings_whole no_members no_members e = refl
spellings_whole no_members (member t ts) e = absurd (some_entry t (spellings ts) e)
spellings_whole (member s ss) no_members e = absurd (some_entry s (spellings ss) (sym e))
spellings_whole (member s ss) (member t ts) e =
    let first = spelling_front s t (spellings ss) (spellings ts) e in
    ap (λ p. member p (bares ss)) first.0 ∙ ap (member (bare t)) (spellings_whole ss ts first.1)

-- two lists of shapes that one table spells are the same, strides aside
pub one_spelling : (table : List TocEntry) (ss ts : Members) → SpellsAll table ss → SpellsAll table ts → bares ss ≡ bares ts
one_spelling table ss ts a b = spellings_whole ss ts (sym a.entries ∙ b.entries)

-- ---- how many entries spell a shape

pub size_positive : (s : Shape) → 1 ≤ size s
size_positive Void = omega arith
size_positive (Number k) = omega arith
size_positive (Array n s) = omega arith
size_positive (Cluster ss) = omega arith
size_positive Mutex = omega arith
