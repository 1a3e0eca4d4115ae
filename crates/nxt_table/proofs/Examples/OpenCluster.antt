-- A cluster of two members, of which one is there.
use Rattle.std.proofs.Common.{◌≡◌, ℕ, zero, suc, ◌≤◌, List, [], ◌∷◌, refl, ap, length, drop, arith}
use Rattle.std.proofs.lemmas.List.{length-append}
use Rattle.nxt_types.specs.Shapes.{Shape, Void, Number, Array, Cluster, Mutex, Members, no_members, member, count, code_of, spelling, spellings, Spells}
use Rattle.nxt_types.specs.declared.kind.Kind.{Kind}
use Rattle.nxt_types.specs.declared.kind.Kind.TheVariants.{Ubyte, Sbyte, Uword, Sword, Ulong, Slong}
use Rattle.nxt_types.specs.declared.shape.TocEntry.{TocEntry}
use Rattle.nxt_table.specs.TableRules.{IsOpen}

code : List (ℕ × ℕ) → ℕ
code [] = 0
code (x ∷ xs) = x.0

arity : List (ℕ × ℕ) → ℕ
arity [] = 0
arity (x ∷ xs) = x.1

-- each shape takes an entry
one_entry : (s : Shape) → 1 ≤ length (spelling s)
one_entry Void = omega arith
one_entry (Number k) = omega arith
one_entry (Array n s) = omega arith
one_entry (Cluster ss) = omega arith
one_entry Mutex = omega arith

many_entries : (ss : Members) → count ss ≤ length (spellings ss)
many_entries no_members = omega arith
many_entries (member s ss) =
    let first = one_entry s in
    let rest = many_entries ss in
    omega (arith, length-append (spelling s) (spellings ss), first, rest)

no_kind : (k : Kind) → 8 ≡ code_of k → ⊥
no_kind Ubyte e = omega (arith, e)
no_kind Sbyte e = omega (arith, e)
no_kind Uword e = omega (arith, e)
no_kind Sword e = omega (arith, e)
no_kind Ulong e = omega (arith, e)
no_kind Slong e = omega (arith, e)

-- two more entries follow that of a cluster of two members
needs_two : (s : Shape) (rest : List (ℕ × ℕ)) → (8, 2) ∷ rest ≡ spelling s → 2 ≤ length rest
unfolding code arity
needs_two Void rest e = let h : 8 ≡ 0 = ap code e in absurd (omega (arith, h))
needs_two (Number k) rest e = absurd (no_kind k (ap code e))
needs_two (Array n s) rest e = let h : 8 ≡ 7 = ap code e in absurd (omega (arith, h))
needs_two (Cluster ss) rest e =
    let n : 2 ≡ count ss = ap arity e in
    let r : rest ≡ spellings ss = ap (λ l. drop 1 l) e in
    omega (arith, n, ap length r, many_entries ss)
needs_two Mutex rest e = let h : 8 ≡ 9 = ap code e in absurd (omega (arith, h))

abbrev entry : ℕ → ℕ → TocEntry
entry code desc = record { code = code; flags = 0; desc = desc }

abbrev table : List TocEntry
table = entry 8 2 ∷ entry 1 0 ∷ []

none_begins : (j : ℕ) (s : Shape) → Spells table 0 j s → ⊥
none_begins zero s h = let e = ap length h.entries in omega (arith, one_entry s, e)
none_begins (suc zero) s h = let f = needs_two s [] h.entries in omega (arith, f)
none_begins (suc (suc zero)) s h = let f = needs_two s ((1, 0) ∷ []) h.entries in omega (arith, f)
none_begins (suc (suc (suc j))) s h = let w = h.within in omega (arith, w)

-- it is refused at entry 0
is_open : IsOpen table 0
is_open =
    record {
      before = no_members;
      whole = record { spelled = record { entries = refl; filled = refl }; strides = refl; voids = refl };
      inside = omega arith;
      opens = λ j s h voids. none_begins j s h;
    }
