-- Lengths of values that differ in parts alone.
use Rattle.std.proofs.Common.{◌≡◌, ℕ, suc, ◌*◌, ◌≤◌, ◌⊎◌, inl, inr, true, List, [], ◌∷◌, ◌++◌, length, flat_map, get_or, refl, sym, ap, ap₂, subst, arith}
use Rattle.std.proofs.lemmas.Bool.{and_parts, false≢true}
use Rattle.std.proofs.lemmas.Nat.{mul-le}
use Rattle.nxt_types.specs.Pool.{round4}
use Rattle.nxt_types.specs.Shapes.{Shape, Void, Number, Array, Cluster, Mutex, Members, no_members, member, shapes_of, is_number}
use Rattle.nxt_types.specs.declared.kind.Kind.{Kind}
use Rattle.nxt_model.specs.Values.{Value, Num, ListOf, GroupOf, items, elements, part, is_of, are_of}
use Rattle.nxt_model.specs.Dump.{shape_under}
use Rattle.nxt_dumps.specs.Layouts.{AtMost}
use Rattle.nxt_dumps.specs.Lengths.{lengths_in, lengths_among}
use Rattle.nxt_dumps.specs.Runnable.{EntersNoList}
use Rattle.nxt_dumps.proofs.Lengths.Beside.{at}
use Rattle.nxt_dumps.proofs.Lengths.Sums.{at_most_same, at_most_joined}

-- a list is the same, or a list of numbers that got no longer
abbrev pub GotNoLonger : Shape → Value → Value → Type 0
GotNoLonger e v w = (w ≡ v) ⊎ ((is_number e ≡ true) × (length (elements w) ≤ length (elements v)))

-- so is each list that stands in no other one
abbrev pub GotNoneLonger : Shape → Value → Value → Type 0
GotNoneLonger s v w = (qs : List ℕ) (stride : ℕ) (e : Shape) → EntersNoList s qs → shape_under s qs ≡ Array stride e → GotNoLonger e (part qs v) (part qs w)

abbrev AllGotNoneLonger : Members → List Value → List Value → Type 0
AllGotNoneLonger ss vs ws =
    (k : ℕ) (qs : List ℕ) (stride : ℕ) (e : Shape) → EntersNoList (get_or (shapes_of ss) k Void) qs → shape_under (get_or (shapes_of ss) k Void) qs ≡ Array stride e
    → GotNoLonger e (part qs (at vs k)) (part qs (at ws k))

-- the lists are the same
abbrev pub SameLists : Shape → Value → Value → Type 0
SameLists s v w = (qs : List ℕ) (stride : ℕ) (e : Shape) → EntersNoList s qs → shape_under s qs ≡ Array stride e → part qs w ≡ part qs v

abbrev AllSameLists : Members → List Value → List Value → Type 0
AllSameLists ss vs ws =
    (k : ℕ) (qs : List ℕ) (stride : ℕ) (e : Shape) → EntersNoList (get_or (shapes_of ss) k Void) qs → shape_under (get_or (shapes_of ss) k Void) qs ≡ Array stride e
    → part qs (at ws k) ≡ part qs (at vs k)

-- ---- lists of numbers

-- a list of numbers has one length
flat_none : (k : Kind) (vs : List Value) → flat_map (lengths_in (Number k)) vs ≡ []
flat_none k [] = refl
flat_none k (v ∷ vs) = flat_none k vs

one_length : (stride : ℕ) (s : Shape) (v : Value) → is_number s ≡ true → lengths_in (Array stride s) v ≡ round4 (length (elements v) * stride) ∷ []
one_length stride (Number k) v h = ap (λ ns. round4 (length (elements v) * stride) ∷ ns) (flat_none k (elements v))
one_length stride Void v h = absurd (false≢true h)
one_length stride (Array n s) v h = absurd (false≢true h)
one_length stride (Cluster ss) v h = absurd (false≢true h)
one_length stride Mutex v h = absurd (false≢true h)

round4-more : (m n : ℕ) → m ≤ n → round4 m ≤ round4 n
round4-more m n l = omega (arith, l)

two_lengths : (stride : ℕ) (s : Shape) (v w : Value) → is_number s ≡ true → length (elements w) ≤ length (elements v) → AtMost (lengths_in (Array stride s) v) (lengths_in (Array stride s) w)
two_lengths stride s v w number less =
    let m = round4 (length (elements v) * stride) in
    let n = round4 (length (elements w) * stride) in
    let small : n ≤ m = round4-more (length (elements w) * stride) (length (elements v) * stride) (mul-le (length (elements w)) stride (length (elements v)) stride less (omega arith)) in
    subst (λ ns. AtMost ns (lengths_in (Array stride s) w)) (sym (one_length stride s v number))
    (subst (λ ns. AtMost (m ∷ []) ns) (sym (one_length stride s w number)) (small, tt))

list_at_most : (stride : ℕ) (s : Shape) (v w : Value) → GotNoLonger s v w → AtMost (lengths_in (Array stride s) v) (lengths_in (Array stride s) w)
list_at_most stride s v w (inl same) = subst (λ x. AtMost (lengths_in (Array stride s) v) (lengths_in (Array stride s) x)) (sym same) (at_most_same (lengths_in (Array stride s) v))
list_at_most stride s v w (inr less) = two_lengths stride s v w less.0 less.1

-- ---- all lists

mutual
  -- where no list got longer, no length is greater
  pub at_most_lengths : (s : Shape) (v w : Value) → is_of s v ≡ true → is_of s w ≡ true → GotNoneLonger s v w → AtMost (lengths_in s v) (lengths_in s w)
  at_most_lengths Void v w e f h = tt
  at_most_lengths (Number k) v w e f h = tt
  at_most_lengths (Array stride s) v w e f h = list_at_most stride s v w (h [] stride s tt refl)
  at_most_lengths (Cluster ss) (GroupOf vs) (GroupOf ws) e f h = at_most_among ss (items vs) (items ws) e f (λ k qs stride s in_q is. h (k ∷ qs) stride s in_q is)
  at_most_lengths (Cluster ss) (Num z) w e f h = absurd (false≢true e)
  at_most_lengths (Cluster ss) (ListOf vs) w e f h = absurd (false≢true e)
  at_most_lengths (Cluster ss) (GroupOf vs) (Num z) e f h = absurd (false≢true f)
  at_most_lengths (Cluster ss) (GroupOf vs) (ListOf ws) e f h = absurd (false≢true f)
  at_most_lengths Mutex v w e f h = tt

  at_most_among : (ss : Members) (vs ws : List Value) → are_of ss vs ≡ true → are_of ss ws ≡ true → AllGotNoneLonger ss vs ws → AtMost (lengths_among ss vs) (lengths_among ss ws)
  at_most_among no_members vs ws e f h = tt
  at_most_among (member s ss) [] ws e f h = absurd (false≢true e)
  at_most_among (member s ss) (v ∷ vs) [] e f h = absurd (false≢true f)
  at_most_among (member s ss) (v ∷ vs) (w ∷ ws) e f h =
      let one = and_parts (is_of s v) (are_of ss vs) e in
      let two = and_parts (is_of s w) (are_of ss ws) f in
      at_most_joined (lengths_in s v) (lengths_in s w) (lengths_among ss vs) (lengths_among ss ws)
      (at_most_lengths s v w one.0 two.0 (λ qs stride t in_q is. h 0 qs stride t in_q is))
      (at_most_among ss vs ws one.1 two.1 (λ k qs stride t in_q is. h (suc k) qs stride t in_q is))

mutual
  -- and where they are the same, the lengths are
  pub same_lengths : (s : Shape) (v w : Value) → is_of s v ≡ true → is_of s w ≡ true → SameLists s v w → lengths_in s w ≡ lengths_in s v
  same_lengths Void v w e f h = refl
  same_lengths (Number k) v w e f h = refl
  same_lengths (Array stride s) v w e f h = ap (lengths_in (Array stride s)) (h [] stride s tt refl)
  same_lengths (Cluster ss) (GroupOf vs) (GroupOf ws) e f h = same_among ss (items vs) (items ws) e f (λ k qs stride s in_q is. h (k ∷ qs) stride s in_q is)
  same_lengths (Cluster ss) (Num z) w e f h = absurd (false≢true e)
  same_lengths (Cluster ss) (ListOf vs) w e f h = absurd (false≢true e)
  same_lengths (Cluster ss) (GroupOf vs) (Num z) e f h = absurd (false≢true f)
  same_lengths (Cluster ss) (GroupOf vs) (ListOf ws) e f h = absurd (false≢true f)
  same_lengths Mutex v w e f h = refl

  same_among : (ss : Members) (vs ws : List Value) → are_of ss vs ≡ true → are_of ss ws ≡ true → AllSameLists ss vs ws → lengths_among ss ws ≡ lengths_among ss vs
  same_among no_members vs ws e f h = refl
  same_among (member s ss) [] ws e f h = absurd (false≢true e)
  same_among (member s ss) (v ∷ vs) [] e f h = absurd (false≢true f)
  same_among (member s ss) (v ∷ vs) (w ∷ ws) e f h =
      let one = and_parts (is_of s v) (are_of ss vs) e in
      let two = and_parts (is_of s w) (are_of ss ws) f in
      ap₂ (λ ms ns. ms ++ ns)
      (same_lengths s v w one.0 two.0 (λ qs stride t in_q is. h 0 qs stride t in_q is))
      (same_among ss vs ws one.1 two.1 (λ k qs stride t in_q is. h (suc k) qs stride t in_q is))
