-- Lengths that are summed, counted and compared.
use Rattle.std.proofs.Common.{◌≡◌, ℕ, ◌+◌, ◌*◌, true, List, [], ◌∷◌, ◌++◌, length, sum_by, flat_map, refl, sym, ap, ◌∙◌, arith, length-append, append_assoc}
use Rattle.std.specs.List.{list_all}
use Rattle.std.proofs.lemmas.Bool.{and_parts, and_from, false≢true}
use Rattle.std.proofs.lemmas.List.Sums.{sum_by-cons, sum_by-append}
use Rattle.nxt_types.specs.Pool.{round4}
use Rattle.nxt_types.specs.Shapes.{Shape, Void, Number, Array, Cluster, Mutex, Members, no_members, member}
use Rattle.nxt_model.specs.Values.{Value, Num, ListOf, GroupOf, Values, no_more, value, items, values, group_of, elements, is_of, are_of, lists_in, lists_among}
use Rattle.nxt_model.specs.Footprint.{list_bytes, member_bytes}
use Rattle.nxt_model.proofs.Laws.Values.{items-values, values-items}
use Rattle.nxt_dumps.specs.Layouts.{AtMost}
use Rattle.nxt_dumps.specs.Lengths.{lengths_in, lengths_among}
use Rattle.nxt_dumps.specs.Runnable.{joined}

abbrev pub whole : List ℕ → ℕ
whole ns = sum_by (λ n. n) ns

-- ---- sums

each_sum : (s : Shape) → ((v : Value) → whole (lengths_in s v) ≡ list_bytes s v) → (vs : List Value) → whole (flat_map (lengths_in s) vs) ≡ sum_by (list_bytes s) vs
each_sum s h [] = refl
each_sum s h (v ∷ vs) =
    omega (arith, sum_by-append (λ n. n) (lengths_in s v) (flat_map (lengths_in s) vs), h v, each_sum s h vs, sum_by-cons (list_bytes s) v vs)

mutual
  pub lengths_sum : (s : Shape) (v : Value) → whole (lengths_in s v) ≡ list_bytes s v
  lengths_sum Void v = refl
  lengths_sum (Number k) v = refl
  lengths_sum (Array stride s) v =
      omega (arith, sum_by-cons (λ n. n) (round4 (length (elements v) * stride)) (flat_map (lengths_in s) (elements v)), each_sum s (lengths_sum s) (elements v))
  lengths_sum (Cluster ss) v = among_sum ss (elements v)
  lengths_sum Mutex v = refl

  among_sum : (ss : Members) (vs : List Value) → whole (lengths_among ss vs) ≡ member_bytes ss vs
  among_sum no_members vs = refl
  among_sum (member s ss) [] = refl
  among_sum (member s ss) (v ∷ vs) =
      omega (arith, sum_by-append (λ n. n) (lengths_in s v) (lengths_among ss vs), lengths_sum s v, among_sum ss vs)

-- ---- counts

each_count : (s : Shape) → ((v : Value) → is_of s v ≡ true → length (lengths_in s v) ≡ lists_in v) → (vs : Values) → list_all (is_of s) (items vs) ≡ true → length (flat_map (lengths_in s) (items vs)) ≡ lists_among vs
each_count s h no_more e = refl
each_count s h (value v vs) e =
    let both = and_parts (is_of s v) (list_all (is_of s) (items vs)) e in
    omega (arith, length-append (lengths_in s v) (flat_map (lengths_in s) (items vs)), h v both.0, each_count s h vs both.1)

mutual
  pub lengths_count : (s : Shape) (v : Value) → is_of s v ≡ true → length (lengths_in s v) ≡ lists_in v
  lengths_count Void (Num z) e = refl
  lengths_count Void (ListOf vs) e = absurd (false≢true e)
  lengths_count Void (GroupOf vs) e = absurd (false≢true e)
  lengths_count (Number k) (Num z) e = refl
  lengths_count (Number k) (ListOf vs) e = absurd (false≢true e)
  lengths_count (Number k) (GroupOf vs) e = absurd (false≢true e)
  lengths_count (Array stride s) (Num z) e = absurd (false≢true e)
  lengths_count (Array stride s) (ListOf vs) e = omega (arith, each_count s (lengths_count s) vs e)
  lengths_count (Array stride s) (GroupOf vs) e = absurd (false≢true e)
  lengths_count (Cluster ss) (Num z) e = absurd (false≢true e)
  lengths_count (Cluster ss) (ListOf vs) e = absurd (false≢true e)
  lengths_count (Cluster ss) (GroupOf vs) e = among_count ss vs e
  lengths_count Mutex (Num z) e = refl
  lengths_count Mutex (ListOf vs) e = absurd (false≢true e)
  lengths_count Mutex (GroupOf vs) e = absurd (false≢true e)

  among_count : (ss : Members) (vs : Values) → are_of ss (items vs) ≡ true → length (lengths_among ss (items vs)) ≡ lists_among vs
  among_count no_members no_more e = refl
  among_count no_members (value v vs) e = absurd (false≢true e)
  among_count (member s ss) no_more e = absurd (false≢true e)
  among_count (member s ss) (value v vs) e =
      let both = and_parts (is_of s v) (are_of ss (items vs)) e in
      omega (arith, length-append (lengths_in s v) (lengths_among ss (items vs)), lengths_count s v both.0, among_count ss vs both.1)

-- ---- constants behind the variables

pub joined_are : (own fixed : Members) (vs ws : List Value) → are_of own vs ≡ true → are_of fixed ws ≡ true → are_of (joined own fixed) (vs ++ ws) ≡ true
joined_are no_members fixed [] ws e f = f
joined_are no_members fixed (v ∷ vs) ws e f = absurd (false≢true e)
joined_are (member s ss) fixed [] ws e f = absurd (false≢true e)
joined_are (member s ss) fixed (v ∷ vs) ws e f =
    let both = and_parts (is_of s v) (are_of ss vs) e in
    and_from (is_of s v) (are_of (joined ss fixed) (vs ++ ws)) both.0 (joined_are ss fixed vs ws both.1 f)

pub joined_lengths : (own fixed : Members) (vs ws : List Value) → are_of own vs ≡ true → lengths_among (joined own fixed) (vs ++ ws) ≡ lengths_among own vs ++ lengths_among fixed ws
joined_lengths no_members fixed [] ws e = refl
joined_lengths no_members fixed (v ∷ vs) ws e = absurd (false≢true e)
joined_lengths (member s ss) fixed [] ws e = absurd (false≢true e)
joined_lengths (member s ss) fixed (v ∷ vs) ws e =
    ap (λ ns. lengths_in s v ++ ns) (joined_lengths ss fixed vs ws (and_parts (is_of s v) (are_of ss vs) e).1)
    ∙ sym (append_assoc (lengths_in s v) (lengths_among ss vs) (lengths_among fixed ws))

pub joined_count : (vs ws : List Value) → lists_among (values (vs ++ ws)) ≡ lists_among (values vs) + lists_among (values ws)
joined_count [] ws = omega arith
joined_count (v ∷ vs) ws = omega (arith, joined_count vs ws)

-- the members of a value that is a group
pub group_are : (ss : Members) (v : Value) → is_of (Cluster ss) v ≡ true → are_of ss (elements v) ≡ true
group_are ss (Num z) e = absurd (false≢true e)
group_are ss (ListOf vs) e = absurd (false≢true e)
group_are ss (GroupOf vs) e = e

pub group_lists : (ss : Members) (v : Value) → is_of (Cluster ss) v ≡ true → lists_in v ≡ lists_among (values (elements v))
group_lists ss (Num z) e = absurd (false≢true e)
group_lists ss (ListOf vs) e = absurd (false≢true e)
group_lists ss (GroupOf vs) e = ap lists_among (sym (values-items vs))

pub are_group : (ss : Members) (vs : List Value) → are_of ss vs ≡ true → is_of (Cluster ss) (group_of vs) ≡ true
are_group ss vs e = ap (are_of ss) (items-values vs) ∙ e

-- ---- comparisons

pub at_most_same : (ns : List ℕ) → AtMost ns ns
at_most_same [] = tt
at_most_same (n ∷ ns) = (omega arith, at_most_same ns)

pub at_most_joined : (a b c d : List ℕ) → AtMost a b → AtMost c d → AtMost (a ++ c) (b ++ d)
at_most_joined [] [] c d e f = f
at_most_joined [] (y ∷ b) c d e f = absurd e
at_most_joined (x ∷ a) [] c d e f = absurd e
at_most_joined (x ∷ a) (y ∷ b) c d e f = (e.0, at_most_joined a b c d e.1 f)

pub at_most_count : (ms ns : List ℕ) → AtMost ms ns → length ms ≡ length ns
at_most_count [] [] e = refl
at_most_count [] (n ∷ ns) e = absurd e
at_most_count (m ∷ ms) [] e = absurd e
at_most_count (m ∷ ms) (n ∷ ns) e = omega (arith, at_most_count ms ns e.1)
