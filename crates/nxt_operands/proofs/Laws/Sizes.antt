-- How many lists stand in what is stored, and how many bytes they take.
use Rattle.std.proofs.Common.{◌≡◌, ℕ, zero, suc, ◌+◌, ◌-◌, ◌*◌, ◌^◌, ◌<◌, ◌≤◌, true, List, map, drop, length, sum_by, Option, Some, None, IsSome, inl, inr, refl, sym, ap, ◌∙◌, subst, arith}
use Rattle.std.specs.Prelude.{ℤ, pos, nat_abs}
use Rattle.std.specs.List.{list_all}
use Rattle.std.proofs.lemmas.Bool.{and_parts}
use Rattle.std.proofs.lemmas.List.{length-map}
use Rattle.std.proofs.lemmas.List.Sums.{sum_by-cons}
use Rattle.std.proofs.lemmas.Nat.{mul-le}
use Rattle.nxt_types.specs.Names.{Name, size, sizes, name_in, name_among}
use Rattle.nxt_types.specs.Shapes.{Shape, Void, Number, Array, Cluster, Mutex, Members, no_members, member, convertible, convertible_members}
use Rattle.nxt_types.specs.declared.kind.Kind.{Kind}
use Rattle.nxt_model.specs.Values.{Value, Values, Num, ListOf, GroupOf, no_more, values, items, stored, stored_members, is_of, are_of, lists_in, lists_among, many, value}
use Rattle.nxt_model.specs.Footprint.{list_bytes, member_bytes}
use Rattle.nxt_types.specs.Pool.{round4, pool_size}
use Rattle.nxt_model.proofs.Laws.Values.{items-values}
use Rattle.nxt_values.specs.Fills.{first_of, filled}
use Rattle.nxt_values.specs.Sizes.{IsCountable, size_in, size_of_filled}
use Rattle.nxt_space.specs.Variables.{Variables, HasStrides, AllHaveStrides, AreSound, name_of, shape_of, shape_by, value_of, value_by}
use Rattle.nxt_values.proofs.Laws.FilledElements.{items_many}
use Rattle.nxt_space.proofs.Laws.Members.{first_or_behind}
use Rattle.nxt_space.proofs.Laws.NoBytes.{no_bytes}
use Rattle.nxt_space.proofs.Laws.PartSizes.{lists_with_part, bytes_with_part, part_of_shape}

-- ---- what is stored

-- the value has as many lists when it is stored, and their bytes grow by their strides at most
pub record Grows (s t : Shape) (v : Value) : Type 0 where
  pub lists : lists_in (stored s v) ≡ lists_in v
  pub bytes : list_bytes s (stored s v) ≤ 2 ^ 16 * list_bytes t v + 3 * lists_in v

-- the same for all elements of a list
record EachGrows (s t : Shape) (vs : Values) : Type 0 where
  lists : lists_among (values (map (stored s) (items vs))) ≡ lists_among vs
  bytes : sum_by (list_bytes s) (map (stored s) (items vs)) ≤ 2 ^ 16 * sum_by (list_bytes t) (items vs) + 3 * lists_among vs

-- and for the members of a group
record AllGrow (ss ts : Members) (vs : Values) : Type 0 where
  lists : lists_among (stored_members ss (items vs)) ≡ lists_among vs
  bytes : member_bytes ss (items (stored_members ss (items vs))) ≤ 2 ^ 16 * member_bytes ts (items vs) + 3 * lists_among vs

block_grows : (count n m : ℕ) → n < 2 ^ 16 → 1 ≤ m → round4 (count * n) ≤ 2 ^ 16 * round4 (count * m) + 3
block_grows count n m less some =
    omega (arith, mul-le count n count (2 ^ 16) (omega arith) (omega (arith, less)), mul-le count 1 count m (omega arith) some)

list_grows : (n m : ℕ) (s t : Shape) (vs : Values) → n < 2 ^ 16 → 1 ≤ m → EachGrows s t vs → Grows (Array n s) (Array m t) (ListOf vs)
list_grows n m s t vs less some e =
    let ws = map (stored s) (items vs) in
    let long : round4 (length (items (values ws)) * n) + sum_by (list_bytes s) (items (values ws)) ≡ round4 (length (items vs) * n) + sum_by (list_bytes s) ws =
    ap (λ us. round4 (length us * n) + sum_by (list_bytes s) us) (items-values ws)
    ∙ ap (λ k. round4 (k * n) + sum_by (list_bytes s) ws) (length-map (items vs) (stored s))
    in
    record { lists = omega (arith, e.lists); bytes = omega (arith, long, e.bytes, block_grows (length (items vs)) n m less some) }

each_grows : (s t : Shape) → ((v : Value) → is_of t v ≡ true → Grows s t v) → (vs : Values) → list_all (is_of t) (items vs) ≡ true → EachGrows s t vs
each_grows s t h no_more e = record { lists = refl; bytes = omega arith }
each_grows s t h (value v vs) e =
    let two = and_parts (is_of t v) (list_all (is_of t) (items vs)) e in
    let one = h v two.0 in
    let more = each_grows s t h vs two.1 in
    record {
      lists = omega (arith, one.lists, more.lists);
      bytes = omega (
        arith,
        one.bytes,
        more.bytes,
        sum_by-cons (list_bytes s) (stored s v) (map (stored s) (items vs)),
        sum_by-cons (list_bytes t) v (items vs),
      );
    }

mutual
  pub grows : (s t : Shape) (v : Value) → HasStrides s → HasStrides t → convertible s t ≡ true → is_of t v ≡ true → Grows s t v
  grows (Number k) (Number l) (Num z) a b c e = record { lists = refl; bytes = omega arith }
  grows (Array n s) (Array m t) (ListOf vs) a b c e =
      list_grows n m s t vs a.1 b.0 (each_grows s t (λ v is. grows s t v a.2 b.2 c is) vs e)
  grows (Cluster ss) (Cluster ts) (GroupOf vs) a b c e = let all = all_grow ss ts vs a b c e in record { lists = all.lists; bytes = all.bytes }
  grows s t v a b c e = let f : ⊥ = cc in absurd f

  all_grow : (ss ts : Members) (vs : Values) → AllHaveStrides ss → AllHaveStrides ts → convertible_members ss ts ≡ true → are_of ts (items vs) ≡ true → AllGrow ss ts vs
  all_grow no_members no_members no_more a b c e = record { lists = refl; bytes = omega arith }
  all_grow (member s ss) (member t ts) (value v vs) a b c e =
      let both = and_parts (convertible s t) (convertible_members ss ts) c in
      let two = and_parts (is_of t v) (are_of ts (items vs)) e in
      let one = grows s t v a.0 b.0 both.0 two.0 in
      let more = all_grow ss ts vs a.1 b.1 both.1 two.1 in
      record { lists = omega (arith, one.lists, more.lists); bytes = omega (arith, one.bytes, more.bytes) }
  all_grow ss ts vs a b c e = let f : ⊥ = cc in absurd f

-- ---- parts of sound variables

mutual
  strides_in : (s : Shape) (i : ℕ) (n : Name) → name_in s i ≡ Some n → HasStrides s → HasStrides n.shape
  strides_in Void zero n e h = let f : Void ≡ n.shape = cc in subst HasStrides f h
  strides_in (Number k) zero n e h = let f : Number k ≡ n.shape = cc in subst HasStrides f h
  strides_in (Array stride s) zero n e h = let f : Array stride s ≡ n.shape = cc in subst HasStrides f h
  strides_in (Cluster ss) zero n e h = let f : Cluster ss ≡ n.shape = cc in subst HasStrides f h
  strides_in (Cluster ss) (suc i) n e h = strides_among ss 0 i n e h
  strides_in Mutex zero n e h = let f : Mutex ≡ n.shape = cc in subst HasStrides f h
  strides_in s (suc i) n e h = let f : ⊥ = cc in absurd f

  strides_among : (ss : Members) (k i : ℕ) (n : Name) → name_among ss k i ≡ Some n → AllHaveStrides ss → HasStrides n.shape
  strides_among no_members k i n e h = let f : ⊥ = cc in absurd f
  strides_among (member s ss) k i n e h =
      elim (first_or_behind s ss k i n e) [
        | inl here ↦ subst HasStrides (ap (λ (m : Name). m.shape) here.same) (strides_in s i here.inner here.names h.0)
        | inr there ↦ strides_among ss (k + 1) (i - size s) n there.names h.1
      ]

mutual
  size_in_shape : (s : Shape) (i : ℕ) (n : Name) → name_in s i ≡ Some n → size n.shape ≤ size s
  size_in_shape Void zero n e = let f : Void ≡ n.shape = cc in omega (arith, ap size f)
  size_in_shape (Number k) zero n e = let f : Number k ≡ n.shape = cc in omega (arith, ap size f)
  size_in_shape (Array stride s) zero n e = let f : Array stride s ≡ n.shape = cc in omega (arith, ap size f)
  size_in_shape (Cluster ss) zero n e = let f : Cluster ss ≡ n.shape = cc in omega (arith, ap size f)
  size_in_shape (Cluster ss) (suc i) n e = omega (arith, size_among_members ss 0 i n e)
  size_in_shape Mutex zero n e = let f : Mutex ≡ n.shape = cc in omega (arith, ap size f)
  size_in_shape s (suc i) n e = let f : ⊥ = cc in absurd f

  size_among_members : (ss : Members) (k i : ℕ) (n : Name) → name_among ss k i ≡ Some n → size n.shape ≤ sizes ss
  size_among_members no_members k i n e = let f : ⊥ = cc in absurd f
  size_among_members (member s ss) k i n e =
      elim (first_or_behind s ss k i n e) [
        | inl here ↦ omega (arith, size_in_shape s i here.inner here.names, ap (λ (m : Name). size m.shape) here.same)
        | inr there ↦ omega (arith, size_among_members ss (k + 1) (i - size s) n there.names)
      ]

few_by : (s : Variables) (i : ℕ) (o : Option Name) → name_of s i ≡ o → AreSound s → size (shape_by o) < 2 ^ 16
few_by s i None named e = omega arith
few_by s i (Some n) named e = omega (arith, size_among_members s.shapes 0 i n named, e.entries)

-- what an entry names is spelled by few entries
pub few_entries : (s : Variables) (i : ℕ) → AreSound s → size (shape_of s i) < 2 ^ 16
few_entries s i e = few_by s i (name_of s i) refl e

-- what an entry names is no larger than the pool, and a value of its shape
pub record IsSoundPart (s : Shape) (v : Value) : Type 0 where
  pub strides : HasStrides s
  pub of : is_of s v ≡ true
  pub lists : lists_in v < 2 ^ 12
  pub bytes : list_bytes s v ≤ pool_size

part_by : (s : Variables) (i : ℕ) (o : Option Name) → name_of s i ≡ o → IsSome o → AreSound s → IsSoundPart (shape_by o) (value_by o s.values)
part_by s i None named some e = let f : ⊥ = cc in absurd f
part_by s i (Some n) named some e =
    let none = Num (pos 0) in
    record {
      strides = strides_among s.shapes 0 i n named e.strides;
      of = part_of_shape s.shapes i n s.values named e.shapes;
      lists = omega (arith, lists_with_part s.shapes i n none s.values named e.shapes, e.rows, e.pool);
      bytes = omega (arith, bytes_with_part s.shapes i n none s.values named e.shapes, no_bytes n.shape, e.pool);
    }

pub sound_part : (s : Variables) (i : ℕ) → AreSound s → IsSome (name_of s i) → IsSoundPart (shape_of s i) (value_of s i)
sound_part s i e some = part_by s i (name_of s i) refl some e

-- ---- what is counted before a store

-- a value of the pool
pub value_countable : (s t : Shape) (v : Value) (zs : List ℤ) → HasStrides s → IsSoundPart t v → convertible s t ≡ true → (filled s zs).0 ≡ stored s v → IsCountable (size_of_filled s zs)
value_countable s t v zs strides e fits is =
    let g = grows s t v strides e.strides fits e.of in
    subst
    (λ w. IsCountable (size_in s w))
    (sym is)
    (record { lists = omega (arith, g.lists, e.lists); bytes = omega (arith, g.bytes, e.lists, e.bytes) })

no_lists : (k : Kind) (n : ℕ) (zs : List ℤ) → lists_among (many n (filled (Number k)) zs).0 ≡ 0
no_lists k zero zs = refl
no_lists k (suc n) zs = let e = no_lists k n (filled (Number k) zs).1 in omega (arith, e)

no_sum : (k : Kind) (vs : Values) → sum_by (list_bytes (Number k)) (items vs) ≡ 0
no_sum k no_more = refl
no_sum k (value v vs) = omega (arith, sum_by-cons (list_bytes (Number k)) v (items vs), no_sum k vs)

-- a list of so many numbers
pub numbers_countable : (stride : ℕ) (k : Kind) (zs : List ℤ) → stride < 2 ^ 16 → nat_abs (first_of zs) ≤ pool_size → IsCountable (size_of_filled (Array stride (Number k)) zs)
numbers_countable stride k zs less few =
    let count = nat_abs (first_of zs) in
    let vs = (many count (filled (Number k)) (drop 1 zs)).0 in
    let long = ap (λ n. round4 (n * stride)) (items_many (filled (Number k)) count (drop 1 zs)) in
    record {
      lists = omega (arith, no_lists k count (drop 1 zs));
      bytes = omega (arith, long, no_sum k vs, mul-le count stride pool_size (2 ^ 16) few (omega (arith, less)));
    }
