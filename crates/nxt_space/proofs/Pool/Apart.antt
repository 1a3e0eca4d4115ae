-- Lists with rows of their own share no byte of a pool.
use Rattle.std.proofs.Common.{◌≡◌, ◌≢◌, ℕ, ◌*◌, ◌/◌, ◌<◌, Bool, true, false, cond, nat_lt, List, [], ◌∷◌, map, filter, length, AllPairs, Option, Some, None, is_some, inl, inr, refl, sym, ap, ◌∙◌, arith, ltb-true, zero-mul}
use Rattle.std.proofs.Math.Nat.{zero-div}
use Rattle.std.proofs.lemmas.Bool.{cases_eq}
use Rattle.nxt_model.specs.Reading.{Memory, HeldList, AreApart, dope_row, with_row, non_empty, list_block, table_block, blocks_of}
use Rattle.nxt_facts.proofs.Each.{Each, each_from, each_then, each_both, each_filter, each_mapped}
use Rattle.nxt_facts.proofs.Pairs.{all_pairs}
use Rattle.nxt_heap.specs.Dumps.{IsFilled, HoldHeap}
use Rattle.nxt_heap.specs.Lists.{Lists, ByteList, list_at, bytes_at, bytes_of, stride_at, stride_of, IsAlive}
use Rattle.nxt_facts.specs.Pairs.{EachPair}
use Rattle.nxt_space.proofs.Laws.Reads.{list_in, lists_in}
use Rattle.nxt_values.proofs.Laws.Without.{Differ}

-- ---- pairs

pub pairs_mapped : {X Y : Type 0} (R : Y → Y → Type 0) (f : X → Y) (xs : List X) → EachPair (λ x y. R (f x) (f y)) xs → EachPair R (map f xs)
pairs_mapped R f [] e = tt
pairs_mapped R f (x ∷ xs) e = (each_mapped (R (f x)) f xs e.0, pairs_mapped R f xs e.1)

kept_pair : {X : Type 0} (S : X → X → Type 0) (p : X → Bool) (x : X) (ys : List X) (b : Bool) → p x ≡ b → (p x ≡ true → Each (S x) ys) → EachPair S ys → EachPair S (cond b (x ∷ ys) ys)
kept_pair S p x ys true e h k = (h e, k)
kept_pair S p x ys false e h k = k

-- of the elements that pass a test
pub pairs_filter : {X : Type 0} (P : X → Type 0) (R S : X → X → Type 0) (p : X → Bool) → ((x y : X) → P x → P y → p x ≡ true → p y ≡ true → R x y → S x y) → (xs : List X) → Each P xs → EachPair R xs → EachPair S (filter p xs)
pairs_filter P R S p h [] all e = tt
pairs_filter P R S p h (x ∷ xs) all e =
    kept_pair
    S
    p
    x
    (filter p xs)
    (p x)
    refl
    (λ passes. each_filter (S x) p xs (each_both P (R x) (λ y. p y ≡ true → S x y) (λ y q r more. h x y all.0 q passes more r) xs all.1 e.0))
    (pairs_filter P R S p h xs all.1 e.1)

-- ---- rows

abbrev OwnRows : HeldList → HeldList → Type 0
OwnRows a b = a.row ≢ b.row

rows_own : (h : Lists) (rows : List ℕ) → EachPair Differ rows → EachPair OwnRows (lists_in h rows)
rows_own h rows own = pairs_mapped OwnRows (list_in h) rows own

pub own_lists : (h : Lists) (rows : List ℕ) → EachPair Differ rows → AllPairs OwnRows (with_row (lists_in h rows))
own_lists h rows own =
    let lists = lists_in h rows in
    all_pairs
    OwnRows
    (with_row lists)
    (pairs_filter
    (λ l. Unit {0})
    OwnRows
    OwnRows
    (λ l. nat_lt 0 l.row)
    (λ a b _ _ _ _ other. other)
    lists
    (each_from (λ l. Unit {0}) (λ l. tt) lists)
    (rows_own h rows own))

-- ---- blocks

module _ (m : Memory) (h : Lists) (pool : HoldHeap m.bytes m.table h) where
  abbrev Full : HeldList → Type 0
  Full l = 0 < l.count → IsFilled m.bytes m.table l.row

  full_by : (row : ℕ) (o : Option ByteList) → list_at h row ≡ o → IsAlive h row → Full (list_in h row)
  full_by row None is alive some = let f : ⊥ = cc (alive, ap is_some is) in absurd f
  full_by row (Some l) is alive some =
      let e = pool.lists row l is in
      let count = (dope_row m row).count in
      record {
        above = e.above;
        within = e.within;
        some = elim (cases_eq count 0) [
          | inl none ↦
              let long : length l.bytes ≡ 0 = sym e.whole ∙ ap (λ n. n * l.stride) none ∙ zero-mul l.stride in
              let few : length (bytes_at h row) / stride_at h row ≡ 0 =
              ap (λ o. length (bytes_of o) / stride_of o) is ∙ ap (λ n. n / l.stride) long ∙ zero-div l.stride in
              absurd (omega (arith, some, few))
          | inr other ↦ omega (arith, other)
        ];
      }

  all_full : (rows : List ℕ) → Each (IsAlive h) rows → Each Full (lists_in h rows)
  all_full rows alive =
      each_mapped Full (list_in h) rows (each_then (IsAlive h) (λ row. Full (list_in h row)) (λ row e. full_by row (list_at h row) refl e) rows alive)

  two_apart : (a b : HeldList) → Full a → Full b → nat_lt 0 a.count ≡ true → nat_lt 0 b.count ≡ true → OwnRows a b → AreApart (list_block m a) (list_block m b)
  two_apart a b f g some more other =
      pool.apart a.row b.row other (f (ltb-true 0 a.count some)) (g (ltb-true 0 b.count more))

  from_table : (a : HeldList) → Full a → nat_lt 0 a.count ≡ true → AreApart (table_block m) (list_block m a)
  from_table a f some = pool.from_table a.row (f (ltb-true 0 a.count some))

  blocks_apart : (lists : List HeldList) → Each Full lists → EachPair OwnRows lists → EachPair AreApart (blocks_of m lists)
  blocks_apart [] full own = tt
  blocks_apart (l ∷ ls) full own =
      let lists = l ∷ ls in
      let some = non_empty lists in (
        each_mapped
            (AreApart (table_block m))
            (list_block m)
            some
            (each_filter
            (λ k. AreApart (table_block m) (list_block m k))
            (λ k. nat_lt 0 k.count)
            lists
            (each_then Full (λ k. nat_lt 0 k.count ≡ true → AreApart (table_block m) (list_block m k)) from_table lists full)),
        pairs_mapped
            AreApart
            (list_block m)
            some
            (pairs_filter
            Full
            OwnRows
            (λ a b. AreApart (list_block m a) (list_block m b))
            (λ k. nat_lt 0 k.count)
            two_apart
            lists
            full
            own),
      )

  -- the table and the lists with elements share no byte
  pub apart_lists : (rows : List ℕ) → Each (IsAlive h) rows → EachPair Differ rows → AllPairs AreApart (blocks_of m (lists_in h rows))
  apart_lists rows alive own =
      let blocks = blocks_of m (lists_in h rows) in
      all_pairs AreApart blocks (blocks_apart (lists_in h rows) (all_full rows alive) (rows_own h rows own))
