-- The lists of the starting values have rows of their own, and share no byte.
use Rattle.std.proofs.Common.{◌≡◌, ◌≢◌, ℕ, suc, ◌+◌, ◌*◌, ◌<◌, ◌≤◌, Bool, true, false, cond, nat_lt, List, [], ◌∷◌, ◌++◌, map, filter, flat_map, length, refl, sym, ap, ap₂, subst, ◌∙◌, arith, length-append, suc-mul, le-leb, ltb-true}
use Rattle.std.proofs.lemmas.Bool.{or_left}
use Rattle.std.proofs.lemmas.List.Elements.{filter-append}
use Rattle.nxt_types.specs.Arithmetic.{leaf_size}
use Rattle.nxt_types.specs.Shapes.{Shape, Void, Number, Array, Cluster, Mutex, Members, no_members, member, leaf_bytes}
use Rattle.nxt_types.specs.declared.kind.Kind.{Kind}
use Rattle.nxt_model.specs.Values.{Value, elements}
use Rattle.nxt_model.specs.Reading.{AreApart, Block, HeldList, Memory, dope_row, list_block, non_empty, row_count, table_block}
use Rattle.nxt_asm_parts.specs.AssembledParts.{Valued, element_of, is_array, leaves_in, leaves_among, list_bytes_of, number_bytes}
use Rattle.nxt_asm_rules.proofs.Laws.StartValues.{length-number}
use Rattle.nxt_facts.specs.Pairs.{EachPair}
use Rattle.nxt_facts.proofs.Each.{Each, each_join, each_then}
use Rattle.nxt_asm_laws_layout.proofs.Held.{AreHeld, AreItems, IsHeld}
use Rattle.nxt_asm_laws_layout.proofs.RowsRead.{ArrayIs, ArraysAre}
use Rattle.nxt_asm_laws_layout.proofs.ReadBack.{held_from, place_of_full}

-- ---- the bytes of lists

pub length-numbers : (k : Kind) (vs : List Value) → length (flat_map (number_bytes (Number k)) vs) ≡ length vs * leaf_size k
length-numbers k [] = none (leaf_size k)
  where
    none : (n : ℕ) → 0 ≡ 0 * n
    none n = omega arith
length-numbers k (v ∷ vs) =
    let one = number_bytes (Number k) v in
    let rest = flat_map (number_bytes (Number k)) vs in
    by (length vs) (leaf_size k) (length one) (length rest) (length (one ++ rest)) (length-append one rest) (length-number k v) (length-numbers k vs)
  where
    by : (n m a b c : ℕ) → c ≡ a + b → a ≡ m → b ≡ n * m → c ≡ suc n * m
    by n m a b c e f g = omega (arith, e, f, g, suc-mul n m)

-- a list with elements takes as many bytes as they do
abbrev pub IsSized : Valued → Type 0
IsSized a = 0 < length (elements a.1) → length (list_bytes_of a) ≡ length (elements a.1) * leaf_bytes (element_of a.0)

items_sized : (s : Shape) (vs : List Value) → AreItems s vs → 0 < length vs → length (flat_map (number_bytes s) vs) ≡ length vs * leaf_bytes s
items_sized (Number k) vs h some = length-numbers k vs
items_sized Void vs h some = absurd (let n = ap length h in omega (arith, n, some))
items_sized (Array n s) vs h some = absurd (let n = ap length h in omega (arith, n, some))
items_sized (Cluster ss) vs h some = absurd (let n = ap length h in omega (arith, n, some))
items_sized Mutex vs h some = absurd (let n = ap length h in omega (arith, n, some))

mutual
  own_sized : (s : Shape) (v : Value) → IsHeld s v → Each IsSized (filter is_array (leaves_in s v))
  own_sized Void v h = tt
  own_sized (Number k) v h = tt
  own_sized (Array n s) v h = (items_sized s (elements v) h.1, tt)
  own_sized (Cluster ss) v h = all_sized ss (elements v) h.1
  own_sized Mutex v h = tt

  pub all_sized : (ss : Members) (vs : List Value) → AreHeld ss vs → Each IsSized (filter is_array (leaves_among ss vs))
  all_sized no_members vs h = tt
  all_sized (member s ss) [] h = absurd h
  all_sized (member s ss) (v ∷ vs) h =
      subst (Each IsSized) (sym (filter-append is_array (leaves_in s v) (leaves_among ss vs)))
      (each_join IsSized (filter is_array (leaves_in s v)) (filter is_array (leaves_among ss vs)) (own_sized s v h.0) (all_sized ss vs h.1))

-- ---- rows

rows_above : (r q : ℕ) (as' : List Valued) → q ≤ r → Each (λ l. q ≤ l.row) (held_from r as')
rows_above r q [] le = tt
rows_above r q (a ∷ as') le = (le, rows_above (r + 1) q as' (omega (arith, le)))

pub rows_differ : (r : ℕ) (as' : List Valued) → EachPair (λ a b. a.row ≢ b.row) (held_from r as')
rows_differ r [] = tt
rows_differ r (a ∷ as') = (
  each_then (λ (l : HeldList). r + 1 ≤ l.row) (λ l. r ≢ l.row) (λ l le same. omega (arith, le, same)) (held_from (r + 1) as') (rows_above (r + 1) (r + 1) as' (omega arith)),
  rows_differ (r + 1) as',
)

-- ---- blocks

module _ (m : Memory) where
  pub block_at : (r at : ℕ) (a : Valued) → ArrayIs m.bytes m.table (row_count m) r at a → IsSized a → 0 < length (elements a.1)
      → ((dope_row m r).place ≡ at) × ((dope_row m r).count * (dope_row m r).stride ≡ length (list_bytes_of a))
  block_at r at (s, v) h sized some =
      (h.row.place_is ∙ place_of_full m at s v some, ap₂ (λ (a b : ℕ). a * b) h.row.count_is h.row.stride_is ∙ sym (sized some))

  abbrev blocks_in : ℕ → List Valued → List Block
  blocks_in r as' = map (list_block m) (non_empty (held_from r as'))

  one_behind : (q r at : ℕ) (a : Valued) (ls : List HeldList) (stride : ℕ) (b : Bool) → nat_lt 0 (length (elements a.1)) ≡ b → q ≤ at → ArrayIs m.bytes m.table (row_count m) r at a → IsSized a
      → Each (λ x. q ≤ x.place) (map (list_block m) (non_empty ls))
      → Each (λ x. q ≤ x.place) (map (list_block m) (cond b (record { row = r; stride = stride; count = length (elements a.1) } ∷ non_empty ls) (non_empty ls)))
  one_behind q r at a ls stride true e le h sized rest =
      let here = (block_at r at a h sized (ltb-true 0 (length (elements a.1)) e)).0 in
      (omega (arith, here, le), rest)
  one_behind q r at a ls stride false e le h sized rest = rest

  -- those of arrays stand from their place on
  pub blocks_behind : (q r at : ℕ) (as' : List Valued) → q ≤ at → ArraysAre m.bytes m.table (row_count m) r at as' → Each IsSized as' → Each (λ x. q ≤ x.place) (blocks_in r as')
  blocks_behind q r at [] le h sized = tt
  blocks_behind q r at (a ∷ as') le h sized =
      one_behind q r at a (held_from (r + 1) as') (leaf_bytes (element_of a.0)) (nat_lt 0 (length (elements a.1))) refl le h.0 sized.0
      (blocks_behind q (r + 1) (at + length (list_bytes_of a)) as' (omega (arith, le)) h.1 sized.1)

  apart_from : (a b : Block) (end : ℕ) → a.place + a.bytes ≡ end → end ≤ b.place → AreApart a b
  apart_from a b end e le = or_left _ _ (le-leb (a.place + a.bytes) b.place (omega (arith, e, le)))

  one_apart : (r at : ℕ) (a : Valued) (ls : List HeldList) (stride : ℕ) (b : Bool) → nat_lt 0 (length (elements a.1)) ≡ b → ArrayIs m.bytes m.table (row_count m) r at a → IsSized a
      → Each (λ x. at + length (list_bytes_of a) ≤ x.place) (map (list_block m) (non_empty ls)) → EachPair AreApart (map (list_block m) (non_empty ls))
      → EachPair AreApart (map (list_block m) (cond b (record { row = r; stride = stride; count = length (elements a.1) } ∷ non_empty ls) (non_empty ls)))
  one_apart r at a ls stride true e h sized behind rest =
      let own : HeldList = record { row = r; stride = stride; count = length (elements a.1) } in
      let two = block_at r at a h sized (ltb-true 0 (length (elements a.1)) e) in (
        each_then (λ (x : Block). at + length (list_bytes_of a) ≤ x.place) (AreApart (list_block m own))
            (λ x le. apart_from (list_block m own) x (at + length (list_bytes_of a)) (ap₂ (λ (i j : ℕ). i + j) two.0 two.1) le)
            (map (list_block m) (non_empty ls)) behind,
        rest,
      )
  one_apart r at a ls stride false e h sized behind rest = rest

  pub blocks_apart : (r at : ℕ) (as' : List Valued) → ArraysAre m.bytes m.table (row_count m) r at as' → Each IsSized as' → EachPair AreApart (blocks_in r as')
  blocks_apart r at [] h sized = tt
  blocks_apart r at (a ∷ as') h sized =
      one_apart r at a (held_from (r + 1) as') (leaf_bytes (element_of a.0)) (nat_lt 0 (length (elements a.1))) refl h.0 sized.0
      (blocks_behind (at + length (list_bytes_of a)) (r + 1) (at + length (list_bytes_of a)) as' (omega arith) h.1 sized.1)
      (blocks_apart (r + 1) (at + length (list_bytes_of a)) as' h.1 sized.1)

  -- and behind the table
  pub table_apart : (r at : ℕ) (as' : List Valued) → m.table + 10 * row_count m ≡ at → ArraysAre m.bytes m.table (row_count m) r at as' → Each IsSized as'
      → Each (AreApart (table_block m)) (blocks_in r as')
  table_apart r at as' e h sized =
      each_then (λ (x : Block). at ≤ x.place) (AreApart (table_block m)) (λ x le. apart_from (table_block m) x at e le) (blocks_in r as')
      (blocks_behind at r at as' (omega arith) h sized)
