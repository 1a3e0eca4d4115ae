-- Leaves that share no byte, and strides that suit their arrays.
use Rattle.std.proofs.Common.{◌≡◌, ℕ, zero, suc, ◌+◌, ◌*◌, ◌<◌, ◌≤◌, ◌⊎◌, inl, inr, Bool, true, false, cond, ◌&&◌, nat_lt, List, [], ◌∷◌, find, sum_by, Option, Some, None, refl, sym, ap, ◌∙◌, subst, arith, true≢false, lt-ltb, ltb-true, ltb-false, leb-true}
use Rattle.std.proofs.lemmas.Bool.{false_from_ne_true}
use Rattle.nxt_types.specs.Refusals.{passes}
use Rattle.nxt_types.specs.Shapes.{Members}
use Rattle.nxt_rxe.specs.declared.parts.Parts.{Parts}
use Rattle.nxt_types.specs.Pool.{pool_size, round4}
use Rattle.nxt_table.specs.declared.fault.TableFault.TheVariants.{Overlap}
use Rattle.nxt_layout.specs.declared.fault.LayoutFault.TheVariants.{Table}
use Rattle.nxt_table.specs.Leaves.{AreShapes, Leaf, leaves, leaf_of, end_of, are_together, extent}
use Rattle.nxt_layout.specs.LayoutRules.{Broken}
use Rattle.nxt_table.specs.TableRules.{share_a_byte}
use Rattle.nxt_layout.specs.Rows.{stride_or, Ground, row, has_elements, is_strided, is_array, reached_through, reached, arrays_of}
use Rattle.nxt_layout.specs.Inside.RowPasses.{row_bytes}
use Rattle.nxt_layout.specs.Start.{stride_of, stride_through}
use Rattle.nxt_facts.proofs.Each.{Each, each_both, each_part, each_kept}
use Rattle.nxt_facts.proofs.Sums.{total, total_is}
use Rattle.nxt_layout.proofs.Start.Leaves.{HasFairRows}
use Rattle.nxt_layout.proofs.Start.Reads.{when_full}
use Rattle.nxt_table.proofs.Laws.Leaves.{Rising, table_rises}
use Rattle.nxt_layout.proofs.Start.LeafOrder.{leaves_found}
use Rattle.nxt_facts.specs.Pairs.{EachPair}
use Rattle.nxt_layout.proofs.Laws.LeafSpans.{AreBeside}

-- ---- apart

-- of four tests, of which the first two pass, the third or the last fails
pub last_fails : (a b c d : Bool) → a ≡ true → b ≡ true → (a && b && c && d) ≡ false → (c ≡ false) ⊎ (d ≡ false)
last_fails true true true d p q e = inr e
last_fails true true false d p q e = inl refl
last_fails true false c d p q e = absurd (true≢false (sym q))
last_fails false b c d p q e = absurd (true≢false (sym p))

pub none_shared : (a b : Leaf) → a.entry < b.entry → share_a_byte a b ≡ false → AreBeside a b
none_shared a b less e together =
    elim (last_fails (nat_lt a.entry b.entry) (are_together a.arrays b.arrays) (nat_lt a.place (end_of b)) (nat_lt b.place (end_of a)) (lt-ltb a.entry b.entry less) together e) [
      | inl before ↦ inr (ltb-false a.place (end_of b) before)
      | inr behind ↦ inl (ltb-false b.place (end_of a) behind)
    ]

-- the leaf is found in ls by its entry
abbrev pub IsFound : List Leaf → Leaf → Type 0
IsFound ls l = leaf_of ls l.entry ≡ Some l

pub each_later : (all : List Leaf) (R : Leaf → Leaf → Type 0) → ((a b : Leaf) → IsFound all a → IsFound all b → a.entry < b.entry → R a b) → (a : Leaf) → IsFound all a → (i : ℕ) (ls : List Leaf) → a.entry < i → Rising i ls → Each (IsFound all) ls → Each (R a) ls
each_later all R h a found i [] less r f = tt
each_later all R h a found i (b ∷ bs) less r f = (
  h a b found f.0 (omega (arith, less, r.0)),
  each_later all R h a found (b.entry + 1) bs (omega (arith, less, r.0)) r.1 f.1,
)

-- what holds of two leaves of which the first has the lesser entry holds of each and each later one
pub in_order : (all : List Leaf) (R : Leaf → Leaf → Type 0) → ((a b : Leaf) → IsFound all a → IsFound all b → a.entry < b.entry → R a b) → (i : ℕ) (ls : List Leaf) → Rising i ls → Each (IsFound all) ls → EachPair R ls
in_order all R h i [] r f = tt
in_order all R h i (a ∷ ls) r f =
    (each_later all R h a f.0 (a.entry + 1) ls (omega arith) r.1 f.1, in_order all R h (a.entry + 1) ls r.1 f.1)

pub leaves_apart : (p : Parts) (plain : Members) → AreShapes p.toc plain → ((a b : ℕ) → Broken p (Table (Overlap a b)) → ⊥) → EachPair AreBeside (leaves p.toc plain)
leaves_apart p plain shapes rule =
    let ls = leaves p.toc plain in
    in_order
    ls
    AreBeside
    (λ a b first second less.
    none_shared
    a
    b
    less
    (false_from_ne_true
    (share_a_byte a b)
    (λ h.
    rule
    a.entry
    b.entry
    (plain, shapes, ap (passes (λ l. passes (share_a_byte l) (leaf_of ls b.entry))) first ∙ ap (passes (share_a_byte a)) second ∙ h))))
    0
    ls
    (table_rises p.toc plain)
    (leaves_found p.toc plain)

-- ---- strides

-- the stride holds an element of the array, and is no longer than the pool
abbrev pub Suits : Ground → ℕ → ℕ → Type 0
Suits g a stride = (extent g.leaves a ≤ stride) × (stride ≤ pool_size)

pub row_suits : (g : Ground) (a : ℕ) (rows : List ℕ) (r : ℕ) → is_strided g a rows r ≡ true → row_bytes g r ≤ pool_size → has_elements g r ≡ true → Suits g a (row g r).stride
row_suits g a rows r strided small full =
    let some = ltb-true 0 (row g r).count full in
    (leb-true (extent g.leaves a) (row g r).stride (when_full (has_elements g r) _ _ full strided).0, one_row (row g r).count (row g r).stride some small)
  where
    one_row : (n stride : ℕ) → 0 < n → round4 (n * stride) ≤ pool_size → stride ≤ pool_size
    one_row zero stride some small = absurd (omega (arith, some))
    one_row (suc n) stride some small = omega (arith, small)

pub found_one : {X : Type 0} (P : Option X → Type 0) (test : X → Bool) (x : X) (o : Option X) (b : Bool) → test x ≡ b → (test x ≡ true → P (Some x)) → P o → P (cond b (Some x) o)
found_one P test x o true e h k = h e
found_one P test x o false e h k = k

-- what holds of each element that passes, and of none, holds of what is found
pub of_found : {X : Type 0} (P : Option X → Type 0) (test : X → Bool) (xs : List X) → P None → Each (λ x. test x ≡ true → P (Some x)) xs → P (find test xs)
of_found P test [] none e = none
of_found P test (x ∷ xs) none e = found_one P test x (find test xs) (test x) refl e.0 (of_found P test xs none e.1)

pub array_suits : (g : Ground) (l : Leaf) → IsFound g.leaves l → HasFairRows g l → Each (λ r. row_bytes g r ≤ pool_size) (reached_through g l) → extent g.leaves l.entry ≤ pool_size → Suits g l.entry (stride_of g l.entry)
array_suits g l found fair small less =
    let rows = reached_through g l in
    subst
    (λ o. Suits g l.entry (stride_through g o))
    (sym found)
    (of_found
    (λ o. Suits g l.entry (stride_or g (extent g.leaves l.entry) o))
    (has_elements g)
    rows
    (omega arith, less)
    (each_both
    (λ r. is_strided g l.entry rows r ≡ true)
    (λ r. row_bytes g r ≤ pool_size)
    (λ r. has_elements g r ≡ true → Suits g l.entry (row g r).stride)
    (λ r a b full. row_suits g l.entry rows r a b full)
    rows
    fair.strided
    small))

-- ---- rows that fit in the pool

pub each_in_total : {X : Type 0} (w : X → ℕ) (n : ℕ) (xs : List X) → total w xs ≤ n → Each (λ x. w x ≤ n) xs
each_in_total w n [] h = tt
each_in_total w n (x ∷ xs) h = (omega (arith, h), each_in_total w n xs (omega (arith, h)))

pub small_rows : (g : Ground) → sum_by (row_bytes g) (reached g) ≤ pool_size → Each (λ l. is_array l.shape ≡ true → Each (λ r. row_bytes g r ≤ pool_size) (reached_through g l)) g.leaves
small_rows g less =
    each_kept
    (λ l. Each (λ r. row_bytes g r ≤ pool_size) (reached_through g l))
    (λ l. is_array l.shape)
    g.leaves
    (each_part
    (λ r. row_bytes g r ≤ pool_size)
    (reached_through g)
    (arrays_of g)
    (each_in_total (row_bytes g) pool_size (reached g) (subst (λ n. n ≤ pool_size) (total_is (row_bytes g) (reached g)) less)))
