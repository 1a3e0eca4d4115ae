-- How long the defaults and the lists of shapes with their starting values are.
use Rattle.std.proofs.Common.{◌≡◌, ℕ, ◌+◌, ◌≤◌, ℤ, All, List, [], ◌∷◌, ◌++◌, map, filter, length, sum_by, refl, sym, ap, ap₂, ◌∙◌, subst, length-append, arith}
use Rattle.std.specs.Int.{to_le_bytes, w16}
use Rattle.std.proofs.lemmas.List.Elements.{filter-append}
use Rattle.std.proofs.lemmas.List.Sums.{sum_by-append, sum_by-cons}
use Rattle.nxt_types.specs.Pool.{round4}
use Rattle.nxt_types.specs.Shapes.{Shape, Void, Number, Array, Cluster, Mutex, Members, no_members, member, members, leaf_bytes}
use Rattle.nxt_types.specs.declared.kind.Kind.TheVariants.{Slong}
use Rattle.nxt_model.specs.Values.{Value, Num, elements, group_of}
use Rattle.nxt_model.specs.Footprint.{list_bytes, member_bytes}
use Rattle.nxt_model.specs.Assembled.{all_shapes, all_values, arrays_among, arrays_in}
use Rattle.nxt_model.specs.TextProgram.{Text, constants, first_values, shapes, static_size, text_bytes, text_of, text_shape, text_value, texts}
use Rattle.nxt_model.specs.declared.nbc.NbcProgram.{NbcProgram}
use Rattle.nxt_model.proofs.Laws.Values.{items-values}
use Rattle.nxt_asm_parts.specs.AssembledParts.{Valued, defaults_from, is_array, leaves_among, leaves_in, leaves_of, list_bytes_of, number_bytes}
use Rattle.nxt_asm_parts.specs.Defaults.{StartFits}
use Rattle.nxt_asm_parts.specs.Lists.{lists_bytes}
use Rattle.nxt_asm_rules.proofs.Laws.StartValues.{IsStart, default_size, item_count, list_size, length-number, text_sized}
use Rattle.nxt_asm_rules.proofs.Laws.Sums.{arrays_among-members}
use Rattle.nxt_asm_rules.proofs.Laws.StartFootprint.{AreStarts, numbers_start, shapes_start, starts_append, sum_all}

-- ---- defaults

no_length : (n : ℕ) → n ≡ 0 + n
no_length n = omega arith

-- the static defaults of leaves
length-defaults : (row : ℕ) (ls : List Valued) → length (defaults_from row ls) ≡ sum_by default_size ls
length-defaults row [] = refl
length-defaults row ((Void, v) ∷ ls) =
    length-defaults row ls ∙ no_length (sum_by default_size ls) ∙ sym (sum_by-cons default_size (Void, v) ls)
length-defaults row ((Number k, v) ∷ ls) =
    let one = number_bytes (Number k) v in
    let rest = defaults_from row ls in
    length-append one rest ∙ ap₂ ◌+◌ (length-number k v) (length-defaults row ls) ∙ sym (sum_by-cons default_size (Number k, v) ls)
length-defaults row ((Array n s, v) ∷ ls) =
    let one = to_le_bytes w16 row in
    let rest = defaults_from (row + 1) ls in
    length-append one rest ∙ ap (λ m. 2 + m) (length-defaults (row + 1) ls) ∙ sym (sum_by-cons default_size (Array n s, v) ls)
length-defaults row ((Cluster ss, v) ∷ ls) =
    length-defaults row ls ∙ no_length (sum_by default_size ls) ∙ sym (sum_by-cons default_size (Cluster ss, v) ls)
length-defaults row ((Mutex, v) ∷ ls) =
    let rest = defaults_from row ls in
    length-append (0 ∷ 0 ∷ 0 ∷ 0 ∷ []) rest ∙ ap (λ m. 4 + m) (length-defaults row ls) ∙ sym (sum_by-cons default_size (Mutex, v) ls)

static_summed : (ss : List Shape) (vs : List Value) → AreStarts ss vs → sum_by default_size (leaves_among (members ss) vs) ≡ sum_by leaf_bytes ss
static_summed [] [] all = refl
static_summed [] (v ∷ vs) all = absurd all
static_summed (s ∷ ss) [] all = absurd all
static_summed (s ∷ ss) (v ∷ vs) all =
    sum_by-append default_size (leaves_in s v) (leaves_among (members ss) vs)
    ∙ ap₂ ◌+◌ all.0.static (static_summed ss vs all.1)
    ∙ sym (sum_by-cons leaf_bytes s ss)

pub static_is : (t : Text) → sum_by leaf_bytes (all_shapes t) ≡ static_size t
static_is t = sum_all leaf_bytes t

-- the leaves of a text, by its shapes and their starting values
pub leaves_are : (t : Text) → leaves_of t ≡ leaves_among (members (all_shapes t)) (all_values t (first_values t))
leaves_are t = ap (leaves_among (members (all_shapes t))) (items-values (all_values t (first_values t)))

pub length-static : (t : Text) → AreStarts (all_shapes t) (all_values t (first_values t)) → length (defaults_from 1 (leaves_of t)) ≡ static_size t
length-static t all =
    length-defaults 1 (leaves_of t)
    ∙ ap (sum_by default_size) (leaves_are t)
    ∙ static_summed (all_shapes t) (all_values t (first_values t)) all
    ∙ static_is t

-- ---- lists

-- the bytes of the lists of leaves
pub length-lists : (ls : List Valued) → length (lists_bytes (filter is_array ls)) ≡ sum_by list_size ls
length-lists [] = refl
length-lists ((Void, v) ∷ ls) = length-lists ls ∙ no_length (sum_by list_size ls) ∙ sym (sum_by-cons list_size (Void, v) ls)
length-lists ((Number k, v) ∷ ls) = length-lists ls ∙ no_length (sum_by list_size ls) ∙ sym (sum_by-cons list_size (Number k, v) ls)
length-lists ((Array n s, v) ∷ ls) =
    let one = list_bytes_of (Array n s, v) in
    length-append one (lists_bytes (filter is_array ls)) ∙ ap (λ m. length one + m) (length-lists ls) ∙ sym (sum_by-cons list_size (Array n s, v) ls)
length-lists ((Cluster ss, v) ∷ ls) = length-lists ls ∙ no_length (sum_by list_size ls) ∙ sym (sum_by-cons list_size (Cluster ss, v) ls)
length-lists ((Mutex, v) ∷ ls) = length-lists ls ∙ no_length (sum_by list_size ls) ∙ sym (sum_by-cons list_size (Mutex, v) ls)

-- what each value's lists have in the pool, all of them have
below_bytes : (f : Valued → ℕ) → ((s : Shape) (v : Value) → IsStart s v → sum_by f (leaves_in s v) ≤ list_bytes s v)
    → (ss : List Shape) (vs : List Value) → AreStarts ss vs → sum_by f (leaves_among (members ss) vs) ≤ member_bytes (members ss) vs
below_bytes f each [] vs all = omega arith
below_bytes f each (s ∷ ss) [] all = absurd all
below_bytes f each (s ∷ ss) (v ∷ vs) all =
    by (sum_by f (leaves_in s v)) (list_bytes s v) (sum_by f (leaves_among (members ss) vs)) (member_bytes (members ss) vs)
    (sum_by f (leaves_in s v ++ leaves_among (members ss) vs)) (each s v all.0) (below_bytes f each ss vs all.1)
    (sum_by-append f (leaves_in s v) (leaves_among (members ss) vs))
  where
    by : (a b c d e : ℕ) → a ≤ b → c ≤ d → e ≡ a + c → e ≤ b + d
    by a b c d e f g h = omega (arith, f, g, h)

pub written_below : (ss : List Shape) (vs : List Value) → AreStarts ss vs → sum_by list_size (leaves_among (members ss) vs) ≤ member_bytes (members ss) vs
written_below = below_bytes list_size (λ s v is. is.written)

pub counted_below : (ss : List Shape) (vs : List Value) → AreStarts ss vs → sum_by item_count (leaves_among (members ss) vs) ≤ member_bytes (members ss) vs
counted_below = below_bytes item_count (λ s v is. is.counted)

-- ---- bytes in the pool

bytes_append : (ss ts : List Shape) (vs ws : List Value) → AreStarts ss vs
    → member_bytes (members (ss ++ ts)) (vs ++ ws) ≡ member_bytes (members ss) vs + member_bytes (members ts) ws
bytes_append [] ts [] ws all = no_length (member_bytes (members ts) ws)
bytes_append [] ts (v ∷ vs) ws all = absurd all
bytes_append (s ∷ ss) ts [] ws all = absurd all
bytes_append (s ∷ ss) ts (v ∷ vs) ws all =
    by (list_bytes s v) (member_bytes (members ss) vs) (member_bytes (members ts) ws) (member_bytes (members (ss ++ ts)) (vs ++ ws)) (bytes_append ss ts vs ws all.1)
  where
    by : (a b c d : ℕ) → d ≡ b + c → a + d ≡ a + b + c
    by a b c d e = omega (arith, e)

numbers_sized : (zs : List ℤ) → member_bytes (members (map (λ z. Number Slong) zs)) (map Num zs) ≡ 0
numbers_sized [] = refl
numbers_sized (z ∷ zs) = omega (arith, numbers_sized zs)

texts_sized : (ts : List (List ℕ)) → member_bytes (members (map (λ t. text_shape) ts)) (map text_value ts) ≡ sum_by (λ b. round4 (length b + 1)) ts
texts_sized [] = refl
texts_sized (t ∷ ts) = ap₂ ◌+◌ (text_sized t) (texts_sized ts) ∙ sym (sum_by-cons (λ b. round4 (length b + 1)) t ts)

-- the lists of the variables, and those of the texts
pub bytes_are : (p : NbcProgram) → All (λ v. StartFits v.shape v.start) p.vars
    → member_bytes (members (all_shapes (text_of p))) (all_values (text_of p) (first_values (text_of p)))
    ≡ list_bytes (Cluster (members (shapes (text_of p)))) (group_of (first_values (text_of p))) + text_bytes (text_of p)
bytes_are p all =
    let t : Text = text_of p in
    let ss : List Shape = shapes t in
    let vs : List Value = first_values t in
    let numbers : List Shape = map (λ z. Number Slong) (constants t) in
    let first = shapes_start p all in
    let second = bytes_append ss numbers vs (map Num (constants t)) first in
    let third =
    bytes_append (ss ++ numbers) (map (λ b. text_shape) (texts t)) (vs ++ map Num (constants t)) (map text_value (texts t))
    (starts_append ss numbers vs (map Num (constants t)) first (numbers_start (constants t))) in
    third
    ∙ ap₂ ◌+◌ (second ∙ by (member_bytes (members ss) vs) (member_bytes (members numbers) (map Num (constants t))) (numbers_sized (constants t))) (texts_sized (texts t))
    ∙ ap (λ vs. member_bytes (members ss) vs + text_bytes t) (sym (items-values (first_values t)))
  where
    by : (a b : ℕ) → b ≡ 0 → a + b ≡ a
    by a b e = omega (arith, e)

-- ---- rows

few_next : (a b c d e : ℕ) → e ≡ a + c → a ≤ b → c ≤ d → e ≤ b + d
few_next a b c d e f g h = omega (arith, f, g, h)

mutual
  few_arrays : (s : Shape) (v : Value) → length (filter is_array (leaves_in s v)) ≤ arrays_in s
  few_arrays Void v = omega arith
  few_arrays (Number k) v = omega arith
  few_arrays (Array n s) v = omega arith
  few_arrays (Cluster ss) v = few_among ss (elements v)
  few_arrays Mutex v = omega arith

  few_among : (ss : Members) (vs : List Value) → length (filter is_array (leaves_among ss vs)) ≤ arrays_among ss
  few_among no_members vs = omega arith
  few_among (member s ss) [] = omega arith
  few_among (member s ss) (v ∷ vs) =
      let one = leaves_in s v in
      let rest = leaves_among ss vs in
      few_next (length (filter is_array one)) (arrays_in s) (length (filter is_array rest)) (arrays_among ss) (length (filter is_array (one ++ rest)))
      (ap length (filter-append is_array one rest) ∙ length-append (filter is_array one) (filter is_array rest)) (few_arrays s v) (few_among ss vs)

-- a row for each array
pub few_rows : (ss : List Shape) (vs : List Value) → length (filter is_array (leaves_among (members ss) vs)) ≤ sum_by arrays_in ss
few_rows ss vs = subst (λ n. length (filter is_array (leaves_among (members ss) vs)) ≤ n) (arrays_among-members ss) (few_among (members ss) vs)
