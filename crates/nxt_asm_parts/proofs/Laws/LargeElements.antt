-- The elements of arrays that are too large.
use Rattle.std.proofs.Common.{◌≡◌, ℕ, zero, suc, ◌+◌, ◌<◌, ◌≤◌, length, Bool, true, false, cond, List, [], ◌∷◌, ◌++◌, map, take, Option, Some, None, refl, sym, ap, ◌∙◌, arith, append_assoc, append-nil, slice_index_or}
use Rattle.std.specs.Prelude.{flat_map, nat_lt, option_map, if◌then◌else◌}
use Rattle.std.specs.Option.{option_or}
use Rattle.std.proofs.lemmas.Bool.Decides.{nat_tests}
use Rattle.std.proofs.lemmas.List.{map_more}
use Rattle.nxt_types.specs.Shapes.{Shape, cluster_of, members, leaf_bytes}
use Rattle.nxt_model.specs.TextProgram.{arrays_of, shape_by, struct_shapes}
use Rattle.nxt_model.specs.declared.nbc.NbcStruct.{NbcStruct}
use Rattle.nxt_model.specs.declared.nbc.NbcType.{NbcType}
use Rattle.nxt_asm_parts.specs.Elements.{elements_in, elements_among, first_large, large_in, most_element}
use Rattle.nxt_asm_parts.specs.Measures.{held}
use Rattle.nxt_asm_parts.specs.MeasuresSeen.{shapes_seen, structs_seen}
use Rattle.nxt_asm_parts.specs.declared.measure.StructMeasure.{StructMeasure}

-- ---- arrays

-- the first large element of arrays around a shape is the shape itself, or one inside it
pub large_arrays : (n : ℕ) (s : Shape) → 0 < n → large_in (arrays_of n s) ≡ (if nat_lt most_element (leaf_bytes s) then Some (held (leaf_bytes s)) else large_in s)
large_arrays zero s some = absurd (omega arith)
large_arrays (suc zero) s some = by (nat_lt most_element (leaf_bytes s))
  where
    by : (b : Bool) → option_map held (cond b (Some (leaf_bytes s)) (first_large (elements_in s)))
        ≡ cond b (Some (held (leaf_bytes s))) (option_map held (first_large (elements_in s)))
    by true = refl
    by false = refl
large_arrays (suc (suc n)) s some = large_arrays (suc n) s (omega arith)

pub large_of_none : (s : Shape) → large_in (arrays_of 0 s) ≡ large_in s
large_of_none s = refl

-- ---- members

first_append : (xs ys : List ℕ) → first_large (xs ++ ys) ≡ option_or (first_large xs) (first_large ys)
first_append [] ys = refl
first_append (x ∷ xs) ys = by (nat_lt most_element x) (first_append xs ys)
  where
    by : (b : Bool) → first_large (xs ++ ys) ≡ option_or (first_large xs) (first_large ys)
        → cond b (Some x) (first_large (xs ++ ys)) ≡ option_or (cond b (Some x) (first_large xs)) (first_large ys)
    by true e = refl
    by false e = e

held_or : (a b : Option ℕ) → option_map held (option_or a b) ≡ option_or (option_map held a) (option_map held b)
held_or None b = refl
held_or (Some a) b = refl

pub large_append : (xs ys : List ℕ) → option_map held (first_large (xs ++ ys)) ≡ option_or (option_map held (first_large xs)) (option_map held (first_large ys))
large_append xs ys = ap (option_map held) (first_append xs ys) ∙ held_or (first_large xs) (first_large ys)

elements_push : (ss : List Shape) (s : Shape) → elements_among (members (ss ++ s ∷ [])) ≡ elements_among (members ss) ++ elements_in s
elements_push [] s = append-nil (elements_in s)
elements_push (t ∷ ss) s =
    ap (λ l. elements_in t ++ l) (elements_push ss s) ∙ sym (append_assoc (elements_in t) (elements_among (members ss)) (elements_in s))

large_push : (ss : List Shape) (s : Shape) → large_in (cluster_of (ss ++ s ∷ [])) ≡ option_or (large_in (cluster_of ss)) (large_in s)
large_push ss s =
    ap (λ ns. option_map held (first_large ns)) (elements_push ss s) ∙ large_append (elements_among (members ss)) (elements_in s)

-- of one member more
pub large_more : (ss : List Shape) (ts : List NbcType) (i : ℕ) (d : NbcType) (so_far one next : Option ℕ) → i < length ts
    → so_far ≡ large_in (cluster_of (map (shape_by ss) (take i ts))) → one ≡ large_in (shape_by ss (slice_index_or ts i d)) → next ≡ option_or so_far one
    → next ≡ large_in (cluster_of (map (shape_by ss) (take (i + 1) ts)))
large_more ss ts i d so_far one next under before is joined =
    let shape : Shape = shape_by ss (slice_index_or ts i d) in
    let front : List Shape = map (shape_by ss) (take i ts) in
    joined
    ∙ ap (λ o. option_or o one) before
    ∙ ap (option_or (large_in (cluster_of front))) is
    ∙ sym (large_push front shape)
    ∙ ap (λ l. large_in (cluster_of l)) (sym (map_more (shape_by ss) ts i d under))

-- ---- types

-- of a type that is made an array so often, where its base takes more than an element may
pub large_base : (n : ℕ) (s : Shape) (bytes : ℕ) → 0 < n → bytes ≡ held (leaf_bytes s) → most_element < bytes → Some bytes ≡ large_in (arrays_of n s)
large_base n s bytes some is large =
    let more : most_element < leaf_bytes s = omega arith in
    let test : nat_lt most_element (leaf_bytes s) ≡ true = grind (arith, nat_tests) in
    ap Some is ∙ sym (ap (λ b. cond b (Some (held (leaf_bytes s))) (large_in s)) test) ∙ sym (large_arrays n s some)

-- and where it doesn't
pub small_base : (n : ℕ) (s : Shape) (bytes : ℕ) → bytes ≡ held (leaf_bytes s) → bytes ≤ most_element → large_in s ≡ large_in (arrays_of n s)
small_base zero s bytes is small = refl
small_base (suc n) s bytes is small =
    let less : leaf_bytes s ≤ most_element = omega arith in
    let test : nat_lt most_element (leaf_bytes s) ≡ false = grind (arith, nat_tests) in
    sym (ap (λ b. cond b (Some (held (leaf_bytes s))) (large_in s)) test) ∙ sym (large_arrays (suc n) s (omega arith))

pub no_array : (n : ℕ) (s : Shape) → n ≡ 0 → large_in s ≡ large_in (arrays_of n s)
no_array n s is = ap (λ k. large_in (arrays_of k s)) (sym is)

-- among the structs that are seen in their measures
pub large_seen : (structs : List NbcStruct) (ms view : List StructMeasure) (of : NbcType) (r : Option ℕ) → view ≡ ms → structs_seen ms ≡ structs
    → r ≡ large_in (shape_by (shapes_seen view) of) → r ≡ large_in (shape_by (struct_shapes structs) of)
large_seen structs ms view of r same seen is =
    is ∙ ap (λ l. large_in (shape_by (shapes_seen l) of)) same ∙ ap (λ l. large_in (shape_by (struct_shapes l) of)) seen

-- the elements of members, and those of shapes
pub elements_listed : (ss : List Shape) → flat_map elements_in ss ≡ elements_among (members ss)
elements_listed [] = refl
elements_listed (s ∷ ss) = ap (λ l. elements_in s ++ l) (elements_listed ss)
