-- How much arrays and members hold.
use Rattle.std.proofs.Common.{◌≡◌, ℕ, zero, suc, ◌+◌, ◌<◌, Bool, true, false, ◌||◌, max, nat_lt, List, [], ◌∷◌, ◌++◌, map, take, length, get_or, refl, sym, ap, ap₂, ◌∙◌, arith}
use Rattle.std.proofs.lemmas.Bool.Decides.{nat_tests}
use Rattle.std.proofs.lemmas.List.{map_more}
use Rattle.nxt_types.specs.Shapes.{Shape, members, has_list, some_list}
use Rattle.nxt_types.specs.Names.{size, sizes}
use Rattle.nxt_model.specs.Nbc.Types.{depth_of, depth_among}
use Rattle.nxt_model.specs.TextProgram.{arrays_of}
use Rattle.nxt_nbc_names.specs.Extents.{extent, extent_of, extent_of_all}
use Rattle.nxt_nbc_names.specs.declared.extent.Extent.{Extent}

-- ---- arrays

pub size_arrays : (n : ℕ) (s : Shape) → size (arrays_of n s) ≡ size s + n
size_arrays zero s = omega arith
size_arrays (suc n) s = omega (arith, size_arrays n s)

pub depth_arrays : (n : ℕ) (s : Shape) → depth_of (arrays_of n s) ≡ depth_of s + n
depth_arrays zero s = omega arith
depth_arrays (suc n) s = omega (arith, depth_arrays n s)

pub list_arrays : (n : ℕ) (s : Shape) → has_list (arrays_of n s) ≡ (nat_lt 0 n || has_list s)
list_arrays zero s = refl
list_arrays (suc n) s = let some : nat_lt 0 (suc n) ≡ true = grind (arith, nat_tests) in rw some refl

pub extent_arrays : (n : ℕ) (s : Shape) → extent_of (arrays_of n s) ≡ extent (size s + n) (depth_of s + n) (nat_lt 0 n || has_list s)
extent_arrays n s =
    ap (λ m. extent m (depth_of (arrays_of n s)) (has_list (arrays_of n s))) (size_arrays n s)
    ∙ ap₂ (λ d b. extent (size s + n) d b) (depth_arrays n s) (list_arrays n s)

-- ---- members

pub sizes_push : (ss : List Shape) (s : Shape) → sizes (members (ss ++ s ∷ [])) ≡ sizes (members ss) + size s
sizes_push [] s = omega arith
sizes_push (t ∷ ss) s = omega (arith, sizes_push ss s)

pub depths_push : (ss : List Shape) (s : Shape) → depth_among (members (ss ++ s ∷ [])) ≡ max (depth_among (members ss)) (depth_of s)
depths_push [] s = omega arith
depths_push (t ∷ ss) s = omega (arith, depths_push ss s)

pub lists_push : (ss : List Shape) (s : Shape) → some_list (members (ss ++ s ∷ [])) ≡ (some_list (members ss) || has_list s)
lists_push [] s = by (has_list s)
  where
    by : (b : Bool) → (b || false) ≡ b
    by true = refl
    by false = refl
lists_push (t ∷ ss) s = by (has_list t) (lists_push ss s)
  where
    by : (b : Bool) → some_list (members (ss ++ s ∷ [])) ≡ (some_list (members ss) || has_list s)
        → (b || some_list (members (ss ++ s ∷ []))) ≡ ((b || some_list (members ss)) || has_list s)
    by true e = refl
    by false e = e

pub extent_push : (ss : List Shape) (s : Shape) → extent_of_all (members (ss ++ s ∷ [])) ≡ extent (sizes (members ss) + size s) (max (depth_among (members ss)) (depth_of s)) (some_list (members ss) || has_list s)
extent_push ss s =
    ap (λ m. extent m (depth_among (members (ss ++ s ∷ []))) (some_list (members (ss ++ s ∷ [])))) (sizes_push ss s)
    ∙ ap₂ (λ d b. extent (sizes (members ss) + size s) d b) (depths_push ss s) (lists_push ss s)

-- the extent of members with one more, in a loop over what has them
pub extent_more : {X : Type 0} (shape : X → Shape) (xs : List X) (i : ℕ) (d : X) (so_far one next : Extent) → i < length xs
    → so_far ≡ extent_of_all (members (map shape (take i xs))) → one ≡ extent_of (shape (get_or xs i d))
    → ((n m d e : ℕ) (a b : Bool) → so_far ≡ extent n d a → one ≡ extent m e b → next ≡ extent (n + m) (max d e) (a || b))
    → next ≡ extent_of_all (members (map shape (take (i + 1) xs)))
extent_more shape xs i d so_far one next under before here more =
    let ss = map shape (take i xs) in
    let s = shape (get_or xs i d) in
    more (sizes (members ss)) (size s) (depth_among (members ss)) (depth_of s) (some_list (members ss)) (has_list s) before here
    ∙ sym (extent_push ss s)
    ∙ ap (λ xs. extent_of_all (members xs)) (sym (map_more shape xs i d under))
