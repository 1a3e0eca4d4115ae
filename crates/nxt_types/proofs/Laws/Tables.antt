-- What a table's list of shapes has at an entry is what the entry names.
use Rattle.std.proofs.Common.{◌≡◌, ℕ, zero, suc, ◌+◌, ◌-◌, ◌<◌, ◌≤◌, List, [], ◌∷◌, ◌++◌, refl, sym, ap, ◌∙◌, length, arith, Bool, true, false, Option, Some, None, option_map, Bor}
use Rattle.std.specs.Option.{option_copied}
use Rattle.std.specs.Prelude.{replicate, slice_get, nat_lt, option_and_then, if◌then◌else◌}
use Rattle.std.proofs.lemmas.Option.{slice_get-map}
use Rattle.std.proofs.lemmas.List.{length-append, length-replicate}
use Rattle.std.proofs.lemmas.Bool.{ltb-true}
use Rattle.std.proofs.lemmas.Bool.Decides.{nat_tests}
use Rattle.nxt_types.specs.Shapes.{Shape, Void, Number, Array, Cluster, Mutex, Members, no_members, member, tree}
use Rattle.nxt_types.specs.Names.{Name, size, sizes, name_in, name_among, below}
use Rattle.nxt_types.specs.Tables.{outside_of, outside_among, trees_of, variables_behind}
use Rattle.nxt_types.specs.declared.shape.Shape as seen

abbrev flat : {X : Type 0} → Option (Option X) → Option X
flat o = option_and_then (λ x. x) o

abbrev shape_of : Option Name → Option Shape
shape_of o = option_map (λ n. n.shape) o

get_front : {X : Type 0} (xs ys : List X) (i : ℕ) → i < length xs → slice_get (xs ++ ys) i ≡ slice_get xs i
get_front [] ys i h = absurd (omega (arith, h))
get_front (x ∷ xs) ys zero h = refl
get_front (x ∷ xs) ys (suc i) h = get_front xs ys i (omega (arith, h))

get_back : {X : Type 0} (xs ys : List X) (i : ℕ) → length xs ≤ i → slice_get (xs ++ ys) i ≡ slice_get ys (i - length xs)
get_back [] ys i h = let e : i ≡ i - 0 = omega arith in ap (λ n. slice_get ys n) e
get_back (x ∷ xs) ys zero h = absurd (omega (arith, h))
get_back (x ∷ xs) ys (suc i) h =
    let e : i - length xs ≡ suc i - length (x ∷ xs) = omega arith in
    get_back xs ys i (omega (arith, h)) ∙ ap (λ n. slice_get ys n) e

none_at : (n i : ℕ) → flat (slice_get (replicate {A = Option Shape} n None) i) ≡ None
none_at zero i = refl
none_at (suc n) zero = refl
none_at (suc n) (suc i) = none_at n i

mutual
  length_outside : (s : Shape) → length (outside_of s) ≡ size s
  length_outside Void = refl
  length_outside (Number k) = refl
  length_outside (Array n s) =
      let e : length (replicate {A = Option Shape} (size s) None) ≡ size s = length-replicate (size s) None in omega (arith, e)
  length_outside (Cluster ss) = let e = length_among ss in omega (arith, e)
  length_outside Mutex = refl

  pub length_among : (ss : Members) → length (outside_among ss) ≡ sizes ss
  length_among no_members = refl
  length_among (member s ss) = length-append (outside_of s) (outside_among ss) ∙ ap (λ n. n + length (outside_among ss)) (length_outside s) ∙ ap (λ n. size s + n) (length_among ss)

below_shape : (k : ℕ) (o : Option Name) → shape_of o ≡ shape_of (option_map (below k) o)
below_shape k None = refl
below_shape k (Some n) = refl

among_at : (s : Shape) (ss : Members) (k i : ℕ) → flat (slice_get (outside_of s) i) ≡ shape_of (name_in s i) →
    flat (slice_get (outside_among ss) (i - size s)) ≡ shape_of (name_among ss (k + 1) (i - size s)) →
    (b : Bool) → nat_lt i (size s) ≡ b →
    flat (slice_get (outside_of s ++ outside_among ss) i) ≡ shape_of (if b then option_map (below k) (name_in s i) else name_among ss (k + 1) (i - size s))
among_at s ss k i here later true e =
    let h : i < length (outside_of s) = omega (arith, ltb-true i (size s) e, length_outside s) in
    ap flat (get_front (outside_of s) (outside_among ss) i h) ∙ here ∙ below_shape k (name_in s i)
among_at s ss k i here later false e =
    let h : length (outside_of s) ≤ i = grind (arith, nat_tests, length_outside s, e) in
    ap flat (get_back (outside_of s) (outside_among ss) i h) ∙ ap (λ n. flat (slice_get (outside_among ss) (i - n))) (length_outside s) ∙ later

mutual
  named_in : (s : Shape) (i : ℕ) → flat (slice_get (outside_of s) i) ≡ shape_of (name_in s i)
  named_in Void zero = refl
  named_in Void (suc i) = refl
  named_in (Number k) zero = refl
  named_in (Number k) (suc i) = refl
  named_in (Array n s) zero = refl
  named_in (Array n s) (suc i) = none_at (size s) i
  named_in (Cluster ss) zero = refl
  named_in (Cluster ss) (suc i) = named_among ss 0 i
  named_in Mutex zero = refl
  named_in Mutex (suc i) = refl

  pub named_among : (ss : Members) (k i : ℕ) → flat (slice_get (outside_among ss) i) ≡ shape_of (name_among ss k i)
  named_among no_members k i = refl
  named_among (member s ss) k i =
      among_at s ss k i (named_in s i) (named_among ss (k + 1) (i - size s)) (nat_lt i (size s)) refl

-- what the program's list has there
pub shape_there : (items : List (Option seen.Shape)) (ss : Members) (i : ℕ) (o : Option (Option seen.Shape)) → trees_of items ≡ outside_among ss → slice_get items i ≡ o →
    option_map tree (flat o) ≡ shape_of (name_among ss 0 i)
shape_there items ss i o e f =
    mapped o ∙ ap (λ x. flat (option_map (option_map tree) x)) (sym f) ∙ ap flat (sym (slice_get-map (option_map tree) items i)) ∙ ap (λ l. flat (slice_get l i)) e ∙ named_among ss 0 i
  where
    mapped : (o : Option (Option seen.Shape)) → option_map tree (flat o) ≡ flat (option_map (option_map tree) o)
    mapped None = refl
    mapped (Some None) = refl
    mapped (Some (Some s)) = refl

pub copied_tree : (r : Option (Bor seen.Shape)) → option_map (λ s. tree s.now) r ≡ option_map tree (option_copied r)
copied_tree None = refl
copied_tree (Some s) = refl

-- ---- variables

skipped : (xs ys : List (Option Shape)) → variables_behind (length xs) (xs ++ ys) ≡ variables_behind 0 ys
skipped [] ys = refl
skipped (x ∷ xs) ys = skipped xs ys

tail_of : Shape → List (Option Shape)
tail_of Void = []
tail_of (Number k) = []
tail_of (Array n s) = replicate (size s) None
tail_of (Cluster ss) = outside_among ss
tail_of Mutex = []

head_and_tail : (s : Shape) → outside_of s ≡ Some s ∷ tail_of s
unfolding tail_of
head_and_tail Void = refl
head_and_tail (Number k) = refl
head_and_tail (Array n s) = refl
head_and_tail (Cluster ss) = refl
head_and_tail Mutex = refl

-- the variables that the list of a table's shapes has are the table's
pub variables_back : (ss : Members) → variables_behind 0 (outside_among ss) ≡ ss
variables_back no_members = refl
variables_back (member s ss) =
    let e = ap (λ l. length l) (head_and_tail s) in
    let n : size s - 1 ≡ length (tail_of s) = omega (arith, e, length_outside s) in
    ap (λ l. variables_behind 0 (l ++ outside_among ss)) (head_and_tail s)
    ∙ ap (λ k. member s (variables_behind k (tail_of s ++ outside_among ss))) n
    ∙ ap (member s) (skipped (tail_of s) (outside_among ss)) ∙ ap (member s) (variables_back ss)
