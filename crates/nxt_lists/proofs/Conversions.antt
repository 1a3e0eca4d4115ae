-- Which values convert to which shapes.
use Rattle.std.proofs.Common.{◌≡◌, ℕ, true, refl}
use Rattle.std.proofs.lemmas.Bool.{and_parts, and_from}
use Rattle.nxt_types.specs.OperandRules.{is_list, element_of}
use Rattle.nxt_types.specs.Shapes.{Shape, Number, Array, Cluster, Members, no_members, member, convertible, convertible_members}
use Rattle.nxt_space.specs.Variables.{HasStrides}

-- what converts to a shape that converts to another one converts to that one
mutual
  pub fits_then : (s t u : Shape) → convertible s t ≡ true → convertible t u ≡ true → convertible s u ≡ true
  fits_then (Number k) (Number l) (Number m) a b = refl
  fits_then (Array n s) (Array m t) (Array k u) a b = fits_then s t u a b
  fits_then (Cluster ss) (Cluster ts) (Cluster us) a b = all_fit_then ss ts us a b
  fits_then s t u a b = let f : ⊥ = cc in absurd f

  all_fit_then : (ss ts us : Members) → convertible_members ss ts ≡ true → convertible_members ts us ≡ true → convertible_members ss us ≡ true
  all_fit_then no_members no_members no_members a b = refl
  all_fit_then (member s ss) (member t ts) (member u us) a b =
      let first = and_parts (convertible s t) (convertible_members ss ts) a in
      let second = and_parts (convertible t u) (convertible_members ts us) b in
      and_from (convertible s u) (convertible_members ss us) (fits_then s t u first.0 second.0) (all_fit_then ss ts us first.1 second.1)
  all_fit_then ss ts us a b = let f : ⊥ = cc in absurd f

-- a list for which a list is
pub record AreLists (l u : Shape) : Type 0 where
  pub list : is_list l ≡ true
  pub element : convertible (element_of l) (element_of u) ≡ true

pub lists_fit : (u l : Shape) → is_list u ≡ true → convertible l u ≡ true → AreLists l u
lists_fit (Array m t) (Array n s) is fits = record { list = refl; element = fits }
lists_fit u l is fits = let f : ⊥ = cc in absurd f

pub element_strides : (l : Shape) → is_list l ≡ true → HasStrides l → HasStrides (element_of l)
element_strides (Array n s) is e = e.2
element_strides l is e = let f : ⊥ = cc in absurd f

-- a list alone converts to a list
pub list_from : (n : ℕ) (s u : Shape) → convertible (Array n s) u ≡ true → is_list u ≡ true
list_from n s (Array m t) fits = refl
list_from n s u fits = let f : ⊥ = cc in absurd f
