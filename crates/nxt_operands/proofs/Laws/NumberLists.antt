-- Lists of numbers: which values they are, and their flat forms.
use Rattle.std.proofs.Common.{◌≡◌, ℕ, ◌-◌, true, false, ◌&&◌, List, [], ◌∷◌, map, length, take, drop, Option, Some, None, IsSome, refl, sym, ap, ap₂, ◌∙◌, subst, arith, inl, inr}
use Rattle.std.specs.List.{list_all}
use Rattle.std.specs.Prelude.{ℤ, pos}
use Rattle.std.proofs.lemmas.Bool.{and_parts, or_cases, both_ways}
use Rattle.std.proofs.lemmas.List.{length-map}
use Rattle.std.proofs.Math.Seq.{take-length}
use Rattle.nxt_types.specs.declared.kind.Kind.{Kind}
use Rattle.nxt_types.specs.Names.{Name, name_among}
use Rattle.nxt_types.specs.OperandRules.{is_plain, are_alike}
use Rattle.nxt_types.specs.Shapes.{Shape, Void, Number, Array, Cluster, Mutex, Members, is_number, is_numbers}
use Rattle.nxt_model.specs.Values.{Value, Num, ListOf, GroupOf, items, values, list_of, number, is_of, flat, flats}
use Rattle.nxt_model.proofs.Laws.Values.{items-values, values-items}
use Rattle.nxt_space.specs.Variables.{Variables, AreSound, name_of, shape_of, value_of, shape_by, value_by}
use Rattle.nxt_space.proofs.Laws.PartSizes.{part_of_shape}
use Rattle.nxt_operands.specs.Numbers.{numbers_in, AreNumbers}

-- ---- which values they are

numbers_again : (k : Kind) (vs : List Value) → list_all (is_of (Number k)) vs ≡ true → map Num (map number vs) ≡ vs
numbers_again k [] e = refl
numbers_again k (Num z ∷ vs) e =
    ap (λ ws. Num z ∷ ws) (numbers_again k vs (and_parts (is_of (Number k) (Num z)) (list_all (is_of (Number k)) vs) e).1)
numbers_again k (ListOf ws ∷ vs) e = let f : ⊥ = cc in absurd f
numbers_again k (GroupOf ws ∷ vs) e = let f : ⊥ = cc in absurd f

-- a value of a list of numbers is the list of its numbers
numbers_listed : (n : ℕ) (k : Kind) (v : Value) → is_of (Array n (Number k)) v ≡ true → AreNumbers v
numbers_listed n k (Num z) e = let f : ⊥ = cc in absurd f
numbers_listed n k (ListOf vs) e =
    ap ListOf (sym (values-items vs)) ∙ ap list_of (sym (numbers_again k (items vs) e))
numbers_listed n k (GroupOf vs) e = let f : ⊥ = cc in absurd f

-- the shape of a list of numbers
pub numbers_shape : (s : Shape) → is_numbers s ≡ true → (n : ℕ) × (k : Kind) × (s ≡ Array n (Number k))
numbers_shape Void e = let f : ⊥ = cc in absurd f
numbers_shape (Number k) e = let f : ⊥ = cc in absurd f
numbers_shape (Array n Void) e = let f : ⊥ = cc in absurd f
numbers_shape (Array n (Number k)) e = (n, k, refl)
numbers_shape (Array n (Array m s)) e = let f : ⊥ = cc in absurd f
numbers_shape (Array n (Cluster ss)) e = let f : ⊥ = cc in absurd f
numbers_shape (Array n Mutex) e = let f : ⊥ = cc in absurd f
numbers_shape (Cluster ss) e = let f : ⊥ = cc in absurd f
numbers_shape Mutex e = let f : ⊥ = cc in absurd f

pub are_numbers : (s : Shape) (v : Value) → is_numbers s ≡ true → is_of s v ≡ true → AreNumbers v
are_numbers s v e of =
    let is = numbers_shape s e in
    numbers_listed is.0 is.1 v (subst (λ t. is_of t v ≡ true) is.2 of)

-- what is plain and no number is a list of numbers
pub plain_numbers : (s : Shape) → is_plain s ≡ true → is_number s ≡ false → is_numbers s ≡ true
plain_numbers s e f =
    elim (or_cases (is_number s) (is_numbers s) e) [
      | inl left ↦ absurd (both_ways (is_number s) f left)
      | inr right ↦ right
    ]

pub alike_numbers : (s t : Shape) → are_alike s t ≡ true → is_number s ≡ false → (is_numbers s ≡ true) × (is_numbers t ≡ true)
alike_numbers s t e f =
    elim (or_cases (is_number s && is_number t) (is_numbers s && is_numbers t) e) [
      | inl left ↦ absurd (both_ways (is_number s) f (and_parts (is_number s) (is_number t) left).0)
      | inr right ↦ and_parts (is_numbers s) (is_numbers t) right
    ]

-- ---- in variables

numbers_by_name : (ss : Members) (i : ℕ) (vars : Value) (o : Option Name) → name_among ss 0 i ≡ o → is_of (Cluster ss) vars ≡ true → IsSome o → is_numbers (shape_by o) ≡ true → AreNumbers (value_by o vars)
numbers_by_name ss i vars None named is some e = let f : ⊥ = cc in absurd f
numbers_by_name ss i vars (Some n) named is some e = are_numbers n.shape _ e (part_of_shape ss i n vars named is)

-- the value of a variable that is a list of numbers
pub variable_numbers : (s : Variables) (i : ℕ) → AreSound s → IsSome (name_of s i) → is_numbers (shape_of s i) ≡ true → AreNumbers (value_of s i)
variable_numbers s i sound some e = numbers_by_name s.shapes i s.values (name_of s i) refl sound.shapes some e

-- ---- flat forms

flats_numbers : (zs : List ℤ) → flats (values (map Num zs)) ≡ zs
flats_numbers [] = refl
flats_numbers (z ∷ zs) = ap (λ ys. z ∷ ys) (flats_numbers zs)

-- the number of numbers, and the numbers
pub flat_numbers : (v : Value) → AreNumbers v → flat v ≡ pos (length (numbers_in v)) ∷ numbers_in v
flat_numbers v e =
    ap flat e
    ∙ ap₂
    (λ n zs. pos n ∷ zs)
    (ap length (items-values (map Num (numbers_in v))) ∙ length-map (numbers_in v) Num)
    (flats_numbers (numbers_in v))

-- the rest of the numbers behind a first one
pub behind_first : (z : ℤ) (zs whole rest : List ℤ) → whole ≡ z ∷ zs → rest ≡ take (length whole - 1) (drop 1 whole) → rest ≡ zs
behind_first z zs whole rest is e =
    let n : length (z ∷ zs) - 1 ≡ length zs = omega arith in
    e ∙ ap (λ w. take (length w - 1) (drop 1 w)) is ∙ ap (λ m. take m zs) n ∙ take-length zs
