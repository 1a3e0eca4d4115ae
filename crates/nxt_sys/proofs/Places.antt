-- The members of a call's cluster by their entries.
use Rattle.std.proofs.Common.{◌≡◌, ℕ, zero, suc, ◌+◌, ◌-◌, ◌*◌, ◌≤◌, ◌<◌, true, List, [], ◌∷◌, Some, length, take, refl, sym, ap, ◌∙◌, arith}
use Rattle.std.specs.Prelude.{slice_index_or, slice_get}
use Rattle.std.specs.List.{sum_by}
use Rattle.std.proofs.lemmas.Bool.{and_parts}
use Rattle.std.proofs.lemmas.List.Sums.{sum_by-cons}
use Rattle.nxt_types.specs.Calls.{is_field, are_fields}
use Rattle.nxt_types.specs.Names.{size, name_among, name_in}
use Rattle.nxt_types.specs.Shapes.{Shape, Void, Number, Array, Cluster, Mutex, Members, no_members, member, shapes_of, is_number}
use Rattle.nxt_types.specs.declared.calls.Field.{Field}
use Rattle.nxt_types.specs.declared.calls.Field.TheVariants.{Number as a_number, Text as a_text, Place as a_place}
use Rattle.nxt_types.specs.declared.kind.Kind.TheVariants.{Ubyte}
use Rattle.nxt_sys.specs.Fields.{width}
use Rattle.nxt_operands.proofs.Laws.Members.{name_behind, name_in_first, some_entry}

-- ---- how many entries members take

width_few : (f : Field) → width f ≤ 3
width_few a_number = omega arith
width_few a_text = omega arith
width_few a_place = omega arith

pub widths_few : (fs : List Field) → sum_by width fs ≤ 3 * length fs
widths_few [] = omega arith
widths_few (f ∷ fs) = omega (arith, sum_by-cons width f fs, width_few f, widths_few fs)

number_size : (s : Shape) → is_number s ≡ true → size s ≡ 1
number_size (Number k) e = refl
number_size s e = let f : ⊥ = cc in absurd f

pair_size : (s t : Shape) → is_number s ≡ true → is_number t ≡ true → size (Cluster (member s (member t no_members))) ≡ 3
pair_size s t e f = omega (arith, number_size s e, number_size t f)

text_size : (s : Shape) → is_field a_text s ≡ true → size s ≡ 2
text_size (Array n (Number Ubyte)) e = refl
text_size s e = let f : ⊥ = cc in absurd f

place_size : (s : Shape) → is_field a_place s ≡ true → size s ≡ 3
place_size (Cluster (member x (member y no_members))) e =
    let both = and_parts (is_number x) (is_number y) e in pair_size x y both.0 both.1
place_size s e = let f : ⊥ = cc in absurd f

pub field_size : (f : Field) (s : Shape) → is_field f s ≡ true → size s ≡ width f
field_size a_number s e = number_size s e
field_size a_text s e = text_size s e
field_size a_place s e = place_size s e

-- ---- what their entries name

whole_name : (s : Shape) → name_in s 0 ≡ Some (record { path = []; shape = s })
whole_name Void = refl
whole_name (Number k) = refl
whole_name (Array n s) = refl
whole_name (Cluster ss) = refl
whole_name Mutex = refl

-- member k of a cluster, of which the first is member j
first_name : (s : Shape) (ss : Members) (j : ℕ) → name_among (member s ss) j 0 ≡ Some (record { path = j ∷ []; shape = s })
first_name s ss j = name_in_first s ss j 0 (record { path = []; shape = s }) (some_entry s) (whole_name s)

pub member_at : (fs : List Field) (ss : Members) (j k : ℕ) → are_fields fs ss ≡ true → k < length fs → name_among ss j (sum_by width (take k fs)) ≡ Some (record { path = (j + k) ∷ []; shape = slice_index_or (shapes_of ss) k Void })
member_at [] ss j k e less = let f : ⊥ = omega (arith, less) in absurd f
member_at (f ∷ fs) no_members j k e less = let g : ⊥ = cc in absurd g
member_at (f ∷ fs) (member s ss) j zero e less =
    let at : j ≡ j + 0 = omega arith in
    first_name s ss j ∙ ap (λ n. Some (record { path = n ∷ []; shape = s })) at
member_at (f ∷ fs) (member s ss) j (suc k) e less =
    let both = and_parts (is_field f s) (are_fields fs ss) e in
    let long : sum_by width (f ∷ take k fs) ≡ size s + sum_by width (take k fs) = omega (arith, sum_by-cons width f (take k fs), field_size f s both.0) in
    let rest : size s + sum_by width (take k fs) - size s ≡ sum_by width (take k fs) = omega arith in
    let at : j + 1 + k ≡ j + suc k = omega arith in
    ap (name_among (member s ss) j) long
    ∙ name_behind s ss j (size s + sum_by width (take k fs)) (omega arith)
    ∙ ap (name_among ss (j + 1)) rest
    ∙ member_at fs ss (j + 1) k both.1 (omega (arith, less))
    ∙ ap (λ n. Some (record { path = n ∷ []; shape = slice_index_or (shapes_of ss) k Void })) at

-- and each has its field's shape
pub field_at : (fs : List Field) (ss : Members) (k : ℕ) (f : Field) → are_fields fs ss ≡ true → slice_get fs k ≡ Some f → is_field f (slice_index_or (shapes_of ss) k Void) ≡ true
field_at [] ss k f e is = let g : ⊥ = cc in absurd g
field_at (h ∷ fs) no_members k f e is = let g : ⊥ = cc in absurd g
field_at (h ∷ fs) (member s ss) zero f e is =
    let same : h ≡ f = cc in ap (λ g. is_field g s) (sym same) ∙ (and_parts (is_field h s) (are_fields fs ss) e).0
field_at (h ∷ fs) (member s ss) (suc k) f e is = field_at fs ss k f (and_parts (is_field h s) (are_fields fs ss) e).1 is
