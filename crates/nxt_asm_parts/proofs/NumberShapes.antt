-- The shapes of a program's variables and constants, by position.
use Rattle.std.proofs.Common.{◌≡◌, ℕ, zero, suc, ◌<◌, ◌≤◌, List, [], ◌∷◌, ◌++◌, map, length, replicate, slice_index_or, refl, sym, ap, ap₂, ◌∙◌, append_assoc, arith}
use Rattle.nxt_types.specs.Shapes.{Shape, Void, Number}
use Rattle.nxt_types.specs.declared.kind.Kind.TheVariants.{Ubyte, Slong}
use Rattle.nxt_model.specs.Assembled.{all_shapes, entries_before}
use Rattle.nxt_model.specs.TextProgram.{Variable, constants, declared, returns, shape_by, struct_shapes, subroutines, text_of, text_shape, texts}
use Rattle.nxt_model.specs.declared.nbc.NbcProgram.{NbcProgram}
use Rattle.nxt_model.specs.declared.nbc.NbcVar.{NbcVar}

abbrev variable : List Shape → NbcVar → Variable
variable ss v = record { shape = shape_by ss v.shape; start = v.start }

abbrev shapes_declared : List Shape → List NbcVar → List Shape
shapes_declared ss vs = map (λ v. v.shape) (map (variable ss) vs)

-- ---- declared variables

pub shapes_twice : (ss : List Shape) (vs : List NbcVar) → map (λ v. shape_by ss v.shape) vs ≡ map (λ v. v.shape) (map (variable ss) vs)
shapes_twice ss [] = refl
shapes_twice ss (v ∷ vs) = ap (λ l. shape_by ss v.shape ∷ l) (shapes_twice ss vs)

pub all_declared : (p : NbcProgram) (ss : List Shape) (vs : List NbcVar) → ss ≡ struct_shapes p.structs → vs ≡ p.vars → map (λ v. shape_by ss v.shape) vs ≡ declared (text_of p)
all_declared p ss vs is are =
    ap₂ (λ l m. map (λ (v : NbcVar). shape_by l v.shape) m) is are ∙ shapes_twice (struct_shapes p.structs) p.vars

declared_in : (ss : List Shape) (vs : List NbcVar) (more : List Shape) (i : ℕ) (v : NbcVar) → i < length vs → v ≡ slice_index_or vs i v
    → slice_index_or (shapes_declared ss vs ++ more) i Void ≡ shape_by ss v.shape
declared_in ss [] more i v lt is = absurd (omega (arith, lt))
declared_in ss (x ∷ xs) more zero v lt is = ap (λ y. shape_by ss y.shape) (sym is)
declared_in ss (x ∷ xs) more (suc i) v lt is = declared_in ss xs more i v (omega (arith, lt)) is

abbrev number_shapes : NbcProgram → List Shape
number_shapes p = map (λ z. Number Slong) (constants (text_of p))

abbrev text_shapes : NbcProgram → List Shape
text_shapes p = map (λ t. text_shape) (texts (text_of p))

all_behind : (p : NbcProgram) → all_shapes (text_of p) ≡ declared (text_of p) ++ ((returns (text_of p) ++ number_shapes p) ++ text_shapes p)
all_behind p =
    ap (λ l. l ++ text_shapes p) (append_assoc (declared (text_of p)) (returns (text_of p)) (number_shapes p))
    ∙ append_assoc (declared (text_of p)) (returns (text_of p) ++ number_shapes p) (text_shapes p)

pub declared_at : (p : NbcProgram) (i : ℕ) (v : NbcVar) → i < length p.vars → v ≡ slice_index_or p.vars i v
    → slice_index_or (all_shapes (text_of p)) i Void ≡ shape_by (struct_shapes p.structs) v.shape
declared_at p i v lt is =
    ap (λ l. slice_index_or l i Void) (all_behind p) ∙ declared_in (struct_shapes p.structs) p.vars ((returns (text_of p) ++ number_shapes p) ++ text_shapes p) i v lt is

-- ---- shapes that have no members

abbrev Plain : Shape → Type 0
Plain s = (ks : List ℕ) → entries_before ks s ≡ entries_before ks Void

abbrev Plains : List Shape → Type 0
Plains ss = (i : ℕ) → Plain (slice_index_or ss i Void)

plain_append : (xs ys : List Shape) → Plains xs → Plains ys → Plains (xs ++ ys)
plain_append [] ys first second i = second i
plain_append (x ∷ xs) ys first second zero = first 0
plain_append (x ∷ xs) ys first second (suc i) = plain_append xs ys (λ j. first (suc j)) second i

plain_map : {X : Type 0} (s : Shape) (xs : List X) → Plain s → Plains (map (λ x. s) xs)
plain_map s [] one zero ks = refl
plain_map s [] one (suc i) ks = refl
plain_map s (x ∷ xs) one zero ks = one ks
plain_map s (x ∷ xs) one (suc i) ks = plain_map s xs one i ks

plain_ubyte : Plain (Number Ubyte)
plain_ubyte [] = refl
plain_ubyte (k ∷ ks) = refl

plain_slong : Plain (Number Slong)
plain_slong [] = refl
plain_slong (k ∷ ks) = refl

plain_text : Plain text_shape
plain_text [] = refl
plain_text (k ∷ ks) = refl

past_declared : (ss : List Shape) (vs : List NbcVar) (more : List Shape) → Plains more → (i : ℕ) → length vs ≤ i → Plain (slice_index_or (shapes_declared ss vs ++ more) i Void)
past_declared ss [] more plain i le = plain i
past_declared ss (v ∷ vs) more plain zero le = absurd (omega (arith, le))
past_declared ss (v ∷ vs) more plain (suc i) le = past_declared ss vs more plain i (omega (arith, le))

pub behind_at : (p : NbcProgram) (i : ℕ) (ks : List ℕ) → length p.vars ≤ i → entries_before ks (slice_index_or (all_shapes (text_of p)) i Void) ≡ entries_before ks Void
behind_at p i ks le =
    let back = returns (text_of p) in
    let front : Plains (back ++ number_shapes p) =
    plain_append back (number_shapes p) (plain_map (Number Ubyte) (subroutines p.blocks) plain_ubyte) (plain_map (Number Slong) (constants (text_of p)) plain_slong) in
    let all : Plains ((back ++ number_shapes p) ++ text_shapes p) =
    plain_append (back ++ number_shapes p) (text_shapes p) front (plain_map text_shape (texts (text_of p)) plain_text) in
    ap (λ l. entries_before ks (slice_index_or l i Void)) (all_behind p)
    ∙ past_declared (struct_shapes p.structs) p.vars ((back ++ number_shapes p) ++ text_shapes p) all i le ks

-- ---- shapes that are all the same

same_all : {X : Type 0} (s : Shape) (xs : List X) → replicate (length xs) s ≡ map (λ x. s) xs
same_all s [] = refl
same_all s (x ∷ xs) = ap (λ l. s ∷ l) (same_all s xs)

pub all_same : {X : Type 0} (s : Shape) (xs : List X) (n : ℕ) → n ≡ length xs → replicate n s ≡ map (λ x. s) xs
all_same s xs n is = ap (λ m. replicate m s) is ∙ same_all s xs
