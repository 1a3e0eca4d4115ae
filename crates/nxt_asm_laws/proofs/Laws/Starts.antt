-- Starts that have the forms of their types.
use Rattle.std.proofs.Common.{◌≡◌, ℕ, zero, suc, Bool, true, false, ◌||◌, List, [], ◌∷◌, ◌++◌, codes, bytes_eq, position, Some, refl, sym, ap, subst, ◌∙◌}
use Rattle.std.specs.Prelude.{ℤ, ⊤, slice_index_or, unwrap_or}
use Rattle.std.proofs.lemmas.Bool.{and_parts, false≢true}
use Rattle.std.proofs.lemmas.Slice.Eq.{bytes_eq-Decides}
use Rattle.nxt_types.specs.Shapes.{Shape, Void, Number, Array, Cluster, Mutex, leaf_bytes}
use Rattle.nxt_types.specs.declared.kind.Kind.{Kind}
use Rattle.nxt_types.specs.declared.kind.Kind.TheVariants.{Ubyte}
use Rattle.nxt_model.specs.declared.nbc.NbcBase.{NbcBase}
use Rattle.nxt_model.specs.declared.nbc.NbcBase.TheVariants as bases
use Rattle.nxt_model.specs.declared.nbc.NbcStruct.{NbcStruct}
use Rattle.nxt_model.specs.declared.nbc.NbcType.{NbcType}
use Rattle.nxt_model.specs.Nbc.Forms as forms
use Rattle.nxt_model.specs.Nbc.Forms.{Given, TypeName, is_byte_name}
use Rattle.nxt_model.specs.Nbc.NbcRules.{fit_elements, fits_shape, start_fits}
use Rattle.nxt_model.specs.Nbc.Text.{start_of}
use Rattle.nxt_model.specs.Nbc.Types.{Struct, is_before, one_of, plain_type, shape_at, type_shapes}
use Rattle.nxt_model.specs.TextProgram.{arrays_of, base_shape, shape_by, shapes_from, struct_shape, struct_shapes}
use Rattle.nxt_asm_parts.specs.Defaults.{IsNumbers, StartFits}
use Rattle.nxt_asm_laws.proofs.Laws.Lists.{Each, each_push}
use Rattle.nxt_asm_laws.proofs.Laws.Forms.{StartsAt}

-- ---- shapes of structs

-- a group, or nothing
abbrev IsGroup : Shape → Type 0
IsGroup Void = ⊤
IsGroup (Cluster ss) = ⊤
IsGroup s = ⊥

-- structs have no other shapes
groups_from : (ss : List Shape) (structs : List NbcStruct) → Each IsGroup ss → Each IsGroup (shapes_from ss structs)
groups_from ss [] h = h
groups_from ss (s ∷ more) h = groups_from (ss ++ struct_shape ss s ∷ []) more (each_push IsGroup ss (struct_shape ss s) h tt)

group_at : (ss : List Shape) (i : ℕ) → Each IsGroup ss → IsGroup (slice_index_or ss i Void)
group_at [] i h = tt
group_at (s ∷ ss) zero h = h.0
group_at (s ∷ ss) (suc i) h = group_at ss i h.1

-- ---- types of shapes

-- the type of numbers, so often made an array
abbrev IsOf : ℕ → Kind → ℕ → NbcBase → Type 0
IsOf m k n b = (n ≡ m) × (b ≡ bases.Number k)

module _ (ss : List Shape) (groups : Each IsGroup ss) where
  -- the type of a number
  number_base : (b : NbcBase) (k : Kind) → base_shape ss b ≡ Number k → b ≡ bases.Number k
  number_base (bases.Number l) k e = cc
  number_base bases.Mutex k e = cc
  number_base (bases.Struct i) k e = absurd (subst IsGroup e (group_at ss i groups))

  -- and of a list of numbers
  no_array : (b : NbcBase) (a : ℕ) (s : Shape) → base_shape ss b ≡ Array a s → ⊥
  no_array (bases.Number l) a s e = cc
  no_array bases.Mutex a s e = cc
  no_array (bases.Struct i) a s e = subst IsGroup e (group_at ss i groups)

  number_type : (n : ℕ) (b : NbcBase) (k : Kind) → arrays_of n (base_shape ss b) ≡ Number k → IsOf 0 k n b
  number_type zero b k e = (refl, number_base b k e)
  number_type (suc n) b k e = cc

  element : (m a : ℕ) (s t : Shape) → Array m s ≡ Array a t → s ≡ t
  element m a s t e = cc

  list_type : (n : ℕ) (b : NbcBase) (a : ℕ) (k : Kind) → arrays_of n (base_shape ss b) ≡ Array a (Number k) → IsOf 1 k n b
  list_type zero b a k e = absurd (no_array b a (Number k) e)
  list_type (suc zero) b a k e = (refl, number_base b k (element (leaf_bytes (base_shape ss b)) a (base_shape ss b) (Number k) e))
  list_type (suc (suc n)) b a k e =
      let inner = arrays_of (suc n) (base_shape ss b) in
      let no : inner ≡ Number k = element (leaf_bytes inner) a inner (Number k) e in
      cc

-- ---- starts

-- the shape of a variable with a start
abbrev pub Holds : Shape → Given → Type 0
Holds s forms.Nothing = ⊤
Holds s (forms.One z) = (k : Kind) × (s ≡ Number k)
Holds s (forms.Many zs) = (a : ℕ) × (k : Kind) × (s ≡ Array a (Number k))
Holds s (forms.Bytes bytes) = (a : ℕ) × (s ≡ Array a (Number Ubyte))

numbers : (b : NbcBase) (k : Kind) → b ≡ bases.Number k → IsNumbers b
numbers b k e = subst IsNumbers (sym e) tt

-- a start has the form of its type, where the shape is one that holds it
pub start_has : (structs : List NbcStruct) (t : NbcType) (s : Shape) (g : Given) → shape_by (struct_shapes structs) t ≡ s → Holds s g → StartFits t (start_of g)
start_has structs t s g e h = by g h
  where
    by : (x : Given) → Holds s x → StartFits t (start_of x)
    by forms.Nothing h = tt
    by (forms.One z) h =
        let of = number_type (struct_shapes structs) (groups_from [] structs tt) t.arrays t.base h.0 (e ∙ h.1) in
        (of.0, numbers t.base h.0 of.1)
    by (forms.Many zs) h =
        let of = list_type (struct_shapes structs) (groups_from [] structs tt) t.arrays t.base h.0 h.1 (e ∙ h.2) in
        (of.0, numbers t.base h.1 of.1)
    by (forms.Bytes bytes) h = list_type (struct_shapes structs) (groups_from [] structs tt) t.arrays t.base h.0 Ubyte (e ∙ h.1)

-- ---- what a text gives

-- a number fits in a number, and a list in a list of numbers
one_fits : (s : Shape) (z : ℤ) → fits_shape s z ≡ true → (k : Kind) × (s ≡ Number k)
one_fits (Number k) z e = (k, refl)
one_fits Void z e = absurd (false≢true e)
one_fits (Array a s) z e = absurd (false≢true e)
one_fits (Cluster ss) z e = absurd (false≢true e)
one_fits Mutex z e = absurd (false≢true e)

many_fit : (s : Shape) (z : ℤ) (zs : List ℤ) → fit_elements s (z ∷ zs) ≡ true → (a : ℕ) × (k : Kind) × (s ≡ Array a (Number k))
many_fit (Array a s) z zs e = let one = one_fits s z (and_parts (fits_shape s z) _ e).0 in (a, one.0, ap (Array a) one.1)
many_fit (Number k) z zs e = absurd (false≢true e)
many_fit Void z zs e = absurd (false≢true e)
many_fit (Cluster ss) z zs e = absurd (false≢true e)
many_fit Mutex z zs e = absurd (false≢true e)

-- the names of bytes
byte_type : (n : List ℕ) → is_byte_name n ≡ true → plain_type n ≡ Some (bases.Number Ubyte)
byte_type n e =
    by (bytes_eq n (codes "byte")) (bytes_eq n (codes "ubyte")) (bytes_eq n (codes "db")) refl refl refl e
  where
    by : (a b c : Bool) → bytes_eq n (codes "byte") ≡ a → bytes_eq n (codes "ubyte") ≡ b → bytes_eq n (codes "db") ≡ c → (a || b || c) ≡ true
        → plain_type n ≡ Some (bases.Number Ubyte)
    by true b c one two three e = ap plain_type ((bytes_eq-Decides n (codes "byte")).0 one)
    by false true c one two three e = ap plain_type ((bytes_eq-Decides n (codes "ubyte")).0 two)
    by false false true one two three e = ap plain_type ((bytes_eq-Decides n (codes "db")).0 three)
    by false false false one two three e = absurd (false≢true e)

-- a list of bytes by any of them
bytes_shape : (types : List Struct) (line : ℕ) (t : TypeName) → t.arrays ≡ 1 → is_byte_name t.name ≡ true → shape_at types line t ≡ Array 1 (Number Ubyte)
bytes_shape types line t single e =
    let at = position (is_before line t.name) types in
    ap (λ n. arrays_of n (base_shape (type_shapes types) (unwrap_or (one_of (plain_type t.name) at) (bases.Number Ubyte)))) single
    ∙ ap (λ p. arrays_of 1 (base_shape (type_shapes types) (unwrap_or (one_of p at) (bases.Number Ubyte)))) (byte_type t.name e)

-- a start that is in range stands at a shape that holds it, and a text at bytes
pub given_holds : (types : List Struct) (line : ℕ) (t : TypeName) (g : Given) → StartsAt t.arrays g → start_fits (shape_at types line t) g ≡ true
    → ((bytes : List ℕ) → g ≡ forms.Bytes bytes → is_byte_name t.name ≡ true) → Holds (shape_at types line t) g
given_holds types line t forms.Nothing at fits texts = tt
given_holds types line t (forms.One z) at fits texts = one_fits (shape_at types line t) z fits
given_holds types line t (forms.Many []) at fits texts = absurd at
given_holds types line t (forms.Many (z ∷ zs)) at fits texts = many_fit (shape_at types line t) z zs fits
given_holds types line t (forms.Bytes bytes) at fits texts = (1, bytes_shape types line t at (texts bytes refl))
