-- What a text spells is the program of types: each shape that a text's variables may have is that of a type over structs.
use Rattle.std.proofs.Common.{◌≡◌, ℕ, suc, ◌+◌, ◌<◌, List, [], ◌∷◌, ◌++◌, map, length, refl, sym, ap, ap₂, ◌∙◌, append_assoc, append-nil, length-append, arith}
use Rattle.std.specs.Prelude.{slice_index_or}
use Rattle.std.proofs.lemmas.List.{get_or-append-add, get_or_append_left}
use Rattle.nxt_types.specs.Shapes.{Shape, Void, Number, Array, Cluster, Mutex, Members, no_members, member, members, cluster_of, leaf_bytes, shapes_of}
use Rattle.nxt_model.specs.declared.nbc.NbcBase.{NbcBase}
use Rattle.nxt_model.specs.declared.nbc.NbcBase.TheVariants as bases
use Rattle.nxt_model.specs.declared.nbc.NbcProgram.{NbcProgram}
use Rattle.nxt_model.specs.declared.nbc.NbcStruct.{NbcStruct}
use Rattle.nxt_model.specs.declared.nbc.NbcType.{NbcType}
use Rattle.nxt_model.specs.declared.nbc.NbcVar.{NbcVar}
use Rattle.nxt_model.specs.TextProgram as program
use Rattle.nxt_model.specs.TextProgram.{Text, declared, shape_by, shapes_from, struct_shape, struct_shapes, text_of}
use Rattle.nxt_asm_laws_layout.proofs.Laws.Parts.{AreParts, AreVariables, IsPart, IsVariable}

-- ---- structs behind one another

shapes_from-append : (ss : List Shape) (xs ys : List NbcStruct) → shapes_from ss (xs ++ ys) ≡ shapes_from (shapes_from ss xs) ys
shapes_from-append ss [] ys = refl
shapes_from-append ss (x ∷ xs) ys = shapes_from-append (ss ++ struct_shape ss x ∷ []) xs ys

length-shapes_from : (ss : List Shape) (xs : List NbcStruct) → length (shapes_from ss xs) ≡ length ss + length xs
length-shapes_from ss [] = let same : length ss ≡ length ss + 0 = omega arith in same
length-shapes_from ss (x ∷ xs) =
    let rest = length-shapes_from (ss ++ struct_shape ss x ∷ []) xs in
    let one = length-append ss (struct_shape ss x ∷ []) in
    omega (arith, rest, one)

-- the structs that stand in front keep their shapes
front_kept : (ss : List Shape) (xs : List NbcStruct) (i : ℕ) → i < length ss → slice_index_or (shapes_from ss xs) i Void ≡ slice_index_or ss i Void
front_kept ss [] i lt = refl
front_kept ss (x ∷ xs) i lt =
    let one = length-append ss (struct_shape ss x ∷ []) in
    front_kept (ss ++ struct_shape ss x ∷ []) xs i (omega (arith, lt, one)) ∙ get_or_append_left ss (struct_shape ss x ∷ []) Void i lt

-- a struct behind others
struct_there : (xs : List NbcStruct) (x : NbcStruct) (ys : List NbcStruct) → slice_index_or (struct_shapes (xs ++ (x ∷ ys))) (length xs) Void ≡ struct_shape (struct_shapes xs) x
struct_there xs x ys =
    let ss : List Shape = struct_shapes xs in
    let all = length-shapes_from [] xs in
    let long : length ss ≡ length xs = omega (arith, all) in
    let one = length-append ss (struct_shape ss x ∷ []) in
    let same : length ss + 0 ≡ length xs = omega (arith, long) in
    ap (λ l. slice_index_or l (length xs) Void) (shapes_from-append [] xs (x ∷ ys))
    ∙ front_kept (ss ++ struct_shape ss x ∷ []) ys (length xs) (omega (arith, long, one))
    ∙ ap (λ k. slice_index_or (ss ++ struct_shape ss x ∷ []) k Void) (sym same)
    ∙ get_or-append-add ss (struct_shape ss x ∷ []) 0 Void

-- ---- shapes

abbrev plain_type : NbcBase → NbcType
plain_type b = record { base = b; arrays = 0 }

-- a type of the shape, over structs behind these
abbrev IsTyped : List NbcStruct → Shape → Type 0
IsTyped structs s = (new : List NbcStruct) × (t : NbcType) × ((others : List NbcStruct) → shape_by (struct_shapes (structs ++ (new ++ others))) t ≡ s)

abbrev AreTyped : List NbcStruct → List Shape → Type 0
AreTyped structs ss = (new : List NbcStruct) × (ts : List NbcType) × ((others : List NbcStruct) → map (shape_by (struct_shapes (structs ++ (new ++ others)))) ts ≡ ss)

array_typed : (structs : List NbcStruct) (n : ℕ) (s : Shape) → n ≡ leaf_bytes s → IsTyped structs s → IsTyped structs (Array n s)
array_typed structs n s e h =
    (h.0, record h.1 { arrays = suc h.1.arrays }, λ others. ap (λ x. Array (leaf_bytes x) x) (h.2 others) ∙ ap (λ m. Array m s) (sym e))

cluster_typed : (structs : List NbcStruct) (ss : Members) → AreTyped structs (shapes_of ss) → cluster_of (shapes_of ss) ≡ Cluster ss → IsTyped structs (Cluster ss)
cluster_typed structs ss h same =
    let front : List NbcStruct = structs ++ h.0 in
    let own : NbcStruct = record { members = h.1 } in (
      h.0 ++ (own ∷ []),
      plain_type (bases.Struct (length front)),
      λ others.
          let whole : structs ++ ((h.0 ++ (own ∷ [])) ++ others) ≡ front ++ (own ∷ others) =
          ap (λ l. structs ++ l) (append_assoc h.0 (own ∷ []) others) ∙ sym (append_assoc structs h.0 (own ∷ others)) in
          let none : struct_shapes front ≡ struct_shapes (structs ++ (h.0 ++ [])) = ap (λ l. struct_shapes (structs ++ l)) (sym (append-nil h.0)) in
          ap (λ l. slice_index_or (struct_shapes l) (length front) Void) whole
          ∙ struct_there front own others
          ∙ ap (λ l. cluster_of (map (shape_by l) h.1)) none
          ∙ ap cluster_of (h.2 [])
          ∙ same,
    )

-- two lists of structs behind one another
joined_typed : (structs : List NbcStruct) (s : Shape) (ss : List Shape) (one : IsTyped structs s) → AreTyped (structs ++ one.0) ss → AreTyped structs (s ∷ ss)
joined_typed structs s ss one more = (
  one.0 ++ more.0,
  one.1 ∷ more.1,
  λ others.
      let whole : structs ++ ((one.0 ++ more.0) ++ others) ≡ structs ++ (one.0 ++ (more.0 ++ others)) = ap (λ l. structs ++ l) (append_assoc one.0 more.0 others) in
      let front : structs ++ (one.0 ++ (more.0 ++ others)) ≡ (structs ++ one.0) ++ (more.0 ++ others) = sym (append_assoc structs one.0 (more.0 ++ others)) in
      ap₂ (λ (x : Shape) (xs : List Shape). x ∷ xs) (ap (λ l. shape_by (struct_shapes l) one.1) whole ∙ one.2 (more.0 ++ others))
      (ap (λ l. map (shape_by (struct_shapes l)) more.1) (whole ∙ front) ∙ more.2 others),
)

members-shapes_of : (ss : Members) → members (shapes_of ss) ≡ ss
members-shapes_of no_members = refl
members-shapes_of (member s ss) = ap (member s) (members-shapes_of ss)

mutual
  part_typed : (s : Shape) → IsPart s → (structs : List NbcStruct) → IsTyped structs s
  part_typed Void h structs = absurd h
  part_typed (Number k) h structs = ([], plain_type (bases.Number k), λ others. refl)
  part_typed (Array n s) h structs = array_typed structs n s h.0 (part_typed s h.1 structs)
  part_typed (Cluster ss) h structs = cluster_typed structs ss (parts_typed ss h.1 structs) (ap Cluster (members-shapes_of ss))
  part_typed Mutex h structs = absurd h

  parts_typed : (ss : Members) → AreParts ss → (structs : List NbcStruct) → AreTyped structs (shapes_of ss)
  parts_typed no_members h structs = ([], [], λ others. refl)
  parts_typed (member s ss) h structs =
      let one = part_typed s h.0 structs in joined_typed structs s (shapes_of ss) one (parts_typed ss h.1 (structs ++ one.0))

variable_typed : (s : Shape) → IsVariable s → (structs : List NbcStruct) → IsTyped structs s
variable_typed Mutex h structs = ([], plain_type bases.Mutex, λ others. refl)
variable_typed Void h structs = absurd h.0
variable_typed (Number k) h structs = part_typed (Number k) h.0 structs
variable_typed (Array n s) h structs = part_typed (Array n s) h.0 structs
variable_typed (Cluster ss) h structs = part_typed (Cluster ss) h.0 structs

all_typed : (ss : List Shape) → AreVariables (members ss) → (structs : List NbcStruct) → AreTyped structs ss
all_typed [] h structs = ([], [], λ others. refl)
all_typed (s ∷ ss) h structs = let one = variable_typed s h.0 structs in joined_typed structs s ss one (all_typed ss h.1 (structs ++ one.0))

-- ---- programs

-- variables of these types with the same starts
abbrev vars_of : List NbcType → List program.Variable → List NbcVar
vars_of [] vs = []
vars_of (t ∷ ts) [] = []
vars_of (t ∷ ts) (v ∷ vs) = record { shape = t; start = v.start } ∷ vars_of ts vs

vars_same : (shapes : List Shape) (ts : List NbcType) (vs : List program.Variable) → map (shape_by shapes) ts ≡ map (λ (v : program.Variable). v.shape) vs
    → map (λ (v : NbcVar). record { shape = shape_by shapes v.shape; start = v.start }) (vars_of ts vs) ≡ vs
vars_same shapes [] [] e = refl
vars_same shapes [] (v ∷ vs) e = absurd (let f : length (map (λ (v : program.Variable). v.shape) (v ∷ vs)) ≡ 0 = ap length (sym e) in omega (arith, f))
vars_same shapes (t ∷ ts) [] e = absurd (let f : length (map (shape_by shapes) (t ∷ ts)) ≡ 0 = ap length e in omega (arith, f))
vars_same shapes (t ∷ ts) (v ∷ vs) e =
    let both : shape_by shapes t ∷ map (shape_by shapes) ts ≡ v.shape ∷ map (λ (w : program.Variable). w.shape) vs = e in
    let first : shape_by shapes t ≡ v.shape = cc in
    let rest : map (shape_by shapes) ts ≡ map (λ (w : program.Variable). w.shape) vs = cc in
    ap₂ (λ (x : Shape) (xs : List program.Variable). record { shape = x; start = v.start } ∷ xs) first (vars_same shapes ts vs rest)

-- a program that spells the text
pub typed : (t : Text) → AreVariables (members (declared t)) → (p : NbcProgram) × (text_of p ≡ t)
typed t h =
    let all = all_typed (declared t) h [] in
    let structs : List NbcStruct = all.0 in
    let same : struct_shapes structs ≡ struct_shapes (structs ++ []) = ap struct_shapes (sym (append-nil structs)) in (
      record { structs = structs; vars = vars_of all.1 t.vars; blocks = t.blocks },
      ap (λ vs. record { vars = vs; blocks = t.blocks }) (vars_same (struct_shapes structs) all.1 t.vars (ap (λ l. map (shape_by l) all.1) same ∙ all.2 [])),
    )
