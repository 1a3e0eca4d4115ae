-- How much structs behind one another hold.
use Rattle.std.proofs.Common.{◌≡◌, ℕ, ◌+◌, ◌<◌, ◌≤◌, Bool, List, [], ◌∷◌, ◌++◌, map, length, slice_get, slice_index_or, Option, Some, None, option_map, refl, sym, ap, ap₂, ◌∙◌}
use Rattle.std.specs.Prelude.{unwrap_or}
use Rattle.std.proofs.lemmas.List.{map-append}
use Rattle.std.proofs.lemmas.Option.{slice_get-map, slice_get_past, slice_get_read, unwrap_or-slice_get}
use Rattle.std.proofs.lemmas.Simd.{map-map}
use Rattle.nxt_types.specs.Shapes.{Shape, Void, cluster_of, members as members_of, some_list}
use Rattle.nxt_types.specs.Names.{sizes}
use Rattle.nxt_model.specs.Nbc.Types.{StructMember, depth_among, plain_struct, type_shapes}
use Rattle.nxt_model.specs.TextProgram.{shape_by, struct_shape}
use Rattle.nxt_model.proofs.Laws.StructShapes.{type_shapes_push}
use Rattle.nxt_nbc_names.specs.Extents.{extent, extent_of, extent_of_all}
use Rattle.nxt_nbc_names.specs.MembersSeen.{member_seen}
use Rattle.nxt_nbc_names.specs.StructsSeen.{AreMeasured, struct_seen, structs_seen}
use Rattle.nxt_nbc_names.specs.declared.members.Member.{Member as ProgramMember}
use Rattle.nxt_nbc_names.specs.declared.structs.Struct.{Struct as ProgramStruct}

-- ---- one more

-- the shapes of a struct's members, as the program has them
shapes_seen : (ss : List Shape) (items : List ProgramMember) (ms : List StructMember) → map member_seen items ≡ ms
    → map (λ m. shape_by ss m.shape) items ≡ map (shape_by ss) (map (λ m. m.type) ms)
shapes_seen ss items ms e =
    let shape = λ (m : StructMember). shape_by ss m.type in
    sym (map-map shape member_seen items) ∙ ap (map shape) e ∙ sym (map-map (shape_by ss) (λ (m : StructMember). m.type) ms)

-- a struct whose extent is one more than that of its members
pub measured_behind : (ss : List ProgramStruct) (s : ProgramStruct) (items : List ProgramMember) → AreMeasured ss → map member_seen items ≡ s.members
    → ((n d : ℕ) (a : Bool) → extent_of_all (members_of (map (λ m. shape_by (type_shapes (structs_seen ss)) m.shape) items)) ≡ extent n d a → s.extent ≡ extent (n + 1) (d + 1) a)
    → AreMeasured (ss ++ s ∷ [])
measured_behind ss s items all e one_more =
    let shapes = type_shapes (structs_seen ss) in
    let inside = members_of (map (λ (m : ProgramMember). shape_by shapes m.shape) items) in
    let last = struct_shape shapes (plain_struct (struct_seen s)) in
    let one : s.extent ≡ extent_of last =
    one_more (sizes inside) (depth_among inside) (some_list inside) refl ∙ ap (λ xs. extent_of (cluster_of xs)) (shapes_seen shapes items s.members e) in
    map-append (λ (x : ProgramStruct). x.extent) ss (s ∷ [])
    ∙ ap₂ (λ xs x. xs ++ x ∷ []) all one
    ∙ sym (map-append extent_of shapes (last ∷ []))
    ∙ sym (ap (map extent_of) (ap type_shapes (map-append struct_seen ss (s ∷ [])) ∙ type_shapes_push (structs_seen ss) (struct_seen s)))

-- ---- at a position

module _ (ss : List ProgramStruct) (i : ℕ) (all : AreMeasured ss) where
  abbrev shapes : List Shape
  shapes = type_shapes (structs_seen ss)

  held : option_map (λ s. s.extent) (slice_get ss i) ≡ option_map extent_of (slice_get shapes i)
  held =
      sym (slice_get-map (λ (s : ProgramStruct). s.extent) ss i) ∙ ap (λ es. slice_get es i) all ∙ slice_get-map extent_of shapes i

  -- the extent is that of the shape there
  pub measured_at : (s : ProgramStruct) → i < length ss → s ≡ slice_index_or ss i s → s.extent ≡ extent_of (slice_index_or shapes i Void)
  measured_at s under read =
      by (slice_get shapes i) (sym (ap (option_map (λ (x : ProgramStruct). x.extent)) (slice_get_read ss (length ss) i s refl under read)) ∙ held)
      ∙ ap extent_of (unwrap_or-slice_get shapes i Void)
    where
      by : (o : Option Shape) → Some s.extent ≡ option_map extent_of o → s.extent ≡ extent_of (unwrap_or o Void)
      by None e = let f : ⊥ = cc in absurd f
      by (Some x) e = cc

  -- where there is no struct, there is no shape
  pub missing_at : length ss ≤ i → slice_index_or shapes i Void ≡ Void
  missing_at over =
      sym (unwrap_or-slice_get shapes i Void) ∙ by (slice_get shapes i) (sym (ap (option_map (λ (x : ProgramStruct). x.extent)) (slice_get_past ss i over)) ∙ held)
    where
      by : (o : Option Shape) → None ≡ option_map extent_of o → unwrap_or o Void ≡ Void
      by None e = refl
      by (Some x) e = let f : ⊥ = cc in absurd f
