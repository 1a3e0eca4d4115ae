-- What operands' terms stand for.
use Rattle.std.proofs.Common.{◌≡◌, ℕ, ◌<◌, Bool, List, [], ◌∷◌, map, length, Option, Some, None, refl, sym, ap, subst, ◌∙◌}
use Rattle.std.specs.Prelude.{⊤, option_map, option_and_then, option_to_list, slice_get, slice_index_or}
use Rattle.std.proofs.lemmas.Option.{get_or_from_slice_get, slice_get-map, slice_get_within}
use Rattle.nxt_types.specs.Shapes.{Shape, Void, Cluster, members, shapes_of}
use Rattle.nxt_model.specs.Nbc.Forms.{Term, Named, Literal, Quote}
use Rattle.nxt_model.specs.Nbc.Text.{Source, Variable, Block, Denoted, AVariable, ABlock, a_block, a_variable, block_at, block_by, block_named, block_place, by_sort, denoted, member_of, named_block, ordered, path_in, program_of, program_var, sort_named, variable_named, NameSort}
use Rattle.nxt_model.specs.Nbc.Types.{Found, Struct, below, member_of_type, member_path, shape_in}
use Rattle.nxt_model.specs.declared.nbc.NbcType.{NbcType}
use Rattle.nxt_model.specs.SystemCalls.{field_shape}
use Rattle.nxt_model.specs.TextProgram as program
use Rattle.nxt_model.specs.TextProgram.{declared, shape_of_part}
use Rattle.nxt_asm_laws.proofs.Laws.Denoted.{name_has}
use Rattle.nxt_asm_laws.proofs.Laws.Paths.{is_member, member_has, member_shapes, whole_shape}
use Rattle.nxt_asm_laws.proofs.Laws.Types.{AreOrdered}
use Rattle.nxt_asm_laws_code.specs.There.{LeadsTo}
use Rattle.nxt_asm_laws_code.proofs.Laws.Operands.{shapes_of-members}

-- ---- paths

-- positions that lead from a shape to one of this type
abbrev Leads : List Struct → Shape → Option Found → Type 0
Leads types s None = ⊤
Leads types s (Some f) = LeadsTo s f.0 × (shape_of_part s f.0 ≡ shape_in types f.1)

-- one step after another
then_leads : {A : Type 0} (types : List Struct) (s : Shape) (g : A → Option Found) (o : Option A) → ((x : A) → o ≡ Some x → Leads types s (g x)) → Leads types s (option_and_then g o)
then_leads types s g None h = tt
then_leads types s g (Some x) h = h x refl

-- a member of a cluster
member_at : (ms : List Shape) (k : ℕ) (x : Shape) → slice_get ms k ≡ Some x → (k < length (shapes_of (members ms))) × (field_shape k (Cluster (members ms)) ≡ x)
member_at ms k x e = (
  subst (λ l. k < length l) (sym (shapes_of-members ms)) (slice_get_within ms k x e),
  ap (λ l. slice_index_or l k Void) (shapes_of-members ms) ∙ get_or_from_slice_get ms k x Void e,
)

-- a path that begins with it
below_leads : (types : List Struct) (ss : List Shape) (k : ℕ) (x : Shape) (o : Option Found) → slice_get ss k ≡ Some x → Leads types x o → Leads types (Cluster (members ss)) (option_map (below k) o)
below_leads types ss k x None e h = tt
below_leads types ss k x (Some f) e h =
    let both = member_at ss k x e in
    ((both.0, subst (λ y. LeadsTo y f.0) (sym both.1) h.0), ap (λ y. shape_of_part y f.0) both.1 ∙ h.1)

-- names of members lead from a type to a part of its shape
path_leads : (types : List Struct) → AreOrdered 0 types → (t : NbcType) (ns : List (List ℕ)) → Leads types (shape_in types t) (member_path types t ns)
path_leads types ordered t [] = (tt, refl)
path_leads types ordered t (n ∷ ns) =
    then_leads types (shape_in types t) (λ m. option_map (below m.0) (member_path types m.1 ns)) (member_of_type types t n)
    (λ m e.
    let h = is_member types t n m e in
    subst (λ s. Leads types s (option_map (below m.0) (member_path types m.1 ns))) (whole_shape types t m h)
    (below_leads types (member_shapes types t m h) m.0 (shape_in types m.1) (member_path types m.1 ns) (member_has types t m h ordered) (path_leads types ordered m.1 ns)))

-- ---- terms

-- a part of a declared variable, with its shape
abbrev pub HasPart : Source → Denoted → Type 0
HasPart src (AVariable i path s) =
    let ss = declared (program_of src) in
    (i < length ss) × LeadsTo (slice_index_or ss i Void) path × (shape_of_part (slice_index_or ss i Void) path ≡ s)
HasPart src d = ⊤

module _ (src : Source) (in_order : AreOrdered 0 src.types) where
  shape_there : (i : ℕ) (v : Variable) → slice_get src.vars i ≡ Some v → slice_get (declared (program_of src)) i ≡ Some (shape_in src.types v.type)
  shape_there i v e =
      let shape = λ (x : program.Variable). x.shape in
      let var = program_var src.types in
      slice_get-map shape (map var src.vars) i ∙ ap (option_map shape) (slice_get-map var src.vars i ∙ ap (option_map var) e)

  -- members lead to a part of a variable
  member_part : (i : ℕ) (v : Variable) (o : Option Found) → slice_get src.vars i ≡ Some v → Leads src.types (shape_in src.types v.type) o → HasPart src (member_of src i o)
  member_part i v None e h = tt
  member_part i v (Some f) e h =
      let s = shape_in src.types v.type in
      let there = shape_there i v e in
      let at : slice_index_or (declared (program_of src)) i Void ≡ s = get_or_from_slice_get (declared (program_of src)) i s Void there in
      (slice_get_within (declared (program_of src)) i s there, subst (λ x. LeadsTo x f.0) (sym at) h.0, ap (λ x. shape_of_part x f.0) at ∙ h.1)

  path_part : (i : ℕ) (ns : List (List ℕ)) (o : Option Variable) → slice_get src.vars i ≡ o → HasPart src (path_in src i ns o)
  path_part i ns None e = tt
  path_part i ns (Some v) e = member_part i v (member_path src.types v.type ns) e (path_leads src.types in_order v.type ns)

  variable_part : (o : Option ℕ) (ns : List (List ℕ)) → HasPart src (a_variable src o ns)
  variable_part None ns = tt
  variable_part (Some i) ns = path_part i ns (slice_get src.vars i) refl

  -- a block is no part
  block_part : (o : Option (ℕ × Bool)) → HasPart src (a_block o)
  block_part None = tt
  block_part (Some b) = tt

  -- whatever a name stands for
  sort_part : (line : ℕ) (o : Option NameSort) (name : List ℕ) (ns : List (List ℕ)) → HasPart src (by_sort src line o name ns)
  sort_part line o name ns =
      name_has (λ _ d. HasPart src d) (λ _. tt) tt (λ n. tt) src line name ns (variable_part (variable_named src name) ns) (block_part (block_by src name)) o

  -- what a term stands for
  pub term_part : (line : ℕ) (t : Term) → HasPart src (denoted src line t)
  term_part line (Literal z) = tt
  term_part line (Quote s) = tt
  term_part line (Named []) = tt
  term_part line (Named (n ∷ ns)) = sort_part line (sort_named src n) n ns

-- ---- blocks

-- a block of the source, by its name's number
abbrev pub NamesBlock : Source → Term → Denoted → Type 0
NamesBlock src t (ABlock k sub) = (named_block src t ≡ k ∷ []) × (b : Block) × (slice_get (ordered src) k ≡ Some b) × (b.subroutine ≡ sub)
NamesBlock src t d = ⊤

module _ (src : Source) where
  member_block : (t : Term) (i : ℕ) (o : Option Found) → NamesBlock src t (member_of src i o)
  member_block t i None = tt
  member_block t i (Some f) = tt

  -- a variable is no block
  path_block : (t : Term) (i : ℕ) (ns : List (List ℕ)) (o : Option Variable) → NamesBlock src t (path_in src i ns o)
  path_block t i ns None = tt
  path_block t i ns (Some v) = member_block t i (member_path src.types v.type ns)

  variable_block : (t : Term) (o : Option ℕ) (ns : List (List ℕ)) → NamesBlock src t (a_variable src o ns)
  variable_block t None ns = tt
  variable_block t (Some i) ns = path_block t i ns (slice_get src.vars i)

  -- a block's name names it
  block_block : (name : List ℕ) → NamesBlock src (Named (name ∷ [])) (a_block (block_by src name))
  block_block name = by (block_named src name) refl
    where
      there : (k : ℕ) (o : Option Block) → block_named src name ≡ Some k → block_at src k ≡ o → NamesBlock src (Named (name ∷ [])) (a_block (option_map (block_place k) o))
      there k None e f = tt
      there k (Some b) e f = (ap option_to_list e, b, f, refl)

      by : (o : Option ℕ) → block_named src name ≡ o → NamesBlock src (Named (name ∷ [])) (a_block (option_and_then (λ k. option_map (block_place k) (block_at src k)) o))
      by None e = tt
      by (Some k) e = there k (block_at src k) e refl

  -- whatever a name stands for
  sort_block : (line : ℕ) (o : Option NameSort) (name : List ℕ) (ns : List (List ℕ)) → NamesBlock src (Named (name ∷ ns)) (by_sort src line o name ns)
  sort_block line o name ns =
      name_has (λ ms d. NamesBlock src (Named (name ∷ ms)) d) (λ _. tt) tt (λ n. tt) src line name ns
      (variable_block (Named (name ∷ ns)) (variable_named src name) ns) (block_block name) o

  -- what a term names
  pub term_block : (line : ℕ) (t : Term) → NamesBlock src t (denoted src line t)
  term_block line (Literal z) = tt
  term_block line (Quote s) = tt
  term_block line (Named []) = tt
  term_block line (Named (n ∷ ns)) = sort_block line (sort_named src n) n ns
