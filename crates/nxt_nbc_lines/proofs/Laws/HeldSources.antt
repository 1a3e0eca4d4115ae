-- What a text declares, with its numbers as they are held.
use Rattle.std.proofs.Common.{◌≡◌, ℕ, Bool, true, false, ◌==◌, List, [], ◌∷◌, map, filter_map, Some, None, option_map, refl, ap, ◌∙◌}
use Rattle.std.specs.Prelude.{if◌then◌else◌}
use Rattle.nxt_model.specs.Nbc.Forms.{Form, Include, Declare, OpenStruct, CloseStruct, Member, OpenThread, OpenSubroutine, CloseBlock}
use Rattle.nxt_model.specs.Nbc.Types.{Struct, StructMember}
use Rattle.nxt_model.specs.Nbc.Structs.{Types, no_types, with_header, with_member, with_struct, types_from, types_of}
use Rattle.nxt_model.specs.Nbc.Text.{Variable, Block, NameSort, Source, variable_of, declared_name, items_of, blocks_in, source_of}
use Rattle.nxt_model.specs.Nbc.NbcRules.{at_line}
use Rattle.nxt_nbc_lines.specs.Held.{held_given, held_form}
use Rattle.nxt_nbc_lines.proofs.Laws.HeldLists.{pick_alike, pick_same}

-- a form with its line
abbrev pub held_at : ℕ × Form → ℕ × Form
held_at l = (l.0, held_form l.1)

abbrev pub held_forms : List (ℕ × Form) → List (ℕ × Form)
held_forms fs = map held_at fs

abbrev pub held_variable : Variable → Variable
held_variable v = record v { given = held_given v.given }

abbrev pub held_block : Block → Block
held_block b = record b { items = held_forms b.items }

abbrev pub held_source : Source → Source
held_source src = record src { vars = map held_variable src.vars; blocks = map held_block src.blocks }

-- ---- types

types_held : (t : Types) (name : List ℕ) (ms : List StructMember) (fs : List (ℕ × Form)) → types_from t name ms (held_forms fs) ≡ types_from t name ms fs
types_held t name ms [] = refl
types_held t name ms ((l, Include) ∷ fs) = types_held (with_header t l) name ms fs
types_held t name ms ((l, OpenStruct n) ∷ fs) = types_held t n [] fs
types_held t name ms ((l, Member n of) ∷ fs) = types_held t name (with_member t ms l n of) fs
types_held t name ms ((l, CloseStruct) ∷ fs) = types_held (with_struct t name ms l) [] [] fs
types_held t name ms ((l, f) ∷ fs) = types_held t name ms fs

-- ---- variables

variable_held : (types : List Struct) (x : ℕ × Form) → variable_of types (held_at x) ≡ option_map held_variable (variable_of types x)
variable_held types (l, Declare n t g) = refl
variable_held types (l, f) = refl

-- ---- names

name_held : (x : ℕ × Form) → declared_name (held_at x) ≡ declared_name x
name_held (l, Declare n t g) = refl
name_held (l, f) = refl

-- ---- blocks

items_held : (fs : List (ℕ × Form)) → items_of (held_forms fs) ≡ held_forms (items_of fs)
items_held [] = refl
items_held ((l, CloseBlock) ∷ fs) = refl
items_held ((l, f) ∷ fs) = ap (λ is. (l, held_form f) ∷ is) (items_held fs)

abbrev with_items : List ℕ → Bool → ℕ → List (ℕ × Form) → Block
with_items name subroutine line items = record { name = name; subroutine = subroutine; line = line; items = items }

block_held : (n : List ℕ) (sub : Bool) (l : ℕ) (fs : List (ℕ × Form)) (bs cs : List Block) → bs ≡ map held_block cs
    → with_items n sub l (items_of (held_forms fs)) ∷ bs ≡ map held_block (with_items n sub l (items_of fs) ∷ cs)
block_held n sub l fs bs cs e = ap (λ is. with_items n sub l is ∷ bs) (items_held fs) ∙ ap (λ ds. with_items n sub l (held_forms (items_of fs)) ∷ ds) e

blocks_held : (fs : List (ℕ × Form)) → blocks_in (held_forms fs) ≡ map held_block (blocks_in fs)
blocks_held [] = refl
blocks_held ((l, OpenThread n) ∷ fs) = block_held n false l fs (blocks_in (held_forms fs)) (blocks_in fs) (blocks_held fs)
blocks_held ((l, OpenSubroutine n) ∷ fs) = block_held n true l fs (blocks_in (held_forms fs)) (blocks_in fs) (blocks_held fs)
blocks_held ((l, f) ∷ fs) = blocks_held fs

-- ---- the source

abbrev sources : Types → List Variable → List Block → List (List ℕ × NameSort) → Source
sources t vars blocks names = record { included = t.included; types = t.structs; vars = vars; blocks = blocks; names = names }

pub source_held : (fs : List (ℕ × Form)) → source_of (held_forms fs) ≡ held_source (source_of fs)
source_held fs =
    let gs = held_forms fs in
    let types = types_of fs in
    let declared = variable_of types.structs in
    ap (λ t. sources t (filter_map (variable_of t.structs) gs) (blocks_in gs) (filter_map declared_name gs)) (types_held no_types [] [] fs)
    ∙ ap (λ v. sources types v (blocks_in gs) (filter_map declared_name gs)) (pick_same held_at held_variable declared declared (variable_held types.structs) fs)
    ∙ ap (λ b. sources types (map held_variable (filter_map declared fs)) b (filter_map declared_name gs)) (blocks_held fs)
    ∙ ap (λ n. sources types (map held_variable (filter_map declared fs)) (map held_block (blocks_in fs)) n) (pick_alike held_at declared_name name_held fs)

-- ---- the forms at a line

there_by : (line : ℕ) (x : ℕ × Form) (c : Bool) → (if c then Some (held_form x.1) else None) ≡ option_map held_form (if c then Some x.1 else None)
there_by line x true = refl
there_by line x false = refl

pub line_held : (line : ℕ) (fs : List (ℕ × Form)) → at_line line (held_forms fs) ≡ map held_form (at_line line fs)
line_held line fs =
    pick_same held_at held_form (λ x. if x.0 == line then Some x.1 else None) (λ x. if x.0 == line then Some x.1 else None) (λ x. there_by line x (x.0 == line)) fs
