-- What a generated text declares: nine variables and the thread main.
use Rattle.std.proofs.Common.{◌≡◌, ℕ, suc, ◌+◌, List, [], ◌∷◌, Some, filter_map, flat_map, refl, ap, ◌∙◌}
use Rattle.nxt_model.specs.Nbc.Forms.{Form}
use Rattle.nxt_model.specs.Nbc.Header.{header_at}
use Rattle.nxt_model.specs.Nbc.Structs.{Types, types_from, types_of}
use Rattle.nxt_model.specs.Nbc.NbcRules.{member_spaces, shared_name}
use Rattle.nxt_model.specs.Nbc.Text.{Block, NameSort, Source, Variable, blocks_in, declared_name, followed_by, items_of, labels_from, preceded_by, source_of, variable_of}
use Rattle.nxt_model.specs.Nbc.Types.{Struct, StructMember}
use Rattle.nxt_gen_laws.specs.Head.{head_forms, head_names, list_variable, main_block, size_variable, source_with}
use Rattle.nxt_gen_laws.specs.Rows.{Row, row_form, row_forms}
use Rattle.std.specs.Prelude.{codes}

-- ---- statements declare nothing

no_types : (t : Types) (name : List ℕ) (ms : List StructMember) (line : ℕ) (rs : List Row) → types_from t name ms (row_forms line rs) ≡ t
no_types t name ms line [] = refl
no_types t name ms line (r ∷ rs) = no_types t name ms (suc line) rs

no_declared : (line : ℕ) (rs : List Row) → filter_map declared_name (row_forms line rs) ≡ []
no_declared line [] = refl
no_declared line (r ∷ rs) = no_declared (suc line) rs

no_variables : (types : List Struct) (line : ℕ) (rs : List Row) → filter_map (variable_of types) (row_forms line rs) ≡ []
no_variables types line [] = refl
no_variables types line (r ∷ rs) = no_variables types (suc line) rs

no_blocks : (line : ℕ) (rs : List Row) → blocks_in (row_forms line rs) ≡ []
no_blocks line [] = refl
no_blocks line (r ∷ rs) = no_blocks (suc line) rs

all_items : (line : ℕ) (rs : List Row) → items_of (row_forms line rs) ≡ row_forms line rs
all_items line [] = refl
all_items line (r ∷ rs) = ap (λ fs. (line, row_form r) ∷ fs) (all_items (suc line) rs)

pub no_names : (line : ℕ) (rs : List Row) → filter_map shared_name (row_forms line rs) ≡ []
no_names line [] = refl
no_names line (r ∷ rs) = no_names (suc line) rs

pub no_members : (line : ℕ) (rs : List Row) → member_spaces (row_forms line rs) ≡ []
no_members line [] = refl
no_members line (r ∷ rs) = no_members (suc line) rs

pub no_labels : (k line : ℕ) (rs : List Row) → labels_from k (row_forms line rs) ≡ []
no_labels k line [] = refl
no_labels k line (r ∷ rs) = no_labels (k + 1) (suc line) rs

module _ (src : Source) where
  pub none_preceded : (line : ℕ) (rs : List Row) → flat_map (preceded_by src) (row_forms line rs) ≡ []
  none_preceded line [] = refl
  none_preceded line (r ∷ rs) = none_preceded (suc line) rs

  pub none_followed : (line : ℕ) (rs : List Row) → flat_map (followed_by src) (row_forms line rs) ≡ []
  none_followed line [] = refl
  none_followed line (r ∷ rs) = none_followed (suc line) rs

-- ---- the whole

-- the variables in front of others
abbrev with_variables : List Variable → List Variable
with_variables vs =
    list_variable 3 (codes "a0") ∷ list_variable 4 (codes "a1") ∷ list_variable 5 (codes "a2") ∷ list_variable 6 (codes "a3")
    ∷ list_variable 7 (codes "a4") ∷ list_variable 8 (codes "a5") ∷ list_variable 9 (codes "a6") ∷ list_variable 10 (codes "a7")
    ∷ size_variable ∷ vs

abbrev made : Types → List Variable → List Block → List (List ℕ × NameSort) → Source
made t vs bs ns = record { included = t.included; types = t.structs; vars = with_variables vs; blocks = bs; names = head_names ns }

abbrev of_header : Types
of_header = record { included = Some 1; structs = header_at 0 1 }

of_head : (fs : List (ℕ × Form))
    → source_of (head_forms fs)
    ≡ made (types_from of_header [] [] fs) (filter_map (variable_of (types_of (head_forms fs)).structs) fs) (main_block (items_of fs) ∷ blocks_in fs) (filter_map declared_name fs)
of_head fs = refl

-- what a text of statements declares
pub source_is : (rs : List Row) → source_of (head_forms (row_forms 14 rs)) ≡ source_with (row_forms 14 rs)
source_is rs =
    let fs : List (ℕ × Form) = row_forms 14 rs in
    let types : List Struct = (types_of (head_forms fs)).structs in
    let vs : List Variable = filter_map (variable_of types) fs in
    let ns : List (List ℕ × NameSort) = filter_map declared_name fs in
    of_head fs
    ∙ ap (λ t. made t vs (main_block (items_of fs) ∷ blocks_in fs) ns) (no_types of_header [] [] 14 rs)
    ∙ ap (λ ws. made of_header ws (main_block (items_of fs) ∷ blocks_in fs) ns) (no_variables types 14 rs)
    ∙ ap (λ is. made of_header [] (main_block is ∷ blocks_in fs) ns) (all_items 14 rs)
    ∙ ap (λ bs. made of_header [] (main_block fs ∷ bs) ns) (no_blocks 14 rs)
    ∙ ap (λ ms. made of_header [] (main_block fs ∷ []) ms) (no_declared 14 rs)
