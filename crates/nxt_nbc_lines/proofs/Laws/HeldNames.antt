-- What names stand for is the same where numbers are held.
use Rattle.std.proofs.Common.{◌≡◌, ℕ, ◌+◌, not, List, [], ◌∷◌, ◌++◌, map, filter, Option, Some, None, option_map, option_and_then, bytes_eq, slice_get, position, refl, ap, sym, ◌∙◌, ℤ}
use Rattle.std.specs.Prelude.{if◌then◌else◌}
use Rattle.std.proofs.lemmas.List.{map-append}
use Rattle.std.proofs.lemmas.Option.{slice_get-map}
use Rattle.nxt_model.specs.Nbc.Forms.{Form, Do, Label, Term, Named, Literal, Quote}
use Rattle.nxt_model.specs.Nbc.Text.{Source, Variable, Block, NameSort, OfVariable, OfStruct, OfBlock, is_main, ordered, Denoted, ANumber, sort_named, variable_named, block_named, block_at, path_in, a_variable, block_place, block_by, a_block, alone, by_sort, denoted, is_statement, label_of, label_at, labels_from, is_left_out}
use Rattle.nxt_nbc_lines.specs.Held.{held, held_term, held_form}
use Rattle.nxt_nbc_lines.proofs.Laws.HeldLists.{filter_same, position_same}
use Rattle.nxt_nbc_lines.proofs.Laws.HeldSources.{held_forms, held_variable, held_block, held_source}

-- ---- blocks

ordered_held : (src : Source) → ordered (held_source src) ≡ map held_block (ordered src)
ordered_held src =
    let main = filter_same held_block is_main (λ b. refl) src.blocks in
    let others = filter_same held_block (λ b. not (is_main b)) (λ b. refl) src.blocks in
    ap (λ bs. bs ++ filter (λ b. not (is_main b)) (map held_block src.blocks)) main
    ∙ ap (λ bs. map held_block (filter is_main src.blocks) ++ bs) others
    ∙ sym (map-append held_block (filter is_main src.blocks) (filter (λ b. not (is_main b)) src.blocks))

pub block_named_held : (src : Source) (name : List ℕ) → block_named (held_source src) name ≡ block_named src name
block_named_held src name =
    ap (position (λ b. bytes_eq b.name name)) (ordered_held src) ∙ position_same held_block (λ b. bytes_eq b.name name) (λ b. refl) (ordered src)

kept_held : (k : ℕ) (o : Option Block) → option_map (block_place k) (option_map held_block o) ≡ option_map (block_place k) o
kept_held k None = refl
kept_held k (Some b) = refl

block_held : (src : Source) (o : Option ℕ)
    → option_and_then (λ k. option_map (block_place k) (block_at (held_source src) k)) o ≡ option_and_then (λ k. option_map (block_place k) (block_at src k)) o
block_held src None = refl
block_held src (Some k) =
    ap (λ bs. option_map (block_place k) (slice_get bs k)) (ordered_held src)
    ∙ ap (option_map (block_place k)) (slice_get-map held_block (ordered src) k)
    ∙ kept_held k (block_at src k)

block_by_held : (src : Source) (name : List ℕ) → block_by (held_source src) name ≡ block_by src name
block_by_held src name =
    ap (option_and_then (λ k. option_map (block_place k) (block_at (held_source src) k))) (block_named_held src name) ∙ block_held src (block_named src name)

-- ---- names

variable_named_held : (src : Source) (name : List ℕ) → variable_named (held_source src) name ≡ variable_named src name
variable_named_held src name = position_same held_variable (λ v. bytes_eq v.name name) (λ v. refl) src.vars

path_held : (src : Source) (i : ℕ) (ns : List (List ℕ)) (o : Option Variable) → path_in (held_source src) i ns (option_map held_variable o) ≡ path_in src i ns o
path_held src i ns None = refl
path_held src i ns (Some v) = refl

variable_held : (src : Source) (o : Option ℕ) (ns : List (List ℕ)) → a_variable (held_source src) o ns ≡ a_variable src o ns
variable_held src None ns = refl
variable_held src (Some i) ns = ap (path_in (held_source src) i ns) (slice_get-map held_variable src.vars i) ∙ path_held src i ns (slice_get src.vars i)

by_sort_held : (src : Source) (line : ℕ) (s : Option NameSort) (name : List ℕ) (ns : List (List ℕ)) → by_sort (held_source src) line s name ns ≡ by_sort src line s name ns
by_sort_held src line (Some OfVariable) name ns =
    ap (λ i. a_variable (held_source src) i ns) (variable_named_held src name) ∙ variable_held src (variable_named src name) ns
by_sort_held src line (Some OfStruct) name ns = refl
by_sort_held src line (Some OfBlock) name ns = ap (λ b. alone ns (a_block b)) (block_by_held src name)
by_sort_held src line None name ns = refl

-- what asks nothing of a number but what its held one tells asks the same of what a term stands for
pub denoted_held : {B : Type 0} (f : Denoted → B) → ((z : ℤ) → f (ANumber (held z)) ≡ f (ANumber z)) → (src : Source) (line : ℕ) (t : Term)
    → f (denoted (held_source src) line (held_term t)) ≡ f (denoted src line t)
denoted_held f same src line (Literal z) = same z
denoted_held f same src line (Quote s) = refl
denoted_held f same src line (Named []) = refl
denoted_held f same src line (Named (n ∷ ns)) =
    ap f (by_sort_held src line (sort_named src n) n ns)

pub left_out_held : (src : Source) (line : ℕ) (t : Term) → is_left_out (held_source src) line (held_term t) ≡ is_left_out src line t
left_out_held src line (Literal z) = refl
left_out_held src line (Quote s) = refl
left_out_held src line (Named []) = refl
left_out_held src line (Named (n ∷ [])) = refl
left_out_held src line (Named (n ∷ m ∷ ns)) = refl

-- ---- labels

label_held : (f : Form) → label_of (held_form f) ≡ label_of f
label_held (Label l) = refl
label_held (Do label op cmp ts) = refl
label_held f = refl

statement_held : (f : Form) → is_statement (held_form f) ≡ is_statement f
statement_held (Do label op cmp ts) = refl
statement_held f = refl

pub labels_held : (k : ℕ) (fs : List (ℕ × Form)) → labels_from k (held_forms fs) ≡ labels_from k fs
labels_held k [] = refl
labels_held k ((line, f) ∷ fs) =
    ap (λ l. label_at line k l ++ labels_from (if is_statement (held_form f) then k + 1 else k) (held_forms fs)) (label_held f)
    ∙ ap (λ c. label_at line k (label_of f) ++ labels_from (if c then k + 1 else k) (held_forms fs)) (statement_held f)
    ∙ ap (λ ls. label_at line k (label_of f) ++ ls) (labels_held (if is_statement f then k + 1 else k) fs)
