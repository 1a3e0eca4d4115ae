-- The forms that stand in structs, and those that stand elsewhere.
use Rattle.std.proofs.Common.{ℕ, ◌&&◌, ◌==◌, List, [], ◌∷◌, Option, Some, None}
use Rattle.std.specs.Prelude.{if◌then◌else◌, ⊤, map, codes, bytes_eq, option_map, option_and_then}
use Rattle.nxt_types.specs.declared.instr.Op.{Op}
use Rattle.nxt_types.specs.declared.kind.Cmp.{Cmp}
use Rattle.nxt_types.specs.declared.kind.Cmp.TheVariants.{Lt}
use Rattle.nxt_types.specs.Opcodes.{has_comparison}
use Rattle.nxt_model.specs.Nbc.Tokens.{Word, Name, Quoted, Sign}
use Rattle.nxt_model.specs.Nbc.Forms as forms
use Rattle.nxt_model.specs.Nbc.Forms.{Form, Formed, Open, Place, InData, InStruct, InThread, InSubroutine, Term, all_of, by_commas, term_of, terms_of, is_word, brackets, given_by, type_name, member_form, statement_op, with_terms, comparison_word, compared, statement_form, labelled_form, ◌or_else◌, two_names, with_name, one_name, with_term, with_list, include_form, opens_data, top_form, named_struct, declared, declaration, data_form, struct_member, struct_form, body_form, thread_form, subroutine_form, form_in, open_after, ends_empty, put_form, bad_at, least_bad, formed_line, formed_from, formed, is_keyword}
use Rattle.nxt_asm_laws.proofs.Laws.Perhaps.{Perhaps, either, followed, list_fine, mapped, name_fine, one_of, single_fine, term_fine, two_fine}

-- the forms that stand in a struct, and those that stand elsewhere
abbrev pub Inside : Form → Type 0
Inside forms.CloseStruct = ⊤
Inside (forms.Member n t) = ⊤
Inside f = ⊥

abbrev pub Outside : Form → Type 0
Outside forms.CloseStruct = ⊥
Outside (forms.Member n t) = ⊥
Outside f = ⊤

-- ---- outside of structs

terms_out : (label : Option (List ℕ)) (op : Op) (cmp : Cmp) (ts : List Term) → Perhaps Outside (with_terms label op cmp ts)
terms_out label op cmp ts = one_of Outside _ (Some (forms.Do label op cmp ts)) None tt tt

compared_out : (label : Option (List ℕ)) (op : Op) (ps : List (List Word)) → Perhaps Outside (compared label op ps)
compared_out label op [] = tt
compared_out label op (first ∷ others) =
    followed Outside (λ cmp. option_and_then (with_terms label op cmp) (all_of (map term_of others))) (comparison_word first)
    (λ cmp. followed Outside (with_terms label op cmp) (all_of (map term_of others)) (λ ts. terms_out label op cmp ts))

statement_out : (label : Option (List ℕ)) (ws : List Word) → Perhaps Outside (statement_form label ws)
statement_out label (Name n ∷ ws) =
    followed Outside (λ op. if has_comparison op then compared label op (by_commas ws) else option_and_then (with_terms label op Lt) (terms_of ws)) (statement_op n)
    (λ op. one_of Outside (has_comparison op) (compared label op (by_commas ws)) (option_and_then (with_terms label op Lt) (terms_of ws))
    (compared_out label op (by_commas ws)) (followed Outside (with_terms label op Lt) (terms_of ws) (λ ts. terms_out label op Lt ts)))
statement_out label _ = tt

labelled_out : (ws : List Word) → Perhaps Outside (labelled_form ws)
labelled_out (Name l ∷ Sign b ∷ []) = one_of Outside (b == 58) (Some (forms.Label l)) (statement_form None (Name l ∷ Sign b ∷ [])) tt (statement_out None (Name l ∷ Sign b ∷ []))
labelled_out (Name l ∷ Sign b ∷ w ∷ ws) =
    one_of Outside (b == 58) (statement_form (Some l) (w ∷ ws)) (statement_form None (Name l ∷ Sign b ∷ w ∷ ws)) (statement_out (Some l) (w ∷ ws))
    (statement_out None (Name l ∷ Sign b ∷ w ∷ ws))
labelled_out ws = statement_out None ws

include_out : (ws : List Word) → Perhaps Outside (include_form ws)
include_out (Sign b ∷ w ∷ Quoted file ∷ []) =
    one_of Outside ((b == 35) && is_word w (codes "include") && bytes_eq file (codes "NXTDefs.h")) (Some forms.Include) None tt tt
include_out _ = tt

declared_out : (ws : List Word) → Perhaps Outside (declared ws)
declared_out (Name n ∷ Name t ∷ ws) =
    let b = brackets ws in
    one_of Outside (is_keyword t) None (option_map (forms.Declare n (type_name t b.0)) (given_by t b.0 b.1)) tt
    (mapped Outside (forms.Declare n (type_name t b.0)) (given_by t b.0 b.1) (λ g. tt))
declared_out _ = tt

named_out : (ws : List Word) → Perhaps Outside (named_struct ws)
named_out (Name n ∷ w ∷ []) = one_of Outside (is_word w (codes "struct")) (Some (forms.OpenStruct n)) None tt tt
named_out _ = tt

module _ (ws : List Word) where
  opens_out : Perhaps Outside (opens_data ws)
  opens_out = two_fine Outside (codes "dseg") (codes "segment") forms.OpenData tt ws

  pub top_out : Perhaps Outside (top_form ws)
  top_out =
      either Outside (include_form ws) _ (include_out ws)
      (either Outside (opens_data ws) _ opens_out
      (either Outside (with_name (codes "thread") forms.OpenThread ws) _
      (name_fine Outside (codes "thread") forms.OpenThread (λ n. tt) ws) (name_fine Outside (codes "subroutine") forms.OpenSubroutine (λ n. tt) ws)))

  pub data_out : Perhaps Outside (data_form ws)
  data_out =
      either Outside (two_names (codes "dseg") (codes "ends") forms.CloseData ws) _
      (two_fine Outside (codes "dseg") (codes "ends") forms.CloseData tt ws) (either Outside (named_struct ws) (declared ws) (named_out ws) (declared_out ws))

  body_out : Perhaps Outside (body_form ws)
  body_out =
      either Outside (opens_data ws) _ opens_out
      (either Outside (with_term (codes "call") forms.Call ws) (labelled_form ws) (term_fine Outside (codes "call") forms.Call (λ t. tt) ws) (labelled_out ws))

  pub thread_out : Perhaps Outside (thread_form ws)
  thread_out =
      either Outside (one_name (codes "endt") forms.CloseBlock ws) _ (single_fine Outside (codes "endt") forms.CloseBlock tt ws)
      (either Outside (with_list (codes "precedes") forms.Precedes ws) _ (list_fine Outside (codes "precedes") forms.Precedes (λ ts. tt) ws)
      (either Outside (with_list (codes "follows") forms.Follows ws) _ (list_fine Outside (codes "follows") forms.Follows (λ ts. tt) ws)
      (either Outside (one_name (codes "exit") forms.Exit ws) _ (single_fine Outside (codes "exit") forms.Exit tt ws)
      (either Outside (with_term (codes "exitto") forms.ExitTo ws) (body_form ws) (term_fine Outside (codes "exitto") forms.ExitTo (λ t. tt) ws) body_out))))

  pub subroutine_out : Perhaps Outside (subroutine_form ws)
  subroutine_out =
      either Outside (one_name (codes "ends") forms.CloseBlock ws) _ (single_fine Outside (codes "ends") forms.CloseBlock tt ws)
      (either Outside (one_name (codes "return") forms.Return ws) (body_form ws) (single_fine Outside (codes "return") forms.Return tt ws) body_out)

-- ---- in structs

member_in : (name t : List ℕ) (b : ℕ × List Word) → Perhaps Inside (member_form name t b)
member_in name t (arrays, []) = one_of Inside (is_keyword t) None (Some (forms.Member name (type_name t arrays))) tt tt
member_in name t (arrays, w ∷ ws) = tt

struct_member_in : (ws : List Word) → Perhaps Inside (struct_member ws)
struct_member_in (Name n ∷ Name t ∷ ws) = member_in n t (brackets ws)
struct_member_in _ = tt

pub struct_in : (n : List ℕ) (ws : List Word) → Perhaps Inside (struct_form n ws)
struct_in n ws =
    either Inside (two_names n (codes "ends") forms.CloseStruct ws) (struct_member ws) (two_fine Inside n (codes "ends") forms.CloseStruct tt ws) (struct_member_in ws)
