-- What the lines of a place may be.
use Rattle.std.proofs.Common.{ℕ, Bool, ◌&&◌, ◌==◌, List, [], ◌∷◌, length, map, nat_le, Option, Some, None}
use Rattle.std.specs.Prelude.{if◌then◌else◌, ⊤, codes, option_map, option_and_then}
use Rattle.nxt_types.specs.Opcodes.{arity, has_comparison, takes}
use Rattle.nxt_types.specs.declared.instr.Op.{Op}
use Rattle.nxt_types.specs.declared.kind.Cmp.{Cmp}
use Rattle.nxt_types.specs.declared.kind.Cmp.TheVariants.{Lt}
use Rattle.nxt_model.specs.Nbc.Tokens.{Word, Name, Sign}
use Rattle.nxt_model.specs.Nbc.Forms as forms
use Rattle.nxt_model.specs.Nbc.Forms.{Form, Formed, Open, Place, InData, InStruct, InThread, InSubroutine, Term, all_of, bad_at, brackets, by_commas, body_form, compared, comparison_word, data_form, declaration, declared, ends_empty, form_in, formed_from, formed_line, given_by, is_keyword, is_sign, is_word, labelled_form, least_bad, member_form, most_operands, named_struct, one_name, open_after, opens_data, ◌or_else◌, put_form, statement_form, statement_op, struct_form, struct_member, subroutine_form, term_of, terms_of, thread_form, two_names, type_name, with_list, with_member, with_term, with_terms}
use Rattle.nxt_asm_laws.proofs.Laws.Perhaps.{Perhaps, either, followed, list_fine, mapped, one_of, single_fine, term_fine, two_fine}

-- what a line of a place may be
abbrev pub Allowed : Place → Form → Type 0
Allowed InData forms.CloseData = ⊤
Allowed InData (forms.OpenStruct n) = ⊤
Allowed InData (forms.Declare n t g) = ⊤
Allowed (InStruct m h) forms.CloseStruct = ⊤
Allowed (InStruct m h) (forms.Member n t) = ⊤
Allowed InThread forms.Return = ⊥
Allowed InThread forms.CloseBlock = ⊤
Allowed InThread (forms.Precedes ts) = ⊤
Allowed InThread (forms.Follows ts) = ⊤
Allowed InThread forms.Exit = ⊤
Allowed InThread (forms.ExitTo t) = ⊤
Allowed InThread forms.OpenData = ⊤
Allowed InThread (forms.Call t) = ⊤
Allowed InThread (forms.Label l) = ⊤
Allowed InThread (forms.Do label op cmp ts) = ⊤
Allowed InSubroutine forms.Return = ⊤
Allowed InSubroutine forms.CloseBlock = ⊤
Allowed InSubroutine forms.OpenData = ⊤
Allowed InSubroutine (forms.Call t) = ⊤
Allowed InSubroutine (forms.Label l) = ⊤
Allowed InSubroutine (forms.Do label op cmp ts) = ⊤
Allowed p f = ⊥

-- statements and what else stands in blocks, where they pass a test
module _ (P : Form → Type 0) (dos : (label : Option (List ℕ)) (op : Op) (cmp : Cmp) (ts : List Term) → P (forms.Do label op cmp ts)) (labels : (l : List ℕ) → P (forms.Label l))
    (opens : P forms.OpenData) (calls : (t : Term) → P (forms.Call t)) where
  terms_fine : (label : Option (List ℕ)) (op : Op) (cmp : Cmp) (ts : List Term) → Perhaps P (with_terms label op cmp ts)
  terms_fine label op cmp ts = one_of P (takes (arity op) (length ts) && nat_le (length ts) most_operands) (Some (forms.Do label op cmp ts)) None (dos label op cmp ts) tt

  -- with a comparison, and with a label
  compared_fine : (label : Option (List ℕ)) (op : Op) (ps : List (List Word)) → Perhaps P (compared label op ps)
  compared_fine label op [] = tt
  compared_fine label op (first ∷ others) =
      followed P (λ cmp. option_and_then (with_terms label op cmp) (all_of (map term_of others))) (comparison_word first)
      (λ cmp. followed P (with_terms label op cmp) (all_of (map term_of others)) (λ ts. terms_fine label op cmp ts))

  statement_fine : (label : Option (List ℕ)) (ws : List Word) → Perhaps P (statement_form label ws)
  statement_fine label (Name n ∷ ws) =
      followed P (λ op. if has_comparison op then compared label op (by_commas ws) else option_and_then (with_terms label op Lt) (terms_of ws)) (statement_op n)
      (λ op. one_of P (has_comparison op) (compared label op (by_commas ws)) (option_and_then (with_terms label op Lt) (terms_of ws)) (compared_fine label op (by_commas ws))
      (followed P (with_terms label op Lt) (terms_of ws) (λ ts. terms_fine label op Lt ts)))
  statement_fine label _ = tt

  labelled_fine : (ws : List Word) → Perhaps P (labelled_form ws)
  labelled_fine (Name l ∷ Sign b ∷ []) = one_of P (b == 58) (Some (forms.Label l)) (statement_form None (Name l ∷ Sign b ∷ [])) (labels l) (statement_fine None (Name l ∷ Sign b ∷ []))
  labelled_fine (Name l ∷ Sign b ∷ w ∷ ws) =
      one_of P (b == 58) (statement_form (Some l) (w ∷ ws)) (statement_form None (Name l ∷ Sign b ∷ w ∷ ws)) (statement_fine (Some l) (w ∷ ws))
      (statement_fine None (Name l ∷ Sign b ∷ w ∷ ws))
  labelled_fine ws = statement_fine None ws

  -- a line of either kind of block
  body_fine : (ws : List Word) → Perhaps P (body_form ws)
  body_fine ws =
      either P (opens_data ws) (with_term (codes "call") forms.Call ws or_else labelled_form ws) (two_fine P (codes "dseg") (codes "segment") forms.OpenData opens ws)
      (either P (with_term (codes "call") forms.Call ws) (labelled_form ws) (term_fine P (codes "call") forms.Call calls ws) (labelled_fine ws))

-- declarations
declared_fine : (ws : List Word) → Perhaps (Allowed InData) (declared ws)
declared_fine (Name n ∷ Name t ∷ ws) =
    let P = Allowed InData in
    let b = brackets ws in
    one_of P (is_keyword t) None (option_map (forms.Declare n (type_name t b.0)) (given_by t b.0 b.1)) tt (mapped P (forms.Declare n (type_name t b.0)) (given_by t b.0 b.1) (λ g. tt))
declared_fine _ = tt

named_fine : (ws : List Word) → Perhaps (Allowed InData) (named_struct ws)
named_fine (Name n ∷ w ∷ []) = one_of (Allowed InData) (is_word w (codes "struct")) (Some (forms.OpenStruct n)) None tt tt
named_fine _ = tt

pub data_fine : (ws : List Word) → Perhaps (Allowed InData) (data_form ws)
data_fine ws =
    let P = Allowed InData in
    either P (two_names (codes "dseg") (codes "ends") forms.CloseData ws) (named_struct ws or_else declared ws)
    (two_fine P (codes "dseg") (codes "ends") forms.CloseData tt ws) (either P (named_struct ws) (declared ws) (named_fine ws) (declared_fine ws))

-- members
member_fine : (m : List ℕ) (h : Bool) (name t : List ℕ) (b : ℕ × List Word) → Perhaps (Allowed (InStruct m h)) (member_form name t b)
member_fine m h name t (arrays, []) = one_of (Allowed (InStruct m h)) (is_keyword t) None (Some (forms.Member name (type_name t arrays))) tt tt
member_fine m h name t (arrays, w ∷ ws) = tt

struct_member_fine : (m : List ℕ) (h : Bool) (ws : List Word) → Perhaps (Allowed (InStruct m h)) (struct_member ws)
struct_member_fine m h (Name n ∷ Name t ∷ ws) = member_fine m h n t (brackets ws)
struct_member_fine m h _ = tt

pub struct_fine : (m : List ℕ) (h : Bool) (ws : List Word) → Perhaps (Allowed (InStruct m h)) (struct_form m ws)
struct_fine m h ws =
    either (Allowed (InStruct m h)) (two_names m (codes "ends") forms.CloseStruct ws) (struct_member ws)
    (two_fine (Allowed (InStruct m h)) m (codes "ends") forms.CloseStruct tt ws) (struct_member_fine m h ws)

-- lines of threads and subroutines
pub thread_fine : (ws : List Word) → Perhaps (Allowed InThread) (thread_form ws)
thread_fine ws =
    let P = Allowed InThread in
    let body = body_fine P (λ label op cmp ts. tt) (λ l. tt) tt (λ t. tt) ws in
    let exits : Option Form = with_term (codes "exitto") forms.ExitTo ws or_else body_form ws in
    let lasts : Option Form = one_name (codes "exit") forms.Exit ws or_else exits in
    let follows : Option Form = with_list (codes "follows") forms.Follows ws or_else lasts in
    either P (one_name (codes "endt") forms.CloseBlock ws) (with_list (codes "precedes") forms.Precedes ws or_else follows)
    (single_fine P (codes "endt") forms.CloseBlock tt ws)
    (either P (with_list (codes "precedes") forms.Precedes ws) follows (list_fine P (codes "precedes") forms.Precedes (λ ts. tt) ws)
    (either P (with_list (codes "follows") forms.Follows ws) lasts (list_fine P (codes "follows") forms.Follows (λ ts. tt) ws)
    (either P (one_name (codes "exit") forms.Exit ws) exits (single_fine P (codes "exit") forms.Exit tt ws)
    (either P (with_term (codes "exitto") forms.ExitTo ws) (body_form ws) (term_fine P (codes "exitto") forms.ExitTo (λ t. tt) ws) body))))

pub subroutine_fine : (ws : List Word) → Perhaps (Allowed InSubroutine) (subroutine_form ws)
subroutine_fine ws =
    let P = Allowed InSubroutine in
    let body = body_fine P (λ label op cmp ts. tt) (λ l. tt) tt (λ t. tt) ws in
    either P (one_name (codes "ends") forms.CloseBlock ws) (one_name (codes "return") forms.Return ws or_else body_form ws)
    (single_fine P (codes "ends") forms.CloseBlock tt ws)
    (either P (one_name (codes "return") forms.Return ws) (body_form ws) (single_fine P (codes "return") forms.Return tt ws) body)
