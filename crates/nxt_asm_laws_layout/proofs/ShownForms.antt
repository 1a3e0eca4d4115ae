-- The forms of a text's lines have texts of shown bytes.
use Rattle.std.proofs.Common.{ℕ, zero, suc, ◌+◌, Bool, true, false, cond, ◌&&◌, ◌==◌, List, [], ◌∷◌, map, Option, Some, None}
use Rattle.std.specs.Prelude.{⊤, ℤ, if◌then◌else◌, codes, bytes_eq, option_and_then, option_map}
use Rattle.std.specs.List.{onto_first, slice_split}
use Rattle.nxt_types.specs.Opcodes.{has_comparison}
use Rattle.nxt_types.specs.declared.instr.Op.{Op}
use Rattle.nxt_types.specs.declared.kind.Cmp.{Cmp}
use Rattle.nxt_types.specs.declared.kind.Cmp.TheVariants.{Lt}
use Rattle.nxt_model.specs.Nbc.Tokens.{Line, Word, Name, Number, Quoted, Sign}
use Rattle.nxt_model.specs.Nbc.Forms as forms
use Rattle.nxt_model.specs.Nbc.Forms.{Form, Formed, Given, Open, InData, InStruct, InThread, InSubroutine, Term, Named, Literal, Quote, all_of, by_commas, term_of, terms_of, numbers_of, path_of, is_sign, is_word, is_keyword, brackets, given_by, type_name, member_form, statement_op, with_terms, comparison_word, compared, statement_form, labelled_form, ◌or_else◌, two_names, with_name, one_name, with_term, with_list, include_form, opens_data, top_form, named_struct, declared, data_form, struct_member, struct_form, body_form, thread_form, subroutine_form, form_in, open_after, ends_empty, put_form, bad_at, formed_line, formed_from}
use Rattle.nxt_facts.proofs.Each.{Each, each_mapped, each_then}
use Rattle.nxt_asm_laws.proofs.Laws.Perhaps.{Perhaps, either, list_fine, name_fine, one_of, single_fine, term_fine, two_fine}
use Rattle.nxt_asm_laws_layout.proofs.TextValues.{AreSmallBytes, GivenBytes}
use Rattle.nxt_asm_laws_layout.proofs.ShownWords.{LineOk, WordOk}

abbrev pub TermOk : Term → Type 0
TermOk (Quote s) = AreSmallBytes s
TermOk t = ⊤

abbrev pub FormOk : Form → Type 0
FormOk (forms.Do label op cmp ts) = Each TermOk ts
FormOk (forms.Declare n t g) = GivenBytes g
FormOk f = ⊤

abbrev Maybe : {A : Type 0} → (A → Type 0) → Option A → Type 0
Maybe P None = ⊤
Maybe P (Some x) = P x

followed : {A : Type 0} (Q : A → Type 0) (k : A → Option Form) (o : Option A) → Maybe Q o → ((x : A) → Q x → Perhaps FormOk (k x)) → Perhaps FormOk (option_and_then k o)
followed Q k None q h = tt
followed Q k (Some x) q h = h x q

-- ---- terms

named_ok : (o : Option (List (List ℕ))) → Maybe TermOk (option_map Named o)
named_ok None = tt
named_ok (Some ns) = tt

term_ok : (ws : List Word) → Each WordOk ws → Maybe TermOk (term_of ws)
term_ok (Number z ∷ []) h = tt
term_ok (Quoted s ∷ []) h = h.0
term_ok ws h = named_ok (path_of ws)

all_ok : (os : List (Option Term)) → Each (Maybe TermOk) os → Maybe (Each TermOk) (all_of os)
all_ok [] h = tt
all_ok (None ∷ os) h = tt
all_ok (Some t ∷ os) h = by (all_of os) (all_ok os h.1)
  where
    by : (o : Option (List Term)) → Maybe (Each TermOk) o → Maybe (Each TermOk) (option_map (λ xs. t ∷ xs) o)
    by None k = tt
    by (Some ts) k = (h.0, k)

onto_ok : (w : Word) (parts : List (List Word)) → WordOk w → Each (Each WordOk) parts → Each (Each WordOk) (onto_first w parts)
onto_ok w [] h hs = ((h, tt), tt)
onto_ok w (part ∷ parts) h hs = ((h, hs.0), hs.1)

pieces_ok : (p : Word → Bool) (ws : List Word) → Each WordOk ws → Each (Each WordOk) (slice_split p ws)
pieces_ok p [] h = (tt, tt)
pieces_ok p (w ∷ ws) h = by (p w) (pieces_ok p ws h.1)
  where
    by : (c : Bool) → Each (Each WordOk) (slice_split p ws) → Each (Each WordOk) (cond c ([] ∷ slice_split p ws) (onto_first w (slice_split p ws)))
    by true rest = (tt, rest)
    by false rest = onto_ok w (slice_split p ws) h.0 rest

list_ok : (ps : List (List Word)) → Each (Each WordOk) ps → Maybe (Each TermOk) (all_of (map term_of ps))
list_ok ps h = all_ok (map term_of ps) (each_mapped (Maybe TermOk) term_of ps (each_then (Each WordOk) (λ ws. Maybe TermOk (term_of ws)) term_ok ps h))

terms_ok : (ws : List Word) → Each WordOk ws → Maybe (Each TermOk) (terms_of ws)
terms_ok ws h = list_ok (by_commas ws) (pieces_ok (is_sign 44) ws h)

-- ---- statements

with_ok : (label : Option (List ℕ)) (op : Op) (cmp : Cmp) (ts : List Term) → Each TermOk ts → Perhaps FormOk (with_terms label op cmp ts)
with_ok label op cmp ts h = one_of FormOk _ (Some (forms.Do label op cmp ts)) None h tt

any_cmp : (o : Option Cmp) → Maybe (λ (c : Cmp). Unit {0}) o
any_cmp None = tt
any_cmp (Some c) = tt

compared_ok : (label : Option (List ℕ)) (op : Op) (ps : List (List Word)) → Each (Each WordOk) ps → Perhaps FormOk (compared label op ps)
compared_ok label op [] h = tt
compared_ok label op (first ∷ others) h =
    followed (λ (c : Cmp). Unit {0}) (λ cmp. option_and_then (with_terms label op cmp) (all_of (map term_of others))) (comparison_word first) (any_cmp (comparison_word first))
    (λ cmp _. followed (Each TermOk) (with_terms label op cmp) (all_of (map term_of others)) (list_ok others h.1) (with_ok label op cmp))

any_op : (o : Option Op) → Maybe (λ (c : Op). Unit {0}) o
any_op None = tt
any_op (Some c) = tt

statement_ok : (label : Option (List ℕ)) (ws : List Word) → Each WordOk ws → Perhaps FormOk (statement_form label ws)
statement_ok label (Name n ∷ ws) h =
    followed (λ (c : Op). Unit {0}) (λ op. if has_comparison op then compared label op (by_commas ws) else option_and_then (with_terms label op Lt) (terms_of ws)) (statement_op n) (any_op (statement_op n))
    (λ op _. one_of FormOk (has_comparison op) (compared label op (by_commas ws)) (option_and_then (with_terms label op Lt) (terms_of ws))
    (compared_ok label op (by_commas ws) (pieces_ok (is_sign 44) ws h.1)) (followed (Each TermOk) (with_terms label op Lt) (terms_of ws) (terms_ok ws h.1) (with_ok label op Lt)))
statement_ok label _ h = tt

labelled_ok : (ws : List Word) → Each WordOk ws → Perhaps FormOk (labelled_form ws)
labelled_ok (Name l ∷ Sign b ∷ []) h = one_of FormOk (b == 58) (Some (forms.Label l)) (statement_form None (Name l ∷ Sign b ∷ [])) tt (statement_ok None (Name l ∷ Sign b ∷ []) h)
labelled_ok (Name l ∷ Sign b ∷ w ∷ ws) h =
    one_of FormOk (b == 58) (statement_form (Some l) (w ∷ ws)) (statement_form None (Name l ∷ Sign b ∷ w ∷ ws)) (statement_ok (Some l) (w ∷ ws) h.1.1)
    (statement_ok None (Name l ∷ Sign b ∷ w ∷ ws) h)
labelled_ok ws h = statement_ok None ws h

-- ---- declarations

abbrev one_front : Bool → ℕ × List Word → ℕ × List Word → ℕ × List Word
one_front c a b = if c then a else b

brackets_ok : (ws : List Word) → Each WordOk ws → Each WordOk (brackets ws).1
brackets_ok (Sign a ∷ Sign b ∷ ws) h = by ((a == 91) && (b == 93)) (brackets_ok ws h.1.1)
  where
    by : (c : Bool) → Each WordOk (brackets ws).1 → Each WordOk (one_front c (let more = brackets ws in (more.0 + 1, more.1)) (0, Sign a ∷ Sign b ∷ ws)).1
    by true rest = rest
    by false rest = h
brackets_ok ws h = h

many_ok : (o : Option (List ℤ)) → Maybe GivenBytes (option_map forms.Many o)
many_ok None = tt
many_ok (Some zs) = tt

given_ok : (t : List ℕ) (n : ℕ) (ws : List Word) → Each WordOk ws → Maybe GivenBytes (given_by t n ws)
given_ok t n [] h = tt
given_ok t zero (Number z ∷ []) h = tt
given_ok t (suc zero) (Quoted s ∷ []) h = h.0
given_ok t (suc zero) ws h = many_ok (numbers_of ws)
given_ok t _ ws h = tt

declare_ok : (n t : List ℕ) (k : ℕ) (o : Option Given) → Maybe GivenBytes o → Perhaps FormOk (option_map (forms.Declare n (type_name t k)) o)
declare_ok n t k None h = tt
declare_ok n t k (Some x) h = h

declared_ok : (ws : List Word) → Each WordOk ws → Perhaps FormOk (declared ws)
declared_ok (Name n ∷ Name t ∷ ws) h =
    let b = brackets ws in
    one_of FormOk (is_keyword t) None (option_map (forms.Declare n (type_name t b.0)) (given_by t b.0 b.1)) tt
    (declare_ok n t b.0 (given_by t b.0 b.1) (given_ok t b.0 b.1 (brackets_ok ws h.1.1)))
declared_ok _ h = tt

include_ok : (ws : List Word) → Perhaps FormOk (include_form ws)
include_ok (Sign b ∷ w ∷ Quoted file ∷ []) =
    one_of FormOk ((b == 35) && is_word w (codes "include") && bytes_eq file (codes "NXTDefs.h")) (Some forms.Include) None tt tt
include_ok _ = tt

struct_named_ok : (ws : List Word) → Perhaps FormOk (named_struct ws)
struct_named_ok (Name n ∷ w ∷ []) = one_of FormOk (is_word w (codes "struct")) (Some (forms.OpenStruct n)) None tt tt
struct_named_ok _ = tt

member_ok : (name t : List ℕ) (b : ℕ × List Word) → Perhaps FormOk (member_form name t b)
member_ok name t (arrays, []) = one_of FormOk (is_keyword t) None (Some (forms.Member name (type_name t arrays))) tt tt
member_ok name t (arrays, w ∷ ws) = tt

struct_member_ok : (ws : List Word) → Perhaps FormOk (struct_member ws)
struct_member_ok (Name n ∷ Name t ∷ ws) = member_ok n t (brackets ws)
struct_member_ok _ = tt

-- ---- places

module _ (ws : List Word) (h : Each WordOk ws) where
  opens_ok : Perhaps FormOk (opens_data ws)
  opens_ok = two_fine FormOk (codes "dseg") (codes "segment") forms.OpenData tt ws

  top_ok : Perhaps FormOk (top_form ws)
  top_ok =
      either FormOk (include_form ws) _ (include_ok ws)
      (either FormOk (opens_data ws) _ opens_ok
      (either FormOk (with_name (codes "thread") forms.OpenThread ws) _
      (name_fine FormOk (codes "thread") forms.OpenThread (λ n. tt) ws) (name_fine FormOk (codes "subroutine") forms.OpenSubroutine (λ n. tt) ws)))

  data_ok : Perhaps FormOk (data_form ws)
  data_ok =
      either FormOk (two_names (codes "dseg") (codes "ends") forms.CloseData ws) _
      (two_fine FormOk (codes "dseg") (codes "ends") forms.CloseData tt ws) (either FormOk (named_struct ws) (declared ws) (struct_named_ok ws) (declared_ok ws h))

  struct_ok : (n : List ℕ) → Perhaps FormOk (struct_form n ws)
  struct_ok n = either FormOk (two_names n (codes "ends") forms.CloseStruct ws) (struct_member ws) (two_fine FormOk n (codes "ends") forms.CloseStruct tt ws) (struct_member_ok ws)

  body_ok : Perhaps FormOk (body_form ws)
  body_ok =
      either FormOk (opens_data ws) _ opens_ok
      (either FormOk (with_term (codes "call") forms.Call ws) (labelled_form ws) (term_fine FormOk (codes "call") forms.Call (λ t. tt) ws) (labelled_ok ws h))

  thread_ok : Perhaps FormOk (thread_form ws)
  thread_ok =
      either FormOk (one_name (codes "endt") forms.CloseBlock ws) _ (single_fine FormOk (codes "endt") forms.CloseBlock tt ws)
      (either FormOk (with_list (codes "precedes") forms.Precedes ws) _ (list_fine FormOk (codes "precedes") forms.Precedes (λ ts. tt) ws)
      (either FormOk (with_list (codes "follows") forms.Follows ws) _ (list_fine FormOk (codes "follows") forms.Follows (λ ts. tt) ws)
      (either FormOk (one_name (codes "exit") forms.Exit ws) _ (single_fine FormOk (codes "exit") forms.Exit tt ws)
      (either FormOk (with_term (codes "exitto") forms.ExitTo ws) (body_form ws) (term_fine FormOk (codes "exitto") forms.ExitTo (λ t. tt) ws) body_ok))))

  subroutine_ok : Perhaps FormOk (subroutine_form ws)
  subroutine_ok =
      either FormOk (one_name (codes "ends") forms.CloseBlock ws) _ (single_fine FormOk (codes "ends") forms.CloseBlock tt ws)
      (either FormOk (one_name (codes "return") forms.Return ws) (body_form ws) (single_fine FormOk (codes "return") forms.Return tt ws) body_ok)

  form_ok : (o : Open) → Perhaps FormOk (form_in o ws)
  form_ok [] = top_ok
  form_ok ((l, InData) ∷ o) = data_ok
  form_ok ((l, InStruct n has) ∷ o) = struct_ok n
  form_ok ((l, InThread) ∷ o) = thread_ok
  form_ok ((l, InSubroutine) ∷ o) = subroutine_ok

-- ---- texts

abbrev pub LineFormOk : ℕ × Form → Type 0
LineFormOk l = FormOk l.1

line_ok : (line : ℕ) (x : Option Form) (o : Open) (more : Open → Formed) → Perhaps FormOk x → ((q : Open) → Each LineFormOk (more q).forms) → Each LineFormOk (formed_line line x o more).forms
line_ok line None o more h hs = hs o
line_ok line (Some f) o more h hs = by (ends_empty f o)
  where
    next : Formed
    next = put_form line f (more (open_after line f o))

    by : (c : Bool) → Each LineFormOk (if c then bad_at line next else next).forms
    by true = (h, hs (open_after line f o))
    by false = (h, hs (open_after line f o))

-- the forms of lines with shown texts have shown texts
pub forms_ok : (ls : List Line) (o : Open) → Each LineOk ls → Each LineFormOk (formed_from ls o).forms
forms_ok [] o h = tt
forms_ok (l ∷ ls) o h = line_ok l.0 (form_in o l.1) o (formed_from ls) (form_ok l.1 h.0 o) (λ q. forms_ok ls q h.1)
