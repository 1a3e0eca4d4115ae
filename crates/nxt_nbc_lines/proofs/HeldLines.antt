-- The forms of a text's lines, place by place, with their numbers held.
use Rattle.std.proofs.Common.{◌≡◌, ℕ, Bool, true, false, List, [], ◌∷◌, map, Option, Some, None, option_map, refl, ap, sym, ◌∙◌}
use Rattle.std.specs.Prelude.{◌==◌, ◌&&◌, if◌then◌else◌, codes, bytes_eq}
use Rattle.nxt_model.specs.Nbc.Tokens.{Word, Name, Quoted, Sign, Line, Token, lines_of}
use Rattle.nxt_model.specs.Nbc.Forms.{Term, Form, Include, OpenData, CloseData, OpenStruct, CloseStruct, OpenThread, OpenSubroutine, CloseBlock, Precedes, Follows, Exit, ExitTo, Return, Call, is_word, term_of, terms_of, InData, InStruct, InThread, InSubroutine, Open, ◌or_else◌, two_names, with_name, one_name, with_term, with_list, include_form, opens_data, top_form, named_struct, declared, data_form, struct_member, struct_form, body_form, thread_form, subroutine_form, labelled_form, form_in, open_after, Formed, bad_at, put_form, ends_empty, formed_line, formed_from, formed}
use Rattle.nxt_nbc_lines.specs.Held.{held_word, held_term, held_form, held_formed}
use Rattle.nxt_nbc_lines.specs.Lines.{held_line, held_lines}
use Rattle.nxt_nbc_lines.proofs.PlaceLaws.{exit_to, exits, follows, precedes}
use Rattle.nxt_nbc_lines.proofs.HeldForms.{held_words, held_option, word_held, term_held, terms_held, declaration_held, member_held, labelled_held}

-- ---- one after another

or_held : (o p x y : Option Form) → o ≡ held_option x → p ≡ held_option y → (o or_else p) ≡ held_option (x or_else y)
or_held o p None y e f = ap (λ q. q or_else p) e ∙ f
or_held o p (Some g) y e f = ap (λ q. q or_else p) e

if_held : (f : Form) (c d : Bool) → c ≡ d → held_form f ≡ f → (if c then Some f else None) ≡ held_option (if d then Some f else None)
if_held f c true e same = ap (λ b. if b then Some f else None) e ∙ ap (λ g. Some g) (sym same)
if_held f c false e same = ap (λ b. if b then Some f else None) e

two_held : (a b : List ℕ) (f : Form) → held_form f ≡ f → (ws : List Word) → two_names a b f (held_words ws) ≡ held_option (two_names a b f ws)
two_held a b f same [] = refl
two_held a b f same (v ∷ []) = refl
two_held a b f same (v ∷ w ∷ []) =
    if_held f (is_word (held_word v) a && is_word (held_word w) b) (is_word v a && is_word w b)
    (ap (λ c. c && is_word (held_word w) b) (word_held v a) ∙ ap (λ c. is_word v a && c) (word_held w b)) same
two_held a b f same (u ∷ v ∷ w ∷ ws) = refl

one_held : (a : List ℕ) (f : Form) → held_form f ≡ f → (ws : List Word) → one_name a f (held_words ws) ≡ held_option (one_name a f ws)
one_held a f same [] = refl
one_held a f same (w ∷ []) = if_held f (is_word (held_word w) a) (is_word w a) (word_held w a) same
one_held a f same (v ∷ w ∷ ws) = refl

name_held : (a : List ℕ) (f : List ℕ → Form) → ((n : List ℕ) → held_form (f n) ≡ f n) → (ws : List Word) → with_name a f (held_words ws) ≡ held_option (with_name a f ws)
name_held a f same (v ∷ Name n ∷ []) = if_held (f n) (is_word (held_word v) a) (is_word v a) (word_held v a) (same n)
name_held a f same _ = refl

behind_by : {A : Type 0} (h : A → A) (f : A → Form) → ((x : A) → held_form (f x) ≡ f (h x)) → (o p : Option A) (c d : Bool) → o ≡ option_map h p → c ≡ d
    → (if c then option_map f o else None) ≡ held_option (if d then option_map f p else None)
behind_by h f same o p c false e i = ap (λ b. if b then option_map f o else None) i
behind_by h f same o None c true e i = ap (λ b. if b then option_map f o else None) i ∙ ap (option_map f) e
behind_by h f same o (Some x) c true e i = ap (λ b. if b then option_map f o else None) i ∙ ap (option_map f) e ∙ ap (λ g. Some g) (sym (same x))

with_term_held : (a : List ℕ) (f : Term → Form) → ((t : Term) → held_form (f t) ≡ f (held_term t)) → (ws : List Word) → with_term a f (held_words ws) ≡ held_option (with_term a f ws)
with_term_held a f same [] = refl
with_term_held a f same (v ∷ ws) = behind_by held_term f same (term_of (held_words ws)) (term_of ws) (is_word (held_word v) a) (is_word v a) (term_held ws) (word_held v a)

with_list_held : (a : List ℕ) (f : List Term → Form) → ((ts : List Term) → held_form (f ts) ≡ f (map held_term ts)) → (ws : List Word) → with_list a f (held_words ws) ≡ held_option (with_list a f ws)
with_list_held a f same [] = refl
with_list_held a f same (v ∷ ws) = behind_by (map held_term) f same (terms_of (held_words ws)) (terms_of ws) (is_word (held_word v) a) (is_word v a) (terms_held ws) (word_held v a)

-- ---- places

include_held : (ws : List Word) → include_form (held_words ws) ≡ held_option (include_form ws)
include_held (Sign b ∷ w ∷ Quoted file ∷ []) =
    if_held Include ((b == 35) && is_word (held_word w) (codes "include") && bytes_eq file (codes "NXTDefs.h")) ((b == 35) && is_word w (codes "include") && bytes_eq file (codes "NXTDefs.h"))
    (ap (λ c. (b == 35) && c && bytes_eq file (codes "NXTDefs.h")) (word_held w (codes "include"))) refl
include_held _ = refl

opens_held : (ws : List Word) → opens_data (held_words ws) ≡ held_option (opens_data ws)
opens_held ws = two_held (codes "dseg") (codes "segment") OpenData refl ws

top_held : (ws : List Word) → top_form (held_words ws) ≡ held_option (top_form ws)
top_held ws =
    let vs = held_words ws in
    or_held (include_form vs) (opens_data vs or_else with_name (codes "thread") OpenThread vs or_else with_name (codes "subroutine") OpenSubroutine vs)
    (include_form ws) (opens_data ws or_else with_name (codes "thread") OpenThread ws or_else with_name (codes "subroutine") OpenSubroutine ws) (include_held ws)
    (or_held (opens_data vs) (with_name (codes "thread") OpenThread vs or_else with_name (codes "subroutine") OpenSubroutine vs)
    (opens_data ws) (with_name (codes "thread") OpenThread ws or_else with_name (codes "subroutine") OpenSubroutine ws) (opens_held ws)
    (or_held (with_name (codes "thread") OpenThread vs) (with_name (codes "subroutine") OpenSubroutine vs)
    (with_name (codes "thread") OpenThread ws) (with_name (codes "subroutine") OpenSubroutine ws)
    (name_held (codes "thread") OpenThread (λ n. refl) ws) (name_held (codes "subroutine") OpenSubroutine (λ n. refl) ws)))

struct_named : (ws : List Word) → named_struct (held_words ws) ≡ held_option (named_struct ws)
struct_named (Name n ∷ w ∷ []) = if_held (OpenStruct n) (is_word (held_word w) (codes "struct")) (is_word w (codes "struct")) (word_held w (codes "struct")) refl
struct_named _ = refl

declared_held : (ws : List Word) → declared (held_words ws) ≡ held_option (declared ws)
declared_held (Name n ∷ Name t ∷ ws) = declaration_held n t ws
declared_held _ = refl

data_held : (ws : List Word) → data_form (held_words ws) ≡ held_option (data_form ws)
data_held ws =
    let vs = held_words ws in
    or_held (two_names (codes "dseg") (codes "ends") CloseData vs) (named_struct vs or_else declared vs)
    (two_names (codes "dseg") (codes "ends") CloseData ws) (named_struct ws or_else declared ws) (two_held (codes "dseg") (codes "ends") CloseData refl ws)
    (or_held (named_struct vs) (declared vs) (named_struct ws) (declared ws) (struct_named ws) (declared_held ws))

struct_member_held : (ws : List Word) → struct_member (held_words ws) ≡ held_option (struct_member ws)
struct_member_held (Name n ∷ Name t ∷ ws) = member_held n t ws
struct_member_held _ = refl

struct_held : (n : List ℕ) (ws : List Word) → struct_form n (held_words ws) ≡ held_option (struct_form n ws)
struct_held n ws =
    or_held (two_names n (codes "ends") CloseStruct (held_words ws)) (struct_member (held_words ws)) (two_names n (codes "ends") CloseStruct ws) (struct_member ws)
    (two_held n (codes "ends") CloseStruct refl ws) (struct_member_held ws)

body_held : (ws : List Word) → body_form (held_words ws) ≡ held_option (body_form ws)
body_held ws =
    let vs = held_words ws in
    or_held (opens_data vs) (with_term (codes "call") Call vs or_else labelled_form vs) (opens_data ws) (with_term (codes "call") Call ws or_else labelled_form ws) (opens_held ws)
    (or_held (with_term (codes "call") Call vs) (labelled_form vs) (with_term (codes "call") Call ws) (labelled_form ws)
    (with_term_held (codes "call") Call (λ t. refl) ws) (labelled_held ws))

thread_held : (ws : List Word) → thread_form (held_words ws) ≡ held_option (thread_form ws)
thread_held ws =
    let vs = held_words ws in
    let to : exit_to vs ≡ held_option (exit_to ws) =
    or_held (with_term (codes "exitto") ExitTo vs) (body_form vs) (with_term (codes "exitto") ExitTo ws) (body_form ws) (with_term_held (codes "exitto") ExitTo (λ t. refl) ws) (body_held ws) in
    let exit : exits vs ≡ held_option (exits ws) =
    or_held (one_name (codes "exit") Exit vs) (exit_to vs) (one_name (codes "exit") Exit ws) (exit_to ws) (one_held (codes "exit") Exit refl ws) to in
    let behind : follows vs ≡ held_option (follows ws) =
    or_held (with_list (codes "follows") Follows vs) (exits vs) (with_list (codes "follows") Follows ws) (exits ws) (with_list_held (codes "follows") Follows (λ ts. refl) ws) exit in
    let before : precedes vs ≡ held_option (precedes ws) =
    or_held (with_list (codes "precedes") Precedes vs) (follows vs) (with_list (codes "precedes") Precedes ws) (follows ws) (with_list_held (codes "precedes") Precedes (λ ts. refl) ws) behind in
    or_held (one_name (codes "endt") CloseBlock vs) (precedes vs) (one_name (codes "endt") CloseBlock ws) (precedes ws) (one_held (codes "endt") CloseBlock refl ws) before

subroutine_held : (ws : List Word) → subroutine_form (held_words ws) ≡ held_option (subroutine_form ws)
subroutine_held ws =
    let vs = held_words ws in
    or_held (one_name (codes "ends") CloseBlock vs) (one_name (codes "return") Return vs or_else body_form vs)
    (one_name (codes "ends") CloseBlock ws) (one_name (codes "return") Return ws or_else body_form ws) (one_held (codes "ends") CloseBlock refl ws)
    (or_held (one_name (codes "return") Return vs) (body_form vs) (one_name (codes "return") Return ws) (body_form ws) (one_held (codes "return") Return refl ws) (body_held ws))

in_held : (o : Open) (ws : List Word) → form_in o (held_words ws) ≡ held_option (form_in o ws)
in_held [] ws = top_held ws
in_held ((l, InData) ∷ o) ws = data_held ws
in_held ((l, InStruct n has_member) ∷ o) ws = struct_held n ws
in_held ((l, InThread) ∷ o) ws = thread_held ws
in_held ((l, InSubroutine) ∷ o) ws = subroutine_held ws

-- ---- lines

after_held : (line : ℕ) (f : Form) (o : Open) → open_after line (held_form f) o ≡ open_after line f o
after_held line OpenData o = refl
after_held line _ o = refl

ends_held : (f : Form) (o : Open) → ends_empty (held_form f) o ≡ ends_empty f o
ends_held CloseStruct o = refl
ends_held _ o = refl

put_held : (line : ℕ) (f : Form) (more : Formed) (c : Bool)
    → (if c then bad_at line (put_form line (held_form f) (held_formed more)) else put_form line (held_form f) (held_formed more))
    ≡ held_formed (if c then bad_at line (put_form line f more) else put_form line f more)
put_held line f more true = refl
put_held line f more false = refl

line_held : (line : ℕ) (x : Option Form) (o : Open) (more less : Open → Formed) → ((p : Open) → less p ≡ held_formed (more p))
    → formed_line line (held_option x) o less ≡ held_formed (formed_line line x o more)
line_held line None o more less same = ap (bad_at line) (same o)
line_held line (Some f) o more less same =
    ap (λ c. if c then bad_at line (put_form line (held_form f) (less (open_after line (held_form f) o))) else put_form line (held_form f) (less (open_after line (held_form f) o))) (ends_held f o)
    ∙ ap (λ m. if ends_empty f o then bad_at line (put_form line (held_form f) m) else put_form line (held_form f) m)
    (ap less (after_held line f o) ∙ same (open_after line f o))
    ∙ put_held line f (more (open_after line f o)) (ends_empty f o)

from_held : (ls : List Line) (o : Open) → formed_from (map held_line ls) o ≡ held_formed (formed_from ls o)
from_held [] o = refl
from_held (l ∷ ls) o =
    ap (λ x. formed_line l.0 x o (formed_from (map held_line ls))) (in_held o l.1)
    ∙ line_held l.0 (form_in o l.1) o (formed_from ls) (formed_from (map held_line ls)) (from_held ls)

-- what lines with their numbers held give is what the lines give, with its numbers held
pub formed_held : (text : List ℕ) (ts : List Token) → formed (held_lines text ts) ≡ held_formed (formed (lines_of text ts))
formed_held text ts = from_held (lines_of text ts) []
