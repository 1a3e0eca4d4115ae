-- The lines of a text have as many operands as they may have.
use Rattle.std.proofs.Common.{◌≡◌, ℕ, zero, suc, ◌+◌, ◌<◌, ◌≤◌, Bool, true, false, ◌&&◌, ◌==◌, List, [], ◌∷◌, map, length, take, drop, get_or, Option, Some, None, Result, Ok, Err, subst, sym, refl, ap, ◌∙◌, arith}
use Rattle.std.specs.Prelude.{if◌then◌else◌, ⊤, nat_le, codes, bytes_eq, option_map, option_and_then}
use Rattle.std.proofs.lemmas.Bool.{and_parts, leb-true}
use Rattle.std.proofs.lemmas.List.{length-map}
use Rattle.std.proofs.lemmas.List.Splits.{length-slice_split}
use Rattle.std.proofs.lemmas.List.Sums.{count_by-le-length}
use Rattle.nxt_types.specs.Opcodes.{arity, takes, has_comparison}
use Rattle.nxt_types.specs.declared.instr.Op.{Op}
use Rattle.nxt_types.specs.declared.kind.Cmp.{Cmp}
use Rattle.nxt_types.specs.declared.kind.Cmp.TheVariants.{Lt}
use Rattle.nxt_model.specs.Nbc.Tokens.{Piece, Token, Word, Name, Quoted, Sign, Line, line_feeds, piece_at, put_token, tokens_after, tokens_from, tokens_of, put_word, word_of, lines_of}
use Rattle.nxt_model.specs.Nbc.Forms as forms
use Rattle.nxt_model.specs.Nbc.Forms.{Form, Formed, Open, InData, InStruct, InThread, InSubroutine, Term, all_of, by_commas, term_of, terms_of, is_sign, is_word, is_keyword, brackets, given_by, type_name, declaration, member_form, statement_op, most_operands, with_terms, comparison_word, compared, statement_form, labelled_form, ◌or_else◌, two_names, with_name, one_name, with_term, with_list, include_form, opens_data, top_form, named_struct, declared, data_form, struct_member, struct_form, body_form, thread_form, subroutine_form, form_in, open_after, ends_empty, put_form, bad_at, formed_line, formed_from, formed}
use Rattle.nxt_model.specs.Nbc.Text.{items_of, blocks_in}
use Rattle.nxt_nbc_lines.specs.Lines.{bytes_of}
use Rattle.nxt_nbc_lines.specs.Held.{held_term, held_form}
use Rattle.nxt_nbc_lines.specs.Firsts.{HasForms}
use Rattle.nxt_nbc_lines.specs.Seen.{form_seen, line_form_seen}
use Rattle.nxt_nbc_lines.specs.declared.forms.LineForm.{LineForm}
use Rattle.nxt_nbc_lines.specs.Whole.{most_in_text, IsWhole, AreWhole, AreLines, BlocksAreWhole}
use Rattle.nxt_nbc_lines.proofs.Laws.Ascending.{has_ascending}
use Rattle.nxt_nbc_lines.proofs.Laws.HeldSources.{held_forms}

-- ---- forms

abbrev Fine : Option Form → Type 0
Fine None = ⊤
Fine (Some f) = IsWhole f

one_of : (c : Bool) (a b : Option Form) → Fine a → Fine b → Fine (if c then a else b)
one_of true a b h k = h
one_of false a b h k = k

either : (a b : Option Form) → Fine a → Fine b → Fine (a or_else b)
either (Some f) b h k = h
either None b h k = k

then_fine : {A : Type 0} (g : A → Option Form) (o : Option A) → ((x : A) → Fine (g x)) → Fine (option_and_then g o)
then_fine g None h = tt
then_fine g (Some x) h = h x

mapped : {A : Type 0} (g : A → Form) (o : Option A) → ((x : A) → IsWhole (g x)) → Fine (option_map g o)
mapped g None h = tt
mapped g (Some x) h = h x

-- ---- operands

-- as many as pieces
abbrev AsMany : {A : Type 0} → ℕ → Option (List A) → Type 0
AsMany n None = ⊤
AsMany n (Some xs) = length xs ≡ n

one_more : {A : Type 0} (x : A) (n : ℕ) (o : Option (List A)) → AsMany n o → AsMany (suc n) (option_map (λ xs. x ∷ xs) o)
one_more x n None h = tt
one_more x n (Some xs) h = ap suc h

all_many : {A : Type 0} (os : List (Option A)) → AsMany (length os) (all_of os)
all_many [] = refl
all_many (None ∷ os) = tt
all_many (Some x ∷ os) = one_more x (length os) (all_of os) (all_many os)

pieces : (ws : List Word) → length (map term_of (by_commas ws)) ≤ suc (length ws)
pieces ws = omega (arith, length-map (by_commas ws) term_of, length-slice_split (is_sign 44) ws, count_by-le-length (is_sign 44) ws)

listed : (g : List Term → Form) (n m : ℕ) (o : Option (List Term)) → ((ts : List Term) → length ts ≤ most_in_text → IsWhole (g ts))
    → AsMany n o → n ≤ suc m → suc m ≤ most_in_text → Fine (option_map g o)
listed g n m None whole many le most = tt
listed g n m (Some ts) whole many le most = whole ts (omega (arith, many, le, most))

list_fine : (a : List ℕ) (g : List Term → Form) (ws : List Word) → ((ts : List Term) → length ts ≤ most_in_text → IsWhole (g ts)) → length ws ≤ most_in_text
    → Fine (with_list a g ws)
list_fine a g [] whole most = tt
list_fine a g (v ∷ ws) whole most =
    let ps : List (Option Term) = map term_of (by_commas ws) in
    one_of (is_word v a) (option_map g (terms_of ws)) None (listed g (length ps) (length ws) (all_of ps) whole (all_many ps) (pieces ws) most) tt

-- ---- statements

terms_fine : (label : Option (List ℕ)) (op : Op) (cmp : Cmp) (ts : List Term) → Fine (with_terms label op cmp ts)
terms_fine label op cmp ts = by (takes (arity op) (length ts) && nat_le (length ts) most_operands) refl
  where
    by : (c : Bool) → (takes (arity op) (length ts) && nat_le (length ts) most_operands) ≡ c → Fine (if c then Some (forms.Do label op cmp ts) else None)
    by true e =
        let both = and_parts (takes (arity op) (length ts)) (nat_le (length ts) most_operands) e in
        (both.0, omega (arith, leb-true (length ts) most_operands both.1))
    by false e = tt

compared_fine : (label : Option (List ℕ)) (op : Op) (ps : List (List Word)) → Fine (compared label op ps)
compared_fine label op [] = tt
compared_fine label op (first ∷ others) =
    then_fine (λ cmp. option_and_then (with_terms label op cmp) (all_of (map term_of others))) (comparison_word first)
    (λ cmp. then_fine (with_terms label op cmp) (all_of (map term_of others)) (terms_fine label op cmp))

statement_fine : (label : Option (List ℕ)) (ws : List Word) → Fine (statement_form label ws)
statement_fine label (Name n ∷ ws) =
    then_fine (λ op. if has_comparison op then compared label op (by_commas ws) else option_and_then (with_terms label op Lt) (terms_of ws)) (statement_op n)
    (λ op. one_of (has_comparison op) (compared label op (by_commas ws)) (option_and_then (with_terms label op Lt) (terms_of ws))
    (compared_fine label op (by_commas ws)) (then_fine (with_terms label op Lt) (terms_of ws) (terms_fine label op Lt)))
statement_fine label _ = tt

labelled_fine : (ws : List Word) → Fine (labelled_form ws)
labelled_fine (Name l ∷ Sign b ∷ []) = one_of (b == 58) (Some (forms.Label l)) (statement_form None (Name l ∷ Sign b ∷ [])) tt (statement_fine None (Name l ∷ Sign b ∷ []))
labelled_fine (Name l ∷ Sign b ∷ w ∷ ws) =
    one_of (b == 58) (statement_form (Some l) (w ∷ ws)) (statement_form None (Name l ∷ Sign b ∷ w ∷ ws)) (statement_fine (Some l) (w ∷ ws))
    (statement_fine None (Name l ∷ Sign b ∷ w ∷ ws))
labelled_fine ws = statement_fine None ws

-- ---- words of one form

two_fine : (a b : List ℕ) (f : Form) → IsWhole f → (ws : List Word) → Fine (two_names a b f ws)
two_fine a b f h (v ∷ w ∷ []) = one_of (is_word v a && is_word w b) (Some f) None h tt
two_fine a b f h _ = tt

name_fine : (a : List ℕ) (g : List ℕ → Form) → ((n : List ℕ) → IsWhole (g n)) → (ws : List Word) → Fine (with_name a g ws)
name_fine a g h (v ∷ Name n ∷ []) = one_of (is_word v a) (Some (g n)) None (h n) tt
name_fine a g h _ = tt

single_fine : (a : List ℕ) (f : Form) → IsWhole f → (ws : List Word) → Fine (one_name a f ws)
single_fine a f h (w ∷ []) = one_of (is_word w a) (Some f) None h tt
single_fine a f h _ = tt

term_fine : (a : List ℕ) (g : Term → Form) → ((t : Term) → IsWhole (g t)) → (ws : List Word) → Fine (with_term a g ws)
term_fine a g h [] = tt
term_fine a g h (v ∷ ws) = one_of (is_word v a) (option_map g (term_of ws)) None (mapped g (term_of ws) h) tt

include_fine : (ws : List Word) → Fine (include_form ws)
include_fine (Sign b ∷ w ∷ Quoted file ∷ []) =
    one_of ((b == 35) && is_word w (codes "include") && bytes_eq file (codes "NXTDefs.h")) (Some forms.Include) None tt tt
include_fine _ = tt

-- ---- declarations

declaration_fine : (name t : List ℕ) (ws : List Word) → Fine (declaration name t ws)
declaration_fine name t ws =
    let b = brackets ws in
    let g : Option Form = option_map (forms.Declare name (type_name t b.0)) (given_by t b.0 b.1) in
    one_of (is_keyword t) None g tt (mapped (forms.Declare name (type_name t b.0)) (given_by t b.0 b.1) (λ x. tt))

declared_fine : (ws : List Word) → Fine (declared ws)
declared_fine (Name n ∷ Name t ∷ ws) = declaration_fine n t ws
declared_fine _ = tt

member_fine : (name t : List ℕ) (b : ℕ × List Word) → Fine (member_form name t b)
member_fine name t (arrays, []) = one_of (is_keyword t) None (Some (forms.Member name (type_name t arrays))) tt tt
member_fine name t (arrays, w ∷ ws) = tt

struct_member_fine : (ws : List Word) → Fine (struct_member ws)
struct_member_fine (Name n ∷ Name t ∷ ws) = member_fine n t (brackets ws)
struct_member_fine _ = tt

named_fine : (ws : List Word) → Fine (named_struct ws)
named_fine (Name n ∷ w ∷ []) = one_of (is_word w (codes "struct")) (Some (forms.OpenStruct n)) None tt tt
named_fine _ = tt

-- ---- places

opens_fine : (ws : List Word) → Fine (opens_data ws)
opens_fine ws = two_fine (codes "dseg") (codes "segment") forms.OpenData tt ws

module _ (ws : List Word) (most : length ws ≤ most_in_text) where
  top_fine : Fine (top_form ws)
  top_fine =
      either (include_form ws) (opens_data ws or_else with_name (codes "thread") forms.OpenThread ws or_else with_name (codes "subroutine") forms.OpenSubroutine ws)
      (include_fine ws)
      (either (opens_data ws) (with_name (codes "thread") forms.OpenThread ws or_else with_name (codes "subroutine") forms.OpenSubroutine ws) (opens_fine ws)
      (either (with_name (codes "thread") forms.OpenThread ws) (with_name (codes "subroutine") forms.OpenSubroutine ws)
      (name_fine (codes "thread") forms.OpenThread (λ n. tt) ws) (name_fine (codes "subroutine") forms.OpenSubroutine (λ n. tt) ws)))

  data_fine : Fine (data_form ws)
  data_fine =
      either (two_names (codes "dseg") (codes "ends") forms.CloseData ws) (named_struct ws or_else declared ws)
      (two_fine (codes "dseg") (codes "ends") forms.CloseData tt ws) (either (named_struct ws) (declared ws) (named_fine ws) (declared_fine ws))

  struct_fine : (n : List ℕ) → Fine (struct_form n ws)
  struct_fine n =
      either (two_names n (codes "ends") forms.CloseStruct ws) (struct_member ws) (two_fine n (codes "ends") forms.CloseStruct tt ws) (struct_member_fine ws)

  body_fine : Fine (body_form ws)
  body_fine =
      either (opens_data ws) (with_term (codes "call") forms.Call ws or_else labelled_form ws) (opens_fine ws)
      (either (with_term (codes "call") forms.Call ws) (labelled_form ws) (term_fine (codes "call") forms.Call (λ t. tt) ws) (labelled_fine ws))

  exits_fine : Fine (one_name (codes "exit") forms.Exit ws or_else with_term (codes "exitto") forms.ExitTo ws or_else body_form ws)
  exits_fine =
      either (one_name (codes "exit") forms.Exit ws) (with_term (codes "exitto") forms.ExitTo ws or_else body_form ws) (single_fine (codes "exit") forms.Exit tt ws)
      (either (with_term (codes "exitto") forms.ExitTo ws) (body_form ws) (term_fine (codes "exitto") forms.ExitTo (λ t. tt) ws) body_fine)

  thread_fine : Fine (thread_form ws)
  thread_fine =
      let exits : Option Form = one_name (codes "exit") forms.Exit ws or_else with_term (codes "exitto") forms.ExitTo ws or_else body_form ws in
      either (one_name (codes "endt") forms.CloseBlock ws)
      (with_list (codes "precedes") forms.Precedes ws or_else with_list (codes "follows") forms.Follows ws or_else exits)
      (single_fine (codes "endt") forms.CloseBlock tt ws)
      (either (with_list (codes "precedes") forms.Precedes ws) (with_list (codes "follows") forms.Follows ws or_else exits)
      (list_fine (codes "precedes") forms.Precedes ws (λ ts le. le) most)
      (either (with_list (codes "follows") forms.Follows ws) exits (list_fine (codes "follows") forms.Follows ws (λ ts le. le) most) exits_fine))

  subroutine_fine : Fine (subroutine_form ws)
  subroutine_fine =
      either (one_name (codes "ends") forms.CloseBlock ws) (one_name (codes "return") forms.Return ws or_else body_form ws)
      (single_fine (codes "ends") forms.CloseBlock tt ws)
      (either (one_name (codes "return") forms.Return ws) (body_form ws) (single_fine (codes "return") forms.Return tt ws) body_fine)

  form_fine : (o : Open) → Fine (form_in o ws)
  form_fine [] = top_fine
  form_fine ((l, InData) ∷ o) = data_fine
  form_fine ((l, InStruct n has_member) ∷ o) = struct_fine n
  form_fine ((l, InThread) ∷ o) = thread_fine
  form_fine ((l, InSubroutine) ∷ o) = subroutine_fine

-- ---- lines

-- no line has more words
abbrev AreShort : ℕ → List Line → Type 0
AreShort n [] = ⊤
AreShort n (l ∷ ls) = (length l.1 ≤ n) × AreShort n ls

put_whole : (line : ℕ) (f : Form) (more : Formed) (c : Bool) → IsWhole f → AreWhole more.forms
    → AreWhole (if c then bad_at line (put_form line f more) else put_form line f more).forms
put_whole line f more true h hs = (h, hs)
put_whole line f more false h hs = (h, hs)

line_whole : (line : ℕ) (x : Option Form) (o : Open) (more : Open → Formed) → Fine x → ((p : Open) → AreWhole (more p).forms)
    → AreWhole (formed_line line x o more).forms
line_whole line None o more h hs = hs o
line_whole line (Some f) o more h hs = put_whole line f (more (open_after line f o)) (ends_empty f o) h (hs (open_after line f o))

from_whole : (ls : List Line) → AreShort most_in_text ls → (o : Open) → AreWhole (formed_from ls o).forms
from_whole [] short o = tt
from_whole (l ∷ ls) short o = line_whole l.0 (form_in o l.1) o (formed_from ls) (form_fine l.1 short.0 o) (from_whole ls short.1)

shorter : (m n : ℕ) (ls : List Line) → m ≤ n → AreShort m ls → AreShort n ls
shorter m n [] le short = tt
shorter m n (l ∷ ls) le short = (omega (arith, le, short.0), shorter m n ls le short.1)

put_short : (line : ℕ) (w : Word) (n : ℕ) (ls : List Line) → AreShort n ls → AreShort (suc n) (put_word line w ls)
put_short line w n [] short = (omega arith, tt)
put_short line w n (l ∷ ls) short = by (l.0 == line)
  where
    by : (c : Bool) → AreShort (suc n) (if c then (line, w ∷ l.1) ∷ ls else (line, w ∷ []) ∷ l ∷ ls)
    by true = (omega (arith, short.0), shorter n (suc n) ls (omega arith) short.1)
    by false = (omega arith, (omega (arith, short.0), shorter n (suc n) ls (omega arith) short.1))

lines_short : (text : List ℕ) (ts : List Token) → AreShort (length ts) (lines_of text ts)
lines_short text [] = tt
lines_short text (t ∷ ts) = put_short t.line (word_of (bytes_of text t)) (length ts) (lines_of text ts) (lines_short text ts)

-- a text has no more tokens than bytes
abbrev AreFew : ℕ → Result (List Token) ℕ → Type 0
AreFew n (Ok ts) = length ts ≤ n
AreFew n (Err line) = ⊤

put_few : (b : Bool) (t : Token) (n : ℕ) (r : Result (List Token) ℕ) → AreFew n r → AreFew (suc n) (put_token b t r)
put_few false t n (Ok ts) few = omega (arith, few)
put_few true t n (Ok ts) few = omega (arith, few)
put_few false t n (Err line) few = tt
put_few true t n (Err line) few = tt

after_few : (o : Option Piece) (line at n : ℕ) (text : List ℕ) (more : ℕ → ℕ → List ℕ → Result (List Token) ℕ)
    → ((l a : ℕ) (rest : List ℕ) → AreFew n (more l a rest)) → AreFew (suc n) (tokens_after o line at text more)
after_few None line at n text more few = tt
after_few (Some (b, len)) line at n text more few =
    put_few b (record { line = line; at = at; len = len }) n (more (line + line_feeds (take len text)) (at + len) (drop len text))
    (few (line + line_feeds (take len text)) (at + len) (drop len text))

few_tokens : (most line at : ℕ) (text : List ℕ) → AreFew most (tokens_from most line at text)
few_tokens most line at [] = omega arith
few_tokens zero line at (b ∷ rest) = tt
few_tokens (suc most) line at (b ∷ rest) = after_few (piece_at (b ∷ rest)) line at most (b ∷ rest) (tokens_from most) (few_tokens most)

-- the forms of a text are whole
forms_whole : (text : List ℕ) (ts : List Token) → length text ≤ most_in_text → tokens_of text ≡ Ok ts → AreWhole (formed (lines_of text ts)).forms
forms_whole text ts most e =
    let few : length ts ≤ length text = subst (AreFew (length text)) e (few_tokens (length text) 1 0 text) in
    from_whole (lines_of text ts) (shorter (length ts) most_in_text (lines_of text ts) (omega (arith, few, most)) (lines_short text ts)) []

-- ---- held forms

held_count : (ts : List Term) (n : ℕ) → length ts ≤ n → length (map held_term ts) ≤ n
held_count ts n le = omega (arith, le, length-map ts held_term)

held_whole : (f : Form) → IsWhole f → IsWhole (held_form f)
held_whole (forms.Do label op cmp ts) h = (ap (takes (arity op)) (length-map ts held_term) ∙ h.0, held_count ts most_in_text h.1)
held_whole (forms.Precedes ts) h = held_count ts most_in_text h
held_whole (forms.Follows ts) h = held_count ts most_in_text h
held_whole (forms.Declare n t g) h = tt
held_whole (forms.ExitTo t) h = tt
held_whole (forms.Call t) h = tt
held_whole f h = h

all_held : (fs : List (ℕ × Form)) → AreWhole fs → AreWhole (held_forms fs)
all_held [] whole = tt
all_held ((l, f) ∷ fs) whole = (held_whole f whole.0, all_held fs whole.1)

-- ---- how many

put_few_forms : (line n : ℕ) (f : Form) (more : Formed) (c : Bool) → length more.forms ≤ n
    → length (if c then bad_at line (put_form line f more) else put_form line f more).forms ≤ suc n
put_few_forms line n f more true le = omega (arith, le)
put_few_forms line n f more false le = omega (arith, le)

line_few : (line n : ℕ) (x : Option Form) (o : Open) (more : Open → Formed) → ((p : Open) → length (more p).forms ≤ n)
    → length (formed_line line x o more).forms ≤ suc n
line_few line n None o more few = let le = few o in omega (arith, le)
line_few line n (Some f) o more few = put_few_forms line n f (more (open_after line f o)) (ends_empty f o) (few (open_after line f o))

from_few : (ls : List Line) (o : Open) → length (formed_from ls o).forms ≤ length ls
from_few [] o = omega arith
from_few (l ∷ ls) o = line_few l.0 (length ls) (form_in o l.1) o (formed_from ls) (from_few ls)

put_count : (line : ℕ) (w : Word) (ls : List Line) → length (put_word line w ls) ≤ suc (length ls)
put_count line w [] = omega arith
put_count line w (l ∷ ls) = by (l.0 == line)
  where
    by : (c : Bool) → length (if c then (line, w ∷ l.1) ∷ ls else (line, w ∷ []) ∷ l ∷ ls) ≤ suc (suc (length ls))
    by true = omega arith
    by false = omega arith

lines_count : (text : List ℕ) (ts : List Token) → length (lines_of text ts) ≤ length ts
lines_count text [] = omega arith
lines_count text (t ∷ ts) =
    let one = put_count t.line (word_of (bytes_of text t)) (lines_of text ts) in
    let more = lines_count text ts in
    omega (arith, one, more)

held_few : (fs : List (ℕ × Form)) → length (held_forms fs) ≡ length fs
held_few fs = length-map fs (λ l. (l.0, held_form l.1))

forms_few : (text : List ℕ) (ts : List Token) → length text ≤ most_in_text → tokens_of text ≡ Ok ts → length (held_forms (formed (lines_of text ts)).forms) ≤ most_in_text
forms_few text ts most e =
    let few : length ts ≤ length text = subst (AreFew (length text)) e (few_tokens (length text) 1 0 text) in
    omega (arith, held_few (formed (lines_of text ts)).forms, from_few (lines_of text ts) [], lines_count text ts, few, most)

-- what holds of the lines of a text that the program holds
pub has_lines : (text : List ℕ) (ts : List Token) (fd : Formed) → length text ≤ most_in_text → HasForms text ts fd → AreLines fd.forms
has_lines text ts fd most h = record {
  ascend = has_ascending text ts fd h;
  whole = subst (λ d. AreWhole d.forms) (sym h.1) (all_held (formed (lines_of text ts)).forms (forms_whole text ts most h.0));
  few = subst (λ d. length d.forms ≤ most_in_text) (sym h.1) (forms_few text ts most h.0);
}

-- ---- blocks

items_whole : (fs : List (ℕ × Form)) → AreWhole fs → AreWhole (items_of fs)
items_whole [] whole = tt
items_whole ((l, forms.CloseBlock) ∷ fs) whole = (tt, tt)
items_whole ((l, f) ∷ fs) whole = (whole.0, items_whole fs whole.1)

items_few : (fs : List (ℕ × Form)) → length (items_of fs) ≤ length fs
items_few [] = omega arith
items_few ((l, forms.CloseBlock) ∷ fs) = omega arith
items_few ((l, f) ∷ fs) = let more = items_few fs in omega (arith, more)

blocks_by : (fs : List (ℕ × Form)) → AreWhole fs → length fs ≤ most_in_text → BlocksAreWhole (blocks_in fs)
blocks_by [] whole few = tt
blocks_by ((l, forms.OpenThread name) ∷ fs) whole few =
    (items_whole fs whole.1, omega (arith, few, items_few fs), blocks_by fs whole.1 (omega (arith, few)))
blocks_by ((l, forms.OpenSubroutine name) ∷ fs) whole few =
    (items_whole fs whole.1, omega (arith, few, items_few fs), blocks_by fs whole.1 (omega (arith, few)))
blocks_by ((l, f) ∷ fs) whole few = blocks_by fs whole.1 (omega (arith, few))

-- and of those of its blocks
pub blocks_whole : (fs : List (ℕ × Form)) → AreLines fs → BlocksAreWhole (blocks_in fs)
blocks_whole fs lines = blocks_by fs lines.whole lines.few

-- ---- one line of many

pub line_whole_at : (ls : List LineForm) (i : ℕ) (l : LineForm) → AreWhole (map line_form_seen ls) → i < length ls → l ≡ get_or ls i l → IsWhole (form_seen l.form)
line_whole_at [] i l h lt at = absurd (omega (arith, lt))
line_whole_at (x ∷ ls) zero l h lt at = subst (λ y. IsWhole (form_seen y.form)) (sym at) h.0
line_whole_at (x ∷ ls) (suc i) l h lt at = line_whole_at ls i l h.1 (omega (arith, lt)) at
