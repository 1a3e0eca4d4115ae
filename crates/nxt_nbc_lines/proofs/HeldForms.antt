-- The forms of lines whose numbers are held are the lines' forms with their numbers held.
use Rattle.std.proofs.Common.{◌≡◌, ℕ, zero, suc, ◌+◌, Bool, true, false, List, [], ◌∷◌, length, map, cond, Option, Some, None, option_map, refl, ap, ◌∙◌, ℤ}
use Rattle.std.specs.Prelude.{◌==◌, ◌&&◌, if◌then◌else◌, nat_le, option_and_then}
use Rattle.std.specs.List.{onto_first}
use Rattle.std.proofs.lemmas.List.{length-map}
use Rattle.nxt_types.specs.declared.instr.Op.{Op}
use Rattle.nxt_types.specs.declared.kind.Cmp.{Cmp}
use Rattle.nxt_types.specs.declared.kind.Cmp.TheVariants.{Lt}
use Rattle.nxt_types.specs.Opcodes.{arity, takes, has_comparison}
use Rattle.nxt_model.specs.Nbc.Tokens.{Word, Name, Number, Quoted, Sign}
use Rattle.nxt_model.specs.Nbc.Forms.{Term, Named, Given, Many, Form, Declare, Member, Label, Do, is_sign, is_word, all_of, by_commas, path_of, term_of, terms_of, number_of, numbers_of, brackets, is_keyword, given_by, type_name, declaration, member_form, statement_op, most_operands, with_terms, comparison_word, compared, statement_form, labelled_form}
use Rattle.nxt_nbc_lines.specs.Held.{held, held_word, held_term, held_given, held_form}

abbrev pub held_words : List Word → List Word
held_words ws = map held_word ws

abbrev pub held_option : Option Form → Option Form
held_option o = option_map held_form o

pub word_held : (w : Word) (n : List ℕ) → is_word (held_word w) n ≡ is_word w n
word_held (Name m) n = refl
word_held (Number z) n = refl
word_held (Quoted s) n = refl
word_held (Sign b) n = refl

sign_held : (b : ℕ) (w : Word) → is_sign b (held_word w) ≡ is_sign b w
sign_held b (Name m) = refl
sign_held b (Number z) = refl
sign_held b (Quoted s) = refl
sign_held b (Sign c) = refl

-- ---- pieces

onto_held : (w : Word) (parts : List (List Word)) → onto_first (held_word w) (map held_words parts) ≡ map held_words (onto_first w parts)
onto_held w [] = refl
onto_held w (p ∷ ps) = refl

split_by : (w : Word) (parts : List (List Word)) (c : Bool)
    → cond c ([] ∷ map held_words parts) (onto_first (held_word w) (map held_words parts)) ≡ map held_words (cond c ([] ∷ parts) (onto_first w parts))
split_by w parts true = refl
split_by w parts false = onto_held w parts

commas_held : (ws : List Word) → by_commas (held_words ws) ≡ map held_words (by_commas ws)
commas_held [] = refl
commas_held (w ∷ ws) =
    ap (λ c. cond c ([] ∷ by_commas (held_words ws)) (onto_first (held_word w) (by_commas (held_words ws)))) (sign_held 44 w)
    ∙ ap (λ ps. cond (is_sign 44 w) ([] ∷ ps) (onto_first (held_word w) ps)) (commas_held ws)
    ∙ split_by w (by_commas ws) (is_sign 44 w)

push_held : {A B : Type 0} (g : A → B) (x : A) (r : Option (List A)) → option_map (λ ys. g x ∷ ys) (option_map (map g) r) ≡ option_map (map g) (option_map (λ xs. x ∷ xs) r)
push_held g x None = refl
push_held g x (Some xs) = refl

all_by : {A B : Type 0} (g : A → B) (o : Option A) (os : List (Option A)) (qs : List (Option B)) → all_of qs ≡ option_map (map g) (all_of os)
    → all_of (option_map g o ∷ qs) ≡ option_map (map g) (all_of (o ∷ os))
all_by g None os qs e = refl
all_by g (Some x) os qs e = ap (option_map (λ ys. g x ∷ ys)) e ∙ push_held g x (all_of os)

all_held : {P A B : Type 0} (h : P → P) (g : A → B) (f : P → Option A) (k : P → Option B) → ((p : P) → k (h p) ≡ option_map g (f p)) → (ps : List P)
    → all_of (map k (map h ps)) ≡ option_map (map g) (all_of (map f ps))
all_held h g f k same [] = refl
all_held h g f k same (p ∷ ps) =
    ap (λ o. all_of (o ∷ map k (map h ps))) (same p) ∙ all_by g (f p) (map f ps) (map k (map h ps)) (all_held h g f k same ps)

-- ---- operands

path_by : (n : List ℕ) (c : Bool) (o p : Option (List (List ℕ))) → o ≡ p → (if c then option_map (λ ns. n ∷ ns) o else None) ≡ (if c then option_map (λ ns. n ∷ ns) p else None)
path_by n c o p e = ap (λ q. if c then option_map (λ ns. n ∷ ns) q else None) e

path_held : (ws : List Word) → path_of (held_words ws) ≡ path_of ws
path_held (Name n ∷ []) = refl
path_held (Name n ∷ Sign b ∷ ws) = path_by n (b == 46) (path_of (held_words ws)) (path_of ws) (path_held ws)
path_held _ = refl

named_held : (o : Option (List (List ℕ))) → option_map Named o ≡ option_map held_term (option_map Named o)
named_held None = refl
named_held (Some ns) = refl

pub term_held : (ws : List Word) → term_of (held_words ws) ≡ option_map held_term (term_of ws)
term_held (Number z ∷ []) = refl
term_held (Quoted s ∷ []) = refl
term_held ws = ap (option_map Named) (path_held ws) ∙ named_held (path_of ws)

all_terms : (ps : List (List Word)) → all_of (map term_of (map held_words ps)) ≡ option_map (map held_term) (all_of (map term_of ps))
all_terms ps = all_held held_words held_term term_of term_of term_held ps

pub terms_held : (ws : List Word) → terms_of (held_words ws) ≡ option_map (map held_term) (terms_of ws)
terms_held ws = ap (λ ps. all_of (map term_of ps)) (commas_held ws) ∙ all_terms (by_commas ws)

number_held : (ws : List Word) → number_of (held_words ws) ≡ option_map held (number_of ws)
number_held (Number z ∷ []) = refl
number_held _ = refl

numbers_held : (ws : List Word) → numbers_of (held_words ws) ≡ option_map (map held) (numbers_of ws)
numbers_held ws = ap (λ ps. all_of (map number_of ps)) (commas_held ws) ∙ all_held held_words held number_of number_of number_held (by_commas ws)

-- ---- declarations

-- pairs of brackets, and what follows them
abbrev none_in : List Word → ℕ × List Word
none_in ws = (0, ws)

abbrev one_more : ℕ × List Word → ℕ × List Word
one_more m = (m.0 + 1, m.1)

abbrev held_rest : ℕ × List Word → ℕ × List Word
held_rest m = (m.0, held_words m.1)

bracket_by : (a b : ℕ) (ws : List Word) (c : Bool) → brackets (held_words ws) ≡ held_rest (brackets ws)
    → (if c then one_more (brackets (held_words ws)) else none_in (Sign a ∷ Sign b ∷ held_words ws)) ≡ held_rest (if c then one_more (brackets ws) else none_in (Sign a ∷ Sign b ∷ ws))
bracket_by a b ws true e = ap one_more e
bracket_by a b ws false e = refl

brackets_held : (ws : List Word) → brackets (held_words ws) ≡ held_rest (brackets ws)
brackets_held (Sign a ∷ Sign b ∷ ws) = bracket_by a b ws ((a == 91) && (b == 93)) (brackets_held ws)
brackets_held _ = refl

many_held : (o : Option (List ℤ)) → option_map Many (option_map (map held) o) ≡ option_map held_given (option_map Many o)
many_held None = refl
many_held (Some zs) = refl

given_held : (t : List ℕ) (n : ℕ) (ws : List Word) → given_by t n (held_words ws) ≡ option_map held_given (given_by t n ws)
given_held t n [] = refl
given_held t zero (Number z ∷ []) = refl
given_held t (suc zero) (Quoted s ∷ []) = refl
given_held t (suc zero) ws = ap (option_map Many) (numbers_held ws) ∙ many_held (numbers_of ws)
given_held t _ ws = refl

declare_by : (n t : List ℕ) (arrays : ℕ) (o : Option Given) (c : Bool)
    → (if c then None else option_map (Declare n (type_name t arrays)) (option_map held_given o)) ≡ held_option (if c then None else option_map (Declare n (type_name t arrays)) o)
declare_by n t arrays o true = refl
declare_by n t arrays None false = refl
declare_by n t arrays (Some g) false = refl

pub declaration_held : (n t : List ℕ) (ws : List Word) → declaration n t (held_words ws) ≡ held_option (declaration n t ws)
declaration_held n t ws =
    let arrays = (brackets ws).0 in
    let rest = (brackets ws).1 in
    ap (λ (b : ℕ × List Word). if is_keyword t then None else option_map (Declare n (type_name t b.0)) (given_by t b.0 b.1)) (brackets_held ws)
    ∙ ap (λ g. if is_keyword t then None else option_map (Declare n (type_name t arrays)) g) (given_held t arrays rest)
    ∙ declare_by n t arrays (given_by t arrays rest) (is_keyword t)

member_by : (n t : List ℕ) (arrays : ℕ) (c : Bool) → (if c then None else Some (Member n (type_name t arrays))) ≡ held_option (if c then None else Some (Member n (type_name t arrays)))
member_by n t arrays true = refl
member_by n t arrays false = refl

member_at : (n t : List ℕ) (arrays : ℕ) (ws : List Word) → member_form n t (arrays, held_words ws) ≡ held_option (member_form n t (arrays, ws))
member_at n t arrays [] = member_by n t arrays (is_keyword t)
member_at n t arrays (w ∷ ws) = refl

pub member_held : (n t : List ℕ) (ws : List Word) → member_form n t (brackets (held_words ws)) ≡ held_option (member_form n t (brackets ws))
member_held n t ws = ap (member_form n t) (brackets_held ws) ∙ member_at n t (brackets ws).0 (brackets ws).1

-- ---- statements

do_by : (label : Option (List ℕ)) (op : Op) (cmp : Cmp) (ts : List Term) (c : Bool)
    → (if c then Some (Do label op cmp (map held_term ts)) else None) ≡ held_option (if c then Some (Do label op cmp ts) else None)
do_by label op cmp ts true = refl
do_by label op cmp ts false = refl

with_terms_held : (label : Option (List ℕ)) (op : Op) (cmp : Cmp) (ts : List Term) → with_terms label op cmp (map held_term ts) ≡ held_option (with_terms label op cmp ts)
with_terms_held label op cmp ts =
    ap (λ n. if takes (arity op) n && nat_le n most_operands then Some (Do label op cmp (map held_term ts)) else None) (length-map ts held_term)
    ∙ do_by label op cmp ts (takes (arity op) (length ts) && nat_le (length ts) most_operands)

then_terms : (label : Option (List ℕ)) (op : Op) (cmp : Cmp) (o : Option (List Term))
    → option_and_then (with_terms label op cmp) (option_map (map held_term) o) ≡ held_option (option_and_then (with_terms label op cmp) o)
then_terms label op cmp None = refl
then_terms label op cmp (Some ts) = with_terms_held label op cmp ts

comparison_held : (ws : List Word) → comparison_word (held_words ws) ≡ comparison_word ws
comparison_held (Name n ∷ []) = refl
comparison_held _ = refl

then_compared : (label : Option (List ℕ)) (op : Op) (o : Option (List Term)) (c : Option Cmp)
    → option_and_then (λ cmp. option_and_then (with_terms label op cmp) (option_map (map held_term) o)) c
    ≡ held_option (option_and_then (λ cmp. option_and_then (with_terms label op cmp) o) c)
then_compared label op o None = refl
then_compared label op o (Some cmp) = then_terms label op cmp o

compared_held : (label : Option (List ℕ)) (op : Op) (ps : List (List Word)) → compared label op (map held_words ps) ≡ held_option (compared label op ps)
compared_held label op [] = refl
compared_held label op (first ∷ others) =
    ap (λ c. option_and_then (λ cmp. option_and_then (with_terms label op cmp) (all_of (map term_of (map held_words others)))) c) (comparison_held first)
    ∙ ap (λ o. option_and_then (λ cmp. option_and_then (with_terms label op cmp) o) (comparison_word first)) (all_terms others)
    ∙ then_compared label op (all_of (map term_of others)) (comparison_word first)

op_by : (label : Option (List ℕ)) (op : Op) (ws : List Word) (c : Bool)
    → (if c then compared label op (by_commas (held_words ws)) else option_and_then (with_terms label op Lt) (terms_of (held_words ws)))
    ≡ held_option (if c then compared label op (by_commas ws) else option_and_then (with_terms label op Lt) (terms_of ws))
op_by label op ws true = ap (compared label op) (commas_held ws) ∙ compared_held label op (by_commas ws)
op_by label op ws false = ap (option_and_then (with_terms label op Lt)) (terms_held ws) ∙ then_terms label op Lt (terms_of ws)

then_op : (label : Option (List ℕ)) (ws : List Word) (o : Option Op)
    → option_and_then (λ op. if has_comparison op then compared label op (by_commas (held_words ws)) else option_and_then (with_terms label op Lt) (terms_of (held_words ws))) o
    ≡ held_option (option_and_then (λ op. if has_comparison op then compared label op (by_commas ws) else option_and_then (with_terms label op Lt) (terms_of ws)) o)
then_op label ws None = refl
then_op label ws (Some op) = op_by label op ws (has_comparison op)

statement_held : (label : Option (List ℕ)) (ws : List Word) → statement_form label (held_words ws) ≡ held_option (statement_form label ws)
statement_held label (Name n ∷ ws) = then_op label ws (statement_op n)
statement_held label _ = refl

either_held : (c : Bool) (o p x y : Option Form) → o ≡ held_option x → p ≡ held_option y → (if c then o else p) ≡ held_option (if c then x else y)
either_held true o p x y e f = e
either_held false o p x y e f = f

pub labelled_held : (ws : List Word) → labelled_form (held_words ws) ≡ held_option (labelled_form ws)
labelled_held (Name l ∷ Sign b ∷ []) =
    either_held (b == 58) (Some (Label l)) (statement_form None (Name l ∷ Sign b ∷ [])) (Some (Label l)) (statement_form None (Name l ∷ Sign b ∷ [])) refl (statement_held None (Name l ∷ Sign b ∷ []))
labelled_held (Name l ∷ Sign b ∷ w ∷ ws) =
    either_held (b == 58) (statement_form (Some l) (held_words (w ∷ ws))) (statement_form None (held_words (Name l ∷ Sign b ∷ w ∷ ws)))
    (statement_form (Some l) (w ∷ ws)) (statement_form None (Name l ∷ Sign b ∷ w ∷ ws)) (statement_held (Some l) (w ∷ ws)) (statement_held None (Name l ∷ Sign b ∷ w ∷ ws))
labelled_held ws = statement_held None ws
