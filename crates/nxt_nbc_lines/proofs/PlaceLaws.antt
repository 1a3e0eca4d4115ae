-- The forms of a place, by the words that tell them apart.
use Rattle.std.proofs.Common.{◌≡◌, ℕ, Bool, true, false, List, [], ◌∷◌, Option, Some, None, option_map, refl, sym, ap, ◌∙◌}
use Rattle.std.specs.Prelude.{if◌then◌else◌, codes}
use Rattle.nxt_model.specs.Nbc.Tokens.{Word, Name}
use Rattle.nxt_model.specs.Nbc.Forms.{Term, Form, ◌or_else◌, is_word, term_of, terms_of, two_names, with_name, one_name, with_term, with_list, body_form, labelled_form, opens_data, thread_form, OpenData, Call, CloseBlock, Precedes, Follows, Exit, ExitTo}
use Rattle.nxt_nbc_lines.specs.Places.{is_alone, are_names, name_behind, term_behind, list_behind}

pub one_name-is : (a : List ℕ) (f : Form) (ws : List Word) → one_name a f ws ≡ (if is_alone a ws then Some f else None)
one_name-is a f [] = refl
one_name-is a f (w ∷ []) = refl
one_name-is a f (v ∷ w ∷ ws) = refl

pub two_names-is : (a b : List ℕ) (f : Form) (ws : List Word) → two_names a b f ws ≡ (if are_names a b ws then Some f else None)
two_names-is a b f [] = refl
two_names-is a b f (v ∷ []) = refl
two_names-is a b f (v ∷ w ∷ []) = refl
two_names-is a b f (u ∷ v ∷ w ∷ ws) = refl

name_by : (f : List ℕ → Form) (n : List ℕ) (c : Bool) → (if c then Some (f n) else None) ≡ option_map f (if c then Some n else None)
name_by f n true = refl
name_by f n false = refl

pub with_name-is : (a : List ℕ) (f : List ℕ → Form) (ws : List Word) → with_name a f ws ≡ option_map f (name_behind a ws)
with_name-is a f (v ∷ Name n ∷ []) = name_by f n (is_word v a)
with_name-is a f _ = refl

term_by : {A : Type 0} (f : A → Form) (o : Option A) (c : Bool) → (if c then option_map f o else None) ≡ option_map f (if c then o else None)
term_by f o true = refl
term_by f o false = refl

pub with_term-is : (a : List ℕ) (f : Term → Form) (ws : List Word) → with_term a f ws ≡ option_map f (term_behind a ws)
with_term-is a f [] = refl
with_term-is a f (v ∷ ws) = term_by f (term_of ws) (is_word v a)

pub with_list-is : (a : List ℕ) (f : List Term → Form) (ws : List Word) → with_list a f ws ≡ option_map f (list_behind a ws)
with_list-is a f [] = refl
with_list-is a f (v ∷ ws) = term_by f (terms_of ws) (is_word v a)

-- ---- the first that is something

first_of : {A : Type 0} (o p : Option A) (x : A) → Some x ≡ o → Some x ≡ (o or_else p)
first_of o p x e = ap (λ q. q or_else p) e

later : {A : Type 0} (o p q : Option A) → None ≡ o → q ≡ p → q ≡ (o or_else p)
later o p q e h = h ∙ ap (λ r. r or_else p) e

no_names : (a b : List ℕ) (f : Form) (ws : List Word) → are_names a b ws ≡ false → None ≡ two_names a b f ws
no_names a b f ws e = sym (two_names-is a b f ws ∙ ap (λ c. if c then Some f else None) e)

not_alone : (a : List ℕ) (f : Form) (ws : List Word) → is_alone a ws ≡ false → None ≡ one_name a f ws
not_alone a f ws e = sym (one_name-is a f ws ∙ ap (λ c. if c then Some f else None) e)

a_term : (a : List ℕ) (f : Term → Form) (ws : List Word) (o : Option Term) → o ≡ term_behind a ws → option_map f o ≡ with_term a f ws
a_term a f ws o e = ap (option_map f) e ∙ sym (with_term-is a f ws)

a_list : (a : List ℕ) (f : List Term → Form) (ws : List Word) (o : Option (List Term)) → o ≡ list_behind a ws → option_map f o ≡ with_list a f ws
a_list a f ws o e = ap (option_map f) e ∙ sym (with_list-is a f ws)

-- ---- bodies

pub body-call : (ws : List Word) (t : Term) → are_names (codes "dseg") (codes "segment") ws ≡ false → Some t ≡ term_behind (codes "call") ws → Some (Call t) ≡ body_form ws
body-call ws t seg e =
    later (opens_data ws) (with_term (codes "call") Call ws or_else labelled_form ws) (Some (Call t)) (no_names (codes "dseg") (codes "segment") OpenData ws seg)
    (first_of (with_term (codes "call") Call ws) (labelled_form ws) (Call t) (a_term (codes "call") Call ws (Some t) e))

pub body-labelled : (ws : List Word) → are_names (codes "dseg") (codes "segment") ws ≡ false → None ≡ term_behind (codes "call") ws → labelled_form ws ≡ body_form ws
body-labelled ws seg e =
    later (opens_data ws) (with_term (codes "call") Call ws or_else labelled_form ws) (labelled_form ws) (no_names (codes "dseg") (codes "segment") OpenData ws seg)
    (later (with_term (codes "call") Call ws) (labelled_form ws) (labelled_form ws) (a_term (codes "call") Call ws None e) refl)

-- ---- threads: what is tried behind endt, behind precedes, behind follows, and behind exit

abbrev pub exit_to : List Word → Option Form
exit_to ws = with_term (codes "exitto") ExitTo ws or_else body_form ws

abbrev pub exits : List Word → Option Form
exits ws = one_name (codes "exit") Exit ws or_else exit_to ws

abbrev pub follows : List Word → Option Form
follows ws = with_list (codes "follows") Follows ws or_else exits ws

abbrev pub precedes : List Word → Option Form
precedes ws = with_list (codes "precedes") Precedes ws or_else follows ws

in_thread : (ws : List Word) (o : Option Form) → is_alone (codes "endt") ws ≡ false → o ≡ precedes ws → o ≡ thread_form ws
in_thread ws o e h = later (one_name (codes "endt") CloseBlock ws) (precedes ws) o (not_alone (codes "endt") CloseBlock ws e) h

pub thread-precedes : (ws : List Word) (ts : List Term) → is_alone (codes "endt") ws ≡ false → Some ts ≡ list_behind (codes "precedes") ws → Some (Precedes ts) ≡ thread_form ws
thread-precedes ws ts e p =
    in_thread ws (Some (Precedes ts)) e (first_of (with_list (codes "precedes") Precedes ws) (follows ws) (Precedes ts) (a_list (codes "precedes") Precedes ws (Some ts) p))

not_precedes : (ws : List Word) (o : Option Form) → is_alone (codes "endt") ws ≡ false → None ≡ list_behind (codes "precedes") ws → o ≡ follows ws → o ≡ thread_form ws
not_precedes ws o e p h =
    in_thread ws o e (later (with_list (codes "precedes") Precedes ws) (follows ws) o (a_list (codes "precedes") Precedes ws None p) h)

pub thread-follows : (ws : List Word) (ts : List Term) → is_alone (codes "endt") ws ≡ false → None ≡ list_behind (codes "precedes") ws → Some ts ≡ list_behind (codes "follows") ws → Some (Follows ts) ≡ thread_form ws
thread-follows ws ts e p f =
    not_precedes ws (Some (Follows ts)) e p (first_of (with_list (codes "follows") Follows ws) (exits ws) (Follows ts) (a_list (codes "follows") Follows ws (Some ts) f))

not_exit : (ws : List Word) (o : Option Form) → is_alone (codes "endt") ws ≡ false → None ≡ list_behind (codes "precedes") ws → None ≡ list_behind (codes "follows") ws
    → is_alone (codes "exit") ws ≡ false → o ≡ exit_to ws → o ≡ thread_form ws
not_exit ws o e p f x h =
    not_precedes ws o e p (later (with_list (codes "follows") Follows ws) (exits ws) o (a_list (codes "follows") Follows ws None f)
    (later (one_name (codes "exit") Exit ws) (exit_to ws) o (not_alone (codes "exit") Exit ws x) h))

pub thread-exit_to : (ws : List Word) (t : Term) → is_alone (codes "endt") ws ≡ false → None ≡ list_behind (codes "precedes") ws → None ≡ list_behind (codes "follows") ws
    → is_alone (codes "exit") ws ≡ false → Some t ≡ term_behind (codes "exitto") ws → Some (ExitTo t) ≡ thread_form ws
thread-exit_to ws t e p f x h =
    not_exit ws (Some (ExitTo t)) e p f x (first_of (with_term (codes "exitto") ExitTo ws) (body_form ws) (ExitTo t) (a_term (codes "exitto") ExitTo ws (Some t) h))

pub thread-body : (ws : List Word) → is_alone (codes "endt") ws ≡ false → None ≡ list_behind (codes "precedes") ws → None ≡ list_behind (codes "follows") ws
    → is_alone (codes "exit") ws ≡ false → None ≡ term_behind (codes "exitto") ws → body_form ws ≡ thread_form ws
thread-body ws e p f x h =
    not_exit ws (body_form ws) e p f x (later (with_term (codes "exitto") ExitTo ws) (body_form ws) (body_form ws) (a_term (codes "exitto") ExitTo ws None h) refl)
