-- Lines that are read one after another.
use Rattle.std.proofs.Common.{◌≡◌, ℕ, suc, ◌+◌, ◌≤◌, Bool, true, false, List, [], ◌∷◌, ◌++◌, length, take, drop, map, Option, Some, None, get_or, eq-eqb, refl, ap, sym, ◌∙◌, append_assoc, arith}
use Rattle.std.specs.Prelude.{◌==◌, if◌then◌else◌}
use Rattle.std.specs.List.{prefix_len}
use Rattle.std.proofs.lemmas.List.{append-nil, map-append}
use Rattle.std.proofs.lemmas.Bool.Decides.{nat_tests}
use Rattle.nxt_model.specs.Nbc.Tokens.{Token, Word, Line, lines_of, put_word, word_of}
use Rattle.nxt_model.specs.Nbc.Forms.{Form, Formed, Open, bad_at, ends_empty, formed_from, formed_line, least_bad, open_after, outermost, put_form}
use Rattle.std.proofs.lemmas.List.Sums.{prefix_len-le-length}
use Rattle.nxt_nbc_lines.specs.declared.forms.LineForm.{LineForm}
use Rattle.nxt_nbc_lines.specs.Seen.{form_seen, line_form_seen}
use Rattle.nxt_nbc_lines.specs.Held.{held_word}
use Rattle.nxt_nbc_lines.specs.Lines.{bytes_of, either_bad, held_line, held_lines, left_open, with_line, word_at}

-- ---- what was found, and what is found behind

abbrev pub join : Formed → Formed → Formed
join done more = record { forms = done.forms ++ more.forms; bad = either_bad done.bad more.bad }

abbrev formed_of : List (ℕ × Form) → Option ℕ → Formed
formed_of forms bad = record { forms = forms; bad = bad }

bad_sooner : (line : ℕ) (d m : Option ℕ) → either_bad d (least_bad line m) ≡ either_bad (least_bad line d) m
bad_sooner line d None = refl
bad_sooner line None (Some k) = ap (λ n. Some n) (omega arith)
bad_sooner line (Some b) (Some k) = ap (λ n. Some n) (omega arith)

either_none : (m : Option ℕ) → either_bad None m ≡ m
either_none None = refl
either_none (Some k) = refl

pub join-start : (m : Formed) → join (formed_of [] None) m ≡ m
join-start m = ap (formed_of m.forms) (either_none m.bad)

pub join-end : (done : Formed) (o : Open) → join done (formed_from [] o) ≡ formed_of done.forms (either_bad done.bad (outermost o))
join-end done o = ap (λ fs. formed_of fs (either_bad done.bad (outermost o))) (append-nil done.forms)

join_form : (line : ℕ) (f : Form) (done m : Formed) (c : Bool)
    → join done (if c then bad_at line (put_form line f m) else put_form line f m)
    ≡ join (formed_of (done.forms ++ (line, f) ∷ []) (if c then least_bad line done.bad else done.bad)) m
join_form line f done m true =
    ap (λ fs. formed_of fs (either_bad done.bad (least_bad line m.bad))) (sym (append_assoc done.forms ((line, f) ∷ []) m.forms))
    ∙ ap (formed_of ((done.forms ++ (line, f) ∷ []) ++ m.forms)) (bad_sooner line done.bad m.bad)
join_form line f done m false = ap (λ fs. formed_of fs (either_bad done.bad m.bad)) (sym (append_assoc done.forms ((line, f) ∷ []) m.forms))

pub join-line : (line : ℕ) (x : Option Form) (o : Open) (done : Formed) (more : Open → Formed)
    → join done (formed_line line x o more) ≡ join (with_line line x o done) (more (left_open line x o))
join-line line None o done more = ap (formed_of (done.forms ++ (more o).forms)) (bad_sooner line done.bad (more o).bad)
join-line line (Some f) o done more = join_form line f done (more (open_after line f o)) (ends_empty f o)

-- ---- the first line

abbrev on : ℕ → Token → Bool
on line t = t.line == line

abbrev words_at : List ℕ → List Token → List Word
words_at text ts = map (λ t. word_of (bytes_of text t)) ts

same_line : (a b : ℕ) → (a == b) ≡ true → a ≡ b
same_line a b e = grind (arith, nat_tests)

first_by : (text : List ℕ) (t u : Token) (us : List Token) (c : Bool) → on t.line u ≡ c
    → lines_of text (u ∷ us) ≡ (u.line, words_at text (u ∷ take (prefix_len (on u.line) us) us)) ∷ lines_of text (drop (prefix_len (on u.line) us) us)
    → put_word t.line (word_of (bytes_of text t)) (lines_of text (u ∷ us))
    ≡ (t.line, word_of (bytes_of text t) ∷ words_at text (take (if c then 1 + prefix_len (on t.line) us else 0) (u ∷ us))) ∷ lines_of text (drop (if c then 1 + prefix_len (on t.line) us else 0) (u ∷ us))
first_by text t u us c e more =
    let w = word_of (bytes_of text t) in
    let m = prefix_len (on u.line) us in
    let n = prefix_len (on t.line) us in
    let wide : List Line = (t.line, w ∷ words_at text (u ∷ take m us)) ∷ lines_of text (drop m us) in
    let new : List Line = (t.line, w ∷ []) ∷ (u.line, words_at text (u ∷ take m us)) ∷ lines_of text (drop m us) in
    let put : put_word t.line w (lines_of text (u ∷ us)) ≡ (if c then wide else new) = ap (put_word t.line w) more ∙ ap (λ b. if b then wide else new) e in
    put ∙ by c e
  where
    by : (c : Bool) → on t.line u ≡ c
        → (if c then (t.line, word_of (bytes_of text t) ∷ words_at text (u ∷ take (prefix_len (on u.line) us) us)) ∷ lines_of text (drop (prefix_len (on u.line) us) us)
        else (t.line, word_of (bytes_of text t) ∷ []) ∷ (u.line, words_at text (u ∷ take (prefix_len (on u.line) us) us)) ∷ lines_of text (drop (prefix_len (on u.line) us) us))
        ≡ (t.line, word_of (bytes_of text t) ∷ words_at text (take (if c then 1 + prefix_len (on t.line) us else 0) (u ∷ us))) ∷ lines_of text (drop (if c then 1 + prefix_len (on t.line) us else 0) (u ∷ us))
    by true h =
        let next : suc (prefix_len (on t.line) us) ≡ 1 + prefix_len (on t.line) us = omega arith in
        ap (λ k. (t.line, word_of (bytes_of text t) ∷ words_at text (u ∷ take (prefix_len (on k) us) us)) ∷ lines_of text (drop (prefix_len (on k) us) us)) (same_line u.line t.line h)
        ∙ ap (λ k. (t.line, word_of (bytes_of text t) ∷ words_at text (take k (u ∷ us))) ∷ lines_of text (drop k (u ∷ us))) next
    by false h = ap (λ l. (t.line, word_of (bytes_of text t) ∷ []) ∷ l) (sym more)

first_line : (text : List ℕ) (t : Token) (ts : List Token)
    → lines_of text (t ∷ ts)
    ≡ (t.line, words_at text (t ∷ take (prefix_len (on t.line) ts) ts)) ∷ lines_of text (drop (prefix_len (on t.line) ts) ts)
first_line text t [] = refl
first_line text t (u ∷ us) = first_by text t u us (on t.line u) refl (first_line text u us)

held_words : (text : List ℕ) (ts : List Token) → map held_word (words_at text ts) ≡ map (word_at text) ts
held_words text [] = refl
held_words text (t ∷ ts) = ap (λ ws. word_at text t ∷ ws) (held_words text ts)

held_first : (text : List ℕ) (t : Token) (ts : List Token)
    → held_lines text (t ∷ ts)
    ≡ (t.line, map (word_at text) (t ∷ take (prefix_len (on t.line) ts) ts)) ∷ held_lines text (drop (prefix_len (on t.line) ts) ts)
held_first text t ts =
    let n = prefix_len (on t.line) ts in
    ap (map held_line) (first_line text t ts)
    ∙ ap (λ ws. (t.line, ws) ∷ held_lines text (drop n ts)) (held_words text (t ∷ take n ts))

-- the first line, and those behind it
pub held-first : (text : List ℕ) (ts : List Token) (d : Token) (line n : ℕ) → 1 ≤ length ts → (get_or ts 0 d).line ≡ line → n ≡ prefix_len (on line) ts
    → held_lines text ts ≡ (line, map (word_at text) (take n ts)) ∷ held_lines text (drop n ts)
held-first text [] d line n some same e = absurd (omega (arith, some))
held-first text (t ∷ ts) d line n some same e =
    let whole : n ≡ suc (prefix_len (on t.line) ts) =
    e ∙ ap (λ k. prefix_len (on k) (t ∷ ts)) (sym same) ∙ ap (λ c. if c then 1 + prefix_len (on t.line) ts else 0) (eq-eqb t.line t.line refl) ∙ omega arith in
    held_first text t ts
    ∙ ap (λ k. (t.line, map (word_at text) (take k (t ∷ ts))) ∷ held_lines text (drop k (t ∷ ts))) (sym whole)
    ∙ ap (λ k. (k, map (word_at text) (take n (t ∷ ts))) ∷ held_lines text (drop n (t ∷ ts))) same

-- ---- a line with a form, as the program holds it

pub formed_more : (line : ℕ) (fs fs' : List LineForm) (l : LineForm) (o : Open) (x : Option Form) (bad bad' : Option ℕ)
    → l.line ≡ line → Some (form_seen l.form) ≡ x → bad' ≡ (if ends_empty (form_seen l.form) o then least_bad line bad else bad) → fs' ≡ fs ++ l ∷ []
    → formed_of (map line_form_seen fs') bad' ≡ with_line line x o (formed_of (map line_form_seen fs) bad)
formed_more line fs fs' l o x bad bad' at is b more =
    ap (λ gs. formed_of (map line_form_seen gs) bad') more
    ∙ ap (λ gs. formed_of gs bad') (map-append line_form_seen fs (l ∷ []))
    ∙ ap (λ k. formed_of (map line_form_seen fs ++ (k, form_seen l.form) ∷ []) bad') at
    ∙ ap (formed_of (map line_form_seen fs ++ (line, form_seen l.form) ∷ [])) b
    ∙ ap (λ y. with_line line y o (formed_of (map line_form_seen fs) bad)) is

pub front-fits : (ts : List Token) (line n : ℕ) → n ≡ prefix_len (on line) ts → n ≤ length ts
front-fits ts line n e = omega (arith, e, prefix_len-le-length (on line) ts)
