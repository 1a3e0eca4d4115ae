-- The lines of a text's forms ascend.
use Rattle.std.proofs.Common.{◌≡◌, ℕ, zero, suc, ◌+◌, ◌<◌, ◌≤◌, Bool, true, false, ◌==◌, List, [], ◌∷◌, length, take, drop, Option, Some, None, Result, Ok, Err, subst, sym, refl, arith, eqb-true}
use Rattle.std.proofs.lemmas.Bool.{eqb-false}
use Rattle.std.specs.Prelude.{if◌then◌else◌, ⊤}
use Rattle.nxt_model.specs.Nbc.Tokens.{Piece, Token, Word, Line, line_feeds, piece_at, put_token, tokens_after, tokens_from, tokens_of, put_word, word_of, lines_of}
use Rattle.nxt_model.specs.Nbc.Forms.{Form, Formed, Open, CloseBlock, OpenThread, OpenSubroutine, open_after, ends_empty, form_in, put_form, bad_at, formed_line, formed_from, formed}
use Rattle.nxt_model.specs.Nbc.Text.{items_of, blocks_in}
use Rattle.nxt_nbc_lines.specs.Lines.{bytes_of}
use Rattle.nxt_nbc_lines.specs.Held.{held_formed}
use Rattle.nxt_nbc_lines.specs.Firsts.{Ascends, BlocksAscend, HasForms}
use Rattle.nxt_nbc_lines.proofs.Laws.HeldSources.{held_forms}

-- ---- tokens

-- the lines of tokens never fall
abbrev Rises : ℕ → List Token → Type 0
Rises n [] = ⊤
Rises n (t ∷ ts) = (n ≤ t.line) × Rises t.line ts

abbrev TokensRise : ℕ → Result (List Token) ℕ → Type 0
TokensRise n (Ok ts) = Rises n ts
TokensRise n (Err line) = ⊤

rise_above : (m n : ℕ) (ts : List Token) → m ≤ n → Rises n ts → Rises m ts
rise_above m n [] le up = tt
rise_above m n (t ∷ ts) le up = (omega (arith, le, up.0), up.1)

put_rises : (b : Bool) (n l : ℕ) (t : Token) (r : Result (List Token) ℕ) → t.line ≡ n → n ≤ l → TokensRise l r → TokensRise n (put_token b t r)
put_rises false n l t (Ok ts) at le up = rise_above n l ts le up
put_rises true n l t (Ok ts) at le up = (omega (arith, at), rise_above t.line l ts (omega (arith, at, le)) up)
put_rises false n l t (Err line) at le up = tt
put_rises true n l t (Err line) at le up = tt

after_rises : (o : Option Piece) (line at : ℕ) (text : List ℕ) (more : ℕ → ℕ → List ℕ → Result (List Token) ℕ)
    → ((l a : ℕ) (rest : List ℕ) → TokensRise l (more l a rest)) → TokensRise line (tokens_after o line at text more)
after_rises None line at text more up = tt
after_rises (Some (b, n)) line at text more up =
    let l = line + line_feeds (take n text) in
    put_rises b line l (record { line = line; at = at; len = n }) (more l (at + n) (drop n text)) refl (omega arith) (up l (at + n) (drop n text))

tokens_rise : (most line at : ℕ) (text : List ℕ) → TokensRise line (tokens_from most line at text)
tokens_rise most line at [] = tt
tokens_rise zero line at (b ∷ rest) = tt
tokens_rise (suc most) line at (b ∷ rest) = after_rises (piece_at (b ∷ rest)) line at (b ∷ rest) (tokens_from most) (tokens_rise most)

-- ---- lines

-- the numbers of lines ascend, from one that is given on
abbrev LinesFrom : ℕ → List Line → Type 0
LinesFrom n [] = ⊤
LinesFrom n (l ∷ ls) = (n ≤ l.0) × LinesFrom (suc l.0) ls

lines_above : (m n : ℕ) (ls : List Line) → m ≤ n → LinesFrom n ls → LinesFrom m ls
lines_above m n [] le up = tt
lines_above m n (l ∷ ls) le up = (omega (arith, le, up.0), up.1)

put_by : (line : ℕ) (w : Word) (l : Line) (ls : List Line) (c : Bool) → (l.0 == line) ≡ c → line ≤ l.0 → LinesFrom (suc l.0) ls
    → LinesFrom line (if c then (line, w ∷ l.1) ∷ ls else (line, w ∷ []) ∷ l ∷ ls)
put_by line w l ls true e le up = (omega arith, subst (λ n. LinesFrom (suc n) ls) (eqb-true l.0 line e) up)
put_by line w l ls false e le up = (omega arith, (above l.0 (eqb-false l.0 line e) le, up))
  where
    above : (n : ℕ) → (n ≡ line → ⊥) → line ≤ n → suc line ≤ n
    above n other least = grind (arith, other)

put_from : (line : ℕ) (w : Word) (ls : List Line) → LinesFrom line ls → LinesFrom line (put_word line w ls)
put_from line w [] up = (omega arith, tt)
put_from line w (l ∷ ls) up = put_by line w l ls (l.0 == line) refl up.0 up.1

lines_from : (text : List ℕ) (n : ℕ) (ts : List Token) → Rises n ts → LinesFrom n (lines_of text ts)
lines_from text n [] up = tt
lines_from text n (t ∷ ts) up =
    let w = word_of (bytes_of text t) in
    lines_above n t.line (put_word t.line w (lines_of text ts)) up.0 (put_from t.line w (lines_of text ts) (lines_from text t.line ts up.1))

-- ---- forms

ascends_above : (m n : ℕ) (fs : List (ℕ × Form)) → m ≤ n → Ascends n fs → Ascends m fs
ascends_above m n [] le up = tt
ascends_above m n ((l, f) ∷ fs) le up = (omega (arith, le, up.0), up.1)

put_ascends : (n line : ℕ) (f : Form) (more : Formed) (c : Bool) → n < line → Ascends line more.forms
    → Ascends n (if c then bad_at line (put_form line f more) else put_form line f more).forms
put_ascends n line f more true lt up = (lt, up)
put_ascends n line f more false lt up = (lt, up)

line_ascends : (n line : ℕ) (x : Option Form) (o : Open) (more : Open → Formed) → n < line → ((p : Open) → Ascends line (more p).forms)
    → Ascends n (formed_line line x o more).forms
line_ascends n line None o more lt up = ascends_above n line (more o).forms (omega (arith, lt)) (up o)
line_ascends n line (Some f) o more lt up =
    put_ascends n line f (more (open_after line f o)) (ends_empty f o) lt (up (open_after line f o))

from_ascends : (n : ℕ) (ls : List Line) → LinesFrom (suc n) ls → (o : Open) → Ascends n (formed_from ls o).forms
from_ascends n [] up o = tt
from_ascends n (l ∷ ls) up o = line_ascends n l.0 (form_in o l.1) o (formed_from ls) up.0 (from_ascends l.0 ls up.1)

-- the forms of a text ascend
pub forms_ascend : (text : List ℕ) (ts : List Token) → tokens_of text ≡ Ok ts → Ascends 0 (formed (lines_of text ts)).forms
forms_ascend text ts e =
    let up : Rises 1 ts = subst (TokensRise 1) e (tokens_rise (length text) 1 0 text) in
    from_ascends 0 (lines_of text ts) (lines_from text 1 ts up) []

-- ---- held forms

held_ascends : (n : ℕ) (fs : List (ℕ × Form)) → Ascends n fs → Ascends n (held_forms fs)
held_ascends n [] up = tt
held_ascends n ((l, f) ∷ fs) up = (up.0, held_ascends l fs up.1)

-- so do those whose numbers are held
pub held_forms_ascend : (text : List ℕ) (ts : List Token) → tokens_of text ≡ Ok ts → Ascends 0 (held_formed (formed (lines_of text ts))).forms
held_forms_ascend text ts e = held_ascends 0 (formed (lines_of text ts)).forms (forms_ascend text ts e)

-- the forms that the program holds of a text ascend
pub has_ascending : (text : List ℕ) (ts : List Token) (fd : Formed) → HasForms text ts fd → Ascends 0 fd.forms
has_ascending text ts fd h = subst (λ d. Ascends 0 d.forms) (sym h.1) (held_forms_ascend text ts h.0)

-- ---- blocks

items_ascend : (n : ℕ) (fs : List (ℕ × Form)) → Ascends n fs → Ascends n (items_of fs)
items_ascend n [] up = tt
items_ascend n ((l, CloseBlock) ∷ fs) up = (up.0, tt)
items_ascend n ((l, f) ∷ fs) up = (up.0, items_ascend l fs up.1)

-- the blocks of forms that ascend
pub blocks_ascend : (n : ℕ) (fs : List (ℕ × Form)) → Ascends n fs → BlocksAscend (blocks_in fs)
blocks_ascend n [] up = tt
blocks_ascend n ((l, OpenThread name) ∷ fs) up = (items_ascend l fs up.1, blocks_ascend l fs up.1)
blocks_ascend n ((l, OpenSubroutine name) ∷ fs) up = (items_ascend l fs up.1, blocks_ascend l fs up.1)
blocks_ascend n ((l, f) ∷ fs) up = blocks_ascend l fs up.1
