-- Lines as they are read one after another.
use Rattle.std.specs.Prelude.{ℕ, ◌+◌, if◌then◌else◌, List, [], ◌∷◌, ◌++◌, map, slice_range, Option, Some, None}
use Rattle.nxt_model.specs.Nbc.Tokens.{Token, Word, Line, lines_of, word_of}
use Rattle.nxt_model.specs.Nbc.Forms.{Form, Formed, Open, ends_empty, least_bad, open_after}
use Rattle.nxt_nbc_lines.specs.Held.{held_word}

abbrev pub bytes_of : List ℕ → Token → List ℕ
bytes_of text t = slice_range text t.at (t.at + t.len)

-- a token's word, as it is held
abbrev pub word_at : List ℕ → Token → Word
word_at text t = held_word (word_of (bytes_of text t))

abbrev pub held_line : Line → Line
held_line l = (l.0, map held_word l.1)

-- the lines of a text with their numbers held
abbrev pub held_lines : List ℕ → List Token → List Line
held_lines text ts = map held_line (lines_of text ts)

-- what was found so far, after a line of this form
abbrev pub with_line : ℕ → Option Form → Open → Formed → Formed
with_line line None o done = record { forms = done.forms; bad = least_bad line done.bad }
with_line line (Some f) o done =
    record { forms = done.forms ++ (line, f) ∷ []; bad = if ends_empty f o then least_bad line done.bad else done.bad }

-- what is open after it
abbrev pub left_open : ℕ → Option Form → Open → Open
left_open line None o = o
left_open line (Some f) o = open_after line f o

-- the first of the bad lines before and behind
abbrev pub either_bad : Option ℕ → Option ℕ → Option ℕ
either_bad bad None = bad
either_bad bad (Some line) = least_bad line bad
