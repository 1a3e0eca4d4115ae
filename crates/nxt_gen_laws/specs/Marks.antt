-- Texts by marks, and the lines that they have.
use Rattle.std.specs.Prelude.{◌≡◌, ℕ, suc, ◌≤◌, ◌==◌, true, false, List, [], ◌∷◌, ◌++◌, length, Some, Ok, ⊤}
use Rattle.nxt_model.specs.Nbc.Tokens.{Token, Line, line_feeds, lines_of, piece_at, put_word, tokens_from, word_of}

-- a token by its bytes, a space, or a line feed
pub data Mark : Type 0 where
  Written : List ℕ → Mark
  Blank : Mark
  NextLine : Mark

-- the bytes of marks in front of others
abbrev pub marked : List Mark → List ℕ → List ℕ
marked [] rest = rest
marked (Written p ∷ ms) rest = p ++ marked ms rest
marked (Blank ∷ ms) rest = 32 ∷ marked ms rest
marked (NextLine ∷ ms) rest = 10 ∷ marked ms rest

-- the line behind marks
abbrev pub line_behind : ℕ → List Mark → ℕ
line_behind line [] = line
line_behind line (Written p ∷ ms) = line_behind line ms
line_behind line (Blank ∷ ms) = line_behind line ms
line_behind line (NextLine ∷ ms) = line_behind (suc line) ms

-- the lines of marks from a line on, in front of other lines
abbrev pub marked_lines : ℕ → List Mark → List Line → List Line
marked_lines line [] ls = ls
marked_lines line (Written p ∷ ms) ls = put_word line (word_of p) (marked_lines line ms ls)
marked_lines line (Blank ∷ ms) ls = marked_lines line ms ls
marked_lines line (NextLine ∷ ms) ls = marked_lines (suc line) ms ls

-- the bytes are the token in front of a text
abbrev pub IsToken : List ℕ → List ℕ → Type 0
IsToken p rest = ((length p == 0) ≡ false) × (piece_at (p ++ rest) ≡ Some (true, length p)) × (line_feeds p ≡ 0)

abbrev pub AreTokens : List Mark → List ℕ → Type 0
AreTokens [] rest = ⊤
AreTokens (Written p ∷ ms) rest = IsToken p (marked ms rest) × AreTokens ms rest
AreTokens (Blank ∷ ms) rest = AreTokens ms rest
AreTokens (NextLine ∷ ms) rest = AreTokens ms rest

-- a text that begins on a line has these lines, whatever stands before it
abbrev pub Reads : ℕ → List ℕ → List Line → Type 0
Reads line rest ls =
    (before : List ℕ) (most : ℕ) → length rest ≤ most
    → (ts : List Token) × (tokens_from most line (length before) rest ≡ Ok ts) × (lines_of (before ++ rest) ts ≡ ls)
