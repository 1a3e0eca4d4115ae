-- The tokens of a text.
use Rattle.std.specs.Prelude.{ℕ, zero, suc, ◌+◌, ◌-◌, Bool, true, false, ◌&&◌, ◌||◌, not, if◌then◌else◌, ◌==◌, nat_lt, nat_le, List, [], ◌∷◌, length, take, drop, count_by, slice_index, slice_range, ℤ, pos, neg_ℤ, Option, Some, None, option_map, Result, Ok, Err}
use Rattle.std.specs.List.{prefix_len}
use Rattle.std.specs.Str.Parse.{digits_value}

-- ---- bytes

abbrev pub is_digit : ℕ → Bool
is_digit b = nat_le 48 b && nat_le b 57

abbrev pub is_hex_digit : ℕ → Bool
is_hex_digit b = is_digit b || (nat_le 65 b && nat_le b 70) || (nat_le 97 b && nat_le b 102)

-- a letter or an underscore
abbrev pub begins_name : ℕ → Bool
begins_name b = (nat_le 65 b && nat_le b 90) || (nat_le 97 b && nat_le b 122) || (b == 95)

abbrev pub is_name_byte : ℕ → Bool
is_name_byte b = begins_name b || is_digit b

abbrev pub is_quote : ℕ → Bool
is_quote b = (b == 34) || (b == 39)

-- # , . : [ ]
abbrev pub is_sign : ℕ → Bool
is_sign b = (b == 35) || (b == 44) || (b == 46) || (b == 58) || (b == 91) || (b == 93)

-- a space, a tab, a line feed or a carriage return
abbrev pub is_blank : ℕ → Bool
is_blank b = (b == 32) || (b == 9) || (b == 10) || (b == 13)

-- may stand in a text
abbrev pub is_shown : ℕ → Bool
is_shown b = nat_le 32 b && nat_le b 126

-- ---- pieces

-- whether a piece is a token, and its length
abbrev pub Piece : Type 0
Piece = Bool × ℕ

abbrev pub a_token : ℕ → Option Piece
a_token n = Some (true, n)

abbrev pub no_token : ℕ → Option Piece
no_token n = Some (false, n)

-- digits, or 0x and hexadecimal digits
abbrev pub numeral_len : List ℕ → ℕ
numeral_len bytes =
    if (slice_index bytes 0 == 48) && (slice_index bytes 1 == 120) && nat_lt 0 (prefix_len is_hex_digit (drop 2 bytes))
    then 2 + prefix_len is_hex_digit (drop 2 bytes)
    else prefix_len is_digit bytes

-- up to the closing quote, on one line
abbrev pub text_piece : ℕ → List ℕ → Option Piece
text_piece quote rest =
    let n = prefix_len (λ b. is_shown b && not (b == quote)) rest in
    if slice_index rest n == quote then a_token (n + 2) else None

-- how many bytes go up to the first */
abbrev pub comment_len : List ℕ → Option ℕ
comment_len [] = None
comment_len (b ∷ rest) =
    if (b == 42) && (slice_index rest 0 == 47) then Some 2 else option_map (λ n. n + 1) (comment_len rest)

-- what follows a slash
abbrev pub slash_piece : List ℕ → Option Piece
slash_piece rest =
    if slice_index rest 0 == 47 then no_token (1 + prefix_len (λ b. not (b == 10)) rest)
    else if slice_index rest 0 == 42 then option_map (λ n. (false, n + 2)) (comment_len (drop 1 rest))
    else None

abbrev pub minus_piece : List ℕ → Option Piece
minus_piece rest = if is_digit (slice_index rest 0) then a_token (1 + numeral_len rest) else None

-- the piece at the front of a text that isn't empty
abbrev pub piece_at : List ℕ → Option Piece
piece_at [] = None
piece_at (b ∷ rest) =
    if is_blank b then no_token 1
    else if begins_name b then a_token (prefix_len is_name_byte (b ∷ rest))
    else if is_digit b then a_token (numeral_len (b ∷ rest))
    else if b == 45 then minus_piece rest
    else if is_quote b then text_piece b rest
    else if is_sign b then a_token 1
    else if b == 59 then no_token (prefix_len (λ c. not (c == 10)) (b ∷ rest))
    else if b == 47 then slash_piece rest
    else None

-- ---- tokens

-- a token's line, counted from 1, its place in the text, and its length
pub record Token : Type 0 where
  pub line : ℕ
  pub at : ℕ
  pub len : ℕ

abbrev pub line_feeds : List ℕ → ℕ
line_feeds bytes = count_by (λ b. b == 10) bytes

-- in front of the tokens that follow
abbrev pub put_token : Bool → Token → Result (List Token) ℕ → Result (List Token) ℕ
put_token false t others = others
put_token true t (Ok ts) = Ok (t ∷ ts)
put_token true t (Err line) = Err line

-- what a piece adds to the tokens behind it
abbrev pub tokens_after : Option Piece → ℕ → ℕ → List ℕ → (ℕ → ℕ → List ℕ → Result (List Token) ℕ) → Result (List Token) ℕ
tokens_after None line at text more = Err line
tokens_after (Some (is_token, n)) line at text more =
    put_token is_token
    (record { line = line; at = at; len = n })
    (more (line + line_feeds (take n text)) (at + n) (drop n text))

-- the tokens of a text from a line and a place on, or the line at which none begins; of at most so many pieces
abbrev pub tokens_from : ℕ → ℕ → ℕ → List ℕ → Result (List Token) ℕ
tokens_from most line at [] = Ok []
tokens_from zero line at (b ∷ rest) = Err line
tokens_from (suc most) line at (b ∷ rest) = tokens_after (piece_at (b ∷ rest)) line at (b ∷ rest) (tokens_from most)

abbrev pub tokens_of : List ℕ → Result (List Token) ℕ
tokens_of text = tokens_from (length text) 1 0 text

-- ---- words

-- what a token stands for
pub data Word : Type 0 where
  Name : List ℕ → Word
  Number : ℤ → Word
  Quoted : List ℕ → Word
  Sign : ℕ → Word

abbrev pub numeral_value : List ℕ → ℤ
numeral_value bytes =
    if slice_index bytes 1 == 120 then pos (digits_value 16 (drop 2 bytes)) else pos (digits_value 10 bytes)

-- the word that a token's bytes spell
abbrev pub word_of : List ℕ → Word
word_of [] = Sign 0
word_of (b ∷ rest) =
    if begins_name b then Name (b ∷ rest)
    else if is_digit b then Number (numeral_value (b ∷ rest))
    else if b == 45 then Number (neg_ℤ (numeral_value rest))
    else if is_quote b then Quoted (take (length rest - 1) rest)
    else Sign b

-- the words of a line, with its number
abbrev pub Line : Type 0
Line = ℕ × List Word

-- a word in front of the lines
abbrev pub put_word : ℕ → Word → List Line → List Line
put_word line w [] = (line, w ∷ []) ∷ []
put_word line w (l ∷ ls) = if l.0 == line then (line, w ∷ l.1) ∷ ls else (line, w ∷ []) ∷ l ∷ ls

-- the lines that have words
abbrev pub lines_of : List ℕ → List Token → List Line
lines_of text [] = []
lines_of text (t ∷ ts) = put_word t.line (word_of (slice_range text t.at (t.at + t.len))) (lines_of text ts)
