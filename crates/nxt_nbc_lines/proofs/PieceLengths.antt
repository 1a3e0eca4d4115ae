-- A piece lies in its text, and isn't empty.
use Rattle.std.proofs.Common.{◌≡◌, ℕ, suc, ◌+◌, ◌-◌, ◌≤◌, ◌<◌, Bool, true, false, List, [], ◌∷◌, length, drop, Option, Some, None, refl, sym, ap, ◌∙◌, inl, inr, arith}
use Rattle.std.specs.Prelude.{IfSome, option_map, ◌==◌, ◌&&◌, not, if◌then◌else◌, nat_lt, slice_index}
use Rattle.std.specs.List.{prefix_len}
use Rattle.std.proofs.lemmas.Bool.{cases_lt}
use Rattle.std.proofs.lemmas.Bool.Decides.{nat_tests}
use Rattle.std.proofs.lemmas.List.{get_or_past, length-drop}
use Rattle.std.proofs.lemmas.List.Sums.{prefix_len-le-length}
use Rattle.nxt_model.specs.Nbc.Tokens.{Piece, begins_name, comment_len, is_blank, is_digit, is_hex_digit, is_name_byte, is_quote, is_shown, is_sign, minus_piece, numeral_len, piece_at, slash_piece, text_piece}

-- ---- lengths

-- the first byte passes
prefix_len-some : (p : ℕ → Bool) (b : ℕ) (rest : List ℕ) → p b ≡ true → 1 ≤ prefix_len p (b ∷ rest)
prefix_len-some p b rest e = rw e (omega arith)

hex_numeral-le : (a b : Bool) (k size : ℕ) → (a && b && nat_lt 0 k) ≡ true → k ≤ size - 2 → 2 + k ≤ size
hex_numeral-le a b k size e le = grind (arith, nat_tests)

pub numeral_len-le : (bytes : List ℕ) → numeral_len bytes ≤ length bytes
numeral_len-le bytes = by ((slice_index bytes 0 == 48) && (slice_index bytes 1 == 120) && nat_lt 0 (prefix_len is_hex_digit (drop 2 bytes))) refl
  where
    by : (c : Bool) → (slice_index bytes 0 == 48) && (slice_index bytes 1 == 120) && nat_lt 0 (prefix_len is_hex_digit (drop 2 bytes)) ≡ c
        → (if c then 2 + prefix_len is_hex_digit (drop 2 bytes) else prefix_len is_digit bytes) ≤ length bytes
    by true e = hex_numeral-le (slice_index bytes 0 == 48) (slice_index bytes 1 == 120) (prefix_len is_hex_digit (drop 2 bytes)) (length bytes) e (omega (arith, prefix_len-le-length is_hex_digit (drop 2 bytes), length-drop 2 bytes))
    by false e = prefix_len-le-length is_digit bytes

numeral_len-some : (b : ℕ) (rest : List ℕ) → is_digit b ≡ true → 1 ≤ numeral_len (b ∷ rest)
numeral_len-some b rest e = by ((b == 48) && (slice_index rest 0 == 120) && nat_lt 0 (prefix_len is_hex_digit (drop 1 rest)))
  where
    by : (c : Bool) → 1 ≤ (if c then 2 + prefix_len is_hex_digit (drop 1 rest) else prefix_len is_digit (b ∷ rest))
    by true = omega arith
    by false = prefix_len-some is_digit b rest e

abbrev IsAtMost : ℕ → Option ℕ → Type 0
IsAtMost m o = IfSome o (λ n. n ≤ m)

one_more : (m : ℕ) (o : Option ℕ) → IsAtMost m o → IsAtMost (suc m) (option_map (λ n. n + 1) o)
one_more m None h = tt
one_more m (Some n) h = omega (arith, h)

comment_by : (t : Bool) (m : ℕ) (o : Option ℕ) → (t ≡ true → 1 ≤ m) → IsAtMost m o
    → IsAtMost (suc m) (if t then Some 2 else option_map (λ n. n + 1) o)
comment_by true m o some h = omega (arith, some refl)
comment_by false m o some h = one_more m o h

a_slash : (t : Bool) (rest : List ℕ) → t && (slice_index rest 0 == 47) ≡ true → 1 ≤ length rest
a_slash true [] e = absurd (cc)
a_slash false [] e = absurd (cc)
a_slash t (c ∷ rest) e = omega arith

pub comment_len-le : (bytes : List ℕ) → IsAtMost (length bytes) (comment_len bytes)
comment_len-le [] = tt
comment_len-le (b ∷ rest) =
    comment_by ((b == 42) && (slice_index rest 0 == 47)) (length rest) (comment_len rest) (a_slash (b == 42) rest) (comment_len-le rest)

-- ---- pieces

-- a piece of at least one byte and at most so many
abbrev pub LiesIn : ℕ → Option Piece → Type 0
LiesIn size o = IfSome o (λ p. (1 ≤ p.1) × (p.1 ≤ size))

if_lies : (t : Bool) (size : ℕ) (o others : Option Piece) → (t ≡ true → LiesIn size o) → LiesIn size others → LiesIn size (if t then o else others)
if_lies true size o others h more = h refl
if_lies false size o others h more = more

no_quote : (quote : ℕ) → is_quote quote ≡ true → (0 == quote) ≡ true → ⊥
no_quote quote q e = grind (arith, nat_tests)

at_quote : (rest : List ℕ) (n quote : ℕ) → is_quote quote ≡ true → (slice_index rest n == quote) ≡ true → n < length rest
at_quote rest n quote q e = elim (cases_lt n (length rest)) [ inl lt ↦ lt | inr past ↦ absurd (no_quote quote q (ap (λ b. b == quote) (sym (get_or_past rest n 0 past)) ∙ e)) ]

text_piece-lies : (quote : ℕ) (rest : List ℕ) → is_quote quote ≡ true → LiesIn (suc (length rest)) (text_piece quote rest)
text_piece-lies quote rest q =
    let n = prefix_len (λ b. is_shown b && not (b == quote)) rest in
    if_lies (slice_index rest n == quote) (suc (length rest)) (Some (true, n + 2)) None (λ e. (omega arith, omega (arith, at_quote rest n quote q e))) tt

minus_piece-lies : (rest : List ℕ) → LiesIn (suc (length rest)) (minus_piece rest)
minus_piece-lies rest =
    if_lies (is_digit (slice_index rest 0)) (suc (length rest)) (Some (true, 1 + numeral_len rest)) None
    (λ e. (omega arith, omega (arith, numeral_len-le rest))) tt

comment-lies : (m : ℕ) (o : Option ℕ) → IsAtMost m o → LiesIn (suc (suc m)) (option_map (λ n. (false, n + 2)) o)
comment-lies m None h = tt
comment-lies m (Some n) h = (omega arith, omega (arith, h))

slash_piece-lies : (rest : List ℕ) → LiesIn (suc (length rest)) (slash_piece rest)
slash_piece-lies [] = tt
slash_piece-lies (b ∷ rest) =
    if_lies (b == 47) (suc (length (b ∷ rest))) (Some (false, 1 + prefix_len (λ b. not (b == 10)) (b ∷ rest))) (if b == 42 then option_map (λ n. (false, n + 2)) (comment_len rest) else None)
    (λ e. (omega arith, omega (arith, prefix_len-le-length (λ b. not (b == 10)) (b ∷ rest))))
    (if_lies (b == 42) (suc (length (b ∷ rest))) (option_map (λ n. (false, n + 2)) (comment_len rest)) None
    (λ _. comment-lies (length rest) (comment_len rest) (comment_len-le rest)) tt)

no_line_feed : (b : ℕ) → (b == 59) ≡ true → not (b == 10) ≡ true
no_line_feed b e = grind (arith, nat_tests)

name_begins : (b : ℕ) → begins_name b ≡ true → is_name_byte b ≡ true
name_begins b e = rw e refl

-- the piece at the front of a text lies in it
pub piece_at-lies : (b : ℕ) (rest : List ℕ) → LiesIn (length (b ∷ rest)) (piece_at (b ∷ rest))
piece_at-lies b rest =
    if_lies (is_blank b) _ _ _ (λ _. (omega arith, omega arith))
    (if_lies (begins_name b) _ _ _ (λ e. (prefix_len-some is_name_byte b rest (name_begins b e), prefix_len-le-length is_name_byte (b ∷ rest)))
    (if_lies (is_digit b) _ _ _ (λ e. (numeral_len-some b rest e, numeral_len-le (b ∷ rest)))
    (if_lies (b == 45) _ _ _ (λ _. minus_piece-lies rest)
    (if_lies (is_quote b) _ _ _ (λ e. text_piece-lies b rest e)
    (if_lies (is_sign b) _ _ _ (λ _. (omega arith, omega arith))
    (if_lies (b == 59) _ _ _ (λ e. (prefix_len-some (λ c. not (c == 10)) b rest (no_line_feed b e), prefix_len-le-length (λ c. not (c == 10)) (b ∷ rest)))
    (if_lies (b == 47) _ _ _ (λ _. slash_piece-lies rest) tt)))))))
