-- The words of a text that are quoted are of shown bytes.
use Rattle.std.proofs.Common.{◌≡◌, ℕ, zero, suc, ◌+◌, ◌-◌, ◌<◌, ◌≤◌, Bool, true, false, cond, ◌&&◌, ◌==◌, not, List, [], ◌∷◌, drop, take, length, slice_index, slice_range, Option, Some, None, Result, Ok, Err, refl, sym, ap, subst, ◌∙◌, arith, length-take, leb-true}
use Rattle.std.specs.Prelude.{⊤, if◌then◌else◌, nat_le, neg_ℤ}
use Rattle.std.specs.List.{prefix_len}
use Rattle.std.proofs.lemmas.Bool.{and_parts}
use Rattle.std.proofs.lemmas.List.{drop-drop, take-take}
use Rattle.std.proofs.lemmas.Option.{none-some}
use Rattle.nxt_model.specs.Nbc.Tokens.{Line, Piece, Token, Word, Name, Number, Quoted, Sign, a_token, begins_name, is_blank, is_digit, is_quote, is_shown, is_sign, line_feeds, lines_of, minus_piece, no_token, numeral_len, numeral_value, piece_at, put_token, put_word, slash_piece, text_piece, tokens_after, tokens_from, tokens_of, word_of, is_name_byte}
use Rattle.nxt_facts.proofs.Each.{Each}
use Rattle.nxt_asm_laws_layout.proofs.TextValues.{AreSmallBytes}

-- a quoted word has shown bytes
abbrev pub WordOk : Word → Type 0
WordOk (Quoted s) = AreSmallBytes s
WordOk w = ⊤

-- ---- quotes

shown_small : (b : ℕ) (c : Bool) → (is_shown b && c) ≡ true → b < 256
shown_small b c e =
    let shown = (and_parts (is_shown b) c e).0 in
    let least = leb-true b 126 (and_parts (nat_le 32 b) (nat_le b 126) shown).1 in
    omega (arith, least)

abbrev inside : ℕ → ℕ → Bool
inside quote b = is_shown b && not (b == quote)

front_small : (quote : ℕ) (rest : List ℕ) → AreSmallBytes (take (prefix_len (inside quote) rest) rest)
front_small quote [] = tt
front_small quote (b ∷ rest) = by (inside quote b) refl (front_small quote rest)
  where
    by : (c : Bool) → inside quote b ≡ c → AreSmallBytes (take (prefix_len (inside quote) rest) rest) → AreSmallBytes (take (cond c (1 + prefix_len (inside quote) rest) 0) (b ∷ rest))
    by false e h = tt
    by true e h =
        let more : suc (prefix_len (inside quote) rest) ≡ 1 + prefix_len (inside quote) rest = omega arith in
        subst (λ n. AreSmallBytes (take n (b ∷ rest))) more (shown_small b (not (b == quote)) e, h)

fewer_small : (k n : ℕ) (xs : List ℕ) → k ≤ n → AreSmallBytes (take n xs) → AreSmallBytes (take k xs)
fewer_small zero n xs le h = tt
fewer_small (suc k) zero xs le h = absurd (omega (arith, le))
fewer_small (suc k) (suc n) [] le h = tt
fewer_small (suc k) (suc n) (x ∷ xs) le h = (h.0, fewer_small k n xs (omega (arith, le)) h.1)

-- what stands between the quotes
between_small : (quote k : ℕ) (rest : List ℕ) → k ≡ prefix_len (inside quote) rest + 1 → AreSmallBytes (take (length (take k rest) - 1) (take k rest))
between_small quote k rest e =
    let j = length (take k rest) - 1 in
    let short : j ≤ prefix_len (inside quote) rest = omega (arith, e, length-take k rest) in
    let within : j ≤ k = omega (arith, e, short) in
    subst AreSmallBytes (sym (take-take j k rest within)) (fewer_small j (prefix_len (inside quote) rest) rest short (front_small quote rest))

-- ---- pieces

abbrev length_of : Option Piece → ℕ
length_of None = 0
length_of (Some p) = p.1

abbrev told : Option Piece → Bool
told None = false
told (Some p) = p.0

text_length : (quote n : ℕ) (rest : List ℕ) → text_piece quote rest ≡ Some (true, suc n) → n ≡ prefix_len (inside quote) rest + 1
text_length quote n rest e = by (slice_index rest (prefix_len (inside quote) rest) == quote) e
  where
    by : (c : Bool) → (if c then a_token (prefix_len (inside quote) rest + 2) else None) ≡ Some (true, suc n) → n ≡ prefix_len (inside quote) rest + 1
    by false f = absurd (none-some (true, suc n) f)
    by true f = let same : prefix_len (inside quote) rest + 2 ≡ suc n = ap length_of f in omega (arith, same)

false_true : false ≡ true → ⊥
false_true e = cc

-- a piece that begins with a quote is a text
quote_piece : (b n : ℕ) (rest : List ℕ) → begins_name b ≡ false → is_digit b ≡ false → (b == 45) ≡ false → is_quote b ≡ true → piece_at (b ∷ rest) ≡ Some (true, suc n)
    → text_piece b rest ≡ Some (true, suc n)
quote_piece b n rest name digit minus quote e = by (is_blank b) plain
  where
    chain : Bool → Bool → Bool → Bool → Bool → Option Piece
    chain blank a c d q =
        if blank then no_token 1
        else if a then a_token (prefix_len is_name_byte (b ∷ rest))
        else if c then a_token (numeral_len (b ∷ rest))
        else if d then minus_piece rest
        else if q then text_piece b rest
        else if is_sign b then a_token 1
        else if b == 59 then no_token (prefix_len (λ c. not (c == 10)) (b ∷ rest))
        else if b == 47 then slash_piece rest
        else None

    plain : chain (is_blank b) false false false true ≡ Some (true, suc n)
    plain =
        sym (ap (λ a. chain (is_blank b) a (is_digit b) (b == 45) (is_quote b)) name
        ∙ ap (λ c. chain (is_blank b) false c (b == 45) (is_quote b)) digit
        ∙ ap (λ d. chain (is_blank b) false false d (is_quote b)) minus
        ∙ ap (λ q. chain (is_blank b) false false false q) quote) ∙ e

    by : (c : Bool) → chain c false false false true ≡ Some (true, suc n) → text_piece b rest ≡ Some (true, suc n)
    by true f = absurd (false_true (ap told f))
    by false f = f

word_by : (a c d q : Bool) (b : ℕ) (rest : List ℕ) → (a ≡ false → c ≡ false → d ≡ false → q ≡ true → AreSmallBytes (take (length rest - 1) rest))
    → WordOk (if a then Name (b ∷ rest) else if c then Number (numeral_value (b ∷ rest)) else if d then Number (neg_ℤ (numeral_value rest)) else if q then Quoted (take (length rest - 1) rest) else Sign b)
word_by true c d q b rest h = tt
word_by false true d q b rest h = tt
word_by false false true q b rest h = tt
word_by false false false true b rest h = h refl refl refl refl
word_by false false false false b rest h = tt

-- the word of a piece
piece_word : (xs : List ℕ) (n : ℕ) → piece_at xs ≡ Some (true, n) → WordOk (word_of (take n xs))
piece_word [] n e = absurd (none-some (true, n) e)
piece_word (b ∷ rest) zero e = tt
piece_word (b ∷ rest) (suc n) e =
    word_by (begins_name b) (is_digit b) (b == 45) (is_quote b) b (take n rest)
    (λ name digit minus quote. between_small b n rest (text_length b n rest (quote_piece b n rest name digit minus quote e)))

-- ---- tokens

abbrev TokenOk : List ℕ → Token → Type 0
TokenOk text t = WordOk (word_of (slice_range text t.at (t.at + t.len)))

err_ok : {A : Type 0} (line : ℕ) (xs : A) → ◌≡◌ {A = Result A ℕ} (Err line) (Ok xs) → ⊥
err_ok line xs e = cc

put_ok : (text : List ℕ) (t : Token) (o : Result (List Token) ℕ) (ts : List Token) → TokenOk text t → ((us : List Token) → o ≡ Ok us → Each (TokenOk text) us) → put_token true t o ≡ Ok ts → Each (TokenOk text) ts
put_ok text t (Ok us) ts h rest e = let same : t ∷ us ≡ ts = ok_same (t ∷ us) ts e in subst (Each (TokenOk text)) same (h, rest us refl)
  where
    ok_same : (xs ys : List Token) → ◌≡◌ {A = Result (List Token) ℕ} (Ok xs) (Ok ys) → xs ≡ ys
    ok_same xs ys e = cc
put_ok text t (Err line) ts h rest e = absurd (err_ok line ts e)

tokens_ok : (text : List ℕ) (most line at : ℕ) (rest : List ℕ) (ts : List Token) → rest ≡ drop at text → tokens_from most line at rest ≡ Ok ts → Each (TokenOk text) ts
tokens_ok text zero line at [] ts there e = none ts e
  where
    none : (us : List Token) → ◌≡◌ {A = Result (List Token) ℕ} (Ok []) (Ok us) → Each (TokenOk text) us
    none [] f = tt
    none (u ∷ us) f = cc
tokens_ok text (suc most) line at [] ts there e = none ts e
  where
    none : (us : List Token) → ◌≡◌ {A = Result (List Token) ℕ} (Ok []) (Ok us) → Each (TokenOk text) us
    none [] f = tt
    none (u ∷ us) f = cc
tokens_ok text zero line at (b ∷ rest) ts there e = absurd (err_ok line ts e)
tokens_ok text (suc most) line at (b ∷ rest) ts there e =
    by (piece_at (b ∷ rest)) refl e
    (λ n us. tokens_ok text most (line + line_feeds (take n (b ∷ rest))) (at + n) (drop n (b ∷ rest)) us (ap (drop n) there ∙ drop-drop n at text))
  where
    by : (o : Option Piece) → piece_at (b ∷ rest) ≡ o → tokens_after o line at (b ∷ rest) (tokens_from most) ≡ Ok ts
        → ((n : ℕ) (us : List Token) → tokens_from most (line + line_feeds (take n (b ∷ rest))) (at + n) (drop n (b ∷ rest)) ≡ Ok us → Each (TokenOk text) us)
        → Each (TokenOk text) ts
    by None is f more = absurd (err_ok line ts f)
    by (Some (false, n)) is f more = more n ts f
    by (Some (true, n)) is f more =
        let gap : at + n - at ≡ n = omega arith in
        let same : slice_range text at (at + n) ≡ take n (b ∷ rest) = ap (λ k. take k (drop at text)) gap ∙ ap (take n) (sym there) in
        put_ok text (record { line = line; at = at; len = n }) (tokens_from most (line + line_feeds (take n (b ∷ rest))) (at + n) (drop n (b ∷ rest))) ts
        (subst (λ l. WordOk (word_of l)) (sym same) (piece_word (b ∷ rest) n is)) (more n) f

-- ---- lines

abbrev pub LineOk : Line → Type 0
LineOk l = Each WordOk l.1

put_word_ok : (line : ℕ) (w : Word) (ls : List Line) → WordOk w → Each LineOk ls → Each LineOk (put_word line w ls)
put_word_ok line w [] h hs = ((h, tt), tt)
put_word_ok line w (l ∷ ls) h hs = by (l.0 == line)
  where
    by : (c : Bool) → Each LineOk (if c then (line, w ∷ l.1) ∷ ls else (line, w ∷ []) ∷ l ∷ ls)
    by true = ((h, hs.0), hs.1)
    by false = ((h, tt), hs)

lines_by : (text : List ℕ) (ts : List Token) → Each (TokenOk text) ts → Each LineOk (lines_of text ts)
lines_by text [] h = tt
lines_by text (t ∷ ts) h = put_word_ok t.line (word_of (slice_range text t.at (t.at + t.len))) (lines_of text ts) h.0 (lines_by text ts h.1)

-- the words of a text's lines
pub lines_ok : (text : List ℕ) (ts : List Token) → tokens_of text ≡ Ok ts → Each LineOk (lines_of text ts)
lines_ok text ts e = lines_by text ts (tokens_ok text (length text) 1 0 text ts refl e)
