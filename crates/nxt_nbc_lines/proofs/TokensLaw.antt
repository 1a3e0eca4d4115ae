-- The tokens of a text, piece by piece.
use Rattle.std.proofs.Common.{◌≡◌, ℕ, zero, suc, ◌+◌, ◌≤◌, ◌<◌, Bool, true, false, List, [], ◌∷◌, ◌++◌, length, take, drop, get_or, Option, Some, None, refl, sym, ap, ◌∙◌, subst, arith, append_assoc}
use Rattle.std.specs.Prelude.{Result, Ok, Err}
use Rattle.std.proofs.lemmas.List.{append-nil, drop_more, drop_all, drop-drop, length-drop}
use Rattle.nxt_model.specs.Nbc.Tokens.{Piece, Token, line_feeds, piece_at, put_token, tokens_after, tokens_from, tokens_of}
use Rattle.nxt_nbc_lines.proofs.PieceLengths.{LiesIn, piece_at-lies}

-- tokens in front of those that follow
abbrev pub put_tokens : List Token → Result (List Token) ℕ → Result (List Token) ℕ
put_tokens ts (Ok others) = Ok (ts ++ others)
put_tokens ts (Err line) = Err line

-- the token of a piece, if it is one
abbrev pub token_if : Bool → Token → List Token
token_if true t = t ∷ []
token_if false t = []

put_none : (r : Result (List Token) ℕ) → r ≡ put_tokens [] r
put_none (Ok ts) = refl
put_none (Err line) = refl

put_one : (ts : List Token) (b : Bool) (t : Token) (r : Result (List Token) ℕ) → put_tokens ts (put_token b t r) ≡ put_tokens (ts ++ token_if b t) r
put_one ts true t (Ok others) = ap (λ l. Ok l) (sym (append_assoc ts (t ∷ []) others))
put_one ts true t (Err line) = refl
put_one ts false t r = ap (λ l. put_tokens l r) (sym (append-nil ts))

-- the tokens up to a place are these, and those of the rest follow
pub record IsSoFar (text : List ℕ) (ts : List Token) (line at : ℕ) : Type 0 where
  pub most : ℕ
  pub enough : length text ≤ at + most
  pub same : tokens_of text ≡ put_tokens ts (tokens_from most line at (drop at text))

pub so_far-start : (text : List ℕ) → IsSoFar text [] 1 0
so_far-start text = record {
  most = length text;
  enough = omega arith;
  same = put_none (tokens_of text);
}

front : (text : List ℕ) (at : ℕ) → at < length text → drop at text ≡ get_or text at 0 ∷ drop (at + 1) text
front text at lt = drop_more text at 0 lt

-- some are left to come
one_left : (text : List ℕ) (ts : List Token) (line at most : ℕ) → at < length text → length text ≤ at + most → (m : ℕ) × (most ≡ suc m)
one_left text ts line at zero lt enough = absurd (omega (arith, enough))
one_left text ts line at (suc m) lt enough = (m, refl)

from_front : (m line at b : ℕ) (rest : List ℕ) (o : Option Piece) → piece_at (b ∷ rest) ≡ o
    → tokens_from (suc m) line at (b ∷ rest) ≡ tokens_after o line at (b ∷ rest) (tokens_from m)
from_front m line at b rest o e = ap (λ p. tokens_after p line at (b ∷ rest) (tokens_from m)) e

from_place : (text : List ℕ) (m line at : ℕ) (o : Option Piece) → at < length text → piece_at (drop at text) ≡ o
    → tokens_from (suc m) line at (drop at text) ≡ tokens_after o line at (drop at text) (tokens_from m)
from_place text m line at o lt e = rw (front text at lt) (from_front m line at (get_or text at 0) (drop (at + 1) text) o (ap piece_at (sym (front text at lt)) ∙ e))

pub so_far-piece : (text : List ℕ) (ts : List Token) (line at : ℕ) (b : Bool) (n : ℕ) → IsSoFar text ts line at → at < length text → piece_at (drop at text) ≡ Some (b, n) → 1 ≤ n
    → IsSoFar text (ts ++ token_if b (record { line = line; at = at; len = n })) (line + line_feeds (take n (drop at text))) (at + n)
so_far-piece text ts line at b n so lt e some =
    let left : (m : ℕ) × (so.most ≡ suc m) = one_left text ts line at so.most lt so.enough in
    let m = left.0 in
    let t : Token = record { line = line; at = at; len = n } in
    let line' = line + line_feeds (take n (drop at text)) in
    record {
      most = m;
      enough = omega (arith, left.1, so.enough);
      same = so.same
          ∙ ap (λ k. put_tokens ts (tokens_from k line at (drop at text))) left.1
          ∙ ap (put_tokens ts) (from_place text m line at (Some (b, n)) lt e)
          ∙ put_one ts b t (tokens_from m line' (at + n) (drop n (drop at text)))
          ∙ ap (λ l. put_tokens (ts ++ token_if b t) (tokens_from m line' (at + n) l)) (drop-drop n at text);
    }

pub so_far-fault : (text : List ℕ) (ts : List Token) (line at : ℕ) → IsSoFar text ts line at → at < length text → piece_at (drop at text) ≡ None → tokens_of text ≡ Err line
so_far-fault text ts line at so lt e =
    let left : (m : ℕ) × (so.most ≡ suc m) = one_left text ts line at so.most lt so.enough in
    so.same ∙ ap (λ k. put_tokens ts (tokens_from k line at (drop at text))) left.1
    ∙ ap (put_tokens ts) (from_place text left.0 line at None lt e)

pub so_far-end : (text : List ℕ) (ts : List Token) (line at : ℕ) → IsSoFar text ts line at → length text ≤ at → tokens_of text ≡ Ok ts
so_far-end text ts line at so le =
    so.same ∙ ap (λ l. put_tokens ts (tokens_from so.most line at l)) (drop_all at text le) ∙ ap (λ l. Ok l) (append-nil ts)

-- the piece at a place lies in what is left
pub piece-lies : (text : List ℕ) (at : ℕ) (p : Piece) → at < length text → piece_at (drop at text) ≡ Some p → (1 ≤ p.1) × (at + p.1 ≤ length text)
piece-lies text at p lt e =
    let whole : LiesIn (length (drop at text)) (piece_at (drop at text)) =
    subst (λ (l : List ℕ). LiesIn (length l) (piece_at l)) (sym (front text at lt)) (piece_at-lies (get_or text at 0) (drop (at + 1) text)) in
    let lies : LiesIn (length (drop at text)) (Some p) = subst (LiesIn (length (drop at text))) e whole in
    (lies.0, omega (arith, lies.1, length-drop at text))
