use Rattle.std.proofs.Common.{◌≡◌, suc, ◌+◌, ◌-◌, ◌<◌, ◌≤◌, ◌∷◌, length, take, drop, ap, sym, subst, ◌∙◌, add-one, arith, ℕ, List}
use Rattle.std.proofs.lemmas.List.{take_rest}
use Rattle.nxt_model.specs.Nbc.Forms.{by_commas, is_sign}
use Rattle.nxt_nbc_lines.specs.declared.words.Word.{Word}
use Rattle.nxt_nbc_lines.specs.Seen.{word_seen, words_seen}
use Rattle.nxt_nbc_lines.proofs.Commas.{before, split_some, split_none}
use Rattle.nxt_nbc_lines.proofs.terms.front_piece.Goals as goal

-- how many words stand in front of the first comma
abbrev front : List Word → ℕ
front ws = before word_seen (is_sign 44) ws

cut : (ws : List Word) (at : ℕ) → at ≡ front ws → at < length ws
    → by_commas (words_seen ws) ≡ words_seen (take at ws) ∷ by_commas (words_seen (take (length ws - (at + 1)) (drop (at + 1) ws)))
cut ws at e lt =
    split_some word_seen (is_sign 44) ws (subst (λ (n : ℕ). n < length ws) e lt)
    ∙ ap (λ n. words_seen (take n ws) ∷ by_commas (words_seen (drop (suc n) ws))) (sym e)
    ∙ ap (λ l. words_seen (take at ws) ∷ by_commas (words_seen l)) (ap (λ n. drop n ws) (sym (add-one at)) ∙ sym (take_rest ws (at + 1)))

pub returns-then-len-words-clause-pieces : goal.returns-then-len-words-clause-pieces
returns-then-len-words-clause-pieces c = cut c.args.words.now c.piece_len-len.result c.piece_len-len.ensures (omega arith)

pub returns-else-len-words-clause-pieces : goal.returns-else-len-words-clause-pieces
returns-else-len-words-clause-pieces c =
    let words = c.args.words.now in
    let past : length words ≤ c.piece_len-len.result = omega arith in
    split_none word_seen (is_sign 44) words (subst (λ (n : ℕ). length words ≤ n) c.piece_len-len.ensures past)
