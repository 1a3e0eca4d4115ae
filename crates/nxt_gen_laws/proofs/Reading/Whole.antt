-- The lines of a text of statements.
use Rattle.std.proofs.Common.{◌≡◌, ℕ, List, [], ◌∷◌, length, Ok, refl, sym, subst, le_refl}
use Rattle.nxt_model.specs.Nbc.Tokens.{Token, lines_of, tokens_of}
use Rattle.nxt_gen_laws.specs.Head.{head_lines, head_marks}
use Rattle.nxt_gen_laws.specs.Marks.{AreTokens, Reads, marked, marked_lines}
use Rattle.nxt_gen_laws.specs.Rows.{AreSmallRows, Row, row_lines, rows_text}
use Rattle.nxt_gen_laws.proofs.Reading.Lines.{rows_read}
use Rattle.nxt_gen_laws.proofs.Reading.Pieces.{with_marks}

head_tokens : (rest : List ℕ) → AreTokens head_marks rest
head_tokens rest = ((refl, refl, refl), ((refl, refl, refl), ((refl, refl, refl), ((refl, refl, refl), ((refl, refl, refl), ((refl, refl, refl), ((refl, refl, refl), ((refl, refl, refl), ((refl, refl, refl), ((refl, refl, refl), ((refl, refl, refl), ((refl, refl, refl), ((refl, refl, refl), ((refl, refl, refl), ((refl, refl, refl), ((refl, refl, refl), ((refl, refl, refl), ((refl, refl, refl), ((refl, refl, refl), ((refl, refl, refl), ((refl, refl, refl), ((refl, refl, refl), ((refl, refl, refl), ((refl, refl, refl), ((refl, refl, refl), ((refl, refl, refl), ((refl, refl, refl), ((refl, refl, refl), ((refl, refl, refl), ((refl, refl, refl), ((refl, refl, refl), ((refl, refl, refl), ((refl, refl, refl), ((refl, refl, refl), ((refl, refl, refl), ((refl, refl, refl), ((refl, refl, refl), ((refl, refl, refl), ((refl, refl, refl), ((refl, refl, refl), ((refl, refl, refl), ((refl, refl, refl), ((refl, refl, refl), tt)))))))))))))))))))))))))))))))))))))))))))

head_put : (rs : List Row) → marked_lines 1 head_marks (row_lines 14 rs) ≡ head_lines (row_lines 14 rs)
head_put [] = refl
head_put (r ∷ rs) = refl

whole_read : (rs : List Row) → AreSmallRows rs → Reads 1 (marked head_marks (rows_text rs)) (head_lines (row_lines 14 rs))
whole_read rs small =
    subst (Reads 1 (marked head_marks (rows_text rs))) (head_put rs)
    (with_marks 1 head_marks (rows_text rs) (row_lines 14 rs) (head_tokens (rows_text rs)) (rows_read 14 rs small))

-- the tokens of a text, and its lines
pub text_read : (rs : List Row) → AreSmallRows rs → (text : List ℕ) → text ≡ marked head_marks (rows_text rs)
    → (ts : List Token) × (tokens_of text ≡ Ok ts) × (lines_of text ts ≡ head_lines (row_lines 14 rs))
text_read rs small text is =
    let reads : Reads 1 text (head_lines (row_lines 14 rs)) = subst (λ t. Reads 1 t (head_lines (row_lines 14 rs))) (sym is) (whole_read rs small) in
    reads [] (length text) (le_refl (length text))
