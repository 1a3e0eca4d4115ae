-- The lines of statements: the marks of each are tokens, and put its words on its line.
use Rattle.std.proofs.Common.{◌≡◌, ℕ, suc, ◌==◌, true, false, List, [], ◌∷◌, ◌++◌, refl, sym, ap, ◌∙◌, subst, arith}
use Rattle.std.specs.Prelude.{if◌then◌else◌, codes}
use Rattle.std.proofs.lemmas.Bool.Decides.{nat_tests}
use Rattle.nxt_types.specs.Opcodes.{op_name}
use Rattle.nxt_model.specs.Nbc.Tokens.{Line, Name, Sign, Word, put_word, word_of}
use Rattle.nxt_gen_laws.specs.Marks.{AreTokens, IsToken, NextLine, Reads, Written, line_behind, marked, marked_lines}
use Rattle.nxt_gen_laws.specs.Rows.{AreSmall, AreSmallRows, Built, Counted, Cut, Driven, Filled, Flags, IsSmall, IsSmallRow, Moved, Numeral, Operand, Port, Power, Row, Speed, TheList, TheSize, first_operand, more_marks, more_words, operand_bytes, operand_word, other_operands, row_lines, row_marks, row_op, row_words, rows_text}
use Rattle.nxt_gen_laws.proofs.Reading.Numerals.{comma_stops, decimal_token, decimal_word, feed_stops, list_token}
use Rattle.nxt_gen_laws.proofs.Reading.Pieces.{nothing, with_marks}

-- ---- operands

-- an operand in front of a comma and of a line feed
at_comma : (o : Operand) → IsSmall o → (rest : List ℕ) → IsToken (operand_bytes o) (44 ∷ rest)
at_comma (TheList i) small rest = list_token i (omega (arith, small)) 44 rest comma_stops
at_comma (Numeral v) small rest = decimal_token v small 44 rest comma_stops
at_comma TheSize small rest = (refl, refl, refl)
at_comma Port small rest = (refl, refl, refl)
at_comma Power small rest = (refl, refl, refl)
at_comma Flags small rest = (refl, refl, refl)
at_comma Speed small rest = (refl, refl, refl)

at_feed : (o : Operand) → IsSmall o → (rest : List ℕ) → IsToken (operand_bytes o) (10 ∷ rest)
at_feed (TheList i) small rest = list_token i (omega (arith, small)) 10 rest feed_stops
at_feed (Numeral v) small rest = decimal_token v small 10 rest feed_stops
at_feed TheSize small rest = (refl, refl, refl)
at_feed Port small rest = (refl, refl, refl)
at_feed Power small rest = (refl, refl, refl)
at_feed Flags small rest = (refl, refl, refl)
at_feed Speed small rest = (refl, refl, refl)

-- an operand and those behind it
operands_are : (o : Operand) (os : List Operand) → IsSmall o → AreSmall os → (rest : List ℕ) → AreTokens (Written (operand_bytes o) ∷ more_marks os) rest
operands_are o [] small others rest = (at_feed o small rest, tt)
operands_are o (p ∷ os) small others rest =
    (at_comma o small (32 ∷ (operand_bytes p ++ marked (more_marks os) rest)), ((refl, refl, refl), operands_are p os others.0 others.1 rest))

name_there : (r : Row) (rest : List ℕ) → IsToken (op_name (row_op r)) (32 ∷ rest)
name_there (Filled of byte number) rest = (refl, refl, refl)
name_there (Cut of from number) rest = (refl, refl, refl)
name_there (Built of from byte) rest = (refl, refl, refl)
name_there (Moved of from) rest = (refl, refl, refl)
name_there (Counted of) rest = (refl, refl, refl)
name_there Driven rest = (refl, refl, refl)

row_tokens : (r : Row) → IsSmallRow r → (rest : List ℕ) → AreTokens (row_marks r) rest
row_tokens r small rest =
    (name_there r (operand_bytes (first_operand r) ++ marked (more_marks (other_operands r)) rest), operands_are (first_operand r) (other_operands r) small.0 small.1 rest)

-- ---- words

operand_said : (o : Operand) → IsSmall o → word_of (operand_bytes o) ≡ operand_word o
operand_said (TheList i) small = refl
operand_said (Numeral v) small = decimal_word v small
operand_said TheSize small = refl
operand_said Port small = refl
operand_said Power small = refl
operand_said Flags small = refl
operand_said Speed small = refl

name_said : (r : Row) → word_of (op_name (row_op r)) ≡ Name (op_name (row_op r))
name_said (Filled of byte number) = refl
name_said (Cut of from number) = refl
name_said (Built of from byte) = refl
name_said (Moved of from) = refl
name_said (Counted of) = refl
name_said Driven = refl

-- a word on a line that has words, and on one that has none
put_same : (line : ℕ) (w : Word) (ws : List Word) (ls : List Line) → put_word line w ((line, ws) ∷ ls) ≡ (line, w ∷ ws) ∷ ls
put_same line w ws ls =
    let same : (line == line) ≡ true = grind (arith, nat_tests) in
    ap (λ b. if b then (line, w ∷ ws) ∷ ls else (line, w ∷ []) ∷ (line, ws) ∷ ls) same

put_above : (line : ℕ) (w : Word) (rs : List Row) → put_word line w (row_lines (suc line) rs) ≡ (line, w ∷ []) ∷ row_lines (suc line) rs
put_above line w rs = by rs
  where
    other : (suc line == line) ≡ false
    other = grind (arith, nat_tests)

    by : (rs : List Row) → put_word line w (row_lines (suc line) rs) ≡ (line, w ∷ []) ∷ row_lines (suc line) rs
    by [] = ap (λ b. if b then (line, w ∷ Name (codes "endt") ∷ []) ∷ [] else (line, w ∷ []) ∷ row_lines (suc line) []) other
    by (r ∷ rs) = ap (λ b. if b then (line, w ∷ row_words r) ∷ row_lines (suc (suc line)) rs else (line, w ∷ []) ∷ row_lines (suc line) (r ∷ rs)) other

-- the words of operands behind a first one
others_put : (line : ℕ) (w : Word) (os : List Operand) → AreSmall os → (rs : List Row)
    → put_word line w (marked_lines line (more_marks os) (row_lines (suc line) rs)) ≡ (line, w ∷ more_words os) ∷ row_lines (suc line) rs
others_put line w [] small rs = put_above line w rs
others_put line w (o ∷ os) small rs =
    let ls : List Line = marked_lines line (more_marks os) (row_lines (suc line) rs) in
    let below : List Line = row_lines (suc line) rs in
    ap (λ v. put_word line w (put_word line (Sign 44) (put_word line v ls))) (operand_said o small.0)
    ∙ ap (λ l. put_word line w (put_word line (Sign 44) l)) (others_put line (operand_word o) os small.1 rs)
    ∙ ap (put_word line w) (put_same line (Sign 44) (operand_word o ∷ more_words os) below)
    ∙ put_same line w (Sign 44 ∷ operand_word o ∷ more_words os) below

row_put : (line : ℕ) (r : Row) → IsSmallRow r → (rs : List Row) → marked_lines line (row_marks r) (row_lines (suc line) rs) ≡ row_lines line (r ∷ rs)
row_put line r small rs =
    let os : List Operand = other_operands r in
    let w : Word = operand_word (first_operand r) in
    let ls : List Line = marked_lines line (more_marks os) (row_lines (suc line) rs) in
    ap (λ v. put_word line v (put_word line (word_of (operand_bytes (first_operand r))) ls)) (name_said r)
    ∙ ap (λ v. put_word line (Name (op_name (row_op r))) (put_word line v ls)) (operand_said (first_operand r) small.0)
    ∙ ap (put_word line (Name (op_name (row_op r)))) (others_put line w os small.1 rs)
    ∙ put_same line (Name (op_name (row_op r))) (w ∷ more_words os) (row_lines (suc line) rs)

-- ---- all statements

behind_others : (line : ℕ) (os : List Operand) → line_behind line (more_marks os) ≡ suc line
behind_others line [] = refl
behind_others line (o ∷ os) = behind_others line os

-- the statements of a text and the end of its thread
pub rows_read : (line : ℕ) (rs : List Row) → AreSmallRows rs → Reads line (rows_text rs) (row_lines line rs)
rows_read line [] small = with_marks line (Written (codes "endt") ∷ NextLine ∷ []) [] [] ((refl, refl, refl), tt) (nothing (suc line))
rows_read line (r ∷ rs) small =
    let below : List Line = row_lines (suc line) rs in
    subst (Reads line (rows_text (r ∷ rs))) (row_put line r small.0 rs)
    (with_marks line (row_marks r) (rows_text rs) below (row_tokens r small.0 (rows_text rs))
    (subst (λ l. Reads l (rows_text rs) below) (sym (behind_others line (other_operands r))) (rows_read (suc line) rs small.1)))
