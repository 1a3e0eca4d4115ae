-- A generated text is one of small statements.
use Rattle.std.proofs.Common.{◌≡◌, ℕ, zero, suc, ◌%◌, ◌<◌, ◌==◌, Bool, true, false, List, ◌∷◌, ◌++◌, decimal, refl, sym, ap, ◌∙◌, arith, append_assoc}
use Rattle.std.proofs.lemmas.Fmt.{decimal_digit}
use Rattle.std.specs.Prelude.{codes, if◌then◌else◌}
use Rattle.nxt_gen.specs.Generator.{drawn, drawn_statements, list_statement, next_seed, on_lists, seed_behind, statements_from, text_head, text_of, three_statements}
use Rattle.nxt_gen_laws.specs.Head.{head_marks}
use Rattle.nxt_gen_laws.specs.Marks.{marked}
use Rattle.nxt_gen_laws.specs.Rows.{AreSmallRows, Built, Counted, Cut, Driven, Filled, IsSmallRow, Moved, Row, drawn_rows, list_row, row_marks, rows_from, rows_text}

-- ---- parts behind one another

join_three : (a b c x : List ℕ) → ((a ++ b) ++ c) ++ x ≡ a ++ (b ++ (c ++ x))
join_three a b c x = append_assoc (a ++ b) c x ∙ append_assoc a b (c ++ x)

join_four : (a b c d x : List ℕ) → (((a ++ b) ++ c) ++ d) ++ x ≡ a ++ (b ++ (c ++ (d ++ x)))
join_four a b c d x = append_assoc ((a ++ b) ++ c) d x ∙ join_three a b c (d ++ x)

join_six : (a b c d e f x : List ℕ) → (((((a ++ b) ++ c) ++ d) ++ e) ++ f) ++ x ≡ a ++ (b ++ (c ++ (d ++ (e ++ (f ++ x)))))
join_six a b c d e f x =
    append_assoc ((((a ++ b) ++ c) ++ d) ++ e) f x
    ∙ append_assoc (((a ++ b) ++ c) ++ d) e (f ++ x)
    ∙ join_four a b c d (e ++ (f ++ x))

-- ---- statements

list_is : (of from number kind : ℕ) (rest : List ℕ) → list_statement of from number kind ++ (10 ∷ rest) ≡ marked (row_marks (list_row of from number kind)) rest
list_is of from number kind rest = by (kind == 0) (kind == 1) (kind == 2)
  where
    filled : List ℕ
    filled = codes "arrinit a" ++ decimal of ++ codes ", " ++ decimal (number % 256) ++ codes ", " ++ decimal number

    cut : List ℕ
    cut = on_lists (codes "arrsubset a") of from ++ codes ", 0, " ++ decimal number

    built : List ℕ
    built = on_lists (codes "arrbuild a") of from ++ codes ", " ++ decimal (number % 256)

    by : (a b c : Bool)
        → (if a then filled else if b then cut else if c then built else on_lists (codes "mov a") of from) ++ (10 ∷ rest)
        ≡ marked (row_marks (if a then Filled of (number % 256) number else if b then Cut of from number else if c then Built of from (number % 256) else Moved of from)) rest
    by true b c = join_six (codes "arrinit a") (decimal of) (codes ", ") (decimal (number % 256)) (codes ", ") (decimal number) (10 ∷ rest)
    by false true c =
        join_six (codes "arrsubset a") (decimal of) (codes ", a") (decimal from) (codes ", 0, ") (decimal number) (10 ∷ rest)
        ∙ ap (λ z. codes "arrsubset a" ++ (decimal of ++ (codes ", a" ++ (decimal from ++ (codes ", " ++ (z ++ (codes ", " ++ (decimal number ++ (10 ∷ rest))))))))) (sym (decimal_digit 0 (omega arith)))
    by false false true = join_six (codes "arrbuild a") (decimal of) (codes ", a") (decimal from) (codes ", ") (decimal (number % 256)) (10 ∷ rest)
    by false false false = join_four (codes "mov a") (decimal of) (codes ", a") (decimal from) (10 ∷ rest)

three_are : (of from number kind : ℕ) (rest : List ℕ)
    → three_statements of from number kind ++ rest
    ≡ marked (row_marks (list_row of from number kind)) (marked (row_marks (Counted of)) (marked (row_marks Driven) rest))
three_are of from number kind rest =
    join_four (list_statement of from number kind) (codes "\narrsize n, a") (decimal of) (codes "\nsetout OUT_A, Power, n, UpdateFlags, UF_UPDATE_SPEED\n") rest
    ∙ list_is of from number kind (marked (row_marks (Counted of)) (marked (row_marks Driven) rest))

draw_is : (x : ℕ) (rs : List Row) → drawn_statements x ++ rows_text rs ≡ rows_text (drawn_rows x rs)
draw_is x rs =
    let a : ℕ = next_seed x in
    let b : ℕ = next_seed a in
    let c : ℕ = next_seed b in
    three_are (drawn a % 8) (drawn b % 8) (drawn c % 2048) (drawn (next_seed c) % 4) (rows_text rs)

statements_are : (times x : ℕ) → statements_from times x ++ codes "endt\n" ≡ rows_text (rows_from times x)
statements_are zero x = refl
statements_are (suc n) x =
    append_assoc (drawn_statements x) (statements_from n (seed_behind x)) (codes "endt\n")
    ∙ ap (λ t. drawn_statements x ++ t) (statements_are n (seed_behind x))
    ∙ draw_is x (rows_from n (seed_behind x))

-- so many draws, by their statements
pub text_is : (times n : ℕ) → text_of times n ≡ marked head_marks (rows_text (rows_from times n))
text_is times n =
    append_assoc text_head (statements_from times n) (codes "endt\n")
    ∙ ap (λ t. text_head ++ t) (statements_are times n)

-- ---- bounds

list_small : (of from number kind : ℕ) → of < 8 → from < 8 → number < 2048 → IsSmallRow (list_row of from number kind)
list_small of from number kind lists others numbers = by (kind == 0) (kind == 1) (kind == 2)
  where
    by : (a b c : Bool) → IsSmallRow (if a then Filled of (number % 256) number else if b then Cut of from number else if c then Built of from (number % 256) else Moved of from)
    by true b c = (lists, (omega arith, (numbers, tt)))
    by false true c = (lists, (others, (omega arith, (numbers, tt))))
    by false false true = (lists, (others, (omega arith, tt)))
    by false false false = (lists, (others, tt))

draw_small : (of from number kind : ℕ) (rs : List Row) → of < 8 → from < 8 → number < 2048 → AreSmallRows rs
    → AreSmallRows (list_row of from number kind ∷ Counted of ∷ Driven ∷ rs)
draw_small of from number kind rs lists others numbers small =
    (list_small of from number kind lists others numbers, ((tt, (lists, tt)), ((tt, (tt, (tt, (tt, (tt, tt))))), small)))

pub rows_small : (times x : ℕ) → AreSmallRows (rows_from times x)
rows_small zero x = tt
rows_small (suc n) x =
    let a : ℕ = next_seed x in
    let b : ℕ = next_seed a in
    let c : ℕ = next_seed b in
    draw_small (drawn a % 8) (drawn b % 8) (drawn c % 2048) (drawn (next_seed c) % 4) (rows_from n (seed_behind x)) (omega arith) (omega arith) (omega arith) (rows_small n (seed_behind x))
