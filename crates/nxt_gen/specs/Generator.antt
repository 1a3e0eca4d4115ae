-- The generator: a text and a script from a number, and what is told of their run.
use Rattle.std.specs.Prelude.{ℕ, zero, suc, ◌+◌, ◌*◌, ◌/◌, ◌%◌, ◌==◌, Bool, true, false, if◌then◌else◌, List, [], ◌∷◌, ◌++◌, filter, count_by, codes, decimal, ℤ, pos, ◌+ℤ◌}
use Rattle.nxt_model.specs.declared.event.Event.TheVariants.{Compact}
use Rattle.nxt_model.specs.declared.event.ScriptRow.{ScriptRow}
use Rattle.nxt_model.specs.declared.event.ScriptRow.TheVariants.{Run, One}
use Rattle.nxt_model.specs.declared.line.Line.{Line}
use Rattle.nxt_model.specs.declared.line.Line.TheVariants as lines
use Rattle.nxt_model.specs.LineText.{line_of, lines_text}
use Rattle.nxt_model.specs.Means.Text.{number_text}

-- ---- draws

-- a number of 32 bits gives the next one
abbrev pub next_seed : ℕ → ℕ
next_seed x = (x * 1664525 + 1013904223) % 4294967296

-- and a draw is its upper half
abbrev pub drawn : ℕ → ℕ
drawn x = x / 65536

-- ---- the text

-- the name of a statement, and two lists
abbrev pub on_lists : List ℕ → ℕ → ℕ → List ℕ
on_lists name of from = name ++ decimal of ++ codes ", a" ++ decimal from

-- the first of three statements, by its kind: it makes list `of` of list `from` or of a number
abbrev pub list_statement : (of from number kind : ℕ) → List ℕ
list_statement of from number kind =
    if kind == 0 then codes "arrinit a" ++ decimal of ++ codes ", " ++ decimal (number % 256) ++ codes ", " ++ decimal number
    else if kind == 1 then on_lists (codes "arrsubset a") of from ++ codes ", 0, " ++ decimal number
    else if kind == 2 then on_lists (codes "arrbuild a") of from ++ codes ", " ++ decimal (number % 256)
    else on_lists (codes "mov a") of from

abbrev pub three_statements : (of from number kind : ℕ) → List ℕ
three_statements of from number kind =
    list_statement of from number kind
    ++ codes "\narrsize n, a" ++ decimal of
    ++ codes "\nsetout OUT_A, Power, n, UpdateFlags, UF_UPDATE_SPEED\n"

-- they are drawn by four draws
abbrev pub drawn_statements : ℕ → List ℕ
drawn_statements x =
    let a = next_seed x in
    let b = next_seed a in
    let c = next_seed b in
    three_statements (drawn a % 8) (drawn b % 8) (drawn c % 2048) (drawn (next_seed c) % 4)

abbrev pub seed_behind : ℕ → ℕ
seed_behind x = next_seed (next_seed (next_seed (next_seed x)))

-- so many times three
abbrev pub statements_from : ℕ → ℕ → List ℕ
statements_from zero x = []
statements_from (suc n) x = drawn_statements x ++ statements_from n (seed_behind x)

abbrev pub text_head : List ℕ
text_head =
    codes "#include \"NXTDefs.h\"\ndseg segment\na0 byte[]\na1 byte[]\na2 byte[]\na3 byte[]\na4 byte[]\na5 byte[]\na6 byte[]\na7 byte[]\nn long\ndseg ends\nthread main\n"

abbrev pub text_of : ℕ → ℕ → List ℕ
text_of times n = text_head ++ statements_from times n ++ codes "endt\n"

unfoldable pub generated_text : ℕ → List ℕ
generated_text n = text_of 400 n

-- ---- the script

-- so many times six bytecodes, and a block that is moved
abbrev pub repeated_rows : ℕ → List ScriptRow
repeated_rows zero = []
repeated_rows (suc n) = Run 6 ∷ One (Compact 1) ∷ repeated_rows n

abbrev pub rows_of : ℕ → List ScriptRow
rows_of times = repeated_rows times ++ Run 2 ∷ []

unfoldable pub generated_rows : List ScriptRow
generated_rows = rows_of 200

-- ---- what is told

abbrev pub is_motor : Line → Bool
is_motor (lines.Motor port mode power run_state ratio regulation limit) = true
is_motor _ = false

abbrev pub is_stop : Line → Bool
is_stop (lines.Stop why) = true
is_stop _ = false

abbrev pub power_of : Line → ℤ
power_of (lines.Motor port mode power run_state ratio regulation limit) = power
power_of _ = pos 0

abbrev pub sum_of_powers : List Line → ℤ
sum_of_powers [] = pos 0
sum_of_powers (l ∷ ls) = power_of l +ℤ sum_of_powers ls

-- the number, how many lines of motors there are and the sum of their powers, and the line of the stop
abbrev pub told_of : ℕ → List Line → List ℕ
told_of n ls =
    line_of (codes "gen") (decimal n ∷ [])
    ++ line_of (codes "motors") (decimal (count_by is_motor ls) ∷ [])
    ++ line_of (codes "sum") (number_text (sum_of_powers ls) ∷ [])
    ++ lines_text (filter is_stop ls)
