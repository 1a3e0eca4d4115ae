-- The statements of generated texts, one a line: their marks, words and forms, and what they mean.
use Rattle.std.specs.Prelude.{ℕ, zero, suc, ◌%◌, ◌<◌, ◌==◌, if◌then◌else◌, List, [], ◌∷◌, map, codes, decimal, pos, None, ⊤}
use Rattle.nxt_types.specs.Opcodes.{op_name}
use Rattle.nxt_types.specs.Shapes.{Shape, Number, Array}
use Rattle.nxt_types.specs.declared.instr.Op.{Op}
use Rattle.nxt_types.specs.declared.instr.Op.TheVariants as ops
use Rattle.nxt_types.specs.declared.kind.Cmp.TheVariants.{Lt}
use Rattle.nxt_types.specs.declared.kind.Kind.TheVariants.{Ubyte, Ulong}
use Rattle.nxt_model.specs.Nbc.Tokens as tokens
use Rattle.nxt_model.specs.Nbc.Tokens.{Line, Word}
use Rattle.nxt_model.specs.Nbc.Forms.{Form, Term, Named, Literal, Do, CloseBlock}
use Rattle.nxt_model.specs.Nbc.Text.{Denoted, AVariable, ANumber}
use Rattle.nxt_gen.specs.Generator.{drawn, next_seed, seed_behind}
use Rattle.nxt_gen_laws.specs.Marks.{Mark, Written, Blank, NextLine, marked}

-- ---- operands

-- a list by its number, a number, the variable for sizes, and names of the header
pub data Operand : Type 0 where
  TheList : ℕ → Operand
  Numeral : ℕ → Operand
  TheSize : Operand
  Port : Operand
  Power : Operand
  Flags : Operand
  Speed : Operand

abbrev pub operand_bytes : Operand → List ℕ
operand_bytes (TheList i) = 97 ∷ decimal i
operand_bytes (Numeral v) = decimal v
operand_bytes TheSize = codes "n"
operand_bytes Port = codes "OUT_A"
operand_bytes Power = codes "Power"
operand_bytes Flags = codes "UpdateFlags"
operand_bytes Speed = codes "UF_UPDATE_SPEED"

abbrev pub operand_word : Operand → Word
operand_word (Numeral v) = tokens.Number (pos v)
operand_word o = tokens.Name (operand_bytes o)

abbrev pub operand_term : Operand → Term
operand_term (Numeral v) = Literal (pos v)
operand_term o = Named (operand_bytes o ∷ [])

abbrev pub byte_list : Shape
byte_list = Array 1 (Number Ubyte)

abbrev pub meaning : Operand → Denoted
meaning (TheList i) = AVariable i [] byte_list
meaning (Numeral v) = ANumber (pos v)
meaning TheSize = AVariable 8 [] (Number Ulong)
meaning Port = ANumber (pos 0)
meaning Power = ANumber (pos 2)
meaning Flags = ANumber (pos 0)
meaning Speed = ANumber (pos 2)

-- there are eight lists, and numbers are below 2,048
abbrev pub IsSmall : Operand → Type 0
IsSmall (TheList i) = i < 8
IsSmall (Numeral v) = v < 2048
IsSmall o = ⊤

abbrev pub AreSmall : List Operand → Type 0
AreSmall [] = ⊤
AreSmall (o ∷ os) = IsSmall o × AreSmall os

-- ---- rows

-- list `of` is filled with a byte, cut from a list, built of a list and a byte, or a list is moved to it; then its size
-- is taken, and it drives a motor
pub data Row : Type 0 where
  Filled : (of byte number : ℕ) → Row
  Cut : (of from number : ℕ) → Row
  Built : (of from byte : ℕ) → Row
  Moved : (of from : ℕ) → Row
  Counted : (of : ℕ) → Row
  Driven : Row

abbrev pub row_op : Row → Op
row_op (Filled of byte number) = ops.Arrinit
row_op (Cut of from number) = ops.Arrsubset
row_op (Built of from byte) = ops.Arrbuild
row_op (Moved of from) = ops.Mov
row_op (Counted of) = ops.Arrsize
row_op Driven = ops.Setout

-- the first operand, and the others
abbrev pub first_operand : Row → Operand
first_operand (Filled of byte number) = TheList of
first_operand (Cut of from number) = TheList of
first_operand (Built of from byte) = TheList of
first_operand (Moved of from) = TheList of
first_operand (Counted of) = TheSize
first_operand Driven = Port

abbrev pub other_operands : Row → List Operand
other_operands (Filled of byte number) = Numeral byte ∷ Numeral number ∷ []
other_operands (Cut of from number) = TheList from ∷ Numeral 0 ∷ Numeral number ∷ []
other_operands (Built of from byte) = TheList from ∷ Numeral byte ∷ []
other_operands (Moved of from) = TheList from ∷ []
other_operands (Counted of) = TheList of ∷ []
other_operands Driven = Power ∷ TheSize ∷ Flags ∷ Speed ∷ []

abbrev pub operands : Row → List Operand
operands r = first_operand r ∷ other_operands r

abbrev pub IsSmallRow : Row → Type 0
IsSmallRow r = AreSmall (operands r)

abbrev pub AreSmallRows : List Row → Type 0
AreSmallRows [] = ⊤
AreSmallRows (r ∷ rs) = IsSmallRow r × AreSmallRows rs

-- ---- marks and words

abbrev pub more_marks : List Operand → List Mark
more_marks [] = NextLine ∷ []
more_marks (o ∷ os) = Written (codes ",") ∷ Blank ∷ Written (operand_bytes o) ∷ more_marks os

abbrev pub row_marks : Row → List Mark
row_marks r = Written (op_name (row_op r)) ∷ Blank ∷ Written (operand_bytes (first_operand r)) ∷ more_marks (other_operands r)

-- rows one after another, and the end of the thread
abbrev pub rows_text : List Row → List ℕ
rows_text [] = codes "endt\n"
rows_text (r ∷ rs) = marked (row_marks r) (rows_text rs)

abbrev pub more_words : List Operand → List Word
more_words [] = []
more_words (o ∷ os) = tokens.Sign 44 ∷ operand_word o ∷ more_words os

abbrev pub row_words : Row → List Word
row_words r = tokens.Name (op_name (row_op r)) ∷ operand_word (first_operand r) ∷ more_words (other_operands r)

-- ---- lines and forms

-- each on a line of its own, and the end of the thread behind them
abbrev pub row_lines : ℕ → List Row → List Line
row_lines line [] = (line, tokens.Name (codes "endt") ∷ []) ∷ []
row_lines line (r ∷ rs) = (line, row_words r) ∷ row_lines (suc line) rs

abbrev pub row_form : Row → Form
row_form r = Do None (row_op r) Lt (map operand_term (operands r))

abbrev pub row_forms : ℕ → List Row → List (ℕ × Form)
row_forms line [] = (line, CloseBlock) ∷ []
row_forms line (r ∷ rs) = (line, row_form r) ∷ row_forms (suc line) rs

-- ---- draws

abbrev pub list_row : (of from number kind : ℕ) → Row
list_row of from number kind =
    if kind == 0 then Filled of (number % 256) number
    else if kind == 1 then Cut of from number
    else if kind == 2 then Built of from (number % 256)
    else Moved of from

-- the rows of a draw, in front of others
abbrev pub drawn_rows : ℕ → List Row → List Row
drawn_rows x more =
    let a = next_seed x in
    let b = next_seed a in
    let c = next_seed b in
    list_row (drawn a % 8) (drawn b % 8) (drawn c % 2048) (drawn (next_seed c) % 4) ∷ Counted (drawn a % 8) ∷ Driven ∷ more

abbrev pub rows_from : ℕ → ℕ → List Row
rows_from zero x = []
rows_from (suc n) x = drawn_rows x (rows_from n (seed_behind x))
