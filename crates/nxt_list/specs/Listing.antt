-- The listing of a file: a line for its header, and one for each entry, row, clump and statement.
use Rattle.std.specs.Prelude.{ℕ, Bool, true, false, ◌||◌, if◌then◌else◌, List, [], ◌∷◌, ◌++◌, map, zip, flat_map, codes, decimal}
use Rattle.std.specs.Int.{cast_signed, w16}
use Rattle.std.specs.List.{enumerate_from, range_with_len}
use Rattle.nxt_types.specs.declared.instr.Op.{Op}
use Rattle.nxt_types.specs.declared.instr.Op.TheVariants as ops
use Rattle.nxt_types.specs.declared.kind.Cmp.{Cmp}
use Rattle.nxt_types.specs.declared.opcodes.Class.{Class}
use Rattle.nxt_types.specs.declared.opcodes.Class.TheVariants.{Offset}
use Rattle.nxt_types.specs.declared.shape.TocEntry.{TocEntry}
use Rattle.nxt_types.specs.declared.lists.ClumpRec.{ClumpRec}
use Rattle.nxt_types.specs.Shapes.{Members, some_list}
use Rattle.nxt_types.specs.Opcodes.{row, op_name, has_comparison, class_in}
use Rattle.nxt_types.specs.Statements.{Statement, statements}
use Rattle.nxt_types.specs.Mnemonics.{cmp_name, type_name}
use Rattle.nxt_rxe.specs.declared.parts.Header.{Header}
use Rattle.nxt_rxe.specs.declared.parts.Parts.{Parts}
use Rattle.nxt_rxe.specs.Files.{numbers}
use Rattle.nxt_model.specs.Means.Text.{number_text}
use Rattle.nxt_model.specs.LineText.{line_of}
use Rattle.nxt_model.specs.Reading.{Memory, dope_row, row_count}
use Rattle.nxt_layout.specs.Start.{memory}
use Rattle.nxt_code.specs.CodeRules.{dependent_lists}

-- ---- the header, the table and the rows

abbrev pub header_line : Header → List ℕ
header_line h = line_of (codes "header") (map decimal (numbers h))

abbrev pub entry_line : ℕ × TocEntry → List ℕ
entry_line (i, e) = line_of (codes "toc") (decimal i ∷ type_name e.code ∷ decimal e.flags ∷ decimal e.desc ∷ [])

abbrev pub row_line : Memory → ℕ → List ℕ
row_line m r =
    let row = dope_row m r in
    line_of (codes "row") (map decimal (r ∷ row.place ∷ row.stride ∷ row.count ∷ row.back ∷ row.link ∷ []))

-- the rows of a table, from row 0 on
abbrev pub lines_of_rows : Memory → ℕ → List ℕ
lines_of_rows m n = flat_map (row_line m) (range_with_len 0 n)

-- where the variables have a list
abbrev pub row_lines : Parts → Members → List ℕ
row_lines p ss = if some_list ss then lines_of_rows (memory p ss) (row_count (memory p ss)) else []

-- ---- the clumps

-- a clump's number, its record and its dependents
abbrev pub clump_line : ℕ × (ClumpRec × List ℕ) → List ℕ
clump_line (c, (r, ds)) = line_of (codes "clump") (map decimal (c ∷ r.fire ∷ r.start ∷ ds))

abbrev pub clump_lines : List ClumpRec → List ℕ → List ℕ
clump_lines cs ds = flat_map clump_line (enumerate_from 0 (zip cs (dependent_lists cs ds)))

-- ---- the code

abbrev pub is_finclump : Op → Bool
is_finclump ops.Finclump = true
is_finclump _ = false

abbrev pub is_offset : Class → Bool
is_offset Offset = true
is_offset _ = false

-- operand k, counted from 0, has a sign: a jump's offset has, and so have both positions of finclump
abbrev pub is_signed : Op → ℕ → Bool
is_signed op k = is_finclump op || is_offset (class_in (row op).operands k)

-- an operand's position and its word
abbrev pub operand_field : Op → ℕ × ℕ → List ℕ
operand_field op (k, w) = if is_signed op k then number_text (cast_signed w16 w) else decimal w

abbrev pub operand_fields : Op → List ℕ → List (List ℕ)
operand_fields op args = map (operand_field op) (enumerate_from 0 args)

abbrev pub comparison_fields : Op → Cmp → List (List ℕ)
comparison_fields op cmp = if has_comparison op then cmp_name cmp ∷ [] else []

-- a statement with its first word
abbrev pub statement_line : ℕ × Statement → List ℕ
statement_line (w, s) =
    line_of (codes "code") (decimal w ∷ op_name s.op ∷ comparison_fields s.op s.cmp ++ operand_fields s.op s.args)

-- ---- the whole

-- the listing of a file whose variables have these shapes
abbrev pub listing : Parts → Members → List ℕ
listing p ss =
    header_line p.header
    ++ flat_map entry_line (enumerate_from 0 p.toc)
    ++ row_lines p ss
    ++ clump_lines p.clumps p.dependents
    ++ flat_map statement_line (statements p.code)
