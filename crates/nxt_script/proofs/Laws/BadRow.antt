-- A bad row comes behind all the others.
use Rattle.std.proofs.Common.{◌≡◌, ℕ, ◌+◌, Bool, true, false, List, [], ◌∷◌, length, Option, Some, None, subst, arith}
use Rattle.std.specs.Prelude.{if◌then◌else◌, ⊤}
use Rattle.nxt_model.specs.Report.{End, Whole, Bad, TooLarge}
use Rattle.nxt_model.specs.declared.event.ScriptRow.{ScriptRow}
use Rattle.nxt_script.specs.RowForms.{row_of}
use Rattle.nxt_script.specs.Rows.{Counts, Listing, no_rows, with_row, counted, passes_limit, listed, listed_line, list_lines, record_of, is_longer, lines_of, no_counts, rows}

-- where the last row is bad it has this number
abbrev pub IsBadOne : ℕ → End → Type 0
IsBadOne n (Bad k) = k ≡ n
IsBadOne n (Whole k) = ⊤
IsBadOne n TooLarge = ⊤

-- the number behind those of the rows
abbrev IsBehind : Counts → Listing → Type 0
IsBehind c l = IsBadOne (c.records + length l.rows + 1) l.end

limited_behind : (passed : Bool) (c : Counts) (r : ScriptRow) (l : Listing) → IsBehind (counted r c) l → IsBehind c (if passed then no_rows (Bad (c.records + 1)) true else with_row r l)
limited_behind true c r l more = omega arith
limited_behind false c r l more =
    let n : c.records + 1 + length l.rows + 1 ≡ c.records + length (r ∷ l.rows) + 1 = omega arith in
    subst (λ k. IsBadOne k l.end) n more

listed_behind : (c : Counts) (o : Option ScriptRow) (more : Counts → Listing) → ((d : Counts) → IsBehind d (more d)) → IsBehind c (listed c o more)
listed_behind c None more rest = omega arith
listed_behind c (Some r) more rest = limited_behind (passes_limit (counted r c)) c r (more (counted r c)) (rest (counted r c))

line_behind : (c : Counts) (o : Option (List (List ℕ))) (more : Counts → Listing) → ((d : Counts) → IsBehind d (more d)) → IsBehind c (listed_line c o more)
line_behind c None more rest = rest c
line_behind c (Some fields) more rest = listed_behind c (row_of fields) more rest

end_behind : (longer : Bool) (c : Counts) → IsBehind c (no_rows (if longer then TooLarge else Whole c.records) false)
end_behind true c = tt
end_behind false c = tt

lines_behind : (longer : Bool) (lines : List (List ℕ)) (c : Counts) → IsBehind c (list_lines longer lines c)
lines_behind longer [] c = end_behind longer c
lines_behind longer (line ∷ more) c = line_behind c (record_of line) (list_lines longer more) (lines_behind longer more)

-- the number of a bad row is that of the rows before it and one
pub bad_row_behind : (script : List ℕ) → IsBadOne (length (rows script).rows + 1) (rows script).end
bad_row_behind script =
    let n : 0 + length (rows script).rows + 1 ≡ length (rows script).rows + 1 = omega arith in
    subst (λ k. IsBadOne k (rows script).end) n (lines_behind (is_longer no_counts script) (lines_of no_counts script) no_counts)
