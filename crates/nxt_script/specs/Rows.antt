-- The rows of a script, and its end.
use Rattle.std.specs.Prelude.{ℕ, ◌+◌, ◌-◌, Bool, true, false, ◌||◌, if◌then◌else◌, ◌==◌, nat_lt, List, [], ◌∷◌, length, take, Option, Some, None, option_map}
use Rattle.std.specs.List.{slice_split}
use Rattle.csv.specs.Machine.{next_record}
use Rattle.csv.specs.Reading.{default_config, strip_bom}
use Rattle.csv.specs.declared.parser.State.TheVariants as states
use Rattle.nxt_model.specs.declared.event.Event.TheVariants.{Dump}
use Rattle.nxt_model.specs.declared.event.ScriptRow.{ScriptRow}
use Rattle.nxt_model.specs.declared.event.ScriptRow.TheVariants.{Run, One}
use Rattle.nxt_model.specs.Report.{End, Whole, Bad, TooLarge}
use Rattle.nxt_script.specs.RowForms.{row_of}

-- ---- limits

abbrev pub most_bytes : ℕ
most_bytes = 16777216

abbrev pub most_rows : ℕ
most_rows = 100000

abbrev pub most_bytecodes : ℕ
most_bytecodes = 4000000

abbrev pub most_dumps : ℕ
most_dumps = 256

-- what the limits count, of the part of a script that was read
pub record Counts : Type 0 where
  pub bytes : ℕ
  pub records : ℕ
  pub bytecodes : ℕ
  pub dumps : ℕ

abbrev pub no_counts : Counts
no_counts = record { bytes = 0; records = 0; bytecodes = 0; dumps = 0 }

abbrev pub bytecodes_in : ScriptRow → ℕ
bytecodes_in (Run n) = n
bytecodes_in (One e) = 0

abbrev pub dumps_in : ScriptRow → ℕ
dumps_in (One Dump) = 1
dumps_in _ = 0

-- with one more row
abbrev pub counted : ScriptRow → Counts → Counts
counted r c = record c { records = c.records + 1; bytecodes = c.bytecodes + bytecodes_in r; dumps = c.dumps + dumps_in r }

abbrev pub passes_limit : Counts → Bool
passes_limit c = nat_lt most_rows c.records || nat_lt most_bytecodes c.bytecodes || nat_lt most_dumps c.dumps

-- ---- records

abbrev pub ends_line : ℕ → Bool
ends_line b = (b == 10) || (b == 13)

-- all but the last
abbrev pub without_last : {A : Type 0} → List A → List A
without_last [] = []
without_last (x ∷ []) = []
without_last (x ∷ y ∷ more) = x ∷ without_last (y ∷ more)

-- the script is longer than its limit
abbrev pub is_longer : Counts → List ℕ → Bool
is_longer c bytes = nat_lt most_bytes (c.bytes + length bytes)

-- the lines that count: of a longer script those that end within the limit
abbrev pub lines_of : Counts → List ℕ → List (List ℕ)
lines_of c bytes =
    if is_longer c bytes
    then without_last (slice_split ends_line (take (most_bytes - c.bytes) bytes))
    else slice_split ends_line bytes

-- the fields of the record that a line holds, if it holds one; a line of more than 512 bytes counts as a record of no form
abbrev pub record_of : List ℕ → Option (List (List ℕ))
record_of line =
    if nat_lt 512 (length line)
    then Some []
    else option_map (λ r. r.0) (next_record default_config states.StartRecord [] [] (strip_bom line))

-- ---- rows

-- the rows, and the end; of a bad record, whether it has its form and passes a limit
pub record Listing : Type 0 where
  pub rows : List ScriptRow
  pub end : End
  pub by_limit : Bool

abbrev pub no_rows : End → Bool → Listing
no_rows end by_limit = record { rows = []; end = end; by_limit = by_limit }

abbrev pub with_row : ScriptRow → Listing → Listing
with_row r l = record l { rows = r ∷ l.rows }

-- what a record's row adds, with the counts after it
abbrev pub listed : Counts → Option ScriptRow → (Counts → Listing) → Listing
listed c None more = no_rows (Bad (c.records + 1)) false
listed c (Some r) more =
    if passes_limit (counted r c) then no_rows (Bad (c.records + 1)) true else with_row r (more (counted r c))

-- what a line adds
abbrev pub listed_line : Counts → Option (List (List ℕ)) → (Counts → Listing) → Listing
listed_line c None more = more c
listed_line c (Some fields) more = listed c (row_of fields) more

abbrev pub list_lines : Bool → List (List ℕ) → Counts → Listing
list_lines longer [] c = no_rows (if longer then TooLarge else Whole c.records) false
list_lines longer (line ∷ more) c = listed_line c (record_of line) (list_lines longer more)

-- the rows of the bytes that follow those which were counted
abbrev pub rows_from : Counts → List ℕ → Listing
rows_from c bytes = list_lines (is_longer c bytes) (lines_of c bytes) c

-- the rows of a script
abbrev pub rows : List ℕ → Listing
rows bytes = rows_from no_counts bytes
