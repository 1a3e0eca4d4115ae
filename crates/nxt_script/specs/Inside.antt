-- Inside of the crate: lines of the bytes that were taken, and what a call makes of the front of a script.
use Rattle.std.specs.Prelude.{◌≡◌, ℕ, ◌+◌, ◌<◌, ◌≤◌, ◌⊎◌, min, false, true, List, [], ◌++◌, length, take, drop, slice_index, Option, Some, None, Result, Ok, Err}
use Rattle.std.specs.List.{AllByRecursion}
use Rattle.std.specs.Io.KnownBytes.{Consumes, IsAtEnd}
use Rattle.nxt_model.specs.declared.event.ScriptRow.{ScriptRow}
use Rattle.nxt_model.specs.Report.{Whole}
use Rattle.csv.specs.Records.{fields_of}
use Rattle.csv.specs.declared.record.ByteRecord.{ByteRecord}
use Rattle.nxt_script.specs.declared.fault.ScriptFault.{ScriptFault}
use Rattle.nxt_script.specs.RowForms.{row_of}
use Rattle.nxt_script.specs.Rows.{ends_line, listed, listed_line, no_rows, with_row, record_of, rows_from, most_rows}
use Rattle.nxt_script.specs.Scripts.{Front, IsFault}
use Rattle.nxt_script.specs.Ahead.{record_end}

-- ---- lines

-- no byte ends a line
abbrev pub IsLine : List ℕ → Type 0
IsLine line = AllByRecursion (λ b. ends_line b ≡ false) line

-- the first k bytes are a line, and the next one ends it, if there is one
pub record IsFirstLine (bytes : List ℕ) (k : ℕ) : Type 0 where
  pub within : k ≤ length bytes
  pub line : IsLine (take k bytes)
  pub end : k < length bytes → ends_line (slice_index bytes k) ≡ true

-- how many bytes the line takes, with the byte that ends it
abbrev pub taken_by : ℕ → List ℕ → ℕ
taken_by k bytes = min (k + 1) (length bytes)

-- the first line of a front has k bytes, and is whole
pub record HasLine (f : Front) (k : ℕ) : Type 0 where
  pub first : IsFirstLine f.pending k
  pub whole : (k < length f.pending) ⊎ (f.ended ≡ true)

-- the bytes may follow those of a front
abbrev pub MayFollow : Front → List ℕ → Type 0
MayFollow f more = f.ended ≡ true → more ≡ []

-- ---- calls

-- the bytes that were taken, from one front to the next
pub record Reads (a b : Front) (left left' : Option (List ℕ)) (taken : List ℕ) : Type 0 where
  pub consumes : Consumes left left' taken
  pub end : a.ended ≡ false → b.ended ≡ true → IsAtEnd left'
  pub still : a.ended ≡ true → (b.ended ≡ true) × (taken ≡ []) × (left' ≡ left)

-- the bytes that were passed hold no record, and the others are there
pub record Passes (a b : Front) (taken : List ℕ) : Type 0 where
  pub count : ℕ
  pub within : count ≤ length (a.pending ++ taken)
  pub pending : b.pending ≡ drop count (a.pending ++ taken)
  pub bytes : b.counts.bytes ≡ a.counts.bytes + count
  pub records : b.counts.records ≡ a.counts.records
  pub rows : (more : List ℕ) → MayFollow b more → rows_from a.counts (a.pending ++ (taken ++ more)) ≡ rows_from b.counts (b.pending ++ more)
  pub end : (more : List ℕ) → MayFollow b more → record_end (a.pending ++ (taken ++ more)) ≡ count + record_end (b.pending ++ more)

-- the first line was passed, and these are its fields, if it holds a record
pub record PassesLine (a b : Front) (k : ℕ) (fields : Option (List (List ℕ))) : Type 0 where
  pub spelled : fields ≡ record_of (take k a.pending)
  pub pending : b.pending ≡ drop (taken_by k a.pending) a.pending
  pub bytes : b.counts.bytes ≡ a.counts.bytes + taken_by k a.pending
  pub records : b.counts.records ≡ a.counts.records
  pub ended : b.ended ≡ a.ended
  pub rows : (more : List ℕ) → MayFollow a more → rows_from a.counts (a.pending ++ more) ≡ listed_line b.counts fields (λ d. rows_from d (b.pending ++ more))

-- a record was found, with these fields
pub record FindsFields (a b : Front) (taken : List ℕ) (fields : List (List ℕ)) : Type 0 where
  pub rows : (more : List ℕ) → MayFollow b more → rows_from a.counts (a.pending ++ (taken ++ more)) ≡ listed b.counts (row_of fields) (λ d. rows_from d (b.pending ++ more))
  pub records : b.counts.records ≡ a.counts.records
  pub rest : b.pending ≡ drop (record_end (a.pending ++ taken)) (a.pending ++ taken)
  pub over : length (a.pending ++ taken) < record_end (a.pending ++ taken) → b.ended ≡ true

-- a row was found
pub record FindsRow (a b : Front) (taken : List ℕ) (r : ScriptRow) : Type 0 where
  pub rows : (more : List ℕ) → MayFollow b more → rows_from a.counts (a.pending ++ (taken ++ more)) ≡ with_row r (rows_from b.counts (b.pending ++ more))
  pub records : b.counts.records ≡ a.counts.records + 1
  pub few : b.counts.records ≤ most_rows
  pub rest : b.pending ≡ drop (record_end (a.pending ++ taken)) (a.pending ++ taken)
  pub over : length (a.pending ++ taken) < record_end (a.pending ++ taken) → b.ended ≡ true

-- the end was found
pub record FindsEnd (a b : Front) (taken : List ℕ) : Type 0 where
  pub rows : rows_from a.counts (a.pending ++ taken) ≡ no_rows (Whole a.counts.records) false
  pub still : rows_from b.counts b.pending ≡ no_rows (Whole a.counts.records) false
  pub records : b.counts.records ≡ a.counts.records
  pub ended : b.ended ≡ true

-- no more is found, and the fault tells of the script what it must
abbrev pub FindsFault : Front → Front → List ℕ → ScriptFault → Type 0
FindsFault a b taken f = (more : List ℕ) → MayFollow b more → IsFault (Some (rows_from a.counts (a.pending ++ (taken ++ more)))) f

-- what a call finds: a record, or the end
abbrev pub FindsRecord : Front → Front → List ℕ → Result (Option ByteRecord) ScriptFault → Type 0
FindsRecord a b taken (Ok (Some fields)) = FindsFields a b taken (fields_of fields)
FindsRecord a b taken (Ok None) = FindsEnd a b taken
FindsRecord a b taken (Err f) = FindsFault a b taken f

-- what a call finds: a row, or the end
abbrev pub Finds : Front → Front → List ℕ → Result (Option ScriptRow) ScriptFault → Type 0
Finds a b taken (Ok (Some r)) = FindsRow a b taken r
Finds a b taken (Ok None) = FindsEnd a b taken
Finds a b taken (Err f) = FindsFault a b taken f
