-- How far a script is taken ahead of the rows that it gives.
use Rattle.std.specs.Prelude.{◌≡◌, ℕ, ◌+◌, ◌<◌, ◌≤◌, true, if◌then◌else◌, is_some, List, [], ◌∷◌, ◌++◌, length, drop, Option, Some, None, Result, Ok, Err, ⊤}
use Rattle.std.specs.List.{slice_split}
use Rattle.std.specs.Io.KnownBytes.{Consumes}
use Rattle.nxt_model.specs.declared.event.ScriptRow.{ScriptRow}
use Rattle.nxt_script.specs.declared.fault.ScriptFault.{ScriptFault}
use Rattle.nxt_script.specs.Rows.{ends_line, record_of, without_last}
use Rattle.nxt_script.specs.Scripts.{Seen, Reading, Ended}

-- the most bytes that are taken beyond the record of a row
abbrev pub most_ahead : ℕ
most_ahead = 8192

-- how many bytes go to the end of the first line that holds a record, with the byte that ends it; of lines without a record, one more than all
abbrev pub first_record : List (List ℕ) → ℕ
first_record [] = 0
first_record (line ∷ more) = length line + 1 + (if is_some (record_of line) then 0 else first_record more)

abbrev pub record_end : List ℕ → ℕ
record_end bytes = first_record (slice_split ends_line bytes)

-- how many of these lines hold a record
abbrev pub count_records : List (List ℕ) → ℕ
count_records [] = 0
count_records (line ∷ more) = (if is_some (record_of line) then 1 else 0) + count_records more

-- how many records end in these bytes, each with a byte that ends its line
abbrev pub records_in : List ℕ → ℕ
records_in bytes = count_records (without_last (slice_split ends_line bytes))

-- the bytes go at most so far beyond the first record
abbrev pub IsNear : List ℕ → Type 0
IsNear bytes = length bytes ≤ record_end bytes + most_ahead

-- the bytes that were taken and gave no row yet
abbrev pub pending_of : Seen → List ℕ
pending_of (Reading f) = f.pending
pending_of (Ended f) = []

-- the source has ended, so that it isn't asked again
abbrev pub HasEnded : Seen → Type 0
HasEnded (Reading f) = f.ended ≡ true
HasEnded (Ended f) = ⊥

-- a row leaves what stands behind its record; that of a last line which no byte ends leaves nothing
pub record Rest (bytes : List ℕ) (new : Seen) : Type 0 where
  pub pending : pending_of new ≡ drop (record_end bytes) bytes
  pub ended : length bytes < record_end bytes → HasEnded new

abbrev pub LeavesRest : List ℕ → Seen → Result (Option ScriptRow) ScriptFault → Type 0
LeavesRest bytes new (Ok (Some r)) = Rest bytes new
LeavesRest bytes new (Ok None) = ⊤
LeavesRest bytes new (Err f) = ⊤

-- what a call takes of a source: bytes near the next record. Of a script that a fault ended it takes nothing
abbrev pub TakesFew : Seen → Option (List ℕ) → Seen → Option (List ℕ) → Result (Option ScriptRow) ScriptFault → Type 0
TakesFew (Reading f) left new left' result = (taken : List ℕ) × Consumes left left' taken × IsNear (f.pending ++ taken) × LeavesRest (f.pending ++ taken) new result
TakesFew (Ended f) left new left' result = Consumes left left' []
