-- What the next row of a script is.
use Rattle.std.specs.Prelude.{◌≡◌, ℕ, ◌+◌, ◌≤◌, Bool, false, true, if◌then◌else◌, List, [], ◌++◌, Option, Some, None, IfSome, option_map, Result, Ok, Err, ⊤}
use Rattle.nxt_model.specs.declared.event.ScriptRow.{ScriptRow}
use Rattle.nxt_model.specs.Report.{Whole, Bad, TooLarge}
use Rattle.nxt_script.specs.declared.fault.ScriptFault.{ScriptFault}
use Rattle.nxt_script.specs.declared.fault.ScriptFault.TheVariants as faults
use Rattle.nxt_script.specs.Rows.{Counts, Listing, no_counts, no_rows, with_row, rows_from, most_rows}

-- the front of a script: what was counted of it, the bytes behind that which were taken and gave no row yet, and whether the source has ended
pub record Front : Type 0 where
  pub counts : Counts
  pub pending : List ℕ
  pub ended : Bool

-- a script: its front, or the fault that ended it
pub data Seen : Type 0 where
  Reading : Front → Seen
  Ended : ScriptFault → Seen

-- a script of which nothing was taken
abbrev pub unread : Seen
unread = Reading (record { counts = no_counts; pending = []; ended = false })

-- what is still to come behind a front, where that is known; a source may tell what it has left
abbrev pub front_to_come : Front → Option (List ℕ) → Option Listing
front_to_come f left = if f.ended then Some (rows_from f.counts f.pending) else option_map (λ more. rows_from f.counts (f.pending ++ more)) left

-- what is still to come of a script, where that is known
abbrev pub to_come : Seen → Option (List ℕ) → Option Listing
to_come (Reading f) left = front_to_come f left
to_come (Ended f) left = None

-- how many rows a script gave
abbrev pub rows_given : Seen → ℕ
rows_given (Reading f) = f.counts.records
rows_given (Ended f) = 0

-- this end is due
abbrev pub EndsWith : Option Listing → Listing → Type 0
EndsWith before end = IfSome before (λ l. l ≡ end)

-- what a fault tells of the script
abbrev pub IsFault : Option Listing → ScriptFault → Type 0
IsFault before (faults.Row n) = EndsWith before (no_rows (Bad n) false)
IsFault before (faults.TooMany n) = EndsWith before (no_rows (Bad n) true)
IsFault before faults.Failed = ⊤
IsFault before faults.TooLarge = EndsWith before (no_rows TooLarge false)
IsFault before faults.NoMemory = ⊤

-- a row was given, and the others are still to come
pub record GivesRow (before : Option Listing) (old new : Seen) (after : Option Listing) (r : ScriptRow) : Type 0 where
  pub row : IfSome before (λ l. (more : Listing) × (after ≡ Some more) × (l ≡ with_row r more))
  pub given : rows_given new ≡ rows_given old + 1
  pub few : rows_given new ≤ most_rows

-- the end was met, and stays
pub record GivesEnd (before : Option Listing) (old new : Seen) (after : Option Listing) : Type 0 where
  pub end : EndsWith before (no_rows (Whole (rows_given old)) false)
  pub still : after ≡ Some (no_rows (Whole (rows_given old)) false)
  pub given : rows_given new ≡ rows_given old

-- a call on a script that no fault ended
abbrev pub IsNext : Option Listing → Seen → Seen → Option Listing → Result (Option ScriptRow) ScriptFault → Type 0
IsNext before old new after (Ok (Some r)) = GivesRow before old new after r
IsNext before old new after (Ok None) = GivesEnd before old new after
IsNext before old new after (Err f) = IsFault before f × (new ≡ Ended f)

-- a call on any script: one that a fault ended answers that fault again
abbrev pub NextOf : Seen → Option (List ℕ) → Seen → Option (List ℕ) → Result (Option ScriptRow) ScriptFault → Type 0
NextOf (Ended f) left new left' result = (result ≡ Err f) × (new ≡ Ended f)
NextOf (Reading f) left new left' result = IsNext (front_to_come f left) (Reading f) new (to_come new left') result

-- no fault ended the script
abbrev pub IsOpen : Seen → Type 0
IsOpen (Ended f) = ⊥
IsOpen (Reading f) = ⊤
