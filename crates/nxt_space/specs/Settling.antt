-- What lets blocks settle, and how a bytecode and a compaction leave the pool.
use Rattle.std.specs.Prelude.{◌≡◌, ℕ, ◌+◌, ◌-◌, ◌<◌, ◌≤◌, ◌==◌, min, Bool, ◌&&◌, ◌||◌, not, if◌then◌else◌, List}
use Rattle.std.specs.Bool.{OnTrue}
use Rattle.std.specs.List.{AllByRecursion}
use Rattle.nxt_heap.specs.Lists.{Pool}
use Rattle.nxt_model.specs.Dump.{Mark}
use Rattle.nxt_rows.specs.Rows.{dope_row, row_count}
use Rattle.nxt_space.specs.Dumping.{unsettled_of}
use Rattle.nxt_space.specs.Keeping.{BlocksStay}
use Rattle.nxt_space.specs.Variables.{SpaceViews}

-- the row is one of the table's, and the elements of its list are apart
pub record IsListRow (p : Pool) (r : ℕ) : Type 0 where
  pub within : r < row_count p.bytes p.table
  pub apart : 1 ≤ (dope_row p.bytes p.table r).stride

-- each of these rows is, and the table has a row
pub record HasListRows (p : Pool) (rows : List ℕ) : Type 0 where
  pub some : 0 < row_count p.bytes p.table
  pub each : AllByRecursion (IsListRow p) rows

-- a bytecode is quiet, leaves lists standing, and ends a turn, or it does not; then so many blocks may settle. One that is quiet
-- lets as many of the unsettled blocks settle as may. One that leaves lists standing moves no block where none may settle
pub record Settles (quiet standing ends : Bool) (effort : ℕ) (old new : SpaceViews) : Type 0 where
  pub falls : OnTrue quiet (unsettled_of new ≡ unsettled_of old - min (unsettled_of old) (if ends then effort else 0))
  pub stays : OnTrue (standing && (not ends || effort == 0)) (BlocksStay old new)

-- so many blocks more had leave to settle, and this is known of the bytecodes since the mark was made
abbrev pub mark_with : Mark → ℕ → Bool → Bool → Mark
mark_with k more quiet standing =
    record {
      unsettled = k.unsettled;
      places = k.places;
      settled = k.settled + more;
      quiet = k.quiet && quiet;
      standing = k.standing && standing;
    }
