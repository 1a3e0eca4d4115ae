-- The clumps of a program, as contracts see them.
use Rattle.std.specs.Prelude.{ℕ, ◌+◌, List, slice_index}
use Rattle.nxt_model.specs.Clumps.{Plan, Clumps, change_clump, with_place}

-- the plans of a program, and its clumps as they stand
pub record Scheduled : Type 0 where
  pub plans : List Plan
  pub state : Clumps

-- the clump that runs: the first of the queue
abbrev pub head : Clumps → ℕ
head cs = slice_index cs.queue 0

-- the clump with a number at a place, with so many more bytecodes of the turn done
abbrev pub moved : ℕ → ℕ → ℕ → Clumps → Clumps
moved h place n cs = change_clump (with_place place) h (record cs { turn = cs.turn + n })
