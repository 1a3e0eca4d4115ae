-- What is kept of a state and its mark by each event, and lets a right dump be had.
use Rattle.std.proofs.Common.{◌≡◌, ◌+◌, ◌≤◌, true, Option, Some, None}
use Rattle.nxt_types.specs.Pool.{pool_size}
use Rattle.nxt_types.specs.Shapes.{Cluster}
use Rattle.nxt_model.specs.Values.{is_of}
use Rattle.nxt_model.specs.Program.{State}
use Rattle.nxt_model.specs.Dump.{Content, Mark}
use Rattle.nxt_model.specs.Report.{Setting}
use Rattle.nxt_dumps.specs.Holdable.{lengths_for, base_for}
use Rattle.nxt_dumps.specs.Layouts.{Lawful}
use Rattle.nxt_dumps.specs.Runnable.{IsRunnable, content_with}

-- the variables have their shapes, each list has a row, and the pool holds them
pub record IsGood (s : Setting) (r : IsRunnable s) (st : State) : Type 0 where
  pub are : is_of (Cluster r.own) st.values ≡ true
  pub rows : s.program.lists st.values + 1 ≤ st.rows
  pub fits : s.program.footprint st.rows st.values ≤ pool_size

-- what the pool holds in a state
abbrev pub held_in : (s : Setting) → IsRunnable s → State → Content
held_in s r st = content_with r.entries r.own r.fixed r.static_size r.constants st.values st.rows

-- a layout keeps the laws since the dump before
abbrev pub Follows : Content → Option Mark → Type 0
Follows c None = Unit {0}
Follows c (Some k) = Lawful (base_for c) (lengths_for c) k

pub record IsKept (s : Setting) (r : IsRunnable s) (st : State) (mark : Option Mark) : Type 0 where
  pub good : IsGood s r st
  pub follows : Follows (held_in s r st) mark
