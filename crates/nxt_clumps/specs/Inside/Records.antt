-- The records of a file, and what clumps do, as the program keeps them.
use Rattle.std.specs.Prelude.{◌≡◌, ℕ, ◌<◌, ◌≤◌, List, length}
use Rattle.std.specs.List.{All}
use Rattle.nxt_model.specs.Clumps.{Activity, Idle, Queued, Asleep, Waiting, Calling}
use Rattle.nxt_clumps.specs.declared.plan.Plan.{Plan as PlanRecord}
use Rattle.nxt_clumps.specs.Plans.{told}
use Rattle.nxt_clumps.specs.declared.clump.Doing.{Doing}
use Rattle.nxt_clumps.specs.declared.clump.Doing.TheVariants as doing

-- records with as many dependents as they tell, each the number of a clump
pub record ArePlans (records : List PlanRecord) (dependents : List ℕ) : Type 0 where
  pub few : length records ≤ 255
  pub whole : told records ≡ length dependents
  pub within : All (λ d. d < length records) dependents

abbrev pub activity_of : Doing → Activity
activity_of doing.Idle = Idle
activity_of doing.Queued = Queued
activity_of (doing.Asleep until) = Asleep until
activity_of (doing.Waiting m) = Waiting m
activity_of doing.Calling = Calling
