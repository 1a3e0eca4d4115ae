-- The plans of a program's clumps, as a file tells them.
use Rattle.std.specs.Prelude.{ℕ, List, [], ◌∷◌, take, drop, sum_by}
use Rattle.nxt_model.specs.Clumps.{Plan}
use Rattle.nxt_clumps.specs.declared.plan.Plan.{Plan as PlanRecord}

-- how many dependents the records tell
abbrev pub told : List PlanRecord → ℕ
told rs = sum_by (λ (r : PlanRecord). r.dependents) rs

-- each clump takes its dependents from the front of the list
abbrev pub plans_of : List PlanRecord → List ℕ → List Plan
plans_of [] ds = []
plans_of (r ∷ rs) ds =
    record { fire = r.fire; start = r.start; dependents = take r.dependents ds } ∷ plans_of rs (drop r.dependents ds)
