-- Plans, told plainly.
use Rattle.std.proofs.Common.{◌≡◌, List, [], ◌∷◌, refl}
use Rattle.nxt_model.specs.Clumps.{Plan}
use Rattle.nxt_clumps.specs.Plans.{plans_of, told}
use Rattle.nxt_clumps.specs.declared.plan.Plan.{Plan as PlanRecord}

-- a clump that begins and lowers two others, one of them twice, and these two, the last of which lowers the first
abbrev records : List PlanRecord
records =
    record { fire = 0; start = 0; dependents = 3 }
    ∷ record { fire = 1; start = 7; dependents = 0 }
    ∷ record { fire = 2; start = 9; dependents = 1 }
    ∷ []

abbrev plans : List Plan
plans =
    record { fire = 0; start = 0; dependents = 1 ∷ 2 ∷ 2 ∷ [] }
    ∷ record { fire = 1; start = 7; dependents = [] }
    ∷ record { fire = 2; start = 9; dependents = 0 ∷ [] }
    ∷ []

four : told records ≡ 4
four = refl

each_its_own : plans_of records (1 ∷ 2 ∷ 2 ∷ 0 ∷ []) ≡ plans
each_its_own = refl
