-- The plans that records tell.
use Rattle.std.proofs.Common.{◌≡◌, ℕ, zero, suc, ◌<◌, List, [], ◌∷◌, length, take, drop, get_or, refl, ap, sym, ◌∙◌, arith}
use Rattle.std.proofs.lemmas.List.{drop-drop}
use Rattle.std.proofs.lemmas.List.Sums.{sum_by-cons}
use Rattle.nxt_model.specs.Clumps.{Plan, plan_of}
use Rattle.nxt_clumps.specs.declared.plan.Plan.{Plan as PlanRecord}
use Rattle.nxt_clumps.specs.Plans.{told, plans_of}

pub length-plans_of : (rs : List PlanRecord) (ds : List ℕ) → length (plans_of rs ds) ≡ length rs
length-plans_of [] ds = refl
length-plans_of (r ∷ rs) ds = ap suc (length-plans_of rs (drop r.dependents ds))

-- the plan of a record whose dependents these begin with
abbrev pub planned : PlanRecord → List ℕ → Plan
planned r ds = record { fire = r.fire; start = r.start; dependents = take r.dependents ds }

pub plan_of-plans_of : (rs : List PlanRecord) (ds : List ℕ) (c : ℕ) (r : PlanRecord) → c < length rs
    → plan_of (plans_of rs ds) c ≡ planned (get_or rs c r) (drop (told (take c rs)) ds)
plan_of-plans_of [] ds c r h = absurd (omega (arith, h))
plan_of-plans_of (x ∷ rs) ds zero r h = refl
plan_of-plans_of (x ∷ rs) ds (suc c) r h =
    plan_of-plans_of rs (drop x.dependents ds) c r (omega (arith, h))
    ∙ ap (planned (get_or rs c r)) (drop-drop (told (take c rs)) x.dependents ds
    ∙ ap (λ n. drop n ds) (sym (sum_by-cons (λ (r : PlanRecord). r.dependents) x (take c rs))))
