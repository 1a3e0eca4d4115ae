-- The dependents of a record stand behind those of the records before it.
use Rattle.std.proofs.Common.{◌≡◌, ◌-◌, ℕ, List, length, take, drop, ap, sym, ◌∙◌, arith, length-drop}
use Rattle.std.proofs.lemmas.List.{take_all}
use Rattle.nxt_model.specs.Clumps.{Plan}
use Rattle.nxt_clumps.specs.declared.plan.Plan.{Plan as PlanRecord}
use Rattle.nxt_clumps.specs.Plans.{told}
use Rattle.nxt_clumps.proofs.Records.{plan_of-plans_of}
use Rattle.nxt_clumps.proofs.plan.dependents_at.Goals as goal

behind : (ds : List ℕ) (k : ℕ) → take (length ds - k) (drop k ds) ≡ drop k ds
behind ds k = take_all (length ds - k) (drop k ds) (omega (arith, length-drop k ds))

pub returns-clause-these : goal.returns-clause-these
returns-clause-these c =
    let rs = c.args.records.now in
    let ds = c.args.dependents.now in
    let first : PlanRecord = record { fire = 0; start = 0; dependents = 0 } in
    ap (take c.from.result) (behind ds c.dependents_of.result)
    ∙ ap (λ (k : ℕ). take c.from.result (drop k ds)) c.dependents_of.ensures
    ∙ ap (λ (n : ℕ). take n (drop (told (take c.args.c rs)) ds)) c.from.ensures
    ∙ ap (λ (p : Plan). p.dependents) (sym (plan_of-plans_of rs ds c.args.c first c.requires.inside))
