-- What a record says is what its plan says.
use Rattle.std.proofs.Common.{◌<◌, ◌∙◌, ℕ, List, sym, ap, arith, length, get_or}
use Rattle.nxt_model.specs.Clumps.{Plan, plan_of}
use Rattle.nxt_clumps.proofs.Records.{length-plans_of, plan_of-plans_of}
use Rattle.nxt_clumps.specs.declared.plan.Plan.{Plan as PlanRecord}
use Rattle.nxt_clumps.proofs.plan.Plans.start.Goals as goal

pub index-requires : goal.index-requires
index-requires c =
    omega (arith, length-plans_of c.self.inside.records.items c.self.inside.dependents.items, ap length c.self.view_is)

pub returns : goal.returns
returns c =
    let rs = c.self.inside.records.items in
    let ds = c.self.inside.dependents.items in
    let n = c.args.c in
    let r = c.index.result.now in
    let inside : n < length rs = omega (arith, length-plans_of rs ds, ap length c.self.view_is) in
    ap (λ (r : PlanRecord). r.start) c.index.ensures
    ∙ ap (λ (k : ℕ). (get_or rs k r).start) c.from.ensures
    ∙ ap (λ (p : Plan). p.start) (sym (plan_of-plans_of rs ds n r inside))
    ∙ ap (λ (ps : List Plan). (plan_of ps n).start) c.self.view_is
