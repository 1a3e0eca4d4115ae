-- The dependents of a record are those of its plan.
use Rattle.std.proofs.Common.{◌≡◌, ◌<◌, ℕ, List, ap, subst, length, arith, ◌∙◌, sym}
use Rattle.std.specs.List.{All}
use Rattle.nxt_clumps.proofs.Records.{length-plans_of}
use Rattle.nxt_clumps.proofs.plan.Plans.dependents.Goals as goal

pub dependents_at-requires-clause-inside : goal.dependents_at-requires-clause-inside
dependents_at-requires-clause-inside c =
    omega (arith, length-plans_of c.self.inside.records.items c.self.inside.dependents.items, ap length c.self.view_is)

pub returns-clause-within : goal.returns-clause-within
returns-clause-within c =
    let same : length c.self.inside.records.items ≡ length c.args.self.now =
    sym (length-plans_of c.self.inside.records.items c.self.inside.dependents.items) ∙ ap length c.self.view_is in
    let Within : List ℕ → Type 0 = λ ds. All (λ d. d < length c.args.self.now) ds in
    let Below : ℕ → Type 0 = λ n. All (λ d. d < n) c.self.inside.dependents.items in
    c.dependents_at.ensures.within (length c.args.self.now) (subst Within (sym c.as_slice-2.ensures.value) (subst Below same c.self.invariant.within))
