-- Each clump has its own dependents, and those behind it have the rest.
use Rattle.std.proofs.Common.{◌≡◌, ◌<◌, ◌+◌, ℕ, false, sym, ap, ◌∙◌, length, drop, inl, inr, arith, below_more}
use Rattle.std.specs.Prelude.{slice_get, nat_le}
use Rattle.std.proofs.lemmas.Bool.{cases_lt}
use Rattle.nxt_types.specs.Refusals.{passes}
use Rattle.nxt_code.specs.CodeRules.{dependent_lists, names_no_clump}
use Rattle.nxt_code.proofs.Rules.Dependents.{own_dependent, lists_behind, count_behind, no_clump_behind}
use Rattle.nxt_code.proofs.clumps.bad_dependent.Goals as goal

pub returns-in-Some : goal.returns-in-Some
returns-in-Some c =
    let cs = c.args.clumps.now in
    let l : c.loop-i.i < length cs = omega arith in
    let own = λ (k : ℕ). own_dependent cs c.args.dependents.now c.loop-i.rest.now c.loop-i.i c.from.result _ l c.from.ensures c.loop-i.invariant.lists k
    ∙ ap (λ ds. passes (nat_le (length cs)) (slice_get ds k)) (sym c.split_at.ensures.front) in
    (own c.in-Some.position ∙ c.in-Some.ensures.0, λ v j m. c.loop-i.invariant.named v j m, λ j m. own j ∙ c.in-Some.ensures.1 j m)

pub loop-i-preserved : goal.loop-i-preserved
loop-i-preserved c =
    let cs = c.args.clumps.now in
    let ds = c.args.dependents.now in
    let i = c.loop-i.i in
    let l : i < length cs = omega arith in
    let own = λ (k : ℕ). own_dependent cs ds c.loop-i.rest.now i c.from.result _ l c.from.ensures c.loop-i.invariant.lists k
    ∙ ap (λ ds. passes (nat_le (length cs)) (slice_get ds k)) (sym c.split_at.ensures.front) in
    record {
      named = λ v k m. below_more (λ v. (k : ℕ) → names_no_clump cs ds v k ≡ false) i (λ v m k. c.loop-i.invariant.named v k m) (λ k. own k ∙ c.in_default.ensures k) v m k;
      lists = lists_behind cs ds c.loop-i.rest.now i c.from.result _ l c.from.ensures c.loop-i.invariant.lists ∙ ap (dependent_lists (drop (i + 1) cs)) (sym c.split_at.ensures.back);
      counted = ap (λ ds. length ds) c.split_at.ensures.back ∙ count_behind cs ds c.loop-i.rest.now i c.from.result _ l c.from.ensures c.loop-i.invariant.lists c.loop-i.invariant.counted;
    }

pub returns : goal.returns
returns c = λ w k.
    elim (cases_lt w (length c.args.clumps.now)) as (λ _. names_no_clump c.args.clumps.now c.args.dependents.now w k ≡ false) [
      | inl l ↦ c.loop-i.invariant.named w k (omega arith)
      | inr l ↦ no_clump_behind c.args.clumps.now c.args.dependents.now w k l
    ]
