-- The steps from the place, and those behind them.
use Rattle.std.proofs.Common.{◌≡◌, ◌<◌, ◌≤◌, ◌*◌, ◌+◌, refl, sym, ◌∙◌, subst, arith, slice_index}
use Rattle.std.proofs.lemmas.List.{get_or_default}
use Rattle.nxt_layout.proofs.Dope.Places.{full_further, steps_set}
use Rattle.nxt_layout.proofs.places.Walk.full_from.Goals as goal

pub returns-clause-full : goal.returns-clause-full
returns-clause-full c count w k less =
    let old = c.args.self.now in
    let at = c.args.at in
    let full = c.index-full.result.now in
    let within = c.requires.place in
    let value : full ≡ slice_index old.steps.items at =
    c.index-full.ensures ∙ get_or_default old.steps.items at full 0 (omega (arith, within, w.size)) in
    let all =
    full_further count old.stride at full c.next_steps.result c.saturating_add-all.result
    (omega (arith, c.saturating_add-all.ensures))
    (λ j below. w.full at j within (subst (λ n. j < n) value below))
    (c.next_steps.ensures count w)
    in
    subst (λ s. 2 ≤ count (at + k * s)) (sym c.if-stride-self.false) (all k less)

pub returns-clause-walked : goal.returns-clause-walked
returns-clause-walked c count w =
    let old = c.args.self.now in
    let all = returns-clause-full c count w in
    steps_set count old _ c.args.at c.saturating_add-all.result w c.requires.place
    (λ k less. subst (λ s. 2 ≤ count (c.args.at + k * s)) c.if-stride-self.false (all k less))
    refl refl refl
