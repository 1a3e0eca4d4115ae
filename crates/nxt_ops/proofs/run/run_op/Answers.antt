-- Each statement does what it means, and goes on where it should.
use Rattle.std.proofs.Common.{rules, if◌then◌else◌, Bool, Err, IsSome, ◌≡◌, ◌≢◌, ◌==◌, ◌+◌, true, false, refl, sym, ◌∙◌, ap, subst, Ok, ◌∷◌, []}
use denote.Enum.Bare.{same_true, sameb}
use Rattle.nxt_types.specs.contracts.instr.Op.{the_type}
use Rattle.nxt_types.specs.declared.instr.Op.TheVariants as ops
use Rattle.nxt_types.specs.OperandRules.{AreFit, is_plain, are_alike}
use Rattle.nxt_types.specs.Shapes.{is_number}
use Rattle.nxt_model.specs.Means.Numbers.{holds}
use Rattle.nxt_space.specs.Keeping.{Leaves}
use Rattle.nxt_space.specs.Outcomes.{Does}
use Rattle.nxt_space.specs.Variables.{SpaceViews, AreSound, name_of, shape_of}
use Rattle.nxt_operands.specs.Operands.{Done, given}
use Rattle.nxt_operands.proofs.Laws.Named.{named_some}
use Rattle.nxt_operands.proofs.Laws.Refusals.{passed_on}
use Rattle.nxt_ops.specs.Ops.{effect_in, next_of, values_after, stores, statement_in}
use Rattle.nxt_ops.specs.Preparing.{IsPrepared, MayRun, on_numbers}
use Rattle.nxt_ops.proofs.Fitting.{brcmp_fit, brtst_fit}
use Rattle.nxt_ops.proofs.Meanings.{brcmp_means, brcmp_keeps, falls, goes_on}
use Rattle.nxt_ops.proofs.OnLists.{alike_list, brcmp_lists, stores_value, no_jump}
use Rattle.nxt_ops.proofs.run.run_op.Goals as goal

pub run_prepared-requires-clause-stands : goal.run_prepared-requires-clause-stands
run_prepared-requires-clause-stands c =
    (c.args.i.now, 0, record { runs = c.requires.runs; sound = c.requires.sound; fit = c.requires.fit; prepared = c.prepare.ensures })

jumped : (b : Bool) → ((if b then 0 else 0 + 1) == 0) ≡ b
jumped true = refl
jumped false = refl

pub returns-in-Some-clause-does : goal.returns-in-Some-clause-does
returns-in-Some-clause-does c d t =
    let s = c.args.space.now.vars in
    let i = c.args.i.now in
    let made : MayRun s i 0 c.prepare.result = record { runs = c.requires.runs; sound = c.requires.sound; fit = c.requires.fit; prepared = c.prepare.ensures } in
    let done = (c.in-Some.ensures {u = tt}).ran i 0 made d t in
    (done.0, done.1, c.going_on.ensures ∙ ap (next_of i) (ap (λ n. n == 0) done.2 ∙ jumped (effect_in s i d t).jumps))

pub holds-requires-clause-sound : goal.holds-requires-clause-sound
holds-requires-clause-sound c =
    let s = c.args.space.now.vars in
    let i = c.args.i.now in
    let same : c.run_prepared.new.space ≡ c.args.space.now = (c.in_default.ensures {u = tt}).same refl in
    let lists : on_numbers s i ≡ false = subst (IsPrepared s i 0) ((c.in_default.ensures {u = tt}).other refl) c.prepare.ensures in
    subst (λ (v : SpaceViews). AreSound v.vars) (sym same) c.requires.sound

pub holds-requires-clause-x : goal.holds-requires-clause-x
holds-requires-clause-x c =
    let s = c.args.space.now.vars in
    let i = c.args.i.now in
    let same : c.run_prepared.new.space ≡ c.args.space.now = (c.in_default.ensures {u = tt}).same refl in
    let lists : on_numbers s i ≡ false = subst (IsPrepared s i 0) ((c.in_default.ensures {u = tt}).other refl) c.prepare.ensures in
    let is : i.op ≡ ops.Brcmp = same_true the_type (search rules) _ _ (sym (c.if-eq.ensures {u = tt})) in
    let fit = brcmp_fit s i is c.requires.fit in
    subst (λ (v : SpaceViews). IsSome (name_of v.vars i.b)) (sym same) (named_some s i.b fit.first)

pub holds-requires-clause-y : goal.holds-requires-clause-y
holds-requires-clause-y c =
    let s = c.args.space.now.vars in
    let i = c.args.i.now in
    let same : c.run_prepared.new.space ≡ c.args.space.now = (c.in_default.ensures {u = tt}).same refl in
    let lists : on_numbers s i ≡ false = subst (IsPrepared s i 0) ((c.in_default.ensures {u = tt}).other refl) c.prepare.ensures in
    let is : i.op ≡ ops.Brcmp = same_true the_type (search rules) _ _ (sym (c.if-eq.ensures {u = tt})) in
    let fit = brcmp_fit s i is c.requires.fit in
    subst (λ (v : SpaceViews). IsSome (name_of v.vars i.c)) (sym same) (named_some s i.c fit.second)

pub holds-requires-clause-plain : goal.holds-requires-clause-plain
holds-requires-clause-plain c =
    let s = c.args.space.now.vars in
    let i = c.args.i.now in
    let same : c.run_prepared.new.space ≡ c.args.space.now = (c.in_default.ensures {u = tt}).same refl in
    let lists : on_numbers s i ≡ false = subst (IsPrepared s i 0) ((c.in_default.ensures {u = tt}).other refl) c.prepare.ensures in
    let is : i.op ≡ ops.Brcmp = same_true the_type (search rules) _ _ (sym (c.if-eq.ensures {u = tt})) in
    let fit = brcmp_fit s i is c.requires.fit in
    subst (λ (v : SpaceViews). is_plain (shape_of v.vars i.b) ≡ true) (sym same) fit.asked_first

pub holds-requires-clause-list : goal.holds-requires-clause-list
holds-requires-clause-list c =
    let s = c.args.space.now.vars in
    let i = c.args.i.now in
    let same : c.run_prepared.new.space ≡ c.args.space.now = (c.in_default.ensures {u = tt}).same refl in
    let lists : on_numbers s i ≡ false = subst (IsPrepared s i 0) ((c.in_default.ensures {u = tt}).other refl) c.prepare.ensures in
    let is : i.op ≡ ops.Brcmp = same_true the_type (search rules) _ _ (sym (c.if-eq.ensures {u = tt})) in
    let fit = brcmp_fit s i is c.requires.fit in
    subst (λ (v : SpaceViews). is_number (shape_of v.vars i.b) ≡ false) (sym same)
    (alike_list (shape_of s i.b) (shape_of s i.c) fit.asked_second (brcmp_lists s i is lists))

pub holds-requires-clause-fit : goal.holds-requires-clause-fit
holds-requires-clause-fit c =
    let s = c.args.space.now.vars in
    let i = c.args.i.now in
    let same : c.run_prepared.new.space ≡ c.args.space.now = (c.in_default.ensures {u = tt}).same refl in
    let lists : on_numbers s i ≡ false = subst (IsPrepared s i 0) ((c.in_default.ensures {u = tt}).other refl) c.prepare.ensures in
    let is : i.op ≡ ops.Brcmp = same_true the_type (search rules) _ _ (sym (c.if-eq.ensures {u = tt})) in
    let fit = brcmp_fit s i is c.requires.fit in
    subst (λ (v : SpaceViews). are_alike (shape_of v.vars i.b) (shape_of v.vars i.c) ≡ true) (sym same) fit.asked_second

pub returns-then-eq-clause-does : goal.returns-then-eq-clause-does
returns-then-eq-clause-does c d t =
    let s = c.args.space.now.vars in
    let i = c.args.i.now in
    let same : c.run_prepared.new.space ≡ c.args.space.now = (c.in_default.ensures {u = tt}).same refl in
    let lists : on_numbers s i ≡ false = subst (IsPrepared s i 0) ((c.in_default.ensures {u = tt}).other refl) c.prepare.ensures in
    let is : i.op ≡ ops.Brcmp = same_true the_type (search rules) _ _ (sym (c.if-eq.ensures {u = tt})) in
    let fit = brcmp_fit s i is c.requires.fit in
    let held = c.in_ok-holds.ensures ∙ ap (λ (v : SpaceViews). holds i.cmp (given v.vars i.b) (given v.vars i.c)) same in
    subst
    (λ v. Does (λ n. n ≡ next_of i (effect_in s i d t).jumps) (values_after s i d t) c.args.space.now (Ok c.going_on-then-eq.result) v)
    (sym same)
    (goes_on c.args.space.now i d t c.going_on-then-eq.result c.requires.sound (brcmp_keeps s i d t is)
    (c.going_on-then-eq.ensures ∙ ap (next_of i) (held ∙ sym (brcmp_means s i d t is fit.first fit.second))))

-- ---- stores

pub compute-requires-clause-stores : goal.compute-requires-clause-stores
compute-requires-clause-stores c =
    let s = c.args.space.now.vars in
    let i = c.args.i.now in
    let same : c.run_prepared.new.space ≡ c.args.space.now = (c.in_default.ensures {u = tt}).same refl in
    let lists : on_numbers s i ≡ false = subst (IsPrepared s i 0) ((c.in_default.ensures {u = tt}).other refl) c.prepare.ensures in
    let other : i.op ≢ ops.Brcmp = λ e. let f : false ≡ true = c.if-eq.ensures {u = tt} ∙ ap (λ o. sameb the_type o ops.Brcmp) e in let g : ⊥ = cc in g in
    let stored : stores i.op ≡ true = stores_value s i c.requires.runs other (λ e. (brtst_fit s i e c.requires.fit).has) lists in
    stored

pub compute-requires-clause-lists : goal.compute-requires-clause-lists
compute-requires-clause-lists c =
    let s = c.args.space.now.vars in
    let i = c.args.i.now in
    let same : c.run_prepared.new.space ≡ c.args.space.now = (c.in_default.ensures {u = tt}).same refl in
    let lists : on_numbers s i ≡ false = subst (IsPrepared s i 0) ((c.in_default.ensures {u = tt}).other refl) c.prepare.ensures in
    subst (λ (v : SpaceViews). on_numbers v.vars i ≡ false) (sym same) lists

pub compute-requires-clause-sound : goal.compute-requires-clause-sound
compute-requires-clause-sound c =
    let s = c.args.space.now.vars in
    let i = c.args.i.now in
    let same : c.run_prepared.new.space ≡ c.args.space.now = (c.in_default.ensures {u = tt}).same refl in
    let lists : on_numbers s i ≡ false = subst (IsPrepared s i 0) ((c.in_default.ensures {u = tt}).other refl) c.prepare.ensures in
    subst (λ (v : SpaceViews). AreSound v.vars) (sym same) c.requires.sound

pub compute-requires-clause-fit : goal.compute-requires-clause-fit
compute-requires-clause-fit c =
    let s = c.args.space.now.vars in
    let i = c.args.i.now in
    let same : c.run_prepared.new.space ≡ c.args.space.now = (c.in_default.ensures {u = tt}).same refl in
    let lists : on_numbers s i ≡ false = subst (IsPrepared s i 0) ((c.in_default.ensures {u = tt}).other refl) c.prepare.ensures in
    subst (λ (v : SpaceViews). AreFit v.vars.shapes (statement_in i)) (sym same) c.requires.fit

pub returns-clause-does : goal.returns-clause-does
returns-clause-does c d t =
    let s = c.args.space.now.vars in
    let i = c.args.i.now in
    let same : c.run_prepared.new.space ≡ c.args.space.now = (c.in_default.ensures {u = tt}).same refl in
    let lists : on_numbers s i ≡ false = subst (IsPrepared s i 0) ((c.in_default.ensures {u = tt}).other refl) c.prepare.ensures in
    let other : i.op ≢ ops.Brcmp = λ e. let f : false ≡ true = c.if-eq.ensures {u = tt} ∙ ap (λ o. sameb the_type o ops.Brcmp) e in let g : ⊥ = cc in g in
    let stored : stores i.op ≡ true = stores_value s i c.requires.runs other (λ e. (brtst_fit s i e c.requires.fit).has) lists in
    let done = subst (λ v. Does {T = Unit {0}} Done (values_after v.vars i d t) v (Ok tt) c.compute.new.space) same (c.in_ok-compute.ensures.does d t) in
    let none = no_jump s i stored in
    let stays = falls s i d t c.requires.runs none.0 none.1 none.2 in
    (done.0, done.1, sym (ap (next_of i) stays))

pub returns-in_err-compute-clause-does : goal.returns-in_err-compute-clause-does
returns-in_err-compute-clause-does c d t =
    let s = c.args.space.now.vars in
    let i = c.args.i.now in
    let same : c.run_prepared.new.space ≡ c.args.space.now = (c.in_default.ensures {u = tt}).same refl in
    let lists : on_numbers s i ≡ false = subst (IsPrepared s i 0) ((c.in_default.ensures {u = tt}).other refl) c.prepare.ensures in
    let fault = c.in_err-compute.field-0.0 in
    let done = subst (λ v. Does {T = Unit {0}} Done (values_after v.vars i d t) v (Err fault) c.compute.new.space) same (c.in_err-compute.ensures.does d t) in
    passed_on Done _ (values_after s i d t) c.args.space.now c.compute.new.space fault c.from_residual-in_err-compute.result c.from_residual-in_err-compute.ensures.1 done

-- ---- what stays where it is

pub returns-clause-leaves : goal.returns-clause-leaves
returns-clause-leaves c =
    let s = c.args.space.now.vars in
    let i = c.args.i.now in
    let same : c.run_prepared.new.space ≡ c.args.space.now = (c.in_default.ensures {u = tt}).same refl in
    let lists : on_numbers s i ≡ false = subst (IsPrepared s i 0) ((c.in_default.ensures {u = tt}).other refl) c.prepare.ensures in
    let other : i.op ≢ ops.Brcmp = λ e. let f : false ≡ true = c.if-eq.ensures {u = tt} ∙ ap (λ o. sameb the_type o ops.Brcmp) e in let g : ⊥ = cc in g in
    let stored : stores i.op ≡ true = stores_value s i c.requires.runs other (λ e. (brtst_fit s i e c.requires.fit).has) lists in
    subst
    (λ b. Leaves (if b then i.a ∷ [] else []) c.args.space.now c.compute.new.space)
    (sym stored)
    (subst (λ v. Leaves (i.a ∷ []) v c.compute.new.space) same c.compute.ensures.leaves)

pub returns-in_err-compute-clause-leaves : goal.returns-in_err-compute-clause-leaves
returns-in_err-compute-clause-leaves c =
    let s = c.args.space.now.vars in
    let i = c.args.i.now in
    let same : c.run_prepared.new.space ≡ c.args.space.now = (c.in_default.ensures {u = tt}).same refl in
    let lists : on_numbers s i ≡ false = subst (IsPrepared s i 0) ((c.in_default.ensures {u = tt}).other refl) c.prepare.ensures in
    let other : i.op ≢ ops.Brcmp = λ e. let f : false ≡ true = c.if-eq.ensures {u = tt} ∙ ap (λ o. sameb the_type o ops.Brcmp) e in let g : ⊥ = cc in g in
    let stored : stores i.op ≡ true = stores_value s i c.requires.runs other (λ e. (brtst_fit s i e c.requires.fit).has) lists in
    subst
    (λ b. Leaves (if b then i.a ∷ [] else []) c.args.space.now c.compute.new.space)
    (sym stored)
    (subst (λ v. Leaves (i.a ∷ []) v c.compute.new.space) same c.compute.ensures.leaves)

-- ---- statements on numbers alone

pub returns-in_err-holds-clause-numbers : goal.returns-in_err-holds-clause-numbers
returns-in_err-holds-clause-numbers c numbers =
    let s = c.args.space.now.vars in
    let i = c.args.i.now in
    let lists : on_numbers s i ≡ false = subst (IsPrepared s i 0) ((c.in_default.ensures {u = tt}).other refl) c.prepare.ensures in
    let no : ⊥ = cc in
    absurd no

pub returns-in_err-compute-clause-numbers : goal.returns-in_err-compute-clause-numbers
returns-in_err-compute-clause-numbers c numbers =
    let s = c.args.space.now.vars in
    let i = c.args.i.now in
    let lists : on_numbers s i ≡ false = subst (IsPrepared s i 0) ((c.in_default.ensures {u = tt}).other refl) c.prepare.ensures in
    let no : ⊥ = cc in
    absurd no
