-- A list of one kind is stored as it is, a cluster of numbers number by number, and any other value by its flat form.
use Rattle.std.proofs.Common.{◌≡◌, true, ◌∷◌, [], IsSome, Ok, sym, subst}
use Rattle.nxt_space.specs.Outcomes.{Does}
use Rattle.nxt_types.specs.Shapes.{convertible}
use Rattle.nxt_model.specs.Values.{stored}
use Rattle.nxt_space.specs.Keeping.{Leaves}
use Rattle.nxt_space.specs.Variables.{SpaceViews, AreSound, name_of, shape_of, value_of, with_value}
use Rattle.nxt_space.specs.declared.fault.OpFault.TheVariants.{PoolPassed}
use Rattle.nxt_operands.specs.Operands.{Done}
use Rattle.nxt_operands.proofs.Laws.InPlace.{list_stored}
use Rattle.nxt_operands.proofs.Laws.Refusals.{passed_on}
use Rattle.nxt_ops.proofs.run.copy.Goals as goal

-- a list of the same kind is stored as it is
pub returns-in_err-copy_list-clause-does : goal.returns-in_err-copy_list-clause-does
returns-in_err-copy_list-clause-does c =
    let s = c.args.space.now in
    let is = c.in-Some.ensures.found in
    let same = list_stored s.vars c.args.dest c.args.source c.in-Some.to c.in-Some.from c.requires.sound is.0 is.1 is.2 in
    subst
    (λ v. Does Done (with_value s.vars c.args.dest v) s c.from_residual.result c.copy_list.new.self)
    (sym same)
    (passed_on Done Done (with_value s.vars c.args.dest (value_of s.vars c.args.source)) s c.copy_list.new.self (PoolPassed c.in_err-copy_list.field-0.0.0) c.from_residual.result c.from_residual.ensures.1
    (c.in_err-copy_list.ensures.becomes c.args.dest c.args.source is.0 is.1))

pub returns-in-Some-clause-does : goal.returns-in-Some-clause-does
returns-in-Some-clause-does c =
    let s = c.args.space.now in
    let is = c.in-Some.ensures.found in
    let same = list_stored s.vars c.args.dest c.args.source c.in-Some.to c.in-Some.from c.requires.sound is.0 is.1 is.2 in
    let done = c.in_ok-copy_list.ensures.becomes c.args.dest c.args.source is.0 is.1 in
    subst
    (λ v. Does {T = Unit {0}} Done (with_value s.vars c.args.dest v) s (Ok tt) c.copy_list.new.self)
    (sym same)
    (done.0, done.1, tt)

-- where no numbers were copied nothing has changed
pub copy_flat-requires-clause-sound : goal.copy_flat-requires-clause-sound
copy_flat-requires-clause-sound c = subst (λ (v : SpaceViews). AreSound v.vars) (sym (c.copy_numbers.ensures.same c.if-copy_numbers.false)) c.requires.sound

pub copy_flat-requires-clause-dest : goal.copy_flat-requires-clause-dest
copy_flat-requires-clause-dest c = subst (λ (v : SpaceViews). IsSome (name_of v.vars c.args.dest)) (sym (c.copy_numbers.ensures.same c.if-copy_numbers.false)) c.requires.dest

pub copy_flat-requires-clause-source : goal.copy_flat-requires-clause-source
copy_flat-requires-clause-source c = subst (λ (v : SpaceViews). IsSome (name_of v.vars c.args.source)) (sym (c.copy_numbers.ensures.same c.if-copy_numbers.false)) c.requires.source

pub copy_flat-requires-clause-fit : goal.copy_flat-requires-clause-fit
copy_flat-requires-clause-fit c =
    subst (λ (v : SpaceViews). convertible (shape_of v.vars c.args.dest) (shape_of v.vars c.args.source) ≡ true) (sym (c.copy_numbers.ensures.same c.if-copy_numbers.false)) c.requires.fit

pub returns-clause-does : goal.returns-clause-does
returns-clause-does c =
    subst
    (λ (v : SpaceViews). Does {T = Unit {0}} Done (with_value v.vars c.args.dest (stored (shape_of v.vars c.args.dest) (value_of v.vars c.args.source))) v c.copy_flat.result c.copy_flat.new.space)
    (c.copy_numbers.ensures.same c.if-copy_numbers.false)
    c.copy_flat.ensures.does

pub returns-clause-leaves : goal.returns-clause-leaves
returns-clause-leaves c = subst (λ v. Leaves (c.args.dest ∷ []) v c.copy_flat.new.space) (c.copy_numbers.ensures.same c.if-copy_numbers.false) c.copy_flat.ensures.leaves
