-- A number beside the value takes nothing of the pool.
use Rattle.std.proofs.Common.{◌≡◌, ◌==◌, true, false, sym, subst, w64, to_z-of_z}
use Rattle.nxt_types.specs.Shapes.{is_number}
use Rattle.nxt_space.specs.Variables.{shape_of}
use Rattle.nxt_operands.proofs.Laws.Leaving.{then_number}
use Rattle.nxt_texts.proofs.Telling.{told_set, told_refused, told_beside}
use Rattle.nxt_texts.proofs.packing.store_and_tell.Goals as goal

pub returns-in_err-store-clause-does : goal.returns-in_err-store-clause-does
returns-in_err-store-clause-does c =
    told_refused c.args.space.now c.store.new.space c.args.dest c.args.error c.args.flat.now c.args.told c.in_err-store.field-0.0 c.from_residual.result c.requires.sound c.requires.error c.from_residual.ensures.1 c.in_err-store.ensures.does

pub set_unless_left_out-requires : goal.set_unless_left_out-requires
set_unless_left_out-requires c =
    subst (λ s. (c.args.error == 0xFFFF) ≡ false → is_number (shape_of s c.args.error) ≡ true) (sym c.in_ok-store.ensures.does.1) c.requires.error

pub returns-clause-does : goal.returns-clause-does
returns-clause-does c =
    let same = to_z-of_z {w = w64} {z = c.args.told} c.ranges.told in
    told_set c.args.space.now c.store.new.space c.set_unless_left_out.new.space c.args.dest c.args.error c.args.flat.now c.args.told _ c.requires.sound c.requires.error same c.in_ok-store.ensures.does c.set_unless_left_out.ensures.value

pub returns-clause-leaves : goal.returns-clause-leaves
returns-clause-leaves c =
    let old = c.args.space.now in
    let mid = c.store.new.space in
    then_number old mid c.set_unless_left_out.new.space c.args.dest c.in_ok-store.ensures.leaves c.set_unless_left_out.ensures.stays
    (λ numbers. told_beside old.vars mid.vars c.set_unless_left_out.new.space.vars c.args.dest c.args.error _ _ c.in_ok-store.ensures.does.1 c.requires.error c.set_unless_left_out.ensures.value numbers)
