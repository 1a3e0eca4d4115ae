-- A list of so many numbers has the size that the pool is asked for.
use Rattle.std.proofs.Common.{◌≡◌, ◌*◌, ◌<◌, ◌^◌, Result, length, arith, sym, pos, replicate, subst, Ok, Err, IfErr, IsErrAnd}
use Rattle.std.proofs.lemmas.List.{length-replicate}
use Rattle.nxt_types.specs.Arithmetic.{leaf_size}
use Rattle.nxt_model.specs.Values.{Value, Num, list_of, stored}
use Rattle.nxt_space.specs.Outcomes.{Does}
use Rattle.nxt_space.specs.Variables.{SpaceViews, shape_of, with_value}
use Rattle.nxt_space.specs.declared.fault.OpFault.{OpFault}
use Rattle.nxt_operands.specs.Operands.{Done}
use Rattle.nxt_lists.proofs.NumberLists.{is_room, room_few}
use Rattle.nxt_lists.proofs.joining.check_many.Goals as goal

refusal : (w : Value) (old : SpaceViews) (fault : OpFault) (r : Result Unit OpFault) → IsErrAnd r (λ f. f ≡ fault) → Does Done w old (Err fault) old → IfErr r (λ f. Does Done w old (Err f) old)
refusal w old fault (Ok x) e h = absurd e
refusal w old fault (Err f) e h = subst (λ g. Does Done w old (Err g) old) (sym e) h

pub returns-in_err-check_room-clause-refused : goal.returns-in_err-check_room-clause-refused
returns-in_err-check_room-clause-refused c vs counted =
    let s = c.args.space.now.vars in
    let i = c.args.dest in
    let w = stored (shape_of s i) (list_of vs) in
    let room = is_room s i c.args.count c.args.to vs c.requires.dest counted c.requires.few in
    refusal (with_value s i w) c.args.space.now c.in_err-check_room.field-0.0 c.from_residual.result c.from_residual.ensures.1 (c.in_err-check_room.ensures.refused w room.is)

pub returns-in_ok-check_room-clause-few : goal.returns-in_ok-check_room-clause-few
returns-in_ok-check_room-clause-few c =
    let s = c.args.space.now.vars in
    let i = c.args.dest in
    let vs = replicate c.args.count (Num (pos 0)) in
    let counted : c.args.count ≡ length vs = sym (length-replicate c.args.count (Num (pos 0))) in
    let w = stored (shape_of s i) (list_of vs) in
    let room = is_room s i c.args.count c.args.to vs c.requires.dest counted c.requires.few in
    let fits = room_few s i c.args.to vs c.requires.sound c.requires.dest (c.in_ok-check_room.ensures.room w room.is) in
    subst (λ n. n * leaf_size c.args.to.kind < 2 ^ 31) (sym counted) (omega (arith, fits))
