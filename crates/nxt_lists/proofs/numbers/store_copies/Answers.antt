-- The list has the size of so many numbers.
use Rattle.std.proofs.Common.{◌≤◌, ◌^◌, replicate, sym, ◌∙◌, subst, arith, rules}
use Rattle.std.proofs.lemmas.List.{length-replicate}
use Rattle.nxt_model.specs.Values.{list_of, stored}
use Rattle.nxt_space.specs.Variables.{shape_of, value_of, with_value}
use Rattle.nxt_operands.specs.Operands.{Done}
use Rattle.nxt_operands.proofs.Laws.Refusals.{passed_on}
use Rattle.nxt_lists.specs.InBytes.{AreStored}
use Rattle.nxt_lists.proofs.NumberLists.{is_room, room_few, bytes_counted}
use Rattle.nxt_lists.proofs.numbers.store_copies.Goals as goal

pub returns-in_err-check_room-clause-does : goal.returns-in_err-check_room-clause-does
returns-in_err-check_room-clause-does c j is =
    let s = c.args.space.now.vars in
    let i = c.args.dest in
    let vs = replicate c.args.count (value_of s j) in
    let w = stored (shape_of s i) (list_of vs) in
    let counted = c.from.ensures ∙ sym (length-replicate c.args.count (value_of s j)) in
    let few : c.from.result ≤ 2 ^ 32 = search rules in
    let room = is_room s i c.from.result c.args.to vs c.requires.to counted few in
    passed_on Done Done (with_value s i w) c.args.space.now c.args.space.now c.in_err-check_room.field-0.0 c.from_residual.result c.from_residual.ensures.1 (c.in_err-check_room.ensures.refused w room.is)

pub store_numbers-requires-clause-small : goal.store_numbers-requires-clause-small
store_numbers-requires-clause-small c =
    let s = c.args.space.now.vars in
    let i = c.args.dest in
    let j = c.requires.number.0 in
    let v = value_of s j in
    let vs = replicate c.args.count v in
    let w = stored (shape_of s i) (list_of vs) in
    let counted = c.from.ensures ∙ sym (length-replicate c.args.count v) in
    let few : c.from.result ≤ 2 ^ 32 = search rules in
    let room = is_room s i c.from.result c.args.to vs c.requires.to counted few in
    let fits = room_few s i c.args.to vs c.requires.sound c.requires.to (c.in_ok-check_room.ensures.room w room.is) in
    let are : AreStored c.args.to.kind c.in_ok-bytes.bytes vs =
    subst (λ k. AreStored k c.in_ok-bytes.bytes vs) c.kind.ensures (c.in_ok-bytes.ensures v (c.word.ensures j c.requires.number.1))
    in
    omega (arith, bytes_counted are, fits)
