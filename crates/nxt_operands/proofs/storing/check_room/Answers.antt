-- The bytes that are told are those of the variables with the value.
use Rattle.std.proofs.Common.{◌∙◌}
use Rattle.nxt_operands.proofs.Room.{listed_there, room_found, room_passed}
use Rattle.nxt_operands.proofs.storing.check_room.Goals as goal

pub returns-clause-room : goal.returns-clause-room
returns-clause-room c v is =
    let s = c.args.space.now.vars in
    let size = listed_there s c.args.dest c.stride_at.result c.args.count c.args.elements c.in_list-size.result c.stride_at.ensures c.in_list-size.ensures in
    room_found s c.args.dest v c.in_list-size.result c.requires.sound c.requires.named (size ∙ is) c.in_ok-room.ensures

pub returns-in_err-room-clause-refused : goal.returns-in_err-room-clause-refused
returns-in_err-room-clause-refused c v is =
    let s = c.args.space.now.vars in
    let size = listed_there s c.args.dest c.stride_at.result c.args.count c.args.elements c.in_list-size.result c.stride_at.ensures c.in_list-size.ensures in
    room_passed c.args.space.now c.args.dest v c.in_list-size.result _ c.from_residual.result c.requires.sound c.requires.named (size ∙ is) c.from_residual.ensures.1 c.in_err-room.ensures
