-- Either value can be stored, and the error tells which it is.
use Rattle.nxt_texts.specs.Texts.{text_at}
use Rattle.nxt_operands.proofs.Laws.Stored.{copy_storable}
use Rattle.nxt_texts.proofs.Telling.{found_there, none_there, unpacked_storable, unflatten_found, unflatten_short}
use Rattle.nxt_texts.proofs.packing.unflatten.Goals as goal

-- ---- a text that is long enough

pub store_and_tell-requires-clause-countable : goal.store_and_tell-requires-clause-countable
store_and_tell-requires-clause-countable c =
    let s = c.args.space.now.vars in
    let found = found_there s c.args.source c.args.kind_of c.in-Some-found.flat c.in_ok-found.found c.in-Some-found.is c.in_ok-found.ensures in
    (unpacked_storable s c.args.dest c.args.kind_of (text_at s c.args.source) c.in-Some-found.flat c.requires.sound c.requires.dest c.requires.kind_of c.requires.no_list c.requires.fit found.is).countable

pub returns-in-Some-found-clause-does : goal.returns-in-Some-found-clause-does
returns-in-Some-found-clause-does c d =
    let s = c.args.space.now.vars in
    let found = found_there s c.args.source c.args.kind_of c.in-Some-found.flat c.in_ok-found.found c.in-Some-found.is c.in_ok-found.ensures in
    let e = unpacked_storable s c.args.dest c.args.kind_of (text_at s c.args.source) c.in-Some-found.flat c.requires.sound c.requires.dest c.requires.kind_of c.requires.no_list c.requires.fit found.is in
    unflatten_found c.args.space.now c.store_and_tell.new.space c.args.dest c.args.error c.args.source c.args.kind_of c.in-Some-found.flat c.store_and_tell.result d found e c.store_and_tell.ensures.does

-- ---- a text that is too short

pub store_and_tell-requires-in-None-clause-countable : goal.store_and_tell-requires-in-None-clause-countable
store_and_tell-requires-in-None-clause-countable c =
    let r = c.requires in
    (copy_storable c.args.space.now.vars c.args.dest c.args.kind_of c.in_ok-flat-in-None.flat r.sound r.dest r.kind_of r.fit c.in_ok-flat-in-None.ensures).countable

pub returns-in_ok-flat-in-None-clause-does : goal.returns-in_ok-flat-in-None-clause-does
returns-in_ok-flat-in-None-clause-does c d =
    let s = c.args.space.now.vars in
    let r = c.requires in
    let short = none_there s c.args.source c.args.kind_of c.in_ok-found.found c.in-None.is c.in_ok-found.ensures in
    let e = copy_storable s c.args.dest c.args.kind_of c.in_ok-flat-in-None.flat r.sound r.dest r.kind_of r.fit c.in_ok-flat-in-None.ensures in
    unflatten_short c.args.space.now c.store_and_tell-in-None.new.space c.args.dest c.args.error c.args.source c.args.kind_of c.in_ok-flat-in-None.flat c.store_and_tell-in-None.result d short e c.store_and_tell-in-None.ensures.does
