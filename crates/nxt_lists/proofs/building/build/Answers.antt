-- The list has the size that was measured.
use Rattle.std.proofs.Common.{sym, ap, subst, arith}
use Rattle.nxt_model.specs.Values.{list_of, stored}
use Rattle.nxt_space.specs.Outcomes.{Does}
use Rattle.nxt_space.specs.Variables.{shape_of, with_value}
use Rattle.nxt_operands.specs.Operands.{Done}
use Rattle.nxt_operands.proofs.Laws.OneStored.{given_stored, spelled_given}
use Rattle.nxt_operands.proofs.Laws.Refusals.{passed_on}
use Rattle.nxt_lists.specs.Pieces.{pieces_of}
use Rattle.nxt_lists.proofs.JoinedNumbers.{number_behind}
use Rattle.nxt_lists.proofs.ListStored.{list_size, list_storable}
use Rattle.nxt_lists.proofs.Sources.{pieces_for}
use Rattle.nxt_lists.proofs.building.build.Goals as goal

pub returns-in-Some-appended-clause-does : goal.returns-in-Some-appended-clause-does
returns-in-Some-appended-clause-does c d =
    let s = c.args.space.now.vars in
    let i = c.args.dest in
    let sources = c.args.sources.now in
    let found = c.in-Some-appended.ensures.found in
    let vs = pieces_of s i sources in
    let are = number_behind s i found.0 c.in-Some.to c.in-Some-appended.number sources c.in-Some.ensures.found found.2 found.1 in
    given_stored c.args.space.now c.append_number.new.space i (list_of vs) c.append_number.result
    (subst
    (λ us. Does {T = Unit {0}} Done (with_value s i (stored (shape_of s i) (list_of us))) c.args.space.now c.append_number.result c.append_number.new.space)
    (sym are)
    (c.append_number.ensures.does found.0 found.2))
    d

pub store_joined-requires-clause-few : goal.store_joined-requires-clause-few
store_joined-requires-clause-few c =
    let s = c.args.space.now.vars in
    let are = pieces_for s c.args.dest c.args.sources.now (record { sound = c.requires.sound; of_list = c.requires.of_list; named = c.requires.sources; fit = c.requires.fit }) c.requires.few in
    omega (arith, c.in-Some-count_numbers.ensures.count, are.few)

pub returns-in-Some-count_numbers-clause-does : goal.returns-in-Some-count_numbers-clause-does
returns-in-Some-count_numbers-clause-does c d =
    let vs = pieces_of c.args.space.now.vars c.args.dest c.args.sources.now in
    given_stored c.args.space.now c.store_joined.new.space c.args.dest (list_of vs) c.store_joined.result c.store_joined.ensures.does d

pub check_room-requires-clause-countable : goal.check_room-requires-clause-countable
check_room-requires-clause-countable c =
    let s = c.args.space.now.vars in
    let vs = pieces_of s c.args.dest c.args.sources.now in
    let are = pieces_for s c.args.dest c.args.sources.now (record { sound = c.requires.sound; of_list = c.requires.of_list; named = c.requires.sources; fit = c.requires.fit }) c.requires.few in
    let size = list_size s c.args.dest vs c.in_ok-found.found.count c.in_ok-found.found.size c.requires.sound c.requires.dest are (ap (λ f. f.count) c.in_ok-found.ensures) (ap (λ f. f.size) c.in_ok-found.ensures) in
    size.small

pub returns-in_err-check_room-clause-does : goal.returns-in_err-check_room-clause-does
returns-in_err-check_room-clause-does c d =
    let s = c.args.space.now.vars in
    let vs = pieces_of s c.args.dest c.args.sources.now in
    let w = stored (shape_of s c.args.dest) (list_of vs) in
    let are = pieces_for s c.args.dest c.args.sources.now (record { sound = c.requires.sound; of_list = c.requires.of_list; named = c.requires.sources; fit = c.requires.fit }) c.requires.few in
    let size = list_size s c.args.dest vs c.in_ok-found.found.count c.in_ok-found.found.size c.requires.sound c.requires.dest are (ap (λ f. f.count) c.in_ok-found.ensures) (ap (λ f. f.size) c.in_ok-found.ensures) in
    given_stored c.args.space.now c.args.space.now c.args.dest (list_of vs) c.from_residual-in_err-check_room.result
    (passed_on Done Done (with_value s c.args.dest w) c.args.space.now c.args.space.now c.in_err-check_room.field-0.0 c.from_residual-in_err-check_room.result c.from_residual-in_err-check_room.ensures.1 (c.in_err-check_room.ensures.refused w size.is))
    d

pub joined-requires-clause-few : goal.joined-requires-clause-few
joined-requires-clause-few c =
    let s = c.args.space.now.vars in
    let are = pieces_for s c.args.dest c.args.sources.now (record { sound = c.requires.sound; of_list = c.requires.of_list; named = c.requires.sources; fit = c.requires.fit }) c.requires.few in
    let counted = ap (λ f. f.count) c.in_ok-found.ensures in
    omega (arith, counted, are.few)

pub store-requires-clause-countable : goal.store-requires-clause-countable
store-requires-clause-countable c =
    let s = c.args.space.now.vars in
    let vs = pieces_of s c.args.dest c.args.sources.now in
    let are = pieces_for s c.args.dest c.args.sources.now (record { sound = c.requires.sound; of_list = c.requires.of_list; named = c.requires.sources; fit = c.requires.fit }) c.requires.few in
    (list_storable s c.args.dest vs c.in_ok-flat.flat c.requires.sound c.requires.dest are c.in_ok-flat.ensures).countable

pub returns-clause-does : goal.returns-clause-does
returns-clause-does c d =
    let s = c.args.space.now.vars in
    let vs = pieces_of s c.args.dest c.args.sources.now in
    let are = pieces_for s c.args.dest c.args.sources.now (record { sound = c.requires.sound; of_list = c.requires.of_list; named = c.requires.sources; fit = c.requires.fit }) c.requires.few in
    let e = list_storable s c.args.dest vs c.in_ok-flat.flat c.requires.sound c.requires.dest are c.in_ok-flat.ensures in
    spelled_given c.args.space.now c.store.new.space c.args.dest (list_of vs) c.in_ok-flat.flat c.store.result e c.store.ensures.does d
