-- The list has the size of so many copies.
use Rattle.std.proofs.Common.{rules, ◌≡◌, ◌*◌, ◌<◌, ◌^◌, sym, ap, ap₂, ◌∙◌, subst, arith, w64}
use Rattle.std.specs.Prelude.{replicate}
use Rattle.std.proofs.Math.Facts.{to_z-of_z}
use mir.Val.{SFits}
use Rattle.nxt_types.specs.Arithmetic.{word}
use Rattle.nxt_types.specs.Shapes.{tree}
use Rattle.nxt_model.specs.Values.{list_of, stored}
use Rattle.nxt_values.specs.Sizes.{IsCountable, size_of_filled}
use Rattle.nxt_space.specs.Variables.{shape_of, value_of, with_value}
use Rattle.nxt_values.specs.declared.sizing.Size.{Size}
use Rattle.nxt_operands.specs.Operands.{Done, with_list}
use Rattle.nxt_lists.proofs.ListStored.{list_storable}
use Rattle.nxt_operands.proofs.Laws.OneStored.{Gives, given_stored, spelled_given}
use Rattle.nxt_operands.proofs.Laws.Refusals.{passed_on}
use Rattle.nxt_lists.proofs.Copies.{is_copied, copies_spelled}
use Rattle.nxt_lists.proofs.building.initialize.Goals as goal

pub spelled_size-requires : goal.spelled_size-requires
spelled_size-requires c =
    let s = c.args.space.now.vars in
    let t = tree c.element_of.result.now in
    let same = c.element_of.ensures in
    let spelled = c.as_slice.ensures ∙ c.in_ok-one.ensures in
    let few : c.wrap-count.result < 2 ^ 32 = search rules in
    let copied = is_copied s c.args.dest c.args.value c.wrap-count.result t c.as_slice.result.now c.requires.sound c.requires.dest c.requires.value c.requires.of_list c.requires.fit same few spelled in
    record { lists = omega (arith, copied.small.lists); bytes = omega (arith, copied.small.bytes) }

pub times-requires-clause-lists : goal.times-requires-clause-lists
times-requires-clause-lists c =
    let s = c.args.space.now.vars in
    let t = tree c.element_of.result.now in
    let same = c.element_of.ensures in
    let spelled = c.as_slice.ensures ∙ c.in_ok-one.ensures in
    let few : c.wrap-count.result < 2 ^ 32 = search rules in
    let copied = is_copied s c.args.dest c.args.value c.wrap-count.result t c.as_slice.result.now c.requires.sound c.requires.dest c.requires.value c.requires.of_list c.requires.fit same few spelled in
    let is = ap (λ z. z.lists) c.spelled_size.ensures.size in
    omega (arith, is, copied.small.lists)

pub times-requires-clause-bytes : goal.times-requires-clause-bytes
times-requires-clause-bytes c =
    let s = c.args.space.now.vars in
    let t = tree c.element_of.result.now in
    let same = c.element_of.ensures in
    let spelled = c.as_slice.ensures ∙ c.in_ok-one.ensures in
    let few : c.wrap-count.result < 2 ^ 32 = search rules in
    let copied = is_copied s c.args.dest c.args.value c.wrap-count.result t c.as_slice.result.now c.requires.sound c.requires.dest c.requires.value c.requires.of_list c.requires.fit same few spelled in
    let is = ap (λ z. z.bytes) c.spelled_size.ensures.size in
    omega (arith, is, copied.small.bytes)

pub check_room-requires-clause-countable : goal.check_room-requires-clause-countable
check_room-requires-clause-countable c =
    let s = c.args.space.now.vars in
    let t = tree c.element_of.result.now in
    let same = c.element_of.ensures in
    let spelled = c.as_slice.ensures ∙ c.in_ok-one.ensures in
    let few : c.wrap-count.result < 2 ^ 32 = search rules in
    let copied = is_copied s c.args.dest c.args.value c.wrap-count.result t c.as_slice.result.now c.requires.sound c.requires.dest c.requires.value c.requires.of_list c.requires.fit same few spelled in
    let all = with_list (shape_of s c.args.dest) in
    let is : all c.from.result c.times.result ≡ all c.wrap-count.result (record { lists = c.wrap-count.result * (size_of_filled t c.as_slice.result.now).lists; bytes = c.wrap-count.result * (size_of_filled t c.as_slice.result.now).bytes }) =
    ap₂ all c.from.ensures (c.times.ensures ∙ ap (λ (z : Size). let y : Size = record { lists = c.wrap-count.result * z.lists; bytes = c.wrap-count.result * z.bytes } in y) c.spelled_size.ensures.size)
    in
    subst IsCountable (sym is) copied.size.small

pub returns-in_err-check_room-clause-does : goal.returns-in_err-check_room-clause-does
returns-in_err-check_room-clause-does c d =
    let s = c.args.space.now.vars in
    let t = tree c.element_of.result.now in
    let same = c.element_of.ensures in
    let spelled = c.as_slice.ensures ∙ c.in_ok-one.ensures in
    let few : c.wrap-count.result < 2 ^ 32 = search rules in
    let copied = is_copied s c.args.dest c.args.value c.wrap-count.result t c.as_slice.result.now c.requires.sound c.requires.dest c.requires.value c.requires.of_list c.requires.fit same few spelled in
    let all = with_list (shape_of s c.args.dest) in
    let is : all c.from.result c.times.result ≡ all c.wrap-count.result (record { lists = c.wrap-count.result * (size_of_filled t c.as_slice.result.now).lists; bytes = c.wrap-count.result * (size_of_filled t c.as_slice.result.now).bytes }) =
    ap₂ all c.from.ensures (c.times.ensures ∙ ap (λ (z : Size). let y : Size = record { lists = c.wrap-count.result * z.lists; bytes = c.wrap-count.result * z.bytes } in y) c.spelled_size.ensures.size)
    in
    let read : SFits w64 c.get.result = search rules in
    let counted = c.wrap-count.ensures ∙ ap word (to_z-of_z read ∙ c.get.ensures) in
    let v = list_of (replicate c.wrap-count.result (value_of s c.args.value)) in
    let w = stored (shape_of s c.args.dest) v in
    let passed = c.from_residual-in_err-check_room in
    subst
    (λ k. Gives c.args.space.now c.args.dest (list_of (replicate k (value_of s c.args.value))) passed.result c.args.space.now)
    counted
    (given_stored c.args.space.now c.args.space.now c.args.dest v passed.result
    (passed_on Done Done (with_value s c.args.dest w) c.args.space.now c.args.space.now c.in_err-check_room.field-0.0 passed.result passed.ensures.1 (c.in_err-check_room.ensures.refused w (is ∙ copied.size.is))))
    d

pub store-requires-clause-countable : goal.store-requires-clause-countable
store-requires-clause-countable c =
    let s = c.args.space.now.vars in
    let t = tree c.element_of.result.now in
    let same = c.element_of.ensures in
    let spelled = c.as_slice.ensures ∙ c.in_ok-one.ensures in
    let few : c.wrap-count.result < 2 ^ 32 = search rules in
    let copied = is_copied s c.args.dest c.args.value c.wrap-count.result t c.as_slice.result.now c.requires.sound c.requires.dest c.requires.value c.requires.of_list c.requires.fit same few spelled in
    let again = c.as_slice-2.ensures ∙ c.in_ok-one.ensures in
    let vs = replicate c.wrap-count.result (value_of s c.args.value) in
    (list_storable s c.args.dest vs c.in_ok-flat.flat c.requires.sound c.requires.dest copied.are
    (copies_spelled c.wrap-count.result (value_of s c.args.value) c.as_slice-2.result.now c.in_ok-flat.flat again c.in_ok-flat.ensures)).countable

pub returns-clause-does : goal.returns-clause-does
returns-clause-does c d =
    let s = c.args.space.now.vars in
    let t = tree c.element_of.result.now in
    let same = c.element_of.ensures in
    let spelled = c.as_slice.ensures ∙ c.in_ok-one.ensures in
    let few : c.wrap-count.result < 2 ^ 32 = search rules in
    let copied = is_copied s c.args.dest c.args.value c.wrap-count.result t c.as_slice.result.now c.requires.sound c.requires.dest c.requires.value c.requires.of_list c.requires.fit same few spelled in
    let again = c.as_slice-2.ensures ∙ c.in_ok-one.ensures in
    let read : SFits w64 c.get.result = search rules in
    let counted = c.wrap-count.ensures ∙ ap word (to_z-of_z read ∙ c.get.ensures) in
    let vs = replicate c.wrap-count.result (value_of s c.args.value) in
    let e =
    list_storable s c.args.dest vs c.in_ok-flat.flat c.requires.sound c.requires.dest copied.are
    (copies_spelled c.wrap-count.result (value_of s c.args.value) c.as_slice-2.result.now c.in_ok-flat.flat again c.in_ok-flat.ensures)
    in
    subst
    (λ k. Gives c.args.space.now c.args.dest (list_of (replicate k (value_of s c.args.value))) c.store.result c.store.new.space)
    counted
    (spelled_given c.args.space.now c.store.new.space c.args.dest (list_of vs) c.in_ok-flat.flat c.store.result e c.store.ensures.does)
    d
