-- The list with the number takes as much of the pool as the list.
use Rattle.std.proofs.Common.{set, sym, subst}
use Rattle.nxt_model.specs.Values.{elements, list_of, stored}
use Rattle.nxt_space.specs.Spots.{IsListSpot}
use Rattle.nxt_space.specs.Variables.{shape_of, value_of, with_value}
use Rattle.nxt_operands.specs.Operands.{Done}
use Rattle.nxt_operands.proofs.Laws.InPlace.{list_named}
use Rattle.nxt_operands.proofs.Laws.Leaving.{then_table}
use Rattle.nxt_operands.proofs.Laws.Refusals.{passed_on}
use Rattle.nxt_lists.proofs.Replaced.{same_size, element_replaced, element_long}
use Rattle.nxt_lists.proofs.SameEntry.{same_taken, same_refused}
use Rattle.nxt_lists.proofs.numbers.replace_number.Goals as goal

pub returns-in_err-take_over-clause-does : goal.returns-in_err-take_over-clause-does
returns-in_err-take_over-clause-does c j is =
    let s = c.args.space.now.vars in
    let i = c.args.dest in
    let v = value_of s c.args.list in
    let w = stored (shape_of s i) (list_of (set (elements v) c.args.k (value_of s j))) in
    let fault = c.in_err-take_over.field-0.0 in
    let same = same_taken s i v w c.requires.sound (list_named s i c.args.spots.0 c.requires.to) (same_size s i c.args.list c.args.k c.args.spots.0 c.args.spots.1 (value_of s j) c.requires.sound c.requires.to c.requires.from c.requires.kind) in
    passed_on Done Done (with_value s i w) c.args.space.now c.take_over.new.space fault c.from_residual.result c.from_residual.ensures.1
    (same_refused c.args.space.now c.take_over.new.space (with_value s i v) (with_value s i w) same fault c.in_err-take_over.ensures.does)

pub set_element-requires : goal.set_element-requires
set_element-requires c =
    (c.args.dest, subst (λ s. IsListSpot s c.args.dest c.args.spots.0) (sym c.in_ok-take_over.ensures.does.1) c.requires.to)

pub returns-clause-does : goal.returns-clause-does
returns-clause-does c j is =
    element_replaced
    c.args.space.now
    c.take_over.new.space
    c.set_element.new.self
    c.args.dest
    c.args.list
    c.args.k
    c.word-word.result
    c.args.spots.0
    c.args.spots.1
    (value_of c.args.space.now.vars j)
    c.requires.sound
    c.requires.to
    c.requires.from
    c.requires.kind
    (c.word-word.ensures j is)
    c.in_ok-take_over.ensures.does
    (record { within = c.set_element.ensures.within; past = c.set_element.ensures.past })

pub returns-clause-leaves : goal.returns-clause-leaves
returns-clause-leaves c =
    let old = c.args.space.now in
    let mid = c.take_over.new.space in
    let new = c.set_element.new.self in
    then_table old mid new c.args.dest c.in_ok-take_over.ensures.leaves c.set_element.ensures.stays
    (λ numbers.
    element_long old mid new c.args.dest c.args.list c.args.k c.word-word.result c.args.spots.0 c.requires.sound c.requires.to c.in_ok-take_over.ensures.does
    (record { within = c.set_element.ensures.within; past = c.set_element.ensures.past }))
