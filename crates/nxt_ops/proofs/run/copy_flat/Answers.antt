-- A value is stored by its flat form, whose lists are those of a part of the variables.
use Rattle.nxt_space.specs.Variables.{value_of}
use Rattle.nxt_operands.proofs.Laws.Stored.{copy_storable, spelled_stored}
use Rattle.nxt_ops.proofs.run.copy_flat.Goals as goal

pub store-requires-clause-countable : goal.store-requires-clause-countable
store-requires-clause-countable c =
    (copy_storable c.args.space.now.vars c.args.dest c.args.source c.in_ok-flat.flat c.requires.sound c.requires.dest c.requires.source c.requires.fit c.in_ok-flat.ensures).countable

pub returns-clause-does : goal.returns-clause-does
returns-clause-does c =
    let s = c.args.space.now.vars in
    let e = copy_storable s c.args.dest c.args.source c.in_ok-flat.flat c.requires.sound c.requires.dest c.requires.source c.requires.fit c.in_ok-flat.ensures in
    spelled_stored c.args.space.now c.store.new.space c.args.dest (value_of s c.args.source) c.in_ok-flat.flat c.store.result e c.store.ensures.does
