-- The list takes one block, and the entry's stride is small.
use Rattle.nxt_model.specs.Values.{byte_list}
use Rattle.nxt_operands.proofs.Laws.OneStored.{spelled_given}
use Rattle.nxt_texts.proofs.Texts.{bytes_storable}
use Rattle.nxt_texts.proofs.text.store_apart.Goals as goal

pub store-requires-clause-countable : goal.store-requires-clause-countable
store-requires-clause-countable c =
    (bytes_storable c.args.space.now.vars c.args.dest c.args.bytes.now c.in_ok-flat.flat c.requires.sound c.requires.named c.requires.text c.requires.few c.in_ok-flat.ensures).countable

pub returns-clause-stores : goal.returns-clause-stores
returns-clause-stores c d =
    let s = c.args.space.now.vars in
    let e = bytes_storable s c.args.dest c.args.bytes.now c.in_ok-flat.flat c.requires.sound c.requires.named c.requires.text c.requires.few c.in_ok-flat.ensures in
    spelled_given c.args.space.now c.store.new.space c.args.dest (byte_list c.args.bytes.now) c.in_ok-flat.flat c.store.result e c.store.ensures.does d
