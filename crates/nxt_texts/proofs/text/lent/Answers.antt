-- Each of them is a byte.
use Rattle.nxt_texts.proofs.InPlace.{own_bytes}
use Rattle.nxt_texts.proofs.text.lent.Goals as goal

pub returns-clause-list : goal.returns-clause-list
returns-clause-list c = own_bytes c.args.bytes.now (λ k. (c.type_inv.bytes k).fits)
