-- Whole numbers of so many bytes.
use Rattle.std.proofs.Common.{◌∙◌, ◌/◌, length, ap}
use Rattle.nxt_space.proofs.Laws.InBytes.{numbers_counted}
use Rattle.nxt_operands.proofs.lists.count_in.Goals as goal

pub returns-clause-count : goal.returns-clause-count
returns-clause-count c = ap (λ n. length c.args.bytes.now / n) c.leaf_size.ensures ∙ numbers_counted c.args.kind c.args.bytes.now
