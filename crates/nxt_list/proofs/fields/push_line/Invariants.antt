-- The text so far, and the fields that are left.
use Rattle.std.proofs.Common.{◌≡◌, ◌++◌, drop, map}
use Rattle.std.specs.Prelude.{decimal}
use Rattle.nxt_model.specs.LineText.{fields}
use Rattle.nxt_list.proofs.fields.push_line.Given as goal

abbrev pub invariant-loop-number : goal.invariant-loop-number
invariant-loop-number l = l.into ++ fields (map decimal (drop l.number-index l.numbers)) ≡ l.fn.into ++ (l.name ++ fields (map decimal l.numbers))
