-- The bytes so far are spaces.
use Rattle.std.proofs.Common.{◌≡◌, ◌+◌, drop}
use Rattle.std.specs.List.{prefix_len}
use Rattle.nxt_texts.specs.Numerals.{is_space}
use Rattle.nxt_texts.proofs.numerals.spaces_at.Given as goal

abbrev pub invariant-loop-k : goal.invariant-loop-k
invariant-loop-k l = l.k + prefix_len is_space (drop l.k l.text) ≡ prefix_len is_space l.text
