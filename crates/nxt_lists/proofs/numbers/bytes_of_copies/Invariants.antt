-- So many copies are there.
use Rattle.std.proofs.Common.{◌≡◌, replicate}
use Rattle.nxt_model.specs.Values.{Value, word_of}
use Rattle.nxt_lists.specs.InBytes.{AreStored}
use Rattle.nxt_lists.proofs.numbers.bytes_of_copies.Given as goal

abbrev pub invariant-loop : goal.invariant-loop
invariant-loop l = (v : Value) → l.word ≡ word_of v → AreStored l.kind l.bytes (replicate l.counter v)
