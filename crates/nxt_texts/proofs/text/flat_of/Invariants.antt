-- So many bytes stand behind their number.
use Rattle.std.proofs.Common.{◌≡◌, ◌∷◌, map, take, length}
use Rattle.std.specs.Prelude.{pos}
use Rattle.nxt_texts.proofs.text.flat_of.Given as goal

abbrev pub invariant-loop-byte : goal.invariant-loop-byte
invariant-loop-byte l = l.flat ≡ pos (length l.bytes) ∷ map pos (take l.byte-index l.bytes)
