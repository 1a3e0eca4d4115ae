-- Behind the place stand the fields of the numbers that are done, and the last byte.
use Rattle.std.proofs.Common.{◌≡◌, ◌+◌, ◌-◌, ◌*◌, ◌≤◌, [], ◌∷◌, drop, length, map}
use Rattle.nxt_model.specs.LineText.{fields_then}
use Rattle.nxt_model.specs.Means.Text.{number_text}
use Rattle.nxt_model.proofs.text.push_short.Given as goal

abbrev pub invariant-loop-left : goal.invariant-loop-left
invariant-loop-left l = record {
  some : l.left ≤ length l.numbers;
  whole : length l.buffer ≡ 193;
  within : l.start ≤ 192;
  room : 192 ≤ l.start + (length l.numbers - l.left) * 22;
  written : drop l.start l.buffer ≡ fields_then (map number_text (drop l.left l.numbers)) (l.last ∷ []);
}

abbrev pub decreases-loop-left : goal.decreases-loop-left
decreases-loop-left l = l.left
