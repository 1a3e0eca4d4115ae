-- The text so far, and the fields that are left.
use Rattle.std.proofs.Common.{◌≡◌, ◌++◌, [], ◌∷◌, drop, take, length, map}
use Rattle.nxt_model.specs.LineText.{fields_then}
use Rattle.nxt_model.specs.Means.Text.{number_text}
use Rattle.nxt_model.proofs.text.push_long.Given as goal

abbrev pub invariant-loop-number : goal.invariant-loop-number
invariant-loop-number l = record {
  whole : l.into ++ fields_then (map number_text (drop l.number-index l.numbers)) (l.last ∷ []) ≡ l.fn.into ++ (l.name ++ fields_then (map number_text l.numbers) (l.last ∷ []));
  front : take (length l.fn.into) l.into ≡ l.fn.into;
}
