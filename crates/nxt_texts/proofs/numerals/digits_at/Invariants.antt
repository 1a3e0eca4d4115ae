-- The bytes so far are digits, and those that follow go on from the word.
use Rattle.std.proofs.Common.{◌≡◌, ◌+◌, ◌%◌, ◌^◌, drop}
use Rattle.std.specs.List.{prefix_len, take_while}
use Rattle.nxt_model.specs.Means.Text.{digits_value, is_digit}
use Rattle.nxt_texts.proofs.numerals.digits_at.Given as goal

abbrev pub invariant-loop-k : goal.invariant-loop-k
invariant-loop-k l =
    record {
      count : l.k + prefix_len is_digit (drop l.k l.text) ≡ prefix_len is_digit l.text;
      word : digits_value l.word (take_while is_digit (drop l.k l.text)) % 2 ^ 32 ≡ digits_value 0 (take_while is_digit l.text) % 2 ^ 32;
    }
