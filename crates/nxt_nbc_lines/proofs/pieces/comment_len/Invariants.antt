use Rattle.std.proofs.Common.{◌≡◌, ◌+◌, drop}
use Rattle.std.specs.Prelude.{option_map}
use Rattle.nxt_model.specs.Nbc.Tokens.{comment_len}
use Rattle.nxt_nbc_lines.proofs.pieces.comment_len.Given as goal

-- no end was passed
abbrev pub invariant-loop-at : goal.invariant-loop-at
invariant-loop-at l = comment_len l.bytes ≡ option_map (λ n. n + l.at) (comment_len (drop l.at l.bytes))
