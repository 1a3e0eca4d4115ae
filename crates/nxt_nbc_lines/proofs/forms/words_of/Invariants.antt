use Rattle.std.proofs.Common.{◌≡◌, take, map}
use Rattle.nxt_nbc_lines.specs.Lines.{word_at}
use Rattle.nxt_nbc_lines.specs.Seen.{words_seen}
use Rattle.nxt_nbc_lines.proofs.forms.words_of.Given as goal

-- the words of the tokens so far
abbrev pub invariant-loop-token : goal.invariant-loop-token
invariant-loop-token l = words_seen l.words ≡ map (word_at l.text) (take l.token-index l.tokens)
