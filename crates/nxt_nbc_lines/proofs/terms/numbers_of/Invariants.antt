use Rattle.std.proofs.Common.{◌≡◌, map}
use Rattle.nxt_model.specs.Nbc.Forms.{all_of, number_of, numbers_of}
use Rattle.nxt_nbc_lines.specs.Seen.{pieces_in, words_seen}
use Rattle.nxt_nbc_lines.proofs.PutAll.{put_all, words_left}
use Rattle.nxt_nbc_lines.proofs.terms.numbers_of.Given as goal

-- the numbers so far go on to all of them
abbrev pub invariant-loop-rest : goal.invariant-loop-rest
invariant-loop-rest l = numbers_of (words_seen l.fn.words) ≡ put_all l.numbers (all_of (map number_of (pieces_in l.rest)))

abbrev pub decreases-loop-rest : goal.decreases-loop-rest
decreases-loop-rest l = words_left l.rest
