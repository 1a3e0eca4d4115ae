use Rattle.std.proofs.Common.{◌≡◌, map}
use Rattle.nxt_model.specs.Nbc.Forms.{all_of, term_of}
use Rattle.nxt_nbc_lines.specs.Seen.{pieces_in, terms_seen}
use Rattle.nxt_nbc_lines.proofs.PutAll.{put_all, words_left}
use Rattle.nxt_nbc_lines.proofs.terms.terms_in.Given as goal

-- the operands so far go on to all of them
abbrev pub invariant-loop-rest : goal.invariant-loop-rest
invariant-loop-rest l = all_of (map term_of (pieces_in l.fn.pieces)) ≡ put_all (terms_seen l.terms) (all_of (map term_of (pieces_in l.rest)))

abbrev pub decreases-loop-rest : goal.decreases-loop-rest
decreases-loop-rest l = words_left l.rest
