use Rattle.std.proofs.Common.{◌≡◌}
use Rattle.nxt_model.specs.Nbc.Forms.{path_of}
use Rattle.nxt_nbc_lines.specs.Seen.{names_seen, path_in, words_seen}
use Rattle.nxt_nbc_lines.proofs.PutAll.{put_all, words_left}
use Rattle.nxt_nbc_lines.proofs.terms.path_of.Given as goal

-- the names so far go on to the whole path
abbrev pub invariant-loop-rest : goal.invariant-loop-rest
invariant-loop-rest l = path_of (words_seen l.fn.words) ≡ put_all (names_seen l.names) (path_in l.rest)

abbrev pub decreases-loop-rest : goal.decreases-loop-rest
decreases-loop-rest l = words_left l.rest
