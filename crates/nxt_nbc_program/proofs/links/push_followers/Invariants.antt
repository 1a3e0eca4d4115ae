use Rattle.std.proofs.Common.{◌≡◌, ◌++◌, filter_map, map, take}
use Rattle.nxt_nbc_program.specs.Links.{follows}
use Rattle.nxt_nbc_program.specs.LinksSeen.{follower_seen}
use Rattle.nxt_nbc_program.proofs.links.push_followers.Given as goal

-- those of the followers so far were added
abbrev pub invariant-loop-follower : goal.invariant-loop-follower
invariant-loop-follower l =
    l.numbers ≡ l.initial.numbers ++ filter_map (follows l.number) (map follower_seen (take l.follower-index l.followers))
