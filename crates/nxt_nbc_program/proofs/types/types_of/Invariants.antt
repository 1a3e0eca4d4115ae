use Rattle.std.proofs.Common.{◌≡◌, map, take}
use Rattle.nxt_nbc_names.specs.MembersSeen.{member_seen}
use Rattle.nxt_nbc_program.proofs.types.types_of.Given as goal

-- the types of the members so far
abbrev pub invariant-loop-member : goal.invariant-loop-member
invariant-loop-member l = l.types ≡ map (λ m. m.type) (map member_seen (take l.member-index l.members))
