use Rattle.std.proofs.Common.{◌≡◌, map, take}
use Rattle.nxt_model.specs.Nbc.Header.{member_behind}
use Rattle.nxt_nbc_names.specs.HeaderSeen.{header_member_seen}
use Rattle.nxt_nbc_names.proofs.structs.header_members.Given as goal

abbrev pub invariant-loop-name : goal.invariant-loop-name
invariant-loop-name l = l.members ≡ map (λ m. member_behind l.first (header_member_seen m)) (take l.name-index l.name-items)
