use Rattle.std.proofs.Common.{◌≡◌, Some, map, take}
use Rattle.nxt_nbc_kinds.specs.Kinds.{kinds_of}
use Rattle.nxt_nbc_kinds.proofs.conversions.member_kinds.Given as goal

abbrev pub invariant-loop-member : goal.invariant-loop-member
invariant-loop-member l = kinds_of l.structs (map (λ m. m.shape) (take l.member-index l.members)) ≡ Some l.kinds.items
