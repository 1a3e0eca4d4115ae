use Rattle.std.proofs.Common.{◌≡◌, drop, option_map}
use Rattle.nxt_model.specs.Nbc.Types.{member_path}
use Rattle.nxt_nbc_lines.specs.Seen.{names_seen}
use Rattle.nxt_nbc_names.proofs.MemberPlaces.{prefixed}
use Rattle.nxt_nbc_names.proofs.structs.StructTable.member_path.Given as goal

-- the path so far stands in front of where the names lead that are left
abbrev pub invariant-loop-name : goal.invariant-loop-name
invariant-loop-name l =
    member_path l.fn.self.structs l.fn.shape (names_seen l.fn.names)
    ≡ option_map (prefixed l.path) (member_path l.fn.self.structs l.reached (names_seen (drop l.name-index l.fn.names)))
