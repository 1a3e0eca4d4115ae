use Rattle.std.proofs.Common.{◌≡◌, map, take}
use Rattle.nxt_model.specs.Nbc.Types.{plain_struct}
use Rattle.nxt_nbc_names.specs.StructsSeen.{structs_seen}
use Rattle.nxt_nbc_program.proofs.types.listed_structs.Given as goal

-- the structs so far
abbrev pub invariant-loop-found : goal.invariant-loop-found
invariant-loop-found l = l.listed ≡ map plain_struct (structs_seen (take l.found-index l.structs))
