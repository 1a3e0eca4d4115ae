use Rattle.std.proofs.Common.{take}
use Rattle.nxt_model.specs.Nbc.Types.{type_shapes}
use Rattle.nxt_nbc_names.specs.StructsSeen.{structs_seen}
use Rattle.nxt_nbc_kinds.proofs.KnownKinds.{AreKnown}
use Rattle.nxt_nbc_kinds.proofs.conversions.Conversions.of.Given as goal

abbrev pub invariant-loop-item : goal.invariant-loop-item
invariant-loop-item l = AreKnown (type_shapes (structs_seen (take l.item-index l.declared))) l.kinds l.known
