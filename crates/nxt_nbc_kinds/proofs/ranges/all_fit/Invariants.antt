use Rattle.std.proofs.Common.{◌≡◌, drop}
use Rattle.std.specs.List.{list_all}
use Rattle.nxt_model.specs.Nbc.NbcRules.{fits_shape}
use Rattle.nxt_model.specs.Nbc.Structs.{Types}
use Rattle.nxt_nbc_kinds.specs.OperandsSeen.{shape_seen}
use Rattle.nxt_nbc_kinds.proofs.ranges.all_fit.Given as goal

-- all numbers so far are held
abbrev pub invariant-loop-z : goal.invariant-loop-z
invariant-loop-z l =
    (t : Types) → list_all (fits_shape (shape_seen t l.fn.shape)) l.fn.zs ≡ list_all (fits_shape (shape_seen t l.fn.shape)) (drop l.z-index l.fn.zs)
