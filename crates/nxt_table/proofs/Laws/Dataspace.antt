-- The bytes that the passes lay out are the dataspace.
use Rattle.std.proofs.Common.{◌≡◌, ◌+◌, ◌-◌, ◌++◌, ap, ◌∙◌}
use Rattle.std.specs.Prelude.{replicate}
use Rattle.nxt_types.specs.Shapes.{Members}
use Rattle.nxt_rxe.specs.declared.parts.Parts.{Parts}
use Rattle.nxt_table.specs.Leaves.{leaves, AreShapes}
use Rattle.nxt_table.specs.Dataspace.{dynamic_bytes, dataspace}
use Rattle.nxt_table.specs.Inside.LeafPasses.{filled_from}
use Rattle.nxt_table.specs.Inside.Checks.{bytes_of_parts}
use Rattle.nxt_table.proofs.Laws.Leaves.{table_leaves, table_rises}
use Rattle.nxt_table.proofs.Placement.Defaults.{filled_same, behind_all}

pub same_dataspace : (p : Parts) (ss : Members) → AreShapes p.toc ss → bytes_of_parts p ≡ dataspace p ss
same_dataspace p ss h =
    ap (λ bs. bs ++ dynamic_bytes p ++ replicate (p.header.initial - (p.header.static_size + p.header.dyn_size)) 0)
    (ap (λ ls. filled_from p.defaults 0 ls (replicate p.header.static_size 0)) (table_leaves p.toc ss h)
    ∙ filled_same p.defaults (leaves p.toc ss) (leaves p.toc ss) 0 0 (replicate p.header.static_size 0) (table_rises p.toc ss) (behind_all (leaves p.toc ss)))
