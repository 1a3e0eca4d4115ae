-- A table that breaks no rule, and what is kept of it.
use Rattle.std.specs.Prelude.{◌≡◌}
use Rattle.nxt_types.specs.Refusals.{IsAccepted}
use Rattle.nxt_types.specs.Shapes.{Members}
use Rattle.nxt_rxe.specs.declared.parts.Parts.{Parts}
use Rattle.nxt_table.specs.declared.check.Table.{Table}
use Rattle.nxt_table.specs.Inside.Checks.{leaves_of, bytes_of_parts}
use Rattle.nxt_table.specs.Inside.Enclosing.{placed_entries}
use Rattle.nxt_table.specs.Leaves.{AreShapes}
use Rattle.nxt_table.specs.TableRules.{Broken}

-- no rule of it is broken, and its variables have these shapes
pub record KeepsTable (p : Parts) : Type 0 where
  pub rules : IsAccepted (Broken p)
  pub shapes : Members
  pub spelled : AreShapes p.toc shapes

-- its entries, its leaves and the bytes of the dataspace are those of the parts
pub record IsTable (p : Parts) (t : Table) : Type 0 where
  pub kept : KeepsTable p
  pub placed : t.placed.items ≡ placed_entries p.toc
  pub leaves : t.leaves.items ≡ leaves_of p
  pub bytes : t.bytes.items ≡ bytes_of_parts p
