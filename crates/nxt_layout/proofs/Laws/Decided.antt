-- Each file is refused by a first rule of its table and data, or breaks none and has its variables' shapes.
use Rattle.std.proofs.Common.{◌≡◌, ◌⊎◌, refl, inl, inr, Option, Some, None}
use Rattle.nxt_types.specs.Refusals.{IsRefusal, IsAccepted}
use Rattle.nxt_types.specs.Shapes.{Members}
use Rattle.nxt_rxe.specs.declared.parts.Parts.{Parts}
use Rattle.nxt_table.specs.declared.fault.TableFault.{TableFault}
use Rattle.nxt_table.specs.Strides.{all_with_strides}
use Rattle.nxt_table.specs.TableRules as table_rules
use Rattle.nxt_table.specs.KeptTables.{KeepsTable}
use Rattle.nxt_table.proofs.Laws.Decided.{table_or_refusal}
use Rattle.nxt_layout.specs.declared.fault.LayoutFault.{LayoutFault}
use Rattle.nxt_layout.specs.declared.fault.LayoutFault.TheVariants.{Table}
use Rattle.nxt_layout.specs.LayoutRules.{Broken, rank}
use Rattle.nxt_layout.specs.Start.{HasShapes, ground, stride_of}
use Rattle.nxt_layout.specs.Inside.Passes.{row_fault, pool_fault}
use Rattle.nxt_layout.proofs.Rules.FirstBroken.{table_refused}
use Rattle.nxt_layout.proofs.Rules.Found.{row_refused, pool_refused, accepted}

module _ (p : Parts) where
  Decided : Type 0
  Decided = ((f : LayoutFault) × IsRefusal (Broken p) rank f) ⊎ (IsAccepted (Broken p) × (ss : Members) × HasShapes p ss)

  by_pool : (o : Option LayoutFault) → pool_fault p ≡ o → KeepsTable p → row_fault p ≡ None → Decided
  unfolding Decided
  by_pool None e h rows =
      let ss = all_with_strides (stride_of (ground p h.shapes)) 0 h.shapes in
      let has : HasShapes p ss = record { plain = h.shapes; shapes = h.spelled; strides = refl } in
      inr (accepted p h rows e, ss, has)
  by_pool (Some f) e h rows = inl (f, pool_refused p f h rows e)

  by_rows : (o : Option LayoutFault) → row_fault p ≡ o → KeepsTable p → Decided
  unfolding Decided
  by_rows None e h = by_pool (pool_fault p) refl h e
  by_rows (Some f) e h = inl (f, row_refused p f h e)

  by_table : ((f : TableFault) × IsRefusal (table_rules.Broken p) table_rules.rank f) ⊎ KeepsTable p → Decided
  unfolding Decided
  by_table (inl found) = inl (Table found.0, table_refused p found.0 found.1)
  by_table (inr h) = by_rows (row_fault p) refl h

  pub layout_or_refusal : ((f : LayoutFault) × IsRefusal (Broken p) rank f) ⊎ (IsAccepted (Broken p) × (ss : Members) × HasShapes p ss)
  unfolding Decided
  layout_or_refusal = by_table (table_or_refusal p)
