-- The variables of an accepted file start with some values.
use Rattle.std.proofs.Common.{sym, subst}
use Rattle.nxt_types.specs.Refusals.{IsAccepted}
use Rattle.nxt_rxe.specs.declared.parts.Parts.{Parts}
use Rattle.nxt_layout.specs.LayoutRules.{Broken}
use Rattle.nxt_table.specs.declared.fault.TableFault.TheVariants.{Place}
use Rattle.nxt_layout.specs.declared.fault.LayoutFault.TheVariants.{Table}
use Rattle.nxt_layout.specs.Start.{ground, HasShapes, StartsAs}
use Rattle.nxt_layout.proofs.Start.ValueAt.{values_among}
use Rattle.nxt_layout.proofs.Start.RulesKept.{keeps_rows}
use Rattle.nxt_layout.proofs.Start.Size.{found_start}
use Rattle.nxt_model.specs.Values.{Value, group_of}
use Rattle.nxt_types.specs.Shapes.{Members}

pub some_start : (p : Parts) (ss : Members) → IsAccepted (Broken p) → HasShapes p ss → (vars : Value) × StartsAs p ss vars
some_start p ss accepted h =
    let rules = keeps_rows p accepted in
    let vars = group_of (values_among (ground p h.plain) h.plain 0 0) in
    (vars, subst (λ qs. StartsAs p qs vars) (sym h.strides) (found_start p h.plain h.shapes (λ e. accepted (Table (Place e))) rules))
