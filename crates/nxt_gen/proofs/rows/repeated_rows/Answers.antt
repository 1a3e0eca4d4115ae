-- Two rows more.
use Rattle.std.proofs.Common.{◌++◌, ◌∙◌, ◌+◌, ◌-◌, ◌∷◌, [], List, ap, append_assoc, sym}
use Rattle.nxt_model.specs.declared.event.Event.TheVariants.{Compact}
use Rattle.nxt_model.specs.declared.event.ScriptRow.{ScriptRow}
use Rattle.nxt_model.specs.declared.event.ScriptRow.TheVariants.{Run, One}
use Rattle.nxt_gen.specs.Generator.{repeated_rows}
use Rattle.nxt_gen.proofs.Rounds.{rows_next}
use Rattle.nxt_gen.proofs.rows.repeated_rows.Goals as goal

pub loop-preserved : goal.loop-preserved
loop-preserved c =
    let left : List ScriptRow = repeated_rows (c.args.times - (c.loop.counter + 1)) in
    ap (λ rows. rows ++ left) (c.in_ok-push-2.ensures.items ∙ ap (λ rows. rows ++ One (Compact 1) ∷ []) c.in_ok-push.ensures.items ∙ append_assoc c.loop.rows.items (Run 6 ∷ []) (One (Compact 1) ∷ []))
    ∙ append_assoc c.loop.rows.items (Run 6 ∷ One (Compact 1) ∷ []) left
    ∙ ap (λ rows. c.loop.rows.items ++ rows) (sym (rows_next c.args.times c.loop.counter c.loop-test.true))
    ∙ c.loop.invariant
