use Rattle.std.proofs.Common.{inl, inr, ap, ◌∙◌}
use Rattle.nxt_rows.specs.Rows.{no_place}
use Rattle.nxt_rows.specs.declared.DopeRow.{DopeRow}
use Rattle.nxt_heap.proofs.blocks.write_none.Goals as goal

pub returns : goal.returns
returns c =
    let without : DopeRow → DopeRow = λ d. record d { place = no_place; count = 0 } in
    record {
      size = c.set.auto.pool;
      own = c.set.ensures.row ∙ ap without c.get-found.ensures;
      others = λ q less other. c.set.ensures.others q other;
      outside = λ k away beside. elim beside [ inl l ↦ c.set.ensures.below k 0 l | inr l ↦ c.set.ensures.above k 0 l ];
    }
