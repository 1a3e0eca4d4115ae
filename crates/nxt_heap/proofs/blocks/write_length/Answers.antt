use Rattle.std.proofs.Common.{◌≡◌, ℕ, ◌+◌, ◌*◌, ◌/◌, ◌<◌, ◌≤◌, ◌⊎◌, inl, inr, ap, ◌∙◌, arith}
use Rattle.nxt_types.proofs.Laws.Pool.{le-round4}
use Rattle.nxt_rows.specs.Rows.{dope_row}
use Rattle.nxt_rows.specs.declared.DopeRow.{DopeRow}
use Rattle.nxt_rows.proofs.Laws.Writes.{dope_row-kept}
use Rattle.nxt_heap.specs.Inside.Pool.{row_bytes}
use Rattle.nxt_heap.proofs.blocks.write_length.Goals as goal

pub returns-clause-relists : goal.returns-clause-relists
returns-clause-relists c =
    let old = c.args.pool.now in
    let row = c.args.row in
    let table = c.args.table in
    let big = le-round4 c.args.bytes in
    let with : DopeRow → DopeRow = λ d. record d { place = c.args.place; count = c.args.bytes / d.stride } in
    record {
      size = c.set.auto.pool ∙ c.clear.auto.pool;
      own = c.set.ensures.row ∙ ap with c.get-found.ensures;
      others = λ q less other. c.set.ensures.others q other ∙ dope_row-kept old c.clear.new.pool table q (λ k low high. c.clear.ensures.outside k (elim c.requires.apart [
        | inl under ↦ inl (omega (arith, under, high, less))
        | inr over ↦ inr (omega (arith, over, low, big))
      ]));
      outside = λ k away beside.
          elim beside [ inl l ↦ c.set.ensures.below k 0 l | inr l ↦ c.set.ensures.above k 0 l ]
          ∙ c.clear.ensures.outside k (elim away [ inl l ↦ inl (omega (arith, l)) | inr l ↦ inr (omega (arith, l, big)) ]);
    }

-- no byte of the list is in the row
beside : (c : goal.After-slice_known-3-1) → (k : ℕ) → k < c.args.bytes → (c.args.place + k < c.args.table + 10 * c.args.row) ⊎ (c.args.table + 10 * c.args.row + 10 ≤ c.args.place + k)
beside c k low = elim c.requires.apart [
  | inl under ↦ inr (omega (arith, under, c.requires.list.within))
  | inr over ↦ inl (omega (arith, over, low, le-round4 c.args.bytes))
]

pub returns-clause-keeps : goal.returns-clause-keeps
returns-clause-keeps c k had low =
    let found : c.byte_count.result ≡ row_bytes (dope_row c.args.pool.now c.args.table c.args.row) = c.byte_count.ensures ∙ ap row_bytes c.get-found.ensures in
    elim (beside c k low) [ inl l ↦ c.set.ensures.below (c.args.place + k) 0 l | inr l ↦ c.set.ensures.above (c.args.place + k) 0 l ]
    ∙ c.clear.ensures.outside (c.args.place + k) (inl (omega (arith, c.min-had.ensures, found, had, low)))

pub returns-clause-zeros : goal.returns-clause-zeros
returns-clause-zeros c k had low =
    let found : c.byte_count.result ≡ row_bytes (dope_row c.args.pool.now c.args.table c.args.row) = c.byte_count.ensures ∙ ap row_bytes c.get-found.ensures in
    elim (beside c k low) [ inl l ↦ c.set.ensures.below (c.args.place + k) 0 l | inr l ↦ c.set.ensures.above (c.args.place + k) 0 l ]
    ∙ c.clear.ensures.zeros (c.args.place + k) (omega (arith, c.min-had.ensures, found, had)) (omega (arith, low))
