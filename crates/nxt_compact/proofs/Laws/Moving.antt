-- A block that moves, seen by rows.
use Rattle.std.proofs.Common.{◌≡◌, ◌≢◌, ℕ, ◌+◌, ◌*◌, ◌<◌, ◌≤◌, ◌⊎◌, inl, inr, true, false, cond, List, length, slice_index, refl, ap, sym, ◌∙◌, arith}
use Rattle.std.proofs.lemmas.Bool.{cases_eq, eq-eqb, ne_eqb, ltb-true, lt-ltb}
use Rattle.nxt_rows.specs.declared.DopeRow.{DopeRow}
use Rattle.nxt_rows.specs.Rows.{dope_row, row_count}
use Rattle.nxt_blocks.specs.Blocks.{has_bytes}
use Rattle.nxt_compact.specs.Pools.{block_bytes, IsFull, Moves, row_at}
use Rattle.nxt_compact.specs.Steps.{moved_to, IsMovable}
use Rattle.nxt_compact.proofs.Laws.Shifted.{bytes_of_table}

pub moved_here : (p at q : ℕ) → q ≡ p → moved_to p at q ≡ at
moved_here p at q e = ap (λ t. cond t at q) (eq-eqb q p e)

pub moved_there : (p at q : ℕ) → (q ≡ p → ⊥) → moved_to p at q ≡ q
moved_there p at q e = ap (λ t. cond t at q) (ne_eqb q p e)

-- a row that stays where it is
pub row_stays : (to : ℕ → ℕ) (d : DopeRow) → (0 < block_bytes d → to d.place ≡ d.place) → row_at to d ≡ d
row_stays to d h = by (has_bytes (record { place = 0; bytes = block_bytes d })) refl
  where
    by : (t : _) → has_bytes (record { place = 0; bytes = block_bytes d }) ≡ t → record d { place = cond t (to d.place) d.place } ≡ d
    by true e = ap (λ p. record d { place = p }) (h (ltb-true 0 (block_bytes d) e))
    by false e = refl

-- and one that moves
pub row_moves : (to : ℕ → ℕ) (d : DopeRow) → 0 < block_bytes d → row_at to d ≡ record d { place = to d.place }
row_moves to d some = ap (λ t. record d { place = cond t (to d.place) d.place }) (lt-ltb 0 (block_bytes d) some)

-- what `move_list` says
pub record ListMoved (old new : List ℕ) (table row at : ℕ) : Type 0 where
  pub size : length new ≡ length old
  pub own : dope_row new table row ≡ record (dope_row old table row) { place = at }
  pub others : (r : ℕ) → r ≢ row → r < row_count old table → dope_row new table r ≡ dope_row old table r
  pub carried : (k : ℕ) → k < block_bytes (dope_row old table row) → slice_index new (at + k) ≡ slice_index old ((dope_row old table row).place + k)
  pub outside : (k : ℕ) → (k < at) ⊎ (at + block_bytes (dope_row old table row) ≤ k) → (k < table) ⊎ (table + 10 * row_count old table ≤ k) → slice_index new k ≡ slice_index old k

-- a block other than the row's begins elsewhere
elsewhere : (old : List ℕ) (table row at q : ℕ) → IsMovable old table row at → q ≢ row → q < row_count old table → 0 < block_bytes (dope_row old table q) → (dope_row old table q).place ≡ (dope_row old table row).place → ⊥
elsewhere old table row at q m other within some same = elim (m.own q (record { within = within; some = some }) other) [
  | inl over ↦ omega (arith, over, same, m.full.some)
  | inr under ↦ omega (arith, under, same, some)
]

first_full : (old : List ℕ) (table row at : ℕ) → IsMovable old table row at → IsFull old table 0
first_full old table row at m = record {
  within = omega (arith, m.full.within);
  some = omega (arith, bytes_of_table (dope_row old table 0) m.stride, m.full.within);
}

pub list_moves : (old new : List ℕ) (table row at base : ℕ) → IsMovable old table row at → 0 < row → ListMoved old new table row at → base ≤ at → base ≤ table → Moves base (moved_to (dope_row old table row).place at) old new table table
list_moves old new table row at base m above l low less =
    let p = (dope_row old table row).place in
    let to = moved_to p at in
    let zero_full = first_full old table row at m in
    let first_stays = elsewhere old table row at 0 m (λ e. omega (arith, e, above)) zero_full.within zero_full.some in
    record {
      size = l.size;
      told = sym (moved_there p at table (λ e. first_stays (m.place ∙ e)));
      rows = λ r within. elim (cases_eq r row) [
        | inl same ↦
            ap (dope_row new table) same ∙ l.own
            ∙ ap (λ q. record (dope_row old table row) { place = q }) (sym (moved_here p at p refl))
            ∙ sym (row_moves to (dope_row old table row) m.full.some)
            ∙ ap (λ q. row_at to (dope_row old table q)) (sym same)
        | inr other ↦ l.others r other within ∙ sym (row_stays to (dope_row old table r) (λ some. moved_there p at (dope_row old table r).place (elsewhere old table row at r m other within some)))
      ];
      bytes = λ r k some within less. elim (cases_eq r row) [
        | inl same ↦
            let here : to (dope_row old table r).place ≡ at = moved_here p at (dope_row old table r).place (ap (λ q. (dope_row old table q).place) same) in
            let small : k < block_bytes (dope_row old table row) = rw (← same) less in
            ap (λ q. slice_index new (q + k)) here ∙ l.carried k small ∙ ap (λ q. slice_index old ((dope_row old table q).place + k)) (sym same)
        | inr other ↦
            let full : IsFull old table r = record { within = within; some = omega (arith, less) } in
            let there = moved_there p at (dope_row old table r).place (elsewhere old table row at r m other within full.some) in
            let rows = bytes_of_table (dope_row old table 0) m.stride in
            ap (λ q. slice_index new (q + k)) there
            ∙ l.outside ((dope_row old table r).place + k)
            (elim (m.others r full other) [ inl over ↦ inr (omega (arith, over)) | inr under ↦ inl (omega (arith, under, less)) ])
            (elim (m.lists r full some) [ inl over ↦ inr (omega (arith, over, rows)) | inr under ↦ inl (omega (arith, under, less)) ])
      ];
      below = λ k h. l.outside k (inl (omega (arith, h, low))) (inl (omega (arith, h, less)));
    }

-- what `move_table` says
pub record TableMoved (old new : List ℕ) (table at : ℕ) : Type 0 where
  pub size : length new ≡ length old
  pub first : dope_row new at 0 ≡ record (dope_row old table 0) { place = at }
  pub others : (r : ℕ) → 0 < r → r < row_count old table → dope_row new at r ≡ dope_row old table r
  pub outside : (k : ℕ) → (k < at) ⊎ (at + block_bytes (dope_row old table 0) ≤ k) → slice_index new k ≡ slice_index old k

pub table_moves : (old new : List ℕ) (table at base : ℕ) → IsMovable old table 0 at → TableMoved old new table at → base ≤ at → Moves base (moved_to (dope_row old table 0).place at) old new table at
table_moves old new table at base m l low =
    let p = (dope_row old table 0).place in
    let to = moved_to p at in
    record {
      size = l.size;
      told = sym (moved_here p at table (sym m.place));
      rows = λ r within. elim (cases_eq r 0) [
        | inl same ↦
            ap (dope_row new at) same ∙ l.first
            ∙ ap (λ q. record (dope_row old table 0) { place = q }) (sym (moved_here p at p refl))
            ∙ sym (row_moves to (dope_row old table 0) m.full.some)
            ∙ ap (λ q. row_at to (dope_row old table q)) (sym same)
        | inr other ↦ l.others r (omega (arith, other)) within ∙ sym (row_stays to (dope_row old table r) (λ some. moved_there p at (dope_row old table r).place (elsewhere old table 0 at r m other within some)))
      ];
      bytes = λ r k some within less.
          let full : IsFull old table r = record { within = within; some = omega (arith, less) } in
          let other : r ≢ 0 = λ e. omega (arith, e, some) in
          ap (λ q. slice_index new (q + k)) (moved_there p at (dope_row old table r).place (elsewhere old table 0 at r m other within full.some))
          ∙ l.outside ((dope_row old table r).place + k) (elim (m.others r full other) [ inl over ↦ inr (omega (arith, over)) | inr under ↦ inl (omega (arith, under, less)) ]);
      below = λ k h. l.outside k (inl (omega (arith, h, low)));
    }
