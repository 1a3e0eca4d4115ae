-- A statement that writes to an entry and then changes no row of the table.
use Rattle.std.proofs.Common.{◌≡◌, ℕ, ◌≤◌, inl, inr, true, [], ◌∷◌, length, ap, subst}
use Rattle.nxt_types.specs.Shapes.{is_numbers}
use Rattle.nxt_model.specs.Values.{elements}
use Rattle.nxt_space.specs.Keeping.{TableStays, GetsNoLonger, Leaves}
use Rattle.nxt_space.specs.Variables.{SpaceViews, shape_of, value_of}
use Rattle.nxt_space.proofs.Laws.Keeping.{table_then, table_blocks, blocks_then}

-- what got no longer had got no longer before
before : (old mid new : SpaceViews) (i : ℕ) → (is_numbers (shape_of old.vars i) ≡ true → length (elements (value_of new.vars i)) ≡ length (elements (value_of mid.vars i))) → GetsNoLonger old.vars new.vars i → GetsNoLonger old.vars mid.vars i
before old mid new i same (inl none) = inl none
before old mid new i same (inr less) = inr (less.0, subst (λ n. n ≤ length (elements (value_of old.vars i))) (same less.0) less.1)

-- a list of numbers has as many elements after it
pub then_table : (old mid new : SpaceViews) (dest : ℕ) → Leaves (dest ∷ []) old mid → TableStays mid new → (is_numbers (shape_of old.vars dest) ≡ true → length (elements (value_of new.vars dest)) ≡ length (elements (value_of mid.vars dest))) → Leaves (dest ∷ []) old new
then_table old mid new dest left stays same = record {
  table = λ e. table_then old mid new (left.table e) stays;
  blocks = λ e. blocks_then old mid new (left.blocks (before old mid new dest same e.0, tt)) (table_blocks mid new stays);
}

-- a list of numbers is as it was before
pub then_number : (old mid new : SpaceViews) (dest : ℕ) → Leaves (dest ∷ []) old mid → TableStays mid new → (is_numbers (shape_of old.vars dest) ≡ true → value_of new.vars dest ≡ value_of mid.vars dest) → Leaves (dest ∷ []) old new
then_number old mid new dest left stays same = then_table old mid new dest left stays (λ numbers. ap (λ v. length (elements v)) (same numbers))
