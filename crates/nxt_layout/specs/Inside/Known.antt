-- What is found in the elements of rows, and kept for the next time.
use Rattle.std.specs.Prelude.{ℕ, Bool, ◌+◌, ◌*◌, ◌<◌, ◌≤◌, ◌≡◌, ◌^◌, ◌==◌, nat_lt, true, List, All, flat_map, length, count_by, slice_index, Some, IfSome}
use Rattle.std.specs.declared.alloc.Global.{Global}
use Rattle.std.specs.declared.cmp.Ordering.{Ordering}
use Rattle.std.specs.declared.rc.RcSlice.{RcSlice}
use Rattle.std.specs.BTreeMap.{get}
use Rattle.std.specs.Cmp.Lexicographic.{slice_cmp}
use Rattle.std.specs.List.{list_any}
use Rattle.std.specs.Ordering.{nat_cmp, ordering_then}
use Rattle.std.specs.Rc.{rc_slice_items}
use Rattle.nxt_layout.specs.declared.known.Found.{Found}
use Rattle.nxt_layout.specs.declared.known.Elements.{Elements}
use Rattle.nxt_layout.specs.declared.known.Known.{Known}
use Rattle.nxt_layout.specs.declared.names.Names.{Names}
use Rattle.nxt_layout.specs.declared.places.Places.{Places}
use Rattle.nxt_layout.specs.declared.places.Walk.{Walk}
use Rattle.nxt_layout.specs.declared.reach.OpenArray.{OpenArray}
use Rattle.nxt_model.specs.Reading.{row_count}
use Rattle.nxt_layout.specs.Rows.{Ground, is_placed, is_beyond, elements_of}
use Rattle.nxt_layout.specs.Inside.RowPasses.{few, names_by, listed, rows_of, numbers_in}

-- the rows lie in the dataspace
abbrev pub ArePlaced : Ground → List ℕ → Type 0
ArePlaced g rows = All (λ r. is_placed g r ≡ true) rows

-- how many elements stand where the test says, where several at a place are two
abbrev pub standing : (ℕ → Bool) → Places → ℕ
standing test p = count_by test p.once.items + 2 * count_by test p.often.items

-- the places of these elements: as many stand where a test says, none, one or many
abbrev pub ArePlacesOf : List ℕ → Places → Type 0
ArePlacesOf bases p = (test : ℕ → Bool) → few (standing test p) ≡ few (count_by test bases)

-- not many rows are read, those lie in the dataspace, and the places are those of their elements
pub record AreElements (g : Ground) (e : Elements) : Type 0 where
  pub few_rows : length (rc_slice_items e.rows) ≤ 2 ^ 17
  pub placed : ArePlaced g (rc_slice_items e.rows)
  pub places : IfSome e.places (ArePlacesOf (flat_map (elements_of g) (rc_slice_items e.rows)))

abbrev pub IsOpen : Ground → OpenArray → Type 0
IsOpen g o = AreElements g o.elements

-- where count tells how many elements stand at a place, the walk knows none, one or many; and steps lead over places that
-- have two
pub record IsWalked (count : ℕ → ℕ) (w : Walk) : Type 0 where
  pub size : length w.steps.items ≡ length w.times.items
  pub counts : (q : ℕ) → q < length w.times.items → slice_index w.times.items q ≡ few (count q)
  pub full : (q k : ℕ) → q < length w.times.items → k < slice_index w.steps.items q → 2 ≤ count (q + k * w.stride)

-- where count tells how many numbers pass a test, the names tell how often each row is among them
pub record IsNamed (g : Ground) (count : (ℕ → Bool) → ℕ) (n : Names) : Type 0 where
  pub size : length n.marks.items ≡ row_count g.memory
  pub marks : (r : ℕ) → r < row_count g.memory → slice_index n.marks.items r ≡ few (count (λ q. q == r))
  pub beyond : n.beyond ≡ nat_lt 0 (count (is_beyond g))

-- the names of so many numbers tell it
pub record IsToldBy (g : Ground) (count : (ℕ → Bool) → ℕ) (lists : ℕ) (f : Found) : Type 0 where
  pub rows : rc_slice_items f.rows ≡ listed (names_by count) (row_count g.memory)
  pub lists_are : f.lists ≡ lists
  pub beyond : f.beyond ≡ nat_lt 0 (count (is_beyond g))
  pub few_rows : row_count g.memory < 2 ^ 16

-- the numbers at a place in the elements that stand at these places tell it
pub record IsFoundIn (g : Ground) (place : ℕ) (bases : List ℕ) (f : Found) : Type 0 where
  pub rows : rc_slice_items f.rows ≡ rows_of g (numbers_in g place bases)
  pub lists : f.lists ≡ length bases
  pub beyond : f.beyond ≡ list_any (is_beyond g) (numbers_in g place bases)
  pub bound : f.lists ≤ 2 ^ 33
  pub few_rows : row_count g.memory < 2 ^ 16

pub record IsSame (a b : Found) : Type 0 where
  pub rows : rc_slice_items b.rows ≡ rc_slice_items a.rows
  pub lists : b.lists ≡ a.lists
  pub beyond : b.beyond ≡ a.beyond

-- a place, and rows
abbrev pub Key : Type 0
Key = ℕ × RcSlice ℕ Global

abbrev pub key_cmp : Key → Key → Ordering
key_cmp x y = ordering_then (nat_cmp x.0 y.0) (slice_cmp nat_cmp (rc_slice_items x.1) (rc_slice_items y.1))

-- what is kept is what the elements of the rows tell
abbrev pub IsKnown : Ground → Known → Type 0
IsKnown g known =
    (k : Key) (f : Found) → get key_cmp known.found k ≡ Some f → IsFoundIn g k.0 (flat_map (elements_of g) (rc_slice_items k.1)) f
