-- Where the table and the lists of a state stand, and which of these layouts keep the laws of a mark.
use Rattle.std.specs.Prelude.{◌≡◌, ℕ, ◌+◌, ◌-◌, ◌≤◌, min, Bool, true, ◌&&◌, if◌then◌else◌, ◌==◌, List, [], ◌∷◌, map, filter, Option, Some, None}
use Rattle.std.specs.Bool.{OnTrue}
use Rattle.nxt_types.specs.Pool.{pool_size}
use Rattle.nxt_model.specs.Reading.{Block}
use Rattle.nxt_model.specs.Dump.{Mark, AllStand}
use Rattle.nxt_blocks.specs.Blocks.{has_bytes, unsettled, at_place, place_after}
use Rattle.nxt_blocks.specs.Standing.{Stand}

-- the table, and the lists in reading order; an empty list has no bytes, and its place is no matter
pub record Layout : Type 0 where
  pub table : Block
  pub lists : List Block

abbrev pub all_of : Layout → List Block
all_of l = l.table ∷ l.lists

abbrev pub blocks_of : Layout → List Block
blocks_of l = filter has_bytes (all_of l)

abbrev pub place_of : Block → Option ℕ
place_of b = if b.bytes == 0 then None else Some b.place

abbrev pub places_in : Layout → List (Option ℕ)
places_in l = map place_of l.lists

abbrev pub lengths_of : Layout → List ℕ
lengths_of l = map (λ b. b.bytes) (all_of l)

-- the layout may be that of the next dump
pub record Obeys (base : ℕ) (k : Mark) (l : Layout) : Type 0 where
  pub falls : OnTrue k.quiet (unsettled base (blocks_of l) ≡ k.unsettled - min k.unsettled k.settled)
  pub stands : OnTrue (k.standing && k.settled == 0) (AllStand k.places (places_in l))

-- a layout with these lengths, of which the first is the table's, that may be that of the next dump
pub record Lawful (base : ℕ) (lengths : List ℕ) (k : Mark) : Type 0 where
  pub layout : Layout
  pub lengths_are : lengths_of layout ≡ lengths
  pub stand : Stand base pool_size (blocks_of layout)
  pub obeys : Obeys base k layout

-- ---- what comes next

-- so many blocks settle
abbrev pub settled_layout : ℕ → ℕ → Layout → Layout
settled_layout k base l =
    let move : Block → Block = λ b. at_place (place_after k base (blocks_of l) b.place) b in
    record { table = move l.table; lists = map move l.lists }

-- so many blocks more had leave to settle, and the two words may be taken away
abbrev pub later_mark : ℕ → Bool → Bool → Mark → Mark
later_mark n quiet standing k =
    record {
      unsettled = k.unsettled;
      places = k.places;
      settled = k.settled + n;
      quiet = k.quiet && quiet;
      standing = k.standing && standing;
    }

-- as many, and none is greater
abbrev pub AtMost : List ℕ → List ℕ → Type 0
AtMost [] [] = Unit {0}
AtMost (m ∷ ms) (n ∷ ns) = (n ≤ m) × AtMost ms ns
AtMost _ _ = ⊥

-- what a bytecode does to the lengths: they stay at a quiet one, and none grows at one that leaves lists standing
pub record Changes (old new : List ℕ) (quiet standing : Bool) : Type 0 where
  pub same : quiet ≡ true → new ≡ old
  pub less : standing ≡ true → AtMost old new

-- blocks of these lengths one behind another
abbrev pub dense : ℕ → List ℕ → List Block
dense base [] = []
dense base (n ∷ ns) = record { place = base; bytes = n } ∷ dense (base + n) ns
