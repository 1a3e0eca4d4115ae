-- The entries of shapes, written one after another.
use Rattle.std.specs.Prelude.{ℕ, zero, suc, ◌+◌, ◌^◌, ◌<◌, ◌==◌, if◌then◌else◌, List, [], ◌∷◌, ◌++◌, replicate, take, ⊤}
use Rattle.nxt_types.specs.Arithmetic.{leaf_size}
use Rattle.nxt_types.specs.Shapes.{Shape, Void, Number, Array, Cluster, Mutex, Members, no_members, member, code_of, count}
use Rattle.nxt_types.specs.declared.shape.TocEntry.{TocEntry}
use Rattle.nxt_model.specs.Assembled.{entry, leaf_sizes, leaves_sizes}
use Rattle.nxt_model.specs.TextProgram.{struct_shapes}
use Rattle.nxt_model.specs.declared.nbc.NbcStruct.{NbcStruct}
use Rattle.nxt_asm_parts.specs.Measures.{held, measure_of}
use Rattle.nxt_asm_parts.specs.declared.measure.Measure.{Measure}
use Rattle.nxt_asm_parts.specs.declared.table.NextPlaces.{NextPlaces}
use Rattle.nxt_asm_parts.specs.declared.table.TableSoFar.{TableSoFar}

-- ---- places

-- where the next leaf of n bytes stands
abbrev pub next_place : NextPlaces → ℕ → ℕ
next_place p n = if n == 4 then p.fours else (if n == 2 then p.twos else p.ones)

-- the places behind such a leaf
abbrev pub after : NextPlaces → ℕ → NextPlaces
after p n =
    if n == 4
    then record p { fours = held (p.fours + 4) }
    else (if n == 2 then record p { twos = held (p.twos + 2) } else record p { ones = held (p.ones + 1) })

-- the places behind leaves of these sizes
abbrev pub after_all : NextPlaces → List ℕ → NextPlaces
after_all p [] = p
after_all p (n ∷ ns) = after_all (after p n) ns

-- the places of the first leaves, where all take so much
abbrev pub first_places : Measure → NextPlaces
first_places m = record { fours = 0; twos = m.fours; ones = held (m.fours + m.twos) }

-- ---- entries

-- the entries of a shape whose first leaves stand there; an element has places of its own
abbrev mutual
  pub entries_at : Shape → NextPlaces → List TocEntry
  entries_at Void p = entry 0 0 ∷ []
  entries_at (Number k) p = entry (code_of k) (next_place p (leaf_size k)) ∷ []
  entries_at (Array stride s) p = entry 7 (next_place p 2) ∷ entries_at s (first_places (measure_of s))
  entries_at (Cluster ss) p = entry 8 (count ss) ∷ entries_among ss p
  entries_at Mutex p = entry 9 (next_place p 4) ∷ []

  pub entries_among : Members → NextPlaces → List TocEntry
  entries_among no_members p = []
  entries_among (member s ss) p = entries_at s p ++ entries_among ss (after_all p (leaf_sizes s))

-- those of arrays, each the element of the one before it
abbrev pub array_entries : ℕ → NextPlaces → List TocEntry
array_entries zero p = []
array_entries (suc n) p = entry 7 (next_place p 2) ∷ replicate n (entry 7 0)

-- each entry has a number of 16 bits
abbrev pub EntriesFit : List TocEntry → Type 0
EntriesFit [] = ⊤
EntriesFit (e ∷ es) = (e.desc < 2 ^ 16) × EntriesFit es

-- ---- tables

-- a table with the entries of a shape behind it, and with those of members
abbrev pub with_shape : TableSoFar → Shape → TableSoFar
with_shape t s =
    record { entries = t.entries ++ entries_at s t.next; next = after_all t.next (leaf_sizes s) }

abbrev pub with_members : TableSoFar → Members → TableSoFar
with_members t ss =
    record { entries = t.entries ++ entries_among ss t.next; next = after_all t.next (leaves_sizes ss) }

-- the shapes of the first structs
abbrev pub first_shapes : ℕ → List NbcStruct → List Shape
first_shapes first structs = take first (struct_shapes structs)
