-- Values as bytes, and a number that is told beside a value.
use Rattle.std.specs.Prelude.{◌≡◌, ◌<◌, ◌≤◌, ℕ, List, [], ◌++◌, length, drop, take, ℤ, Option, Some, None, MatchOption}
use Rattle.std.proofs.Common.{Bor}
use Rattle.std.specs.Int.{from_le_bytes}
use Rattle.nxt_types.specs.Arithmetic.{leaf_size, width_of}
use Rattle.nxt_types.specs.declared.kind.Kind.{Kind}
use Rattle.nxt_types.specs.Shapes.{Shape, Void, Number, Array, Cluster, Mutex, Members, no_members, member}
use Rattle.nxt_model.specs.Means.Text.{packed, packed_size, packed_sizes, unpacked, unpacked_members}
use Rattle.nxt_model.specs.Values.{Value, Num, flat, flats}
use Rattle.nxt_values.specs.Fills.{first_of}
use Rattle.nxt_space.specs.Variables.{Variables}
use Rattle.nxt_texts.specs.Numerals.{with_number}

-- the bytes of the value without lists whose flat form the numbers begin with, and the numbers behind it
abbrev mutual
  pub packed_front : Shape → List ℤ → List ℕ × List ℤ
  packed_front Void zs = ([], drop 1 zs)
  packed_front (Number k) zs = (packed (Number k) (Num (first_of zs)), drop 1 zs)
  packed_front (Array stride s) zs = ([], drop 1 zs)
  packed_front (Cluster ss) zs = packed_fronts ss zs
  packed_front Mutex zs = ([], drop 1 zs)

  pub packed_fronts : Members → List ℤ → List ℕ × List ℤ
  packed_fronts no_members zs = ([], zs)
  packed_fronts (member s ss) zs =
      let one = packed_front s zs in let rest = packed_fronts ss one.1 in (one.0 ++ rest.0, rest.1)

-- the flat form of the value that the bytes begin with was added, and these bytes are behind it; or there are too few
abbrev pub Unpacks : Shape → List ℕ → List ℤ → List ℤ → Option (Bor (List ℕ)) → Type 0
Unpacks s bytes old new None = length bytes < packed_size s
Unpacks s bytes old new (Some rest) =
    (packed_size s ≤ length bytes) × (rest.now ≡ drop (packed_size s) bytes) × (new ≡ old ++ flat (unpacked s bytes))

abbrev pub UnpackAll : Members → List ℕ → List ℤ → List ℤ → Option (Bor (List ℕ)) → Type 0
UnpackAll ss bytes old new None = length bytes < packed_sizes ss
UnpackAll ss bytes old new (Some rest) =
    (packed_sizes ss ≤ length bytes) × (rest.now ≡ drop (packed_sizes ss) bytes) × (new ≡ old ++ flats (unpacked_members ss bytes))

-- the values with a number for an operand, which may be left out
abbrev pub told_in : Variables → ℕ → ℤ → Value → Value
told_in s i z vars = (with_number (record s { values = vars }) i z).values

-- the flat form of the value of the shape that the bytes begin with; none where there are too few
abbrev pub IsUnpacked : Shape → List ℕ → Option (List ℤ) → Type 0
IsUnpacked s bytes found =
    MatchOption found (length bytes < packed_size s) (λ zs. (packed_size s ≤ length bytes) × (zs ≡ flat (unpacked s bytes)))

-- the word of the number of a kind that the bytes begin with; none where there are too few
abbrev pub IsWordFound : Kind → List ℕ → Option ℕ → Type 0
IsWordFound k bytes found =
    MatchOption found (length bytes < leaf_size k) (λ w. (leaf_size k ≤ length bytes) × (w ≡ from_le_bytes (width_of k) (take (leaf_size k) bytes)))
