-- Shapes whose leaves stand at places of 16 bits.
use Rattle.std.specs.Prelude.{◌≤◌, ⊤}
use Rattle.nxt_types.specs.Shapes.{Shape, Void, Number, Array, Cluster, Mutex, Members, no_members, member, leaf_bytes}

-- the leaves of each element take at most 65535 bytes
abbrev mutual
  pub IsNarrow : Shape → Type 0
  IsNarrow Void = ⊤
  IsNarrow (Number k) = ⊤
  IsNarrow (Array stride s) = (leaf_bytes s ≤ 65535) × IsNarrow s
  IsNarrow (Cluster ss) = AreNarrow ss
  IsNarrow Mutex = ⊤

  pub AreNarrow : Members → Type 0
  AreNarrow no_members = ⊤
  AreNarrow (member s ss) = IsNarrow s × AreNarrow ss
