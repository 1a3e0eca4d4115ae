-- Shapes of variables that the rules of texts allow.
use Rattle.std.proofs.Common.{◌≡◌, ℕ, ◌+◌, ◌<◌, ◌≤◌, true, false, ◌&&◌, nat_lt, List, [], ◌∷◌, refl, ap, ◌∙◌, arith, lt-ltb}
use Rattle.std.specs.Prelude.{⊤}
use Rattle.std.proofs.lemmas.Bool.{and_from}
use Rattle.nxt_types.specs.Shapes.{Shape, Void, Number, Array, Cluster, Mutex, Members, no_members, member, bare, bares, count, leaf_bytes, is_filled, are_filled}
use Rattle.nxt_types.specs.Names.{size}
use Rattle.nxt_model.specs.Nbc.Types.{depth_of, depth_among}
use Rattle.nxt_table.specs.Leaves.{Site, sites_in, sites_among, is_void, is_mutex}
use Rattle.nxt_facts.proofs.Each.{Each, each_join, each_then}

-- ---- parts

-- numbers, packed arrays and structs with members
abbrev mutual
  pub IsPart : Shape → Type 0
  IsPart Void = ⊥
  IsPart (Number k) = ⊤
  IsPart (Array n s) = (n ≡ leaf_bytes s) × IsPart s
  IsPart (Cluster ss) = (0 < count ss) × AreParts ss
  IsPart Mutex = ⊥

  pub AreParts : Members → Type 0
  AreParts no_members = ⊤
  AreParts (member s ss) = IsPart s × AreParts ss

-- a mutex, or a part that isn't too deep
abbrev pub IsVariable : Shape → Type 0
IsVariable Mutex = ⊤
IsVariable s = IsPart s × (depth_of s ≤ 8)

abbrev pub AreVariables : Members → Type 0
AreVariables no_members = ⊤
AreVariables (member s ss) = IsVariable s × AreVariables ss

-- ---- clusters are filled

pub count-bares : (ss : Members) → count (bares ss) ≡ count ss
count-bares no_members = refl
count-bares (member s ss) = ap (λ n. n + 1) (count-bares ss)

mutual
  pub part_filled : (s : Shape) → IsPart s → is_filled (bare s) ≡ true
  part_filled Void h = absurd h
  part_filled (Number k) h = refl
  part_filled (Array n s) h = part_filled s h.1
  part_filled (Cluster ss) h =
      and_from (nat_lt 0 (count (bares ss))) (are_filled (bares ss)) (ap (nat_lt 0) (count-bares ss) ∙ lt-ltb 0 (count ss) h.0) (parts_filled ss h.1)
  part_filled Mutex h = absurd h

  parts_filled : (ss : Members) → AreParts ss → are_filled (bares ss) ≡ true
  parts_filled no_members h = refl
  parts_filled (member s ss) h = and_from (is_filled (bare s)) (are_filled (bares ss)) (part_filled s h.0) (parts_filled ss h.1)

pub variable_filled : (s : Shape) → IsVariable s → is_filled (bare s) ≡ true
variable_filled Mutex h = refl
variable_filled Void h = absurd h.0
variable_filled (Number k) h = refl
variable_filled (Array n s) h = part_filled (Array n s) h.0
variable_filled (Cluster ss) h = part_filled (Cluster ss) h.0

pub variables_filled : (ss : Members) → AreVariables ss → are_filled (bares ss) ≡ true
variables_filled no_members h = refl
variables_filled (member s ss) h = and_from (is_filled (bare s)) (are_filled (bares ss)) (variable_filled s h.0) (variables_filled ss h.1)

-- ---- what stands in variables

record IsInner (m : ℕ) (t : Site) : Type 0 where
  deep : t.depth ≤ m
  void : is_void t.shape ≡ false
  mutex : is_mutex t.shape ≡ false

mutual
  part_sites : (m : ℕ) (s : Shape) (i d : ℕ) (arrays : List ℕ) → IsPart s → d + depth_of s ≤ m → Each (IsInner m) (sites_in (bare s) i d arrays)
  part_sites m Void i d arrays h few = absurd h
  part_sites m (Number k) i d arrays h few = (record { deep = omega arith; void = refl; mutex = refl }, tt)
  part_sites m (Array n s) i d arrays h few =
      (record { deep = omega arith; void = refl; mutex = refl }, part_sites m s (i + 1) (d + 1) (i ∷ arrays) h.1 (omega arith))
  part_sites m (Cluster ss) i d arrays h few =
      (record { deep = omega arith; void = refl; mutex = refl }, parts_sites m ss (i + 1) (d + 1) arrays h.1 (omega arith))
  part_sites m Mutex i d arrays h few = absurd h

  parts_sites : (m : ℕ) (ss : Members) (i d : ℕ) (arrays : List ℕ) → AreParts ss → d + depth_among ss ≤ m → Each (IsInner m) (sites_among (bares ss) i d arrays)
  parts_sites m no_members i d arrays h few = tt
  parts_sites m (member s ss) i d arrays h few =
      each_join (IsInner m) (sites_in (bare s) i d arrays) (sites_among (bares ss) (i + size (bare s)) d arrays)
      (part_sites m s i d arrays h.0 (omega arith)) (parts_sites m ss (i + size (bare s)) d arrays h.1 (omega arith))

-- at most 8 arrays and clusters enclose it, and no void or mutex stands in one
pub record IsFine (t : Site) : Type 0 where
  pub deep : t.depth ≤ 8
  pub void : (is_void t.shape && nat_lt 0 t.depth) ≡ false
  pub mutex : (is_mutex t.shape && nat_lt 0 t.depth) ≡ false

fine : (t : Site) → IsInner 8 t → IsFine t
fine t h = record {
  deep = h.deep;
  void = ap (λ b. b && nat_lt 0 t.depth) h.void;
  mutex = ap (λ b. b && nat_lt 0 t.depth) h.mutex;
}

by_part : (s : Shape) (i : ℕ) → IsPart s → depth_of s ≤ 8 → Each IsFine (sites_in (bare s) i 0 [])
by_part s i h few = each_then (IsInner 8) IsFine fine (sites_in (bare s) i 0 []) (part_sites 8 s i 0 [] h (omega arith))

pub variable_sites : (s : Shape) (i : ℕ) → IsVariable s → Each IsFine (sites_in (bare s) i 0 [])
variable_sites Mutex i h = (record { deep = omega arith; void = refl; mutex = refl }, tt)
variable_sites Void i h = absurd h.0
variable_sites (Number k) i h = by_part (Number k) i h.0 h.1
variable_sites (Array n s) i h = by_part (Array n s) i h.0 h.1
variable_sites (Cluster ss) i h = by_part (Cluster ss) i h.0 h.1

pub variables_sites : (ss : Members) (i : ℕ) → AreVariables ss → Each IsFine (sites_among (bares ss) i 0 [])
variables_sites no_members i h = tt
variables_sites (member s ss) i h =
    each_join IsFine (sites_in (bare s) i 0 []) (sites_among (bares ss) (i + size (bare s)) 0 [])
    (variable_sites s i h.0) (variables_sites ss (i + size (bare s)) h.1)
