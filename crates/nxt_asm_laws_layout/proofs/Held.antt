-- Values with which variables start: numbers of their kinds, and lists of numbers.
use Rattle.std.proofs.Common.{◌≡◌, ℕ, ◌+◌, pos, List, [], ◌∷◌, ◌++◌, length, refl, sym, ap, ap₂, ◌∙◌, arith, append_assoc, length-append}
use Rattle.std.specs.Int.{to_le_bytes, w16}
use Rattle.nxt_types.specs.Arithmetic.{cut}
use Rattle.nxt_types.specs.Shapes.{Shape, Void, Number, Array, Cluster, Mutex, Members, no_members, member, leaf_bytes, leaves_bytes}
use Rattle.nxt_types.specs.declared.kind.Kind.{Kind}
use Rattle.nxt_types.specs.declared.kind.Kind.TheVariants.{Ubyte, Sbyte, Uword, Sword, Ulong, Slong}
use Rattle.nxt_model.specs.Values.{Value, Num, GroupOf, elements, group_of, items, list_of, number, value, values, zero_of, zeros_of}
use Rattle.nxt_asm_parts.specs.AssembledParts.{Valued, defaults_from, leaves_in, leaves_among, number_bytes}
use Rattle.nxt_asm_parts.specs.Defaults.{array_count}
use Rattle.nxt_asm_rules.proofs.Laws.StartValues.{length-number}
use Rattle.nxt_facts.proofs.Each.{Each}

-- ---- values

-- a number of the kind
abbrev pub IsNumber : Kind → Value → Type 0
IsNumber k v = (v ≡ Num (number v)) × (cut k (number v) ≡ number v)

-- a list of anything else than numbers is empty
abbrev pub AreItems : Shape → List Value → Type 0
AreItems (Number k) vs = Each (IsNumber k) vs
AreItems s vs = vs ≡ []

abbrev mutual
  pub IsHeld : Shape → Value → Type 0
  IsHeld Void v = v ≡ Num (pos 0)
  IsHeld (Number k) v = IsNumber k v
  IsHeld (Array n s) v = (v ≡ list_of (elements v)) × AreItems s (elements v)
  IsHeld (Cluster ss) v = (v ≡ group_of (elements v)) × AreHeld ss (elements v)
  IsHeld Mutex v = v ≡ Num (pos 0)

  pub AreHeld : Members → List Value → Type 0
  AreHeld no_members vs = vs ≡ []
  AreHeld (member s ss) [] = ⊥
  AreHeld (member s ss) (v ∷ vs) = IsHeld s v × AreHeld ss vs

-- ---- zeros

zero_cut : (k : Kind) → cut k (pos 0) ≡ pos 0
zero_cut Ubyte = refl
zero_cut Sbyte = refl
zero_cut Uword = refl
zero_cut Sword = refl
zero_cut Ulong = refl
zero_cut Slong = refl

no_items : (s : Shape) → AreItems s []
no_items Void = refl
no_items (Number k) = tt
no_items (Array n s) = refl
no_items (Cluster ss) = refl
no_items Mutex = refl

all_back : (ss : Members) → zeros_of ss ≡ values (items (zeros_of ss))
all_back no_members = refl
all_back (member s ss) = ap (value (zero_of s)) (all_back ss)

mutual
  pub zero_held : (s : Shape) → IsHeld s (zero_of s)
  zero_held Void = refl
  zero_held (Number k) = (refl, zero_cut k)
  zero_held (Array n s) = (refl, no_items s)
  zero_held (Cluster ss) = (ap GroupOf (all_back ss), zeros_held ss)
  zero_held Mutex = refl

  zeros_held : (ss : Members) → AreHeld ss (items (zeros_of ss))
  zeros_held no_members = refl
  zeros_held (member s ss) = (zero_held s, zeros_held ss)

-- ---- lengths of defaults

pub defaults_append : (row : ℕ) (xs ys : List Valued) → defaults_from row (xs ++ ys) ≡ defaults_from row xs ++ defaults_from (row + array_count xs) ys
defaults_append row [] ys = let same : row ≡ row + 0 = omega arith in ap (λ n. defaults_from n ys) same
defaults_append row ((Void, v) ∷ xs) ys = defaults_append row xs ys
defaults_append row ((Number k, v) ∷ xs) ys =
    ap (λ l. number_bytes (Number k) v ++ l) (defaults_append row xs ys) ∙ sym (append_assoc (number_bytes (Number k) v) (defaults_from row xs) (defaults_from (row + array_count xs) ys))
defaults_append row ((Array n s, v) ∷ xs) ys =
    let next : row + 1 + array_count xs ≡ row + array_count ((Array n s, v) ∷ xs) = omega arith in
    ap (λ l. to_le_bytes w16 row ++ l) (defaults_append (row + 1) xs ys)
    ∙ sym (append_assoc (to_le_bytes w16 row) (defaults_from (row + 1) xs) (defaults_from (row + 1 + array_count xs) ys))
    ∙ ap (λ k. (to_le_bytes w16 row ++ defaults_from (row + 1) xs) ++ defaults_from k ys) next
defaults_append row ((Cluster ss, v) ∷ xs) ys = defaults_append row xs ys
defaults_append row ((Mutex, v) ∷ xs) ys = ap (λ l. 0 ∷ 0 ∷ 0 ∷ 0 ∷ l) (defaults_append row xs ys)

mutual
  pub length-own : (row : ℕ) (s : Shape) (v : Value) → IsHeld s v → length (defaults_from row (leaves_in s v)) ≡ leaf_bytes s
  length-own row Void v h = refl
  length-own row (Number k) v h = let n = length-number k v in omega (arith, n, length-append (number_bytes (Number k) v) [])
  length-own row (Array n s) v h = refl
  length-own row (Cluster ss) v h = length-among row ss (elements v) h.1
  length-own row Mutex v h = refl

  pub length-among : (row : ℕ) (ss : Members) (vs : List Value) → AreHeld ss vs → length (defaults_from row (leaves_among ss vs)) ≡ leaves_bytes ss
  length-among row no_members vs h = refl
  length-among row (member s ss) [] h = absurd h
  length-among row (member s ss) (v ∷ vs) h =
      let next = row + array_count (leaves_in s v) in
      ap length (defaults_append row (leaves_in s v) (leaves_among ss vs))
      ∙ length-append (defaults_from row (leaves_in s v)) (defaults_from next (leaves_among ss vs))
      ∙ ap₂ (λ (a b : ℕ). a + b) (length-own row s v h.0) (length-among next ss vs h.1)
