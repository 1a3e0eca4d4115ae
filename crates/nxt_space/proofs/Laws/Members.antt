-- What an entry names among members: a part of the first, or of those behind it.
use Rattle.std.proofs.Common.{◌≡◌, ℕ, ◌+◌, ◌-◌, ◌≤◌, ◌⊎◌, inl, inr, Bool, true, false, Option, Some, None, option_map, refl}
use Rattle.std.specs.Prelude.{nat_lt, if◌then◌else◌}
use Rattle.std.proofs.lemmas.Bool.{ltb-false}
use Rattle.nxt_types.specs.Shapes.{Shape, Members, member}
use Rattle.nxt_types.specs.Names.{Name, below, size, name_in, name_among}

-- ---- names

-- what entry i of these members names stands in the first, which is member k of their group
pub record IsInFirst (s : Shape) (k i : ℕ) (n : Name) : Type 0 where
  pub inner : Name
  pub names : name_in s i ≡ Some inner
  pub same : below k inner ≡ n

-- or in one behind the first
pub record IsBehind (s : Shape) (ss : Members) (k i : ℕ) (n : Name) : Type 0 where
  pub past : size s ≤ i
  pub names : name_among ss (k + 1) (i - size s) ≡ Some n

first_name : (s : Shape) (k i : ℕ) (n : Name) (o : Option Name) → name_in s i ≡ o → option_map (below k) o ≡ Some n → IsInFirst s k i n
first_name s k i n None is e = let f : ⊥ = cc in absurd f
first_name s k i n (Some inner) is e = record { inner = inner; names = is; same = cc }

either_name : (s : Shape) (ss : Members) (k i : ℕ) (n : Name) (b : Bool) → nat_lt i (size s) ≡ b → (if b then option_map (below k) (name_in s i) else name_among ss (k + 1) (i - size s)) ≡ Some n → IsInFirst s k i n ⊎ IsBehind s ss k i n
either_name s ss k i n true is e = inl (first_name s k i n (name_in s i) refl e)
either_name s ss k i n false is e = inr (record { past = ltb-false i (size s) is; names = e })

pub first_or_behind : (s : Shape) (ss : Members) (k i : ℕ) (n : Name) → name_among (member s ss) k i ≡ Some n → IsInFirst s k i n ⊎ IsBehind s ss k i n
first_or_behind s ss k i n e = either_name s ss k i n (nat_lt i (size s)) refl e
