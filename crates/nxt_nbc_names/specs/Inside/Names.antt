-- How names are kept by their positions.
use Rattle.std.specs.Prelude.{◌≡◌, ℕ, Bool, List, bytes_eq, position}
use Rattle.std.specs.Borrow.{Bor}
use Rattle.indexmap.specs.IndexMap.{IndexMap, get}

abbrev pub same_name : Bor (List ℕ) → Bor (List ℕ) → Bool
same_name a b = bytes_eq a.now b.now

-- each name with the position of its first declaration
abbrev pub ArePlaced : {S : Type 0} → List (List ℕ) → IndexMap (Bor (List ℕ)) ℕ S → Type 0
ArePlaced names firsts = (name : Bor (List ℕ)) → get same_name firsts name ≡ position (λ n. bytes_eq n name.now) names
