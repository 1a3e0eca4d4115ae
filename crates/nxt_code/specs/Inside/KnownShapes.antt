-- What is found of the shapes that words name, and kept for the next time.
use Rattle.std.specs.Prelude.{◌≡◌, ℕ, Bool, Some}
use Rattle.std.specs.declared.alloc.Global.{Global}
use Rattle.std.specs.declared.cmp.Ordering.{Ordering}
use Rattle.std.specs.declared.collections.BTreeMap.{BTreeMap}
use Rattle.std.specs.BTreeMap.{get}
use Rattle.std.specs.Ordering.{nat_cmp, ordering_then}
use Rattle.nxt_types.specs.Shapes.{Shape, Members, convertible, has_list}
use Rattle.nxt_types.specs.Names.{named}
use Rattle.nxt_types.specs.OperandRules.{sort_of_name, shape_of, element_of}
use Rattle.nxt_code.specs.declared.known.Known.{Known}

-- the shape that the word names; the void where it names nothing
abbrev pub shape_by : Members → ℕ → Shape
shape_by ss w = shape_of (sort_of_name (named ss w))

abbrev pub pair_cmp : ℕ × ℕ → ℕ × ℕ → Ordering
pair_cmp x y = ordering_then (nat_cmp x.0 y.0) (nat_cmp x.1 y.1)

-- each entry is the answer at its key
abbrev pub AreAnswers : {K : Type 0} → (K → K → Ordering) → (K → Bool) → BTreeMap K Bool Global → Type 0
AreAnswers {K} cmp answer m = (k : K) (b : Bool) → get cmp m k ≡ Some b → b ≡ answer k

-- what is kept is right, among these variables
pub record IsKnown (ss : Members) (k : Known) : Type 0 where
  pub wholes : AreAnswers pair_cmp (λ p. convertible (shape_by ss p.0) (shape_by ss p.1)) k.wholes
  pub elements : AreAnswers pair_cmp (λ p. convertible (element_of (shape_by ss p.0)) (shape_by ss p.1)) k.elements
  pub taken : AreAnswers pair_cmp (λ p. convertible (shape_by ss p.0) (element_of (shape_by ss p.1))) k.taken
  pub lists : AreAnswers nat_cmp (λ w. has_list (shape_by ss w)) k.lists
