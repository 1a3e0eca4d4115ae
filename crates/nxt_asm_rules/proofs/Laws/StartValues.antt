-- The starting values of shapes: their lists and their leaves.
use Rattle.std.proofs.Common.{◌≡◌, ℕ, zero, suc, ◌+◌, ◌*◌, ◌≤◌, ℤ, pos, List, [], ◌∷◌, ◌++◌, map, flat_map, length, sum_by, refl, sym, ap, subst, ◌∙◌, length-append, suc-mul, mul-suc, arith}
use Rattle.std.proofs.lemmas.List.Sums.{sum_by-append, sum_by-cons}
use Rattle.nxt_types.specs.Arithmetic.{leaf_size}
use Rattle.nxt_types.specs.Pool.{round4}
use Rattle.nxt_types.specs.Shapes.{Shape, Void, Number, Array, Cluster, Mutex, Members, no_members, member, leaf_bytes, leaves_bytes}
use Rattle.nxt_types.specs.declared.kind.Kind.{Kind}
use Rattle.nxt_types.specs.declared.kind.Kind.TheVariants.{Ubyte}
use Rattle.nxt_types.proofs.Laws.Pool.{le-round4}
use Rattle.nxt_model.specs.Means.Text.{ended}
use Rattle.nxt_model.specs.Values.{Value, Num, ListOf, no_more, elements, items, list_of, lists_among, lists_in, values, zero_of, zeros_of}
use Rattle.nxt_model.specs.Footprint.{list_bytes, member_bytes}
use Rattle.nxt_model.specs.Assembled.{arrays_among, arrays_in}
use Rattle.nxt_model.specs.TextProgram.{arrays_of, base_shape, shape_by, starts_as, text_shape, text_value}
use Rattle.nxt_model.specs.declared.nbc.NbcBase.{NbcBase}
use Rattle.nxt_model.specs.declared.nbc.NbcBase.TheVariants as bases
use Rattle.nxt_model.specs.declared.nbc.NbcStart.{NbcStart}
use Rattle.nxt_model.specs.declared.nbc.NbcStart.TheVariants as starts
use Rattle.nxt_model.specs.declared.nbc.NbcType.{NbcType}
use Rattle.nxt_asm_parts.specs.AssembledParts.{Valued, leaves_among, leaves_in, list_bytes_of, number_bytes}
use Rattle.nxt_asm_parts.specs.Defaults.{IsNumbers, StartFits}
use Rattle.nxt_asm_rules.specs.StartBytes.{bytes_of_start}

-- ---- leaves

-- the bytes of a leaf
abbrev pub default_size : Valued → ℕ
default_size (Number k, v) = leaf_size k
default_size (Array n s, v) = 2
default_size (Mutex, v) = 4
default_size _ = 0

-- the bytes of its list, and the elements of the list
abbrev pub list_size : Valued → ℕ
list_size (Array n s, v) = length (list_bytes_of (Array n s, v))
list_size _ = 0

abbrev pub item_count : Valued → ℕ
item_count (Array n s, v) = length (elements v)
item_count _ = 0

-- a value of a shape has the shape's lists and leaves, and its lists fit in the pool's bytes
pub record IsStart (s : Shape) (v : Value) : Type 0 where
  pub lists : lists_in v ≡ arrays_in s
  pub static : sum_by default_size (leaves_in s v) ≡ leaf_bytes s
  pub written : sum_by list_size (leaves_in s v) ≤ list_bytes s v
  pub counted : sum_by item_count (leaves_in s v) ≤ list_bytes s v

-- ---- zeros

mutual
  zero_lists : (s : Shape) → lists_in (zero_of s) ≡ arrays_in s
  zero_lists Void = refl
  zero_lists (Number k) = refl
  zero_lists (Array n s) = refl
  zero_lists (Cluster ss) = zeros_lists ss
  zero_lists Mutex = refl

  zeros_lists : (ss : Members) → lists_among (zeros_of ss) ≡ arrays_among ss
  zeros_lists no_members = refl
  zeros_lists (member s ss) = omega (arith, zero_lists s, zeros_lists ss)

empty_list : (n : ℕ) → round4 (0 * n) + 0 ≡ 0
empty_list n = omega arith

mutual
  pub zero_bytes : (s : Shape) → list_bytes s (zero_of s) ≡ 0
  zero_bytes Void = refl
  zero_bytes (Number k) = refl
  zero_bytes (Array n s) = empty_list n
  zero_bytes (Cluster ss) = zeros_bytes ss
  zero_bytes Mutex = refl

  zeros_bytes : (ss : Members) → member_bytes ss (items (zeros_of ss)) ≡ 0
  zeros_bytes no_members = refl
  zeros_bytes (member s ss) = omega (arith, zero_bytes s, zeros_bytes ss)

one_leaf : (f : Valued → ℕ) (l : Valued) → sum_by f (l ∷ []) ≡ f l
one_leaf f l = sum_by-cons f l [] ∙ by (f l)
  where
    by : (n : ℕ) → n + 0 ≡ n
    by n = omega arith

mutual
  zero_static : (s : Shape) → sum_by default_size (leaves_in s (zero_of s)) ≡ leaf_bytes s
  zero_static Void = refl
  zero_static (Number k) = one_leaf default_size (Number k, zero_of (Number k))
  zero_static (Array n s) = refl
  zero_static (Cluster ss) = zeros_static ss
  zero_static Mutex = refl

  zeros_static : (ss : Members) → sum_by default_size (leaves_among ss (items (zeros_of ss))) ≡ leaves_bytes ss
  zeros_static no_members = refl
  zeros_static (member s ss) =
      let both = sum_by-append default_size (leaves_in s (zero_of s)) (leaves_among ss (items (zeros_of ss))) in
      omega (arith, both, zero_static s, zeros_static ss)

-- what no number and no empty list has
record IsNone (f : Valued → ℕ) : Type 0 where
  number : (k : Kind) (v : Value) → f (Number k, v) ≡ 0
  array : (n : ℕ) (s : Shape) → f (Array n s, ListOf no_more) ≡ 0
  mutex : (v : Value) → f (Mutex, v) ≡ 0

mutual
  zero_sum : (f : Valued → ℕ) → IsNone f → (s : Shape) → sum_by f (leaves_in s (zero_of s)) ≡ 0
  zero_sum f none Void = refl
  zero_sum f none (Number k) = one_leaf f (Number k, zero_of (Number k)) ∙ none.number k (zero_of (Number k))
  zero_sum f none (Array n s) = one_leaf f (Array n s, ListOf no_more) ∙ none.array n s
  zero_sum f none (Cluster ss) = zeros_sum f none ss
  zero_sum f none Mutex = one_leaf f (Mutex, zero_of Mutex) ∙ none.mutex (zero_of Mutex)

  zeros_sum : (f : Valued → ℕ) → IsNone f → (ss : Members) → sum_by f (leaves_among ss (items (zeros_of ss))) ≡ 0
  zeros_sum f none no_members = refl
  zeros_sum f none (member s ss) =
      let both = sum_by-append f (leaves_in s (zero_of s)) (leaves_among ss (items (zeros_of ss))) in
      omega (arith, both, zero_sum f none s, zeros_sum f none ss)

pub zero_start : (s : Shape) → IsStart s (zero_of s)
zero_start s = record {
  lists = zero_lists s;
  static = zero_static s;
  written = let none = zero_sum list_size (record { number = λ k v. refl; array = λ n t. refl; mutex = λ v. refl }) s in omega (arith, none);
  counted = let none = zero_sum item_count (record { number = λ k v. refl; array = λ n t. refl; mutex = λ v. refl }) s in omega (arith, none);
}

-- ---- numbers

pub number_start : (k : Kind) (z : ℤ) → IsStart (Number k) (Num z)
number_start k z = record { lists = refl; static = zero_static (Number k); written = omega arith; counted = omega arith }

pub length-number : (k : Kind) (v : Value) → length (number_bytes (Number k) v) ≡ leaf_size k
length-number Ubyte v = refl
length-number _ v = refl

some_bytes : (k : Kind) → 1 ≤ leaf_size k
some_bytes Ubyte = omega arith
some_bytes _ = omega arith

product_more : (a b c n m : ℕ) → a ≡ b + c → b ≡ m → c ≡ n * m → a ≡ suc n * m
product_more a b c n m e f g = omega (arith, e, f, g, suc-mul n m)

length-numbers : (k : Kind) (vs : List Value) → length (flat_map (number_bytes (Number k)) vs) ≡ length vs * leaf_size k
length-numbers k [] = none (leaf_size k)
  where
    none : (n : ℕ) → 0 ≡ 0 * n
    none n = omega arith
length-numbers k (v ∷ vs) =
    let one = number_bytes (Number k) v in
    let rest = flat_map (number_bytes (Number k)) vs in
    product_more (length (one ++ rest)) (length one) (length rest) (length vs) (leaf_size k) (length-append one rest) (length-number k v) (length-numbers k vs)

le-product : (a m : ℕ) → 1 ≤ m → a ≤ a * m
le-product a zero some = absurd (omega arith)
le-product a (suc m) some = omega (arith, mul-suc a m)

-- ---- lists of numbers

no_lists : {X : Type 0} (g : X → ℤ) (xs : List X) → lists_among (values (map (λ x. Num (g x)) xs)) ≡ 0
no_lists g [] = refl
no_lists g (x ∷ xs) = omega (arith, no_lists g xs)

length-items : {X : Type 0} (g : X → ℤ) (xs : List X) → length (items (values (map (λ x. Num (g x)) xs))) ≡ length xs
length-items g [] = refl
length-items g (x ∷ xs) = ap suc (length-items g xs)

no_bytes : (k : Kind) (vs : List Value) → sum_by (list_bytes (Number k)) vs ≡ 0
no_bytes k [] = refl
no_bytes k (v ∷ vs) = sum_by-cons (list_bytes (Number k)) v vs ∙ by (sum_by (list_bytes (Number k)) vs) (no_bytes k vs)
  where
    by : (n : ℕ) → n ≡ 0 → 0 + n ≡ 0
    by n e = omega (arith, e)

list_sized : (k : Kind) (n : ℕ) (v : Value) → list_bytes (Array n (Number k)) v ≡ round4 (length (elements v) * n)
list_sized k n v = by (round4 (length (elements v) * n)) (sum_by (list_bytes (Number k)) (elements v)) (no_bytes k (elements v))
  where
    by : (a b : ℕ) → b ≡ 0 → a + b ≡ a
    by a b e = omega (arith, e)

pub list_start : {X : Type 0} (k : Kind) (g : X → ℤ) (xs : List X) → IsStart (Array (leaf_size k) (Number k)) (list_of (map (λ x. Num (g x)) xs))
list_start k g xs =
    let s : Shape = Array (leaf_size k) (Number k) in
    let v : Value = list_of (map (λ x. Num (g x)) xs) in
    let n : ℕ = length (elements v) in
    let sized = list_sized k (leaf_size k) v in
    let whole = le-round4 (n * leaf_size k) in
    let long = length-numbers k (elements v) in
    record {
      lists = let none = no_lists g xs in omega (arith, none);
      static = refl;
      written = small (sum_by list_size (leaves_in s v)) (n * leaf_size k) (round4 (n * leaf_size k)) (list_bytes s v) (one_leaf list_size (s, v) ∙ long) whole sized;
      counted = few (sum_by item_count (leaves_in s v)) n (n * leaf_size k) (round4 (n * leaf_size k)) (list_bytes s v) (one_leaf item_count (s, v)) (le-product n (leaf_size k) (some_bytes k)) whole sized;
    }
  where
    small : (a b c d : ℕ) → a ≡ b → b ≤ c → d ≡ c → a ≤ d
    small a b c d e f g = omega (arith, e, f, g)

    few : (z a b c d : ℕ) → z ≡ a → a ≤ b → b ≤ c → d ≡ c → z ≤ d
    few z a b c d h e f g = omega (arith, h, e, f, g)

numbers_bytes : {X : Type 0} (k : Kind) (g : X → ℤ) (xs : List X)
    → list_bytes (Array (leaf_size k) (Number k)) (list_of (map (λ x. Num (g x)) xs)) ≡ round4 (length xs * leaf_size k)
numbers_bytes k g xs =
    list_sized k (leaf_size k) (list_of (map (λ x. Num (g x)) xs)) ∙ ap (λ n. round4 (n * leaf_size k)) (length-items g xs)

-- ---- texts

pub text_start : (bytes : List ℕ) → IsStart text_shape (text_value bytes)
text_start bytes = list_start Ubyte pos (ended bytes)

pub text_sized : (bytes : List ℕ) → list_bytes text_shape (text_value bytes) ≡ round4 (length bytes + 1)
text_sized bytes =
    numbers_bytes Ubyte pos (ended bytes) ∙ ap round4 (by (length (ended bytes)) (length bytes) (length-append bytes (0 ∷ [])))
  where
    by : (a b : ℕ) → a ≡ b + 1 → a * 1 ≡ b + 1
    by a b e = omega (arith, e)

-- ---- starts that fit

-- a start of a shape has its lists and leaves, and as many bytes as are counted
pub record IsStarted (s : Shape) (start : NbcStart) : Type 0 where
  pub value : IsStart s (starts_as s start)
  pub bytes : list_bytes s (starts_as s start) ≡ bytes_of_start s start

one_number : (ss : List Shape) (n : ℕ) (base : NbcBase) (z : ℤ) → n ≡ 0 → IsNumbers base → IsStarted (arrays_of n (base_shape ss base)) (starts.Num z)
one_number ss zero (bases.Number k) z none number = record { value = number_start k z; bytes = refl }
one_number ss zero bases.Mutex z none number = absurd number
one_number ss zero (bases.Struct i) z none number = absurd number
one_number ss (suc n) base z none number = absurd (omega (arith, none))

one_list : (ss : List Shape) (n : ℕ) (base : NbcBase) (zs : List ℤ) → n ≡ 1 → IsNumbers base → IsStarted (arrays_of n (base_shape ss base)) (starts.List zs)
one_list ss zero base zs one number = absurd (omega (arith, one))
one_list ss (suc zero) (bases.Number k) zs one number = record { value = list_start k (λ (z : ℤ). z) zs; bytes = numbers_bytes k (λ (z : ℤ). z) zs }
one_list ss (suc zero) bases.Mutex zs one number = absurd number
one_list ss (suc zero) (bases.Struct i) zs one number = absurd number
one_list ss (suc (suc n)) base zs one number = absurd (omega (arith, one))

one_text : (ss : List Shape) (n : ℕ) (base : NbcBase) (bytes : List ℕ) → n ≡ 1 → base ≡ bases.Number Ubyte
    → IsStarted (arrays_of n (base_shape ss base)) (starts.Text bytes)
one_text ss n base bytes one number =
    subst (λ m. IsStarted (arrays_of m (base_shape ss base)) (starts.Text bytes)) (sym one)
    (subst (λ b. IsStarted (arrays_of 1 (base_shape ss b)) (starts.Text bytes)) (sym number)
    (record { value = text_start bytes; bytes = text_sized bytes }))

pub start_of : (ss : List Shape) (t : NbcType) (start : NbcStart) → StartFits t start → IsStarted (shape_by ss t) start
start_of ss t starts.Zero fits = record { value = zero_start (shape_by ss t); bytes = zero_bytes (shape_by ss t) }
start_of ss t (starts.Num z) fits = one_number ss t.arrays t.base z fits.0 fits.1
start_of ss t (starts.List zs) fits = one_list ss t.arrays t.base zs fits.0 fits.1
start_of ss t (starts.Text bytes) fits = one_text ss t.arrays t.base bytes fits.0 fits.1
