-- The entries of operands name their parts.
use Rattle.std.proofs.Common.{◌≡◌, ℕ, zero, suc, ◌+◌, ◌-◌, ◌<◌, ◌≤◌, List, [], ◌∷◌, ◌++◌, map, length, take, Some, None, refl, sym, ap, subst, ◌∙◌, arith, length-append}
use Rattle.std.specs.Prelude.{if◌then◌else◌, option_map, slice_index_or, sum_by}
use Rattle.std.proofs.lemmas.Bool.{lt-ltb, le-ltb}
use Rattle.std.proofs.lemmas.List.{get_or_append_left, get_or-append_right, length-map}
use Rattle.std.proofs.lemmas.List.Sums.{sum_by-cons, sum_by_more_le}
use Rattle.nxt_types.specs.Names.{Name, below, name_among, name_in, named, size}
use Rattle.nxt_types.specs.Words.{nameless}
use Rattle.nxt_types.specs.Shapes.{Shape, Void, Number, Array, Cluster, Mutex, Members, no_members, member, members, shapes_of}
use Rattle.nxt_types.specs.declared.kind.Kind.TheVariants.{Ubyte, Slong}
use Rattle.nxt_types.proofs.Laws.Shapes.{size_positive}
use Rattle.nxt_model.specs.Assembled.{all_shapes, entries_before, entry_of}
use Rattle.nxt_model.specs.TextProgram.{Text, constants, declared, name_of, returns, shape_of_part, shapes, subroutines, text_shape, texts, variable_number}
use Rattle.nxt_asm_laws_code.specs.There.{LeadsTo}

-- ---- members

-- the members of a list are its shapes
pub shapes_of-members : (ss : List Shape) → shapes_of (members ss) ≡ ss
shapes_of-members [] = refl
shapes_of-members (s ∷ ss) = ap (λ l. s ∷ l) (shapes_of-members ss)

-- what an entry names among members, of which the first is member j, by what it names in member k
name_among_at : (ss : Members) (j k i m : ℕ) (n : Name) → k < length (shapes_of ss) → i < size (slice_index_or (shapes_of ss) k Void)
    → name_in (slice_index_or (shapes_of ss) k Void) i ≡ Some n → m ≡ sum_by size (take k (shapes_of ss)) + i → name_among ss j m ≡ Some (below (j + k) n)
name_among_at no_members j k i m n lt under e is = absurd (omega (arith, lt))
name_among_at (member s ss) j zero i m n lt under e is =
    let same : m ≡ i = omega (arith, is) in
    let inside : m < size s = omega (arith, same, under) in
    let last : j ≡ j + 0 = omega arith in
    ap (λ b. if b then option_map (below j) (name_in s m) else name_among ss (j + 1) (m - size s)) (lt-ltb m (size s) inside)
    ∙ ap (λ x. option_map (below j) (name_in s x)) same
    ∙ ap (option_map (below j)) e
    ∙ ap (λ x. Some (below x n)) last
name_among_at (member s ss) j (suc k) i m n lt under e is =
    let first = sum_by-cons size s (take k (shapes_of ss)) in
    let outside : size s ≤ m = omega (arith, is, first) in
    let rest : m - size s ≡ sum_by size (take k (shapes_of ss)) + i = omega (arith, is, first) in
    let last : j + 1 + k ≡ j + suc k = omega arith in
    ap (λ b. if b then option_map (below j) (name_in s m) else name_among ss (j + 1) (m - size s)) (le-ltb m (size s) outside)
    ∙ name_among_at ss (j + 1) k i (m - size s) n (omega (arith, lt)) under e rest
    ∙ ap (λ x. Some (below x n)) last

-- a member's entries stand behind those of the members before it
member_inside : (ss : Members) (k : ℕ) → k < length (shapes_of ss) → sum_by size (take k (shapes_of ss)) + size (slice_index_or (shapes_of ss) k Void) + 1 ≤ size (Cluster ss)
member_inside no_members k lt = absurd (omega (arith, lt))
member_inside (member s ss) zero lt = omega arith
member_inside (member s ss) (suc k) lt =
    let more = member_inside ss k (omega (arith, lt)) in
    let first = sum_by-cons size s (take k (shapes_of ss)) in
    omega (arith, more, first)

-- ---- parts

-- a part by the positions that lead to it
abbrev part_name : Shape → List ℕ → Name
part_name s path = record { path = path; shape = shape_of_part s path }

name_first : (s : Shape) → name_in s 0 ≡ Some (part_name s [])
name_first Void = refl
name_first (Number k) = refl
name_first (Array n s) = refl
name_first (Cluster ss) = refl
name_first Mutex = refl

-- the entry of a part names it
part_named : (path : List ℕ) (s : Shape) → LeadsTo s path → (name_in s (entries_before path s) ≡ Some (part_name s path)) × (entries_before path s < size s)
part_named [] s h = (name_first s, let some = size_positive s in omega (arith, some))
part_named (k ∷ ks) Void h = absurd (let lt = h.0 in omega (arith, lt))
part_named (k ∷ ks) (Number n) h = absurd (let lt = h.0 in omega (arith, lt))
part_named (k ∷ ks) (Array n s) h = absurd (let lt = h.0 in omega (arith, lt))
part_named (k ∷ ks) Mutex h = absurd (let lt = h.0 in omega (arith, lt))
part_named (k ∷ ks) (Cluster ss) h =
    let part : Shape = slice_index_or (shapes_of ss) k Void in
    let more = part_named ks part h.1 in
    let before : ℕ = sum_by size (take k (shapes_of ss)) in
    let own : ℕ = entries_before ks part in
    let next : entries_before (k ∷ ks) (Cluster ss) ≡ suc (before + own) = omega arith in
    let inside = member_inside ss k h.0 in
    let under = more.1 in
    let same : 0 + k ≡ k = omega arith in (
      ap (name_in (Cluster ss)) next
          ∙ name_among_at ss 0 k own (before + own) (part_name part ks) h.0 under more.0 refl
          ∙ ap (λ x. Some (below x (part_name part ks))) same,
      omega (arith, next, inside, under),
    )

-- ---- tables

-- the entry of a part of a variable names it, in a table whose entries all have names
pub named_at : (ss : List Shape) (i : ℕ) (path : List ℕ) → i < length ss → sum_by size ss ≤ 49151 → LeadsTo (slice_index_or ss i Void) path
    → (named (members ss) (entry_of ss i path) ≡ Some (name_of ss i path)) × (entry_of ss i path < 49152)
named_at ss i path lt few leads =
    let part : Shape = slice_index_or ss i Void in
    let own : ℕ = entries_before path part in
    let both = part_named path part leads in
    let under = both.1 in
    let whole = sum_by_more_le size ss i Void lt in
    let all : shapes_of (members ss) ≡ ss = shapes_of-members ss in
    let small : entry_of ss i path < 49152 = by (variable_number ss i) own (size part) (sum_by size ss) under whole few in
    let same : 0 + i ≡ i = omega arith in (
      ap (λ b. if b then name_among (members ss) 0 (entry_of ss i path) else None) (lt-ltb (entry_of ss i path) nameless small)
          ∙ name_among_at (members ss) 0 i own (entry_of ss i path) (part_name part path)
          (subst (λ l. i < length l) (sym all) lt)
          (subst (λ l. own < size (slice_index_or l i Void)) (sym all) under)
          (subst (λ l. name_in (slice_index_or l i Void) own ≡ Some (part_name part path)) (sym all) both.0)
          (ap (λ l. sum_by size (take i l) + own) (sym all))
          ∙ ap (λ x. Some (below x (part_name part path))) same,
      small,
    )
  where
    by : (a b c d : ℕ) → b < c → a + c ≤ d → d ≤ 49151 → a + b < 49152
    by a b c d e f g = omega (arith, e, f, g)

-- ---- the shapes of a text

-- shapes behind others
longer : {X : Type 0} (xs ys : List X) (i : ℕ) → i < length xs → i < length (xs ++ ys)
longer xs ys i under = let both = length-append xs ys in omega (arith, under, both)

same_at : {X : Type 0} (s : Shape) (xs : List X) (j : ℕ) → j < length xs → slice_index_or (map (λ x. s) xs) j Void ≡ s
same_at s [] j lt = absurd (omega (arith, lt))
same_at s (x ∷ xs) zero lt = refl
same_at s (x ∷ xs) (suc j) lt = same_at s xs j (omega (arith, lt))

back_at : (xs ys : List Shape) (j : ℕ) (s : Shape) → slice_index_or ys j Void ≡ s → slice_index_or (xs ++ ys) (length xs + j) Void ≡ s
back_at xs ys j s e =
    let past : length xs ≤ length xs + j = omega arith in
    let less : length xs + j - length xs ≡ j = omega arith in
    get_or-append_right xs ys (length xs) (length xs + j) Void refl past ∙ ap (λ k. slice_index_or ys k Void) less ∙ e

module _ (p : Text) (few : sum_by size (all_shapes p) ≤ 49151) where
  abbrev numbers : List Shape
  numbers = map (λ z. Number Slong) (constants p)

  abbrev others : List Shape
  others = map (λ t. text_shape) (texts p)

  -- a variable has the same shape among all
  variable_at : (i : ℕ) → i < length (shapes p) → slice_index_or (all_shapes p) i Void ≡ slice_index_or (shapes p) i Void
  variable_at i under = get_or_append_left (shapes p ++ numbers) others Void i (longer (shapes p) numbers i under) ∙ get_or_append_left (shapes p) numbers Void i under

  -- a declared one has its own
  pub declared_at : (i : ℕ) → i < length (declared p) → slice_index_or (shapes p) i Void ≡ slice_index_or (declared p) i Void
  declared_at i under = get_or_append_left (declared p) (returns p) Void i under

  -- the part of a declared variable
  pub named_part : (i : ℕ) (path : List ℕ) → i < length (declared p) → LeadsTo (slice_index_or (declared p) i Void) path
      → (named (members (all_shapes p)) (entry_of (all_shapes p) i path) ≡ Some (name_of (shapes p) i path)) × (entry_of (all_shapes p) i path < 49152)
  named_part i path under leads =
      let first : i < length (shapes p) = longer (declared p) (returns p) i under in
      let last : i < length (all_shapes p) = longer (shapes p ++ numbers) others i (longer (shapes p) numbers i first) in
      let same = variable_at i first in
      let both = named_at (all_shapes p) i path last few (subst (λ s. LeadsTo s path) (sym (same ∙ declared_at i under)) leads) in
      (both.0 ∙ ap (λ s. Some (record { path = i ∷ path; shape = shape_of_part s path })) same, both.1)

  -- a variable or constant as a whole
  whole_named : (i : ℕ) (s : Shape) → i < length (all_shapes p) → slice_index_or (all_shapes p) i Void ≡ s
      → (named (members (all_shapes p)) (entry_of (all_shapes p) i []) ≡ Some (record { path = i ∷ []; shape = s })) × (entry_of (all_shapes p) i [] < 49152)
  whole_named i s lt is =
      let both = named_at (all_shapes p) i [] lt few tt in
      (both.0 ∙ ap (λ x. Some (record { path = i ∷ []; shape = x })) is, both.1)

  -- a subroutine's return variable
  pub named_return : (j : ℕ) → j < length (returns p)
      → (named (members (all_shapes p)) (entry_of (all_shapes p) (length (declared p) + j) []) ≡ Some (record { path = (length (declared p) + j) ∷ []; shape = Number Ubyte }))
      × (entry_of (all_shapes p) (length (declared p) + j) [] < 49152)
  named_return j lt =
      let i : ℕ = length (declared p) + j in
      let own = length-map (subroutines p.blocks) (λ b. Number Ubyte) in
      let all = length-append (declared p) (returns p) in
      let first : i < length (shapes p) = omega (arith, lt, all) in
      let last : i < length (all_shapes p) = longer (shapes p ++ numbers) others i (longer (shapes p) numbers i first) in
      whole_named i (Number Ubyte) last
      (variable_at i first ∙ back_at (declared p) (returns p) j (Number Ubyte) (same_at (Number Ubyte) (subroutines p.blocks) j (omega (arith, lt, own))))

  -- a number constant
  pub named_number : (j : ℕ) → j < length (constants p)
      → (named (members (all_shapes p)) (entry_of (all_shapes p) (length (shapes p) + j) []) ≡ Some (record { path = (length (shapes p) + j) ∷ []; shape = Number Slong }))
      × (entry_of (all_shapes p) (length (shapes p) + j) [] < 49152)
  named_number j lt =
      let i : ℕ = length (shapes p) + j in
      let own = length-map (constants p) (λ z. Number Slong) in
      let all = length-append (shapes p) numbers in
      let first : i < length (shapes p ++ numbers) = omega (arith, lt, all, own) in
      whole_named i (Number Slong) (longer (shapes p ++ numbers) others i first)
      (get_or_append_left (shapes p ++ numbers) others Void i first ∙ back_at (shapes p) numbers j (Number Slong) (same_at (Number Slong) (constants p) j lt))

  -- a text constant
  pub named_text : (j : ℕ) → j < length (texts p)
      → (named (members (all_shapes p)) (entry_of (all_shapes p) (length (shapes p) + length (constants p) + j) [])
      ≡ Some (record { path = (length (shapes p) + length (constants p) + j) ∷ []; shape = text_shape }))
      × (entry_of (all_shapes p) (length (shapes p) + length (constants p) + j) [] < 49152)
  named_text j lt =
      let i : ℕ = length (shapes p) + length (constants p) + j in
      let own = length-map (constants p) (λ z. Number Slong) in
      let last = length-map (texts p) (λ t. text_shape) in
      let front : length (shapes p ++ numbers) ≡ length (shapes p) + length (constants p) = let all = length-append (shapes p) numbers in omega (arith, all, own) in
      let both = length-append (shapes p ++ numbers) others in
      whole_named i text_shape (omega (arith, both, last, front, lt))
      (ap (λ n. slice_index_or (all_shapes p) (n + j) Void) (sym front) ∙ back_at (shapes p ++ numbers) others j text_shape (same_at text_shape (texts p) j lt))
