-- What the entries of a shape do in a table, and variables one behind another.
use Rattle.std.proofs.Common.{◌≡◌, ℕ, suc, ◌+◌, ◌-◌, List, [], ◌∷◌, ◌++◌, refl, sym, ap, ◌∙◌, arith, append_assoc, Bool, true, false, ◌&&◌, true≢false, Option, Some, None}
use Rattle.std.proofs.lemmas.Bool.{and_parts}
use Rattle.std.specs.Prelude.{nat_lt, ◌==◌, IsTrue, if◌then◌else◌, max}
use Rattle.std.proofs.lemmas.Bool.Decides.{nat_tests}
use Rattle.nxt_types.specs.declared.kind.Kind.{Kind}
use Rattle.nxt_types.specs.declared.kind.Kind.TheVariants.{Ubyte, Sbyte, Uword, Sword, Ulong, Slong}
use Rattle.nxt_types.specs.Shapes.{Shape, Void, Number, Array, Cluster, Mutex, Members, no_members, member, count, code_of, spelling, spellings, is_filled, are_filled}
use Rattle.nxt_types.specs.Names.{size, sizes}
use Rattle.nxt_table.specs.declared.item.Item.{Item}
use Rattle.nxt_table.specs.declared.item.Item.TheVariants as items
use Rattle.nxt_table.specs.Inside.Items.{item, needs_behind, breaks_off, open_from}

-- no void in the shape
abbrev mutual
  pub no_void : Shape → Bool
  no_void Void = false
  no_void (Number k) = true
  no_void (Array n s) = no_void s
  no_void (Cluster ss) = no_voids ss
  no_void Mutex = true

  pub no_voids : Members → Bool
  no_voids no_members = true
  no_voids (member s ss) = no_void s && no_voids ss

-- ---- what the entries of a shape do

pub number_item : (k : Kind) → item (code_of k, 0) ≡ Some (items.Number k)
number_item Ubyte = refl
number_item Sbyte = refl
number_item Uword = refl
number_item Sword = refl
number_item Ulong = refl
number_item Slong = refl

pub suc_not_zero : (n : ℕ) → (suc n == 0) ≡ false
suc_not_zero n = grind (arith, nat_tests)

pub positive : (n : ℕ) → IsTrue (nat_lt 0 n) → (n == 0) ≡ false
positive n h = grind (arith, nat_tests)

pub inside : (start n i : ℕ) (o : ℕ × ℕ) (os : List (ℕ × ℕ)) →
    open_from start (suc n) i (o ∷ os) ≡ (if breaks_off (suc n) (item o) then Some start else open_from start (needs_behind (suc n) (item o)) (i + 1) os)
inside start n i o os = rw (suc_not_zero n) refl

pub step : (start n i m : ℕ) (o : ℕ × ℕ) (os : List (ℕ × ℕ)) → breaks_off (suc n) (item o) ≡ false → needs_behind (suc n) (item o) ≡ m →
    open_from start (suc n) i (o ∷ os) ≡ open_from start m (i + 1) os
step start n i m o os b e = inside start n i o os ∙ rw b (ap (λ k. open_from start k (i + 1) os) e)

pub at_place : (start n i j : ℕ) (os : List (ℕ × ℕ)) → i ≡ j → open_from start n i os ≡ open_from start n j os
at_place start n i j os e = ap (λ k. open_from start n k os) e

mutual
  -- a shape inside a variable takes one of the shapes that it needs
  pub over_shape : (s : Shape) (start n i : ℕ) (os : List (ℕ × ℕ)) → IsTrue (is_filled s) → IsTrue (no_void s) →
      open_from start (suc n) i (spelling s ++ os) ≡ open_from start n (i + size s) os
  over_shape Void start n i os f v = absurd (true≢false (sym v))
  over_shape (Number k) start n i os f v =
      let less : suc n - 1 ≡ n = omega arith in
      step start n i n (code_of k, 0) os (ap (breaks_off (suc n)) (number_item k)) (ap (needs_behind (suc n)) (number_item k) ∙ less)
  over_shape (Array m s) start n i os f v =
      let same : max (suc n) 1 ≡ suc n = omega arith in
      step start n i (suc n) (7, 0) (spelling s ++ os) refl same ∙ over_shape s start n (i + 1) os f v
      ∙ at_place start n (i + 1 + size s) (i + (size s + 1)) os (omega arith)
  over_shape (Cluster ss) start n i os f v =
      let g = and_parts (nat_lt 0 (count ss)) (are_filled ss) f in
      let more : suc n - 1 + count ss ≡ count ss + n = omega arith in
      step start n i (count ss + n) (8, count ss) (spellings ss ++ os) (positive (count ss) g.0) more
      ∙ over_shapes ss start n (i + 1) os g.1 v ∙ at_place start n (i + 1 + sizes ss) (i + (sizes ss + 1)) os (omega arith)
  over_shape Mutex start n i os f v =
      let less : suc n - 1 ≡ n = omega arith in step start n i n (9, 0) os refl less

  pub over_shapes : (ss : Members) (start n i : ℕ) (os : List (ℕ × ℕ)) → IsTrue (are_filled ss) → IsTrue (no_voids ss) →
      open_from start (count ss + n) i (spellings ss ++ os) ≡ open_from start n (i + sizes ss) os
  over_shapes no_members start n i os f v =
      let a : 0 + n ≡ n = omega arith in
      ap (λ k. open_from start k i os) a ∙ at_place start n i (i + 0) os (omega arith)
  over_shapes (member s ss) start n i os f v =
      let f2 = and_parts (is_filled s) (are_filled ss) f in
      let v2 = and_parts (no_void s) (no_voids ss) v in
      let a : count ss + 1 + n ≡ suc (count ss + n) = omega arith in
      ap (λ k. open_from start k i (spellings (member s ss) ++ os)) a
      ∙ ap (open_from start (suc (count ss + n)) i) (append_assoc (spelling s) (spellings ss) os)
      ∙ over_shape s start (count ss + n) i (spellings ss ++ os) f2.0 v2.0
      ∙ over_shapes ss start n (i + size s) os f2.1 v2.1
      ∙ at_place start n (i + size s + sizes ss) (i + (size s + sizes ss)) os (omega arith)

-- ---- variables

-- a void may be a variable
abbrev pub is_variable : Shape → Bool
is_variable Void = true
is_variable s = no_void s

abbrev pub are_variables : Members → Bool
are_variables no_members = true
are_variables (member s ss) = is_variable s && are_variables ss

pub any_start : (a b i : ℕ) (os : List (ℕ × ℕ)) → open_from a 0 i os ≡ open_from b 0 i os
any_start a b i [] = refl
any_start a b i (o ∷ os) = refl

-- with an entry that is no void a variable goes on as one that needs a shape
pub begin_by : (start i : ℕ) (x : Option Item) (os : List (ℕ × ℕ)) → breaks_off 0 x ≡ breaks_off 1 x →
    (if breaks_off 0 x then Some i else open_from i (needs_behind 0 x) (i + 1) os) ≡ (if breaks_off 1 x then Some i else open_from i (needs_behind 1 x) (i + 1) os)
begin_by start i None os e = refl
begin_by start i (Some items.Void) os e = absurd (true≢false (sym e))
begin_by start i (Some (items.Number k)) os e = refl
begin_by start i (Some items.Array) os e = refl
begin_by start i (Some (items.Cluster m)) os e = refl
begin_by start i (Some items.Mutex) os e = refl

pub begin : (start i : ℕ) (o : ℕ × ℕ) (os : List (ℕ × ℕ)) → breaks_off 0 (item o) ≡ breaks_off 1 (item o) →
    open_from start 0 i (o ∷ os) ≡ open_from i 1 i (o ∷ os)
begin start i o os e = begin_by start i (item o) os e

pub over_variable : (s : Shape) (start i : ℕ) (os : List (ℕ × ℕ)) → IsTrue (is_filled s) → IsTrue (is_variable s) →
    open_from start 0 i (spelling s ++ os) ≡ open_from start 0 (i + size s) os
over_variable Void start i os f v = any_start i start (i + 1) os
over_variable (Number k) start i os f v =
    begin start i (code_of k, 0) os (ap (breaks_off 0) (number_item k) ∙ sym (ap (breaks_off 1) (number_item k)))
    ∙ over_shape (Number k) i 0 i os f v ∙ any_start i start (i + 1) os
over_variable (Array m s) start i os f v =
    begin start i (7, 0) (spelling s ++ os) refl ∙ over_shape (Array m s) i 0 i os f v ∙ any_start i start (i + size (Array m s)) os
over_variable (Cluster ss) start i os f v =
    begin start i (8, count ss) (spellings ss ++ os) refl ∙ over_shape (Cluster ss) i 0 i os f v ∙ any_start i start (i + size (Cluster ss)) os
over_variable Mutex start i os f v = begin start i (9, 0) os refl ∙ over_shape Mutex i 0 i os f v ∙ any_start i start (i + 1) os

pub over_variables : (ss : Members) (start i : ℕ) (os : List (ℕ × ℕ)) → IsTrue (are_filled ss) → IsTrue (are_variables ss) →
    open_from start 0 i (spellings ss ++ os) ≡ open_from start 0 (i + sizes ss) os
over_variables no_members start i os f v = at_place start 0 i (i + 0) os (omega arith)
over_variables (member s ss) start i os f v =
    let f2 = and_parts (is_filled s) (are_filled ss) f in
    let v2 = and_parts (is_variable s) (are_variables ss) v in
    ap (open_from start 0 i) (append_assoc (spelling s) (spellings ss) os)
    ∙ over_variable s start i (spellings ss ++ os) f2.0 v2.0
    ∙ over_variables ss start (i + size s) os f2.1 v2.1
    ∙ at_place start 0 (i + size s + sizes ss) (i + (size s + sizes ss)) os (omega arith)
