-- What is written of the variables in the dataspace.
use Rattle.std.proofs.Common.{◌≡◌, ℕ, ◌+◌, ◌-◌, ◌<◌, ◌≤◌, Bool, true, false, cond, ◌&&◌, List, [], ◌∷◌, ◌++◌, drop, take, length, slice_index, slice_range, refl, sym, ap, ap₂, subst, ◌∙◌, append_assoc, append-nil, arith, length-append, le-ltb, lt-ltb}
use Rattle.std.specs.Int.{to_le_bytes, w16}
use Rattle.std.specs.Prelude.{⊤}
use Rattle.nxt_types.specs.Arithmetic.{leaf_size}
use Rattle.nxt_types.specs.Shapes.{Shape, Void, Number, Array, Cluster, Mutex, Members, no_members, member, leaf_bytes}
use Rattle.nxt_types.specs.Names.{size}
use Rattle.nxt_model.specs.Assembled.{leaf_sizes}
use Rattle.nxt_model.specs.Values.{Value, elements}
use Rattle.nxt_asm_parts.specs.AssembledParts.{defaults_from, leaves_in, leaves_among, number_bytes}
use Rattle.nxt_asm_parts.specs.Defaults.{array_count}
use Rattle.nxt_asm_rules.proofs.Laws.StartValues.{length-number}
use Rattle.nxt_table.specs.Leaves.{Leaf, width, is_mutex}
use Rattle.nxt_table.specs.Dataspace.{default_place, default_end}
use Rattle.nxt_table.proofs.Laws.Leaves.{Rising}
use Rattle.nxt_facts.proofs.Each.{Each, each_apart, each_join, each_then}
use Rattle.nxt_facts.proofs.Sums.{total, total-append}
use Rattle.nxt_asm_laws_layout.proofs.OwnLeaves.{own, all_own}
use Rattle.nxt_asm_laws_layout.proofs.Given.{given, before, default_placed, given_bytes}
use Rattle.nxt_asm_laws_layout.proofs.Held.{IsHeld, AreHeld, defaults_append, length-own}
use Rattle.nxt_asm_laws_layout.proofs.Writes.{window, window_there}

-- ---- the order of defaults

-- the default of each leaf begins behind those of the leaves before it
abbrev pub InOrder : List Leaf → ℕ → List Leaf → Type 0
InOrder all at [] = ⊤
InOrder all at (l ∷ ls) = (default_place all l ≡ at) × InOrder all (at + given l) ls

pub order_parts : (all : List Leaf) (at : ℕ) (xs ys : List Leaf) → InOrder all at (xs ++ ys) → InOrder all at xs × InOrder all (at + total given xs) ys
order_parts all at [] ys h = let same : at ≡ at + 0 = omega arith in (tt, subst (λ n. InOrder all n ys) same h)
order_parts all at (x ∷ xs) ys h =
    let rest = order_parts all (at + given x) xs ys h.1 in
    let same : at + given x + total given xs ≡ at + (given x + total given xs) = omega arith in
    ((h.0, rest.0), subst (λ n. InOrder all n ys) same rest.1)

all_before : (l : Leaf) (ls : List Leaf) → Each (λ m. m.entry < l.entry) ls → total (before l) ls ≡ total given ls
all_before l [] h = refl
all_before l (m ∷ ls) h = ap₂ (λ (a b : ℕ). a + b) (ap (λ b. cond (m.has_default && b) (width m) 0) (lt-ltb m.entry l.entry h.0) ∙ by m.has_default) (all_before l ls h.1)
  where
    by : (b : Bool) → cond (b && true) (width m) 0 ≡ cond b (width m) 0
    by true = refl
    by false = refl

none_before : (l : Leaf) (ls : List Leaf) (i : ℕ) → l.entry ≤ i → Rising i ls → total (before l) ls ≡ 0
none_before l [] i le h = refl
none_before l (m ∷ ls) i le h =
    ap₂ (λ (a b : ℕ). a + b)
    (ap (λ b. cond (m.has_default && b) (width m) 0) (le-ltb m.entry l.entry (omega (arith, le, h.0))) ∙ by m.has_default)
    (none_before l ls (m.entry + 1) (omega (arith, le, h.0)) h.1)
  where
    by : (b : Bool) → cond (b && false) (width m) 0 ≡ 0
    by true = refl
    by false = refl

pub in_order : (all pre ls : List Leaf) (i : ℕ) → all ≡ pre ++ ls → Each (λ m. m.entry < i) pre → Rising i ls → InOrder all (total given pre) ls
in_order all pre [] i whole low up = tt
in_order all pre (l ∷ ls) i whole low up =
    let lower = each_then (λ (m : Leaf). m.entry < i) (λ m. m.entry < l.entry) (λ m h. omega (arith, h, up.0)) pre low in
    let next = each_then (λ (m : Leaf). m.entry < i) (λ m. m.entry < l.entry + 1) (λ m h. omega (arith, h, up.0)) pre low in
    let first = all_before l pre lower in
    let rest = none_before l (l ∷ ls) l.entry (omega arith) (omega arith, up.1) in
    let pushed = total-append given pre (l ∷ []) in
    let same : total given (pre ++ l ∷ []) ≡ total given pre + given l = omega (arith, pushed) in (
      default_placed all l ∙ ap (total (before l)) whole ∙ total-append (before l) pre (l ∷ ls) ∙ sum first rest,
      subst (λ n. InOrder all n ls) same
          (in_order all (pre ++ l ∷ []) ls (l.entry + 1) (whole ∙ sym (append_assoc pre (l ∷ []) ls)) (each_join (λ (m : Leaf). m.entry < l.entry + 1) pre (l ∷ []) next (omega arith, tt)) up.1),
    )
  where
    sum : {a b c : ℕ} → a ≡ c → b ≡ 0 → a + b ≡ c
    sum e f = omega (arith, e, f)

-- ---- what is written

module _ (bytes : List ℕ) where
  -- each number's bytes, and the number of each array's row, counted from `row` on
  abbrev mutual
    pub Written : Shape → List ℕ → Value → ℕ → Type 0
    Written Void ps v row = ⊤
    Written (Number k) ps v row = window (slice_index ps 0) (leaf_size k) bytes ≡ number_bytes (Number k) v
    Written (Array n s) ps v row = window (slice_index ps 0) 2 bytes ≡ to_le_bytes w16 row
    Written (Cluster ss) ps v row = AllWritten ss ps (elements v) row
    Written Mutex ps v row = ⊤

    pub AllWritten : Members → List ℕ → List Value → ℕ → Type 0
    AllWritten no_members ps vs row = ⊤
    AllWritten (member s ss) ps [] row = ⊤
    AllWritten (member s ss) ps (v ∷ vs) row =
        Written s ps v row × AllWritten ss (drop (length (leaf_sizes s)) ps) vs (row + array_count (leaves_in s v))

module _ (bytes defaults : List ℕ) (all : List Leaf) where
  -- a leaf has its default, unless it is a mutex
  abbrev pub IsSet : Leaf → Type 0
  IsSet l = l.has_default ≡ true → is_mutex l.shape ≡ false → window l.place (width l) bytes ≡ slice_range defaults (default_place all l) (default_end all l)

  chunk_is : (at n place : ℕ) (pre mid post : List ℕ) → defaults ≡ pre ++ (mid ++ post) → length pre ≡ at → length mid ≡ n → place ≡ at → slice_range defaults place (place + n) ≡ mid
  chunk_is at n place pre mid post whole long short same =
      let gap : place + n - place ≡ length mid = omega (arith, short) in
      ap (λ k. take k (drop place defaults)) gap ∙ window_there place defaults pre mid post whole (long ∙ sym same)

  mutual
    pub shape_written : (s : Shape) (ps : List ℕ) (i : ℕ) (v : Value) (row at : ℕ) (pre post : List ℕ) → defaults ≡ pre ++ (defaults_from row (leaves_in s v) ++ post) → length pre ≡ at
        → IsHeld s v → InOrder all at (own s ps i []) → Each IsSet (own s ps i []) → Written bytes s ps v row
    shape_written Void ps i v row at pre post whole long held order set = tt
    shape_written (Number k) ps i v row at pre post whole long held order set =
        let nb = number_bytes (Number k) v in
        let n = length-number k v in
        set.0 refl refl ∙ chunk_is at (leaf_size k) _ pre nb post (whole ∙ ap (λ l. pre ++ (l ++ post)) (append-nil nb)) long n order.0
    shape_written (Array n s) ps i v row at pre post whole long held order set =
        set.0 refl refl ∙ chunk_is at 2 _ pre (to_le_bytes w16 row) post whole long refl order.0
    shape_written (Cluster ss) ps i v row at pre post whole long held order set = members_written ss ps (i + 1) (elements v) row at pre post whole long held.1 order set
    shape_written Mutex ps i v row at pre post whole long held order set = tt

    pub members_written : (ss : Members) (ps : List ℕ) (i : ℕ) (vs : List Value) (row at : ℕ) (pre post : List ℕ) → defaults ≡ pre ++ (defaults_from row (leaves_among ss vs) ++ post)
        → length pre ≡ at → AreHeld ss vs → InOrder all at (all_own ss ps i []) → Each IsSet (all_own ss ps i []) → AllWritten bytes ss ps vs row
    members_written no_members ps i vs row at pre post whole long held order set = tt
    members_written (member s ss) ps i [] row at pre post whole long held order set = absurd held
    members_written (member s ss) ps i (v ∷ vs) row at pre post whole long held order set =
        let rest = drop (length (leaf_sizes s)) ps in
        let next = row + array_count (leaves_in s v) in
        let x = defaults_from row (leaves_in s v) in
        let y = defaults_from next (leaves_among ss vs) in
        let split : defaults ≡ pre ++ ((x ++ y) ++ post) = whole ∙ ap (λ l. pre ++ (l ++ post)) (defaults_append row (leaves_in s v) (leaves_among ss vs)) in
        let here : defaults ≡ pre ++ (x ++ (y ++ post)) = split ∙ ap (λ l. pre ++ l) (append_assoc x y post) in
        let behind : defaults ≡ (pre ++ x) ++ (y ++ post) = here ∙ sym (append_assoc pre x (y ++ post)) in
        let orders = order_parts all at (own s ps i []) (all_own ss rest (i + size s) []) order in
        let sets = each_apart IsSet (own s ps i []) (all_own ss rest (i + size s) []) set in
        let end : at + total given (own s ps i []) ≡ at + leaf_bytes s = ap (λ n. at + n) (given_bytes s ps i) in
        let longer : length (pre ++ x) ≡ at + leaf_bytes s = length-append pre x ∙ ap₂ (λ (a b : ℕ). a + b) long (length-own row s v held.0) in (
          shape_written s ps i v row at pre (y ++ post) here long held.0 orders.0 sets.0,
          members_written ss rest (i + size s) vs next (at + leaf_bytes s) (pre ++ x) post behind longer held.1
              (subst (λ n. InOrder all n (all_own ss rest (i + size s) [])) end orders.1) sets.1,
        )
