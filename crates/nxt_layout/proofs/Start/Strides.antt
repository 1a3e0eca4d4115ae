-- What reads as values counts the lists and their bytes, whatever the strides.
use Rattle.std.proofs.Common.{◌≡◌, ℕ, zero, suc, ◌+◌, ◌*◌, ◌<◌, Bool, true, false, cond, ◌&&◌, ◌||◌, not, ◌==◌, nat_lt, List, [], ◌∷◌, find, sum_by, length, Option, Some, None, inl, inr, refl, sym, ap, ◌∙◌, subst, arith, length-append, lt-ltb}
use Rattle.std.proofs.lemmas.Bool.{cases_order, eqb-true}
use Rattle.std.proofs.lemmas.List.Sums.{sum_by-cons}
use Rattle.nxt_types.specs.Bytes.{u16_at}
use Rattle.nxt_types.specs.Shapes.{Shape, Void, Number, Array, Cluster, Mutex, Members, no_members, member}
use Rattle.nxt_types.specs.Names.{size}
use Rattle.nxt_model.specs.Values.{Value, values, elements, lists_in, lists_among as lists_within}
use Rattle.nxt_model.specs.Footprint.{list_bytes, member_bytes}
use Rattle.nxt_types.specs.Pool.{round4}
use Rattle.nxt_model.specs.Reading.{Memory, HeldList, EachReads, RowReads, Reads, MembersRead, ReadsAs, leaf_place}
use Rattle.nxt_table.specs.Leaves.{extent}
use Rattle.nxt_layout.specs.Rows.{Ground, row, has_elements, stride_or, is_strided}
use Rattle.nxt_facts.proofs.Each.{Each, each_then, each_both, each_passes}
use Rattle.nxt_facts.proofs.Sums.{total, total_is, total-append}
use Rattle.nxt_layout.proofs.Start.Reads.{when_full}
use Rattle.nxt_layout.proofs.Dope.Strides.{like_one}

-- ---- what reads as values

-- a list's bytes, rounded up
abbrev pub bytes_held : HeldList → ℕ
bytes_held l = round4 (l.count * l.stride)

pub each_counted : (reads : ℕ → Value → List HeldList → Type 0) → ((base : ℕ) (v : Value) (ls : List HeldList) → reads base v ls → lists_in v ≡ length ls) → (place stride : ℕ) (vs : List Value) (ls : List HeldList) → EachReads reads place stride vs ls → lists_within (values vs) ≡ length ls
each_counted reads h place stride [] ls e = sym (ap length e)
each_counted reads h place stride (v ∷ vs) ls e =
    omega (
      arith,
      h place v e.0 e.3,
      each_counted reads h (place + stride) stride vs e.1 e.4,
      ap length e.2,
      length-append e.0 e.1,
    )

pub row_counted : (m : Memory) (reads : ℕ → Value → List HeldList → Type 0) → ((base : ℕ) (v : Value) (ls : List HeldList) → reads base v ls → lists_in v ≡ length ls) → (stride r : ℕ) (vs : List Value) (ls : List HeldList) → RowReads m reads stride r vs ls → lists_within (values vs) + 1 ≡ length ls
row_counted m reads h stride zero vs ls e =
    ap (λ ws. lists_within (values ws) + 1) e.0 ∙ sym (ap length e.1)
row_counted m reads h stride (suc r) vs ls e =
    omega (arith, each_counted reads h _ _ vs e.0 e.4, ap length e.1)

-- as many lists stand in a value as are held
mutual
  pub reads_counted : (m : Memory) (i : ℕ) (s : Shape) (base : ℕ) (v : Value) (ls : List HeldList) → Reads m i s base v ls → lists_in v ≡ length ls
  reads_counted m i Void base v ls e = ap lists_in e.0 ∙ sym (ap length e.1)
  reads_counted m i (Number k) base v ls e = ap lists_in e.1 ∙ sym (ap length e.2)
  reads_counted m i (Array stride s) base v ls e =
      ap lists_in e.1
      ∙ row_counted m (Reads m (i + 1) s) (reads_counted m (i + 1) s) stride (u16_at m.bytes (leaf_place m i base)) (elements v) ls e.2
  reads_counted m i (Cluster ss) base v ls e =
      ap lists_in e.0 ∙ members_counted m (i + 1) ss base (elements v) ls e.1
  reads_counted m i Mutex base v ls e = ap lists_in e.0 ∙ sym (ap length e.1)

  pub members_counted : (m : Memory) (i : ℕ) (ss : Members) (base : ℕ) (vs : List Value) (ls : List HeldList) → MembersRead m i ss base vs ls → lists_within (values vs) ≡ length ls
  members_counted m i no_members base vs ls e =
      ap (λ ws. lists_within (values ws)) e.0 ∙ sym (ap length e.1)
  members_counted m i (member s ss) base [] ls e = absurd e
  members_counted m i (member s ss) base (v ∷ vs) ls e =
      omega (
        arith,
        reads_counted m i s base v e.0 e.3,
        members_counted m (i + size s) ss base vs e.1 e.4,
        ap length e.2,
        length-append e.0 e.1,
      )

pub each_sized : (reads : ℕ → Value → List HeldList → Type 0) (bytes : Value → ℕ) → ((base : ℕ) (v : Value) (ls : List HeldList) → reads base v ls → bytes v ≡ total bytes_held ls) → (place stride : ℕ) (vs : List Value) (ls : List HeldList) → EachReads reads place stride vs ls → sum_by bytes vs ≡ total bytes_held ls
each_sized reads bytes h place stride [] ls e = sym (ap (total bytes_held) e)
each_sized reads bytes h place stride (v ∷ vs) ls e =
    omega (
      arith,
      sum_by-cons bytes v vs,
      h place v e.0 e.3,
      each_sized reads bytes h (place + stride) stride vs e.1 e.4,
      ap (total bytes_held) e.2,
      total-append bytes_held e.0 e.1,
    )

pub row_sized : (m : Memory) (reads : ℕ → Value → List HeldList → Type 0) (bytes : Value → ℕ) → ((base : ℕ) (v : Value) (ls : List HeldList) → reads base v ls → bytes v ≡ total bytes_held ls) → (stride r : ℕ) (vs : List Value) (ls : List HeldList) → RowReads m reads stride r vs ls → round4 (length vs * stride) + sum_by bytes vs ≡ total bytes_held ls
row_sized m reads bytes h stride zero vs ls e =
    ap (λ ws. round4 (length ws * stride) + sum_by bytes ws) e.0 ∙ sym (ap (total bytes_held) e.1)
row_sized m reads bytes h stride (suc r) vs ls e =
    ap (λ n. round4 (length vs * stride) + n) (each_sized reads bytes h _ _ vs e.0 e.4) ∙ sym (ap (total bytes_held) e.1)

-- a value's lists take as many bytes as those that are held
mutual
  pub reads_sized : (m : Memory) (i : ℕ) (s : Shape) (base : ℕ) (v : Value) (ls : List HeldList) → Reads m i s base v ls → list_bytes s v ≡ total bytes_held ls
  reads_sized m i Void base v ls e = sym (ap (total bytes_held) e.1)
  reads_sized m i (Number k) base v ls e = sym (ap (total bytes_held) e.2)
  reads_sized m i (Array stride s) base v ls e =
      row_sized m (Reads m (i + 1) s) (list_bytes s) (reads_sized m (i + 1) s) stride (u16_at m.bytes (leaf_place m i base)) (elements v) ls e.2
  reads_sized m i (Cluster ss) base v ls e = members_sized m (i + 1) ss base (elements v) ls e.1
  reads_sized m i Mutex base v ls e = sym (ap (total bytes_held) e.1)

  pub members_sized : (m : Memory) (i : ℕ) (ss : Members) (base : ℕ) (vs : List Value) (ls : List HeldList) → MembersRead m i ss base vs ls → member_bytes ss vs ≡ total bytes_held ls
  members_sized m i no_members base vs ls e = sym (ap (total bytes_held) e.1)
  members_sized m i (member s ss) base [] ls e = absurd e
  members_sized m i (member s ss) base (v ∷ vs) ls e =
      omega (
        arith,
        reads_sized m i s base v e.0 e.3,
        members_sized m (i + size s) ss base vs e.1 e.4,
        ap (total bytes_held) e.2,
        total-append bytes_held e.0 e.1,
      )

pub lists_counted : (m : Memory) (ss : Members) (vars : Value) (ls : List HeldList) → ReadsAs m ss vars ls → lists_in vars ≡ length ls
lists_counted m ss vars ls h = ap lists_in h.values ∙ members_counted m 0 ss 0 (elements vars) ls h.variables

pub lists_sized : (m : Memory) (ss : Members) (vars : Value) (ls : List HeldList) → ReadsAs m ss vars ls → list_bytes (Cluster ss) vars ≡ sum_by bytes_held ls
lists_sized m ss vars ls h = members_sized m 0 ss 0 (elements vars) ls h.variables ∙ sym (total_is bytes_held ls)

-- ---- strides

pub found_one : {X : Type 0} (P : X → Type 0) (test : X → Bool) (x y : X) (o : Option X) (b : Bool) → test x ≡ b → P x → (o ≡ Some y → P y × (test y ≡ true)) → cond b (Some x) o ≡ Some y → P y × (test y ≡ true)
found_one P test x y o true t h more e = let same : x ≡ y = cc in subst (λ z. P z × (test z ≡ true)) same (h, t)
found_one P test x y o false t h more e = more e

-- what holds of each element holds of the one that is found, which passes the test
pub each_found : {X : Type 0} (P : X → Type 0) (test : X → Bool) (xs : List X) (y : X) → Each P xs → find test xs ≡ Some y → P y × (test y ≡ true)
each_found P test [] y h e = let f : ⊥ = cc in absurd f
each_found P test (x ∷ xs) y h e = found_one P test x y (find test xs) (test x) refl h.0 (each_found P test xs y h.1) e

pub none_here : {X : Type 0} (test : X → Bool) (x : X) (o : Option X) (b : Bool) → test x ≡ b → cond b (Some x) o ≡ None → (test x ≡ false) × (o ≡ None)
none_here test x o true t e = let f : ⊥ = cc in absurd f
none_here test x o false t e = (t, e)

pub none_found : {X : Type 0} (test : X → Bool) (xs : List X) → find test xs ≡ None → Each (λ x. test x ≡ false) xs
none_found test [] e = tt
none_found test (x ∷ xs) e = let two = none_here test x (find test xs) (test x) refl e in (two.0, none_found test xs two.1)

-- the stride of a row with elements is that of each lesser one
abbrev pub SameBelow : Ground → List ℕ → ℕ → Type 0
SameBelow g rows r = Each (λ q. has_elements g q ≡ true → q < r → (row g q).stride ≡ (row g r).stride) rows

pub same_below : (g : Ground) (a : ℕ) (rows : List ℕ) (r : ℕ) → is_strided g a rows r ≡ true → has_elements g r ≡ true → SameBelow g rows r
same_below g a rows r strided full =
    each_then
    (λ q. (not (nat_lt q r && has_elements g q) || ((row g q).stride == (row g r).stride)) ≡ true)
    (λ q. has_elements g q ≡ true → q < r → (row g q).stride ≡ (row g r).stride)
    (λ q h has less.
    eqb-true
    (row g q).stride
    (row g r).stride
    (like_one (nat_lt q r) (has_elements g q) ((row g q).stride == (row g r).stride) (lt-ltb q r less) has h))
    rows
    (each_passes
    (λ q. not (nat_lt q r && has_elements g q) || ((row g q).stride == (row g r).stride))
    rows
    (when_full (has_elements g r) _ _ full strided).1)

-- rows that are reached through one entry have one stride
pub one_stride : (g : Ground) (a : ℕ) (rows : List ℕ) (o : Option ℕ) → find (has_elements g) rows ≡ o → Each (λ r. is_strided g a rows r ≡ true) rows → Each (λ r. has_elements g r ≡ true → (row g r).stride ≡ stride_or g (extent g.leaves a) o) rows
one_stride g a rows None e strided =
    each_then
    (λ r. has_elements g r ≡ false)
    (λ r. has_elements g r ≡ true → (row g r).stride ≡ stride_or g (extent g.leaves a) None)
    (λ r none some. let f : ⊥ = cc in absurd f)
    rows
    (none_found (has_elements g) rows e)
one_stride g a rows (Some q) e strided =
    let below : Each (λ r. has_elements g r ≡ true → SameBelow g rows r) rows =
    each_then
    (λ r. is_strided g a rows r ≡ true)
    (λ r. has_elements g r ≡ true → SameBelow g rows r)
    (λ r h full. same_below g a rows r h full)
    rows
    strided
    in
    let found = each_found (λ r. has_elements g r ≡ true → SameBelow g rows r) (has_elements g) rows q below e in
    each_both
    (λ r. has_elements g r ≡ true → r < q → (row g r).stride ≡ (row g q).stride)
    (λ r. has_elements g r ≡ true → SameBelow g rows r)
    (λ r. has_elements g r ≡ true → (row g r).stride ≡ (row g q).stride)
    (λ r less more full.
    elim (cases_order r q) [
      | inl same ↦ ap (λ k. (row g k).stride) same
      | inr w ↦ elim w [
        | inl b ↦ less full b
        | inr b ↦ sym ((each_found (λ k. has_elements g k ≡ true → k < r → (row g k).stride ≡ (row g r).stride) (has_elements g) rows q (more full) e).0 found.1 b)
      ]
    ])
    rows
    (found.0 found.1)
    below
