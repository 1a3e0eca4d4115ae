-- Flat forms of what a file's memory reads as, element by element and member by member.
use Rattle.std.proofs.Common.{◌≡◌, ℕ, zero, suc, ◌+◌, ◌*◌, ◌<◌, ◌≤◌, List, [], ◌∷◌, ◌++◌, length, refl, sym, ap, ◌∙◌, subst, arith, append_assoc, append-nil, suc-mul}
use Rattle.std.specs.Prelude.{ℤ, pos}
use Rattle.nxt_types.specs.Bytes.{u16_at}
use Rattle.nxt_types.specs.Shapes.{Shape, Array, Members, no_members, member}
use Rattle.nxt_types.specs.Names.{size, sizes}
use Rattle.nxt_model.specs.Values.{Value, values, elements, list_of, flat, flats}
use Rattle.nxt_model.specs.Reading.{Memory, HeldList, EachReads, RowReads, Reads, MembersRead, dope_row, leaf_place}
use Rattle.nxt_model.proofs.Laws.Values.{items-values}

-- with the flat form of the one, that of all
abbrev pub Adds : List ℤ → List ℤ → (ℕ → Value → List HeldList → Type 0) → ℕ → Type 0
Adds old new reads base = (v : Value) (lists : List HeldList) → reads base v lists → new ≡ old ++ flat v

flats_next : (into : List ℤ) (v : Value) (vs : List Value) → (into ++ flat v) ++ flats (values vs) ≡ into ++ flats (values (v ∷ vs))
flats_next into v vs = append_assoc into (flat v) (flats (values vs))

-- ---- elements

-- of a list's elements the first k were added, and these are still to be added
pub record ElementsToAdd (reads : ℕ → Value → List HeldList → Type 0) (place stride count k : ℕ) (into whole : List ℤ) : Type 0 where
  pub vs : List Value
  pub lists : List HeldList
  pub many : k + length vs ≡ count
  pub read : EachReads reads (place + k * stride) stride vs lists
  pub both : into ++ flats (values vs) ≡ whole

-- the row's fields are those of the table, and row 0 has no elements
pub record IsRow (m : Memory) (number place stride count : ℕ) : Type 0 where
  pub none : number ≡ 0 → count ≡ 0
  pub place_is : 0 < number → place ≡ (dope_row m number).place
  pub stride_is : 0 < number → stride ≡ (dope_row m number).stride
  pub count_is : 0 < number → count ≡ (dope_row m number).count

flat_list : (v : Value) (count : ℕ) → v ≡ list_of (elements v) → count ≡ length (elements v) → flat v ≡ pos count ∷ flats (values (elements v))
flat_list v count is many =
    ap flat is ∙ ap (λ n. pos n ∷ flats (values (elements v))) (ap length (items-values (elements v)) ∙ sym many)

begun_with : (v : Value) (count : ℕ) (old : List ℤ) → v ≡ list_of (elements v) → count ≡ length (elements v) → (old ++ pos count ∷ []) ++ flats (values (elements v)) ≡ old ++ flat v
begun_with v count old is many =
    append_assoc old (pos count ∷ []) (flats (values (elements v))) ∙ ap (λ zs. old ++ zs) (sym (flat_list v count is many))

row_begun : (m : Memory) (reads : ℕ → Value → List HeldList → Type 0) (shape_stride number place stride count : ℕ) (v : Value) (lists : List HeldList) (old : List ℤ) → IsRow m number place stride count → v ≡ list_of (elements v) → RowReads m reads shape_stride number (elements v) lists → ElementsToAdd reads place stride count 0 (old ++ pos count ∷ []) (old ++ flat v)
row_begun m reads shape_stride zero place stride count v lists old row is read =
    let none : count ≡ 0 = row.none refl in
    let many : count ≡ length (elements v) = none ∙ sym (ap length read.0) in
    record {
      vs = [];
      lists = [];
      many = sym none;
      read = refl;
      both = ap (λ ws. (old ++ pos count ∷ []) ++ flats (values ws)) (sym read.0) ∙ begun_with v count old is many;
    }
row_begun m reads shape_stride (suc r) place stride count v lists old row is read =
    let some : 0 < suc r = omega arith in
    let many : count ≡ length (elements v) = row.count_is some ∙ read.3 in
    let at : (dope_row m (suc r)).place ≡ place + 0 * stride = sym (row.place_is some) ∙ omega arith in
    record {
      vs = elements v;
      lists = read.0;
      many = omega (arith, many);
      read =
          subst
          (λ p. EachReads reads p stride (elements v) read.0)
          at
          (subst (λ s. EachReads reads (dope_row m (suc r)).place s (elements v) read.0) (sym (row.stride_is some)) read.4);
      both = begun_with v count old is many;
    }

-- behind its length all elements of a list are to be added
pub elements_begin : (m : Memory) (s whole : Shape) (i base stride place number row_place row_stride count : ℕ) (old into : List ℤ) → whole ≡ Array stride s → place ≡ leaf_place m i base → number ≡ u16_at m.bytes place → IsRow m number row_place row_stride count → into ≡ old ++ pos count ∷ [] → (v : Value) (lists : List HeldList) → Reads m i whole base v lists → ElementsToAdd (Reads m (i + 1) s) row_place row_stride count 0 into (old ++ flat v)
elements_begin m s whole i base stride place number row_place row_stride count old into is p n row more v lists read =
    let there : Reads m i (Array stride s) base v lists = subst (λ w. Reads m i w base v lists) is read in
    let named : u16_at m.bytes (leaf_place m i base) ≡ number = sym (n ∙ ap (u16_at m.bytes) p) in
    subst
    (λ zs. ElementsToAdd (Reads m (i + 1) s) row_place row_stride count 0 zs (old ++ flat v))
    (sym more)
    (row_begun
    m
    (Reads m (i + 1) s)
    stride
    number
    row_place
    row_stride
    count
    v
    lists
    old
    row
    there.1
    (subst (λ q. RowReads m (Reads m (i + 1) s) stride q (elements v) lists) named there.2))

element_added : (reads : ℕ → Value → List HeldList → Type 0) (place stride count k : ℕ) (into new whole : List ℤ) (vs : List Value) (lists : List HeldList) → k < count → k + length vs ≡ count → EachReads reads (place + k * stride) stride vs lists → into ++ flats (values vs) ≡ whole → Adds into new reads (place + k * stride) → ElementsToAdd reads place stride count (k + 1) new whole
element_added reads place stride count k into new whole [] lists less many read both adds = absurd (omega (arith, less, many))
element_added reads place stride count k into new whole (v ∷ vs) lists less many read both adds =
    let at : (place + k * stride) + stride ≡ place + (k + 1) * stride = omega (arith, suc-mul k stride) in
    record {
      vs = vs;
      lists = read.1;
      many = omega (arith, many);
      read = subst (λ p. EachReads reads p stride vs read.1) at read.4;
      both = ap (λ zs. zs ++ flats (values vs)) (adds v read.0 read.3) ∙ flats_next into v vs ∙ both;
    }

-- one element more
pub elements_more : (reads : ℕ → Value → List HeldList → Type 0) (place stride count k : ℕ) (into new whole : List ℤ) → k < count → ElementsToAdd reads place stride count k into whole → Adds into new reads (place + k * stride) → ElementsToAdd reads place stride count (k + 1) new whole
elements_more reads place stride count k into new whole less left adds =
    element_added reads place stride count k into new whole left.vs left.lists less left.many left.read left.both adds

none_left : (k count : ℕ) (into whole : List ℤ) (vs : List Value) → k ≡ count → k + length vs ≡ count → into ++ flats (values vs) ≡ whole → into ≡ whole
none_left k count into whole [] end many both = sym (append-nil into) ∙ both
none_left k count into whole (v ∷ vs) end many both = absurd (omega (arith, end, many))

-- the last element was added
pub elements_end : (reads : ℕ → Value → List HeldList → Type 0) (place stride count k : ℕ) (into whole : List ℤ) → k ≡ count → ElementsToAdd reads place stride count k into whole → into ≡ whole
elements_end reads place stride count k into whole end left = none_left k count into whole left.vs end left.many left.both

-- ---- members

-- of a group's members these are still to be added
pub record MembersToAdd (m : Memory) (ss : Members) (entry base : ℕ) (into whole : List ℤ) : Type 0 where
  pub vs : List Value
  pub lists : List HeldList
  pub read : MembersRead m entry ss base vs lists
  pub both : into ++ flats (values vs) ≡ whole

-- the members that are still to be added take these entries
pub record MembersBehind (m : Memory) (all ss : Members) (first entry base : ℕ) (old into : List ℤ) : Type 0 where
  pub behind : first ≤ entry
  pub entries : entry + sizes ss ≡ first + sizes all
  pub added : (vs : List Value) (lists : List HeldList) → MembersRead m first all base vs lists → MembersToAdd m ss entry base into (old ++ flats (values vs))

pub members_begin : (m : Memory) (ss : Members) (entry base : ℕ) (old : List ℤ) → MembersBehind m ss ss entry entry base old old
members_begin m ss entry base old =
    record {
      behind = omega arith;
      entries = refl;
      added = λ vs lists read. record { vs = vs; lists = lists; read = read; both = refl };
    }

member_added : (m : Memory) (s : Shape) (ss : Members) (entry next base : ℕ) (into new whole : List ℤ) (vs : List Value) (lists : List HeldList) → next ≡ entry + size s → MembersRead m entry (member s ss) base vs lists → into ++ flats (values vs) ≡ whole → Adds into new (Reads m entry s) base → MembersToAdd m ss next base new whole
member_added m s ss entry next base into new whole [] lists on read both adds = absurd read
member_added m s ss entry next base into new whole (v ∷ vs) lists on read both adds =
    record {
      vs = vs;
      lists = read.1;
      read = subst (λ e. MembersRead m e ss base vs read.1) (sym on) read.4;
      both = ap (λ zs. zs ++ flats (values vs)) (adds v read.0 read.3) ∙ flats_next into v vs ∙ both;
    }

-- one member more
pub members_more : (m : Memory) (all : Members) (s : Shape) (ss : Members) (first entry next base : ℕ) (old into new : List ℤ) → next ≡ entry + size s → MembersBehind m all (member s ss) first entry base old into → Adds into new (Reads m entry s) base → MembersBehind m all ss first next base old new
members_more m all s ss first entry next base old into new on left adds =
    record {
      behind = omega (arith, left.behind, on);
      entries = omega (arith, left.entries, on);
      added =
          λ vs lists read.
          let more = left.added vs lists read in
          member_added m s ss entry next base into new (old ++ flats (values vs)) more.vs more.lists on more.read more.both adds;
    }

-- the last member was added
pub members_end : (m : Memory) (all : Members) (first entry base : ℕ) (old into : List ℤ) → MembersBehind m all no_members first entry base old into → (vs : List Value) (lists : List HeldList) → MembersRead m first all base vs lists → into ≡ old ++ flats (values vs)
members_end m all first entry base old into left vs lists read =
    let more = left.added vs lists read in
    sym (append-nil into) ∙ ap (λ ws. into ++ flats (values ws)) (sym more.read.0) ∙ more.both
