-- The entries of shapes, one after another.
use Rattle.std.proofs.Common.{◌≡◌, ℕ, zero, suc, ◌+◌, ◌<◌, ◌≤◌, ◌^◌, Bool, true, false, All, List, [], ◌∷◌, ◌++◌, map, length, take, drop, replicate, nat_lt, slice_index_or, Result, Ok, Err, IfOk, OnOk, refl, sym, ap, subst, ◌∙◌, append_assoc, append-nil, drop_of_length-le, get_or-take, length-take, arith}
use Rattle.std.proofs.lemmas.Bool.Decides.{nat_tests}
use Rattle.std.proofs.lemmas.List.{drop_more, get_or_past, replicate_more}
use Rattle.nxt_types.specs.Shapes.{Shape, Void, Cluster, Members, member, members, count}
use Rattle.nxt_types.specs.declared.shape.TocEntry.{TocEntry}
use Rattle.nxt_model.specs.Assembled.{entry, leaf_sizes, leaves_sizes}
use Rattle.nxt_model.specs.TextProgram.{arrays_of, base_shape}
use Rattle.nxt_model.specs.declared.nbc.NbcBase.{NbcBase}
use Rattle.nxt_model.specs.declared.nbc.NbcBase.TheVariants as bases
use Rattle.nxt_model.specs.declared.nbc.NbcType.{NbcType}
use Rattle.nxt_asm_parts.specs.Measures.{measure_of}
use Rattle.nxt_asm_parts.specs.Places.{EntriesFit, after, after_all, array_entries, entries_among, entries_at, first_places, next_place, with_members, with_shape}
use Rattle.nxt_asm_parts.specs.declared.table.NextPlaces.{NextPlaces}
use Rattle.nxt_asm_parts.specs.declared.table.TableSoFar.{TableSoFar}

-- ---- entries that fit

pub fit_front : (xs ys : List TocEntry) → EntriesFit (xs ++ ys) → EntriesFit xs
fit_front [] ys fits = tt
fit_front (x ∷ xs) ys fits = (fits.0, fit_front xs ys fits.1)

pub fit_back : (xs ys : List TocEntry) → EntriesFit (xs ++ ys) → EntriesFit ys
fit_back [] ys fits = fits
fit_back (x ∷ xs) ys fits = fit_back xs ys fits.1

pub fit_all : (es : List TocEntry) → All (λ e. e.desc < 2 ^ 16) es → EntriesFit es
fit_all [] all = tt
fit_all (e ∷ es) all = (all 0 e (omega arith), fit_all es (λ k d under. all (suc k) d (omega arith)))

-- ---- results

pub on_ok : {T E : Type 0} {P Q : Type 0} (r : Result T E) → (P → Q) → OnOk r P → OnOk r Q
on_ok (Ok x) more is = more is
on_ok (Err e) more is = tt

pub if_ok : {T E : Type 0} {P Q : T → Type 0} (r : Result T E) → ((x : T) → P x → Q x) → IfOk r P → IfOk r Q
if_ok (Ok x) more is = more x is
if_ok (Err e) more is = tt

-- ---- arrays

-- one entry more, of an array in an element
pub inner_more : (begun now next : TableSoFar) (e : TocEntry) (n : ℕ) → now ≡ record begun { entries = begun.entries ++ replicate n e }
    → next ≡ record now { entries = now.entries ++ e ∷ [] } → next ≡ record begun { entries = begun.entries ++ replicate (n + 1) e }
inner_more begun now next e n before is =
    let with_entries : List TocEntry → TableSoFar = λ es. record begun { entries = es } in
    let one : TableSoFar → TableSoFar = λ t. record t { entries = t.entries ++ e ∷ [] } in
    is ∙ ap one before
    ∙ ap with_entries (append_assoc begun.entries (replicate n e) (e ∷ []) ∙ ap (λ l. begun.entries ++ l) (replicate_more n e))

pub arrays_entries : (n : ℕ) (s : Shape) (p : NextPlaces) → 0 < n → entries_at (arrays_of n s) p ≡ array_entries n p ++ entries_at s (first_places (measure_of s))
arrays_entries zero s p some = absurd (omega arith)
arrays_entries (suc zero) s p some = refl
arrays_entries (suc (suc n)) s p some =
    ap (λ l. array_entries 1 p ++ l) (arrays_entries (suc n) s (first_places (measure_of (arrays_of (suc n) s))) (omega arith))

pub array_place : (n : ℕ) (s : Shape) (p : NextPlaces) → 0 < n → EntriesFit (entries_at (arrays_of n s) p) → next_place p 2 < 2 ^ 16
array_place zero s p some fits = absurd (omega arith)
array_place (suc n) s p some fits = fits.0

array_behind : (n : ℕ) (s : Shape) (p : NextPlaces) → 0 < n → after p 2 ≡ after_all p (leaf_sizes (arrays_of n s))
array_behind zero s p some = absurd (omega arith)
array_behind (suc n) s p some = refl

pub element_fits : (n : ℕ) (s t : Shape) (p q : NextPlaces) → 0 < n → q ≡ first_places (measure_of t)
    → entries_at s (first_places (measure_of t)) ≡ entries_at s (first_places (measure_of s))
    → EntriesFit (entries_at (arrays_of n s) p) → EntriesFit (entries_at s q)
element_fits n s t p q some is same fits =
    subst EntriesFit (sym (ap (entries_at s) is ∙ same)) (fit_back (array_entries n p) (entries_at s (first_places (measure_of s))) (subst EntriesFit (arrays_entries n s p some) fits))

-- an array with what is in its elements
pub array_written : (n : ℕ) (s t : Shape) (begun opened closed : TableSoFar) (outside : NextPlaces) → 0 < n → outside ≡ after begun.next 2
    → opened ≡ record { entries = begun.entries ++ array_entries n begun.next; next = first_places (measure_of t) }
    → entries_at s (first_places (measure_of t)) ≡ entries_at s (first_places (measure_of s))
    → closed ≡ with_shape opened s
    → ◌≡◌ {A = TableSoFar} (record { entries = closed.entries; next = outside }) (with_shape begun (arrays_of n s))
array_written n s t begun opened closed outside some behind first same inner =
    let all : closed.entries ≡ begun.entries ++ entries_at (arrays_of n s) begun.next =
    ap (λ w. w.entries) inner
    ∙ ap (λ w. w.entries ++ entries_at s w.next) first
    ∙ ap (λ l. (begun.entries ++ array_entries n begun.next) ++ l) same
    ∙ append_assoc begun.entries (array_entries n begun.next) (entries_at s (first_places (measure_of s)))
    ∙ ap (λ l. begun.entries ++ l) (sym (arrays_entries n s begun.next some)) in
    let next : outside ≡ after_all begun.next (leaf_sizes (arrays_of n s)) = behind ∙ array_behind n s begun.next some in
    λ i. record { entries = all i; next = next i }

-- an element of which nothing is known has no leaves
pub base_element : (ss : List Shape) (first : ℕ) (base : NbcBase)
    → entries_at (base_shape (take first ss) base) (first_places (measure_of (base_shape ss base)))
    ≡ entries_at (base_shape (take first ss) base) (first_places (measure_of (base_shape (take first ss) base)))
base_element ss first (bases.Number k) = refl
base_element ss first bases.Mutex = refl
base_element ss first (bases.Struct i) = by (nat_lt i first) refl
  where
    by : (b : Bool) → nat_lt i first ≡ b
        → entries_at (slice_index_or (take first ss) i Void) (first_places (measure_of (slice_index_or ss i Void)))
        ≡ entries_at (slice_index_or (take first ss) i Void) (first_places (measure_of (slice_index_or (take first ss) i Void)))
    by true test =
        let under : i < first = grind (arith, nat_tests) in
        ap (λ s. entries_at (slice_index_or (take first ss) i Void) (first_places (measure_of s))) (sym (get_or-take first ss i Void under))
    by false test =
        let over : first ≤ i = grind (arith, nat_tests) in
        let short : length (take first ss) ≤ i = omega (arith, length-take first ss) in
        let none : slice_index_or (take first ss) i Void ≡ Void = get_or_past (take first ss) i Void short in
        ap (λ s. entries_at s (first_places (measure_of (slice_index_or ss i Void)))) none
        ∙ sym (ap (λ s. entries_at s (first_places (measure_of (slice_index_or (take first ss) i Void)))) none)

-- ---- members

pub count_members : (ss : List Shape) → count (members ss) ≡ length ss
count_members [] = refl
count_members (s ∷ ss) = omega (arith, count_members ss)

after_append : (p : NextPlaces) (xs ys : List ℕ) → after_all (after_all p xs) ys ≡ after_all p (xs ++ ys)
after_append p [] ys = refl
after_append p (x ∷ xs) ys = after_append (after p x) xs ys

with_more : (t : TableSoFar) (s : Shape) (ss : Members) → with_members (with_shape t s) ss ≡ with_members t (member s ss)
with_more t s ss =
    let entries = append_assoc t.entries (entries_at s t.next) (entries_among ss (after_all t.next (leaf_sizes s))) in
    let next = after_append t.next (leaf_sizes s) (leaves_sizes ss) in
    λ i. record { entries = entries i; next = next i }

-- what is left to be written, with one type less
pub rest_more : (shape : NbcType → Shape) (types : List NbcType) (i : ℕ) (d : NbcType) (now next all : TableSoFar) → i < length types
    → next ≡ with_shape now (shape (slice_index_or types i d)) → with_members now (members (map shape (drop i types))) ≡ all
    → with_members next (members (map shape (drop (i + 1) types))) ≡ all
rest_more shape types i d now next all under is before =
    let rest : List NbcType = drop (i + 1) types in
    ap (λ t. with_members t (members (map shape rest))) is
    ∙ with_more now (shape (slice_index_or types i d)) (members (map shape rest))
    ∙ ap (λ l. with_members now (members (map shape l))) (sym (drop_more types i d under))
    ∙ before

rest_fits : (shape : NbcType → Shape) (types : List NbcType) (i : ℕ) (d : NbcType) (p : NextPlaces) → i < length types
    → EntriesFit (entries_among (members (map shape (drop i types))) p)
    → EntriesFit (entries_at (shape (slice_index_or types i d)) p ++ entries_among (members (map shape (drop (i + 1) types))) (after_all p (leaf_sizes (shape (slice_index_or types i d)))))
rest_fits shape types i d p under fits = subst (λ l. EntriesFit (entries_among (members (map shape l)) p)) (drop_more types i d under) fits

pub first_fits : (shape : NbcType → Shape) (types : List NbcType) (i : ℕ) (d : NbcType) (p : NextPlaces) → i < length types
    → EntriesFit (entries_among (members (map shape (drop i types))) p) → EntriesFit (entries_at (shape (slice_index_or types i d)) p)
first_fits shape types i d p under fits =
    fit_front (entries_at (shape (slice_index_or types i d)) p) _ (rest_fits shape types i d p under fits)

pub others_fit : (shape : NbcType → Shape) (types : List NbcType) (i : ℕ) (d : NbcType) (now next : TableSoFar) → i < length types
    → next ≡ with_shape now (shape (slice_index_or types i d)) → EntriesFit (entries_among (members (map shape (drop i types))) now.next)
    → EntriesFit (entries_among (members (map shape (drop (i + 1) types))) next.next)
others_fit shape types i d now next under is fits =
    subst (λ t. EntriesFit (entries_among (members (map shape (drop (i + 1) types))) t.next)) (sym is)
    (fit_back (entries_at (shape (slice_index_or types i d)) now.next) _ (rest_fits shape types i d now.next under fits))

-- where nothing is left, all is written
pub rest_done : (shape : NbcType → Shape) (types : List NbcType) (i : ℕ) (now all : TableSoFar) → length types ≤ i
    → with_members now (members (map shape (drop i types))) ≡ all → now ≡ all
rest_done shape types i now all over before =
    let with_entries : List TocEntry → TableSoFar = λ es. record now { entries = es } in
    sym (ap with_entries (append-nil now.entries))
    ∙ ap (λ (l : List NbcType). with_members now (members (map shape l))) (sym (drop_of_length-le types over))
    ∙ before

-- a struct's own entry, and those of its members
pub struct_written : (ss : List Shape) (s : Shape) (begun opened closed : TableSoFar) (n : ℕ) → s ≡ Cluster (members ss) → n ≡ length ss
    → opened ≡ record begun { entries = begun.entries ++ entry 8 n ∷ [] } → closed ≡ with_members opened (members ss) → closed ≡ with_shape begun s
struct_written ss s begun opened closed n is many first inner =
    let own : n ≡ count (members ss) = many ∙ sym (count_members ss) in
    let opened_with : ℕ → TableSoFar = λ m. record begun { entries = begun.entries ++ entry 8 m ∷ [] } in
    let entries = append_assoc begun.entries (entry 8 (count (members ss)) ∷ []) (entries_among (members ss) begun.next) in
    let together : with_members (opened_with (count (members ss))) (members ss) ≡ with_shape begun (Cluster (members ss)) =
    λ i. record { entries = entries i; next = after_all begun.next (leaves_sizes (members ss)) } in
    inner
    ∙ ap (λ t. with_members t (members ss)) (first ∙ ap opened_with own)
    ∙ together
    ∙ ap (with_shape begun) (sym is)

pub many_fit : (ss : List Shape) (s : Shape) (p : NextPlaces) (n : ℕ) → s ≡ Cluster (members ss) → n ≡ length ss → EntriesFit (entries_at s p) → n < 2 ^ 16
many_fit ss s p n is many fits =
    let own : count (members ss) < 2 ^ 16 = (subst (λ t. EntriesFit (entries_at t p)) is fits).0 in
    omega (arith, count_members ss, many, own)
