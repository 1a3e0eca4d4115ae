-- The first row with elements, and the first one with another stride, tell which rows are read.
use Rattle.std.proofs.Common.{◌≡◌, ℕ, ◌≤◌, ◌<◌, Bool, true, false, cond, ◌&&◌, ◌||◌, not, ◌==◌, nat_lt, nat_le, min, List, [], ◌∷◌, ◌++◌, filter, Option, Some, None, ⊎_elim, refl, sym, ap, ap₂, ◌∙◌, subst, arith, true≢false, eq-eqb, eqb-true, leb-true, leb-false, lt-ltb, ltb-true}
use Rattle.std.specs.List.{list_all, list_any}
use Rattle.std.proofs.lemmas.Bool.{cases_lt, and_from, and_parts, or_left, or_right, false_from_ne_true}
use Rattle.std.proofs.lemmas.Map.Views.{any-filter_same}
use Rattle.nxt_table.specs.Inside.Owners.{least_of}
use Rattle.nxt_layout.specs.Rows.{Ground, row, has_elements, stride_or, is_placed, is_strided_by, read_by}
use Rattle.nxt_layout.specs.Inside.RowPasses.{least, lead_of, is_odd, odd_of, is_from, is_even}
use Rattle.nxt_facts.proofs.Each.{Each, each_then, each_passes, passes_each}
use Rattle.nxt_facts.proofs.Sums.{is_it}

-- ---- the lesser of two

pub least_of-none : (a : Option ℕ) → least_of a None ≡ a
least_of-none None = refl
least_of-none (Some a) = refl

pub least_of_assoc : (a b c : Option ℕ) → least_of (least_of a b) c ≡ least_of a (least_of b c)
least_of_assoc None b c = refl
least_of_assoc (Some a) None c = refl
least_of_assoc (Some a) (Some b) None = refl
least_of_assoc (Some a) (Some b) (Some c) = let e : min (min a b) c ≡ min a (min b c) = omega arith in ap Some e

-- ---- the least of a list

pub least-append : (xs ys : List ℕ) → least (xs ++ ys) ≡ least_of (least xs) (least ys)
least-append [] ys = refl
least-append (x ∷ xs) ys = ap (least_of (Some x)) (least-append xs ys) ∙ sym (least_of_assoc (Some x) (least xs) (least ys))

pub least_none : (xs : List ℕ) → least xs ≡ None → xs ≡ []
least_none [] e = refl
least_none (x ∷ xs) e = absurd (at (least xs) refl)
  where
    at : (o : Option ℕ) → least xs ≡ o → ⊥
    at None f = let s : Some x ≡ None = sym (ap (least_of (Some x)) f) ∙ e in cc
    at (Some k) f = let s : Some (min x k) ≡ None = sym (ap (least_of (Some x)) f) ∙ e in cc

pub least_each : (xs : List ℕ) (m : ℕ) → least xs ≡ Some m → Each (λ x. m ≤ x) xs
least_each [] m e = tt
least_each (x ∷ xs) m e = at (least xs) refl (least_each xs)
  where
    at : (o : Option ℕ) → least xs ≡ o → ((k : ℕ) → least xs ≡ Some k → Each (λ y. k ≤ y) xs) → Each (λ y. m ≤ y) (x ∷ xs)
    at None f ih =
        let s : Some x ≡ Some m = sym (ap (least_of (Some x)) f) ∙ e in
        let same : x ≡ m = cc in
        (omega (arith, same), subst (Each (λ y. m ≤ y)) (sym (least_none xs f)) tt)
    at (Some k) f ih =
        let s : Some (min x k) ≡ Some m = sym (ap (least_of (Some x)) f) ∙ e in
        let same : min x k ≡ m = cc in
        (omega (arith, same), each_then (λ y. k ≤ y) (λ y. m ≤ y) (λ y h. omega (arith, h, same)) xs (ih k f))

-- ---- elements of a list of numbers

pub each_among : (P : ℕ → Type 0) (xs : List ℕ) (r : ℕ) → Each P xs → list_any (λ q. q == r) xs ≡ true → P r
each_among P [] r e h = absurd (true≢false (sym h))
each_among P (x ∷ xs) r e h = at (x == r) refl (each_among P xs r e.1)
  where
    at : (b : Bool) → (x == r) ≡ b → (list_any (λ q. q == r) xs ≡ true → P r) → P r
    at true f ih = subst P (eqb-true x r f) e.0
    at false f ih = ih (sym (ap (λ b. b || list_any (λ q. q == r) xs) f) ∙ h)

pub each_from_among : (P : ℕ → Type 0) (xs : List ℕ) → ((r : ℕ) → list_any (λ q. q == r) xs ≡ true → P r) → Each P xs
each_from_among P [] h = tt
each_from_among P (x ∷ xs) h = (
  h x (or_left (x == x) (list_any (λ q. q == x) xs) (eq-eqb x x refl)),
  each_from_among P xs (λ r e. h r (or_right (x == r) (list_any (λ q. q == r) xs) e)),
)

pub least_below : (xs : List ℕ) (m x : ℕ) → least xs ≡ Some m → list_any (λ q. q == x) xs ≡ true → m ≤ x
least_below xs m x e h = each_among (λ y. m ≤ y) xs x (least_each xs m e) h

pub least_among : (xs : List ℕ) (m : ℕ) → least xs ≡ Some m → list_any (λ q. q == m) xs ≡ true
least_among [] m e = cc
least_among (x ∷ xs) m e = at (least xs) refl (least_among xs)
  where
    here : x ≡ m → list_any (λ q. q == m) (x ∷ xs) ≡ true
    here same = or_left (x == m) (list_any (λ q. q == m) xs) (eq-eqb x m same)

    at : (o : Option ℕ) → least xs ≡ o → ((k : ℕ) → least xs ≡ Some k → list_any (λ q. q == k) xs ≡ true) → list_any (λ q. q == m) (x ∷ xs) ≡ true
    at None f ih = let s : Some x ≡ Some m = sym (ap (least_of (Some x)) f) ∙ e in here cc
    at (Some k) f ih =
        let s : Some (min x k) ≡ Some m = sym (ap (least_of (Some x)) f) ∙ e in
        let same : min x k ≡ m = cc in
        ⊎_elim
        (λ (less : x < k). here (omega (arith, same, less)))
        (λ (more : k ≤ x).
        let later : k ≡ m = omega (arith, same, more) in
        or_right (x == m) (list_any (λ q. q == m) xs) (subst (λ n. list_any (λ q. q == n) xs ≡ true) later (ih k f)))
        (cases_lt x k)

-- where x is among them there is a least, at most x
pub least_found : (xs : List ℕ) (x : ℕ) → list_any (λ q. q == x) xs ≡ true → (m : ℕ) × (least xs ≡ Some m) × (m ≤ x)
least_found xs x h = at (least xs) refl
  where
    at : (o : Option ℕ) → least xs ≡ o → (m : ℕ) × (least xs ≡ Some m) × (m ≤ x)
    at None f = absurd (true≢false (sym h ∙ ap (list_any (is_it x)) (least_none xs f)))
    at (Some m) f = (m, f, least_below xs m x f h)

-- ---- those of a list that pass a test

pub filter_same : {X : Type 0} (p q : X → Bool) (xs : List X) → Each (λ x. p x ≡ q x) xs → filter p xs ≡ filter q xs
filter_same p q [] e = refl
filter_same p q (x ∷ xs) e = ap₂ (λ b ys. cond b (x ∷ ys) ys) e.0 (filter_same p q xs e.1)

among_filter : (p : ℕ → Bool) (xs : List ℕ) (r : ℕ) → list_any (is_it r) (filter p xs) ≡ (p r && list_any (is_it r) xs)
among_filter p xs r = any-filter_same (is_it r) p (p r) (λ k h. ap p (eqb-true k r h)) xs

-- the least that passes, where r passes
pub least_kept : (p : ℕ → Bool) (xs : List ℕ) (r : ℕ) → list_any (λ q. q == r) xs ≡ true → p r ≡ true → (m : ℕ) × (least (filter p xs) ≡ Some m) × (m ≤ r)
least_kept p xs r among pass =
    least_found (filter p xs) r (among_filter p xs r ∙ and_from (p r) (list_any (is_it r) xs) pass among)

pub least_keeps : (p : ℕ → Bool) (xs : List ℕ) (m : ℕ) → least (filter p xs) ≡ Some m → (p m ≡ true) × (list_any (λ q. q == m) xs ≡ true)
least_keeps p xs m e =
    and_parts (p m) (list_any (is_it m) xs) (sym (among_filter p xs m) ∙ least_among (filter p xs) m e)

-- ---- strides

-- the stride of the first row that has elements
abbrev pub lead_stride : Ground → List ℕ → ℕ
lead_stride g rows = stride_or g 0 (lead_of g rows)

-- if it has elements and is before r, it has the stride of r
abbrev is_like : Ground → ℕ → ℕ → Bool
is_like g r q = not (nat_lt q r && has_elements g q) || ((row g q).stride == (row g r).stride)

-- each row that has elements has the stride of the first, up to the first odd one
pub before_odd : (g : Ground) (rows : List ℕ) (r q : ℕ) → is_from (odd_of g rows) r ≡ false → list_any (λ x. x == q) rows ≡ true → has_elements g q ≡ true → q ≤ r → (row g q).stride ≡ lead_stride g rows
before_odd g rows r q before among has less = at ((row g q).stride == lead_stride g rows) refl
  where
    at : (b : Bool) → ((row g q).stride == lead_stride g rows) ≡ b → (row g q).stride ≡ lead_stride g rows
    at true f = eqb-true (row g q).stride (lead_stride g rows) f
    at false f =
        let odd : is_odd g (lead_stride g rows) q ≡ true = and_from (has_elements g q) (not ((row g q).stride == lead_stride g rows)) has (ap not f) in
        let first = least_kept (is_odd g (lead_stride g rows)) rows q among odd in
        let late : is_from (Some first.0) r ≡ false = sym (ap (λ o. is_from o r) first.1) ∙ before in
        absurd (omega (arith, leb-false first.0 r late, first.2, less))

pub like_one : (less has same : Bool) → less ≡ true → has ≡ true → (not (less && has) || same) ≡ true → same ≡ true
like_one true true same a b h = h
like_one true false same a b h = absurd (true≢false (sym b))
like_one false has same a b h = absurd (true≢false (sym a))

-- where each lesser row has the stride of r
same_before : (g : Ground) (rows : List ℕ) (r q : ℕ) → list_all (is_like g r) rows ≡ true → list_any (is_it q) rows ≡ true → has_elements g q ≡ true → q ≤ r → (row g q).stride ≡ (row g r).stride
same_before g rows r q all among has less =
    ⊎_elim
    (λ (before : q < r).
    eqb-true
    (row g q).stride
    (row g r).stride
    (like_one
    (nat_lt q r)
    (has_elements g q)
    ((row g q).stride == (row g r).stride)
    (lt-ltb q r before)
    has
    (each_among (λ x. is_like g r x ≡ true) rows q (each_passes (is_like g r) rows all) among)))
    (λ (from : r ≤ q). let same : q ≡ r = omega (arith, less, from) in ap (λ n. (row g n).stride) same)
    (cases_lt q r)

-- from the first odd row on, one that has elements differs from a lesser one
odd_differs : (g : Ground) (rows : List ℕ) (r : ℕ) → is_from (odd_of g rows) r ≡ true → list_any (is_it r) rows ≡ true → has_elements g r ≡ true → list_all (is_like g r) rows ≡ true → ⊥
odd_differs g rows r from among has all = at (odd_of g rows) refl
  where
    at : (o : Option ℕ) → odd_of g rows ≡ o → ⊥
    at None f = true≢false (sym from ∙ ap (λ o. is_from o r) f)
    at (Some k) f =
        let reach : nat_le k r ≡ true = sym (ap (λ o. is_from o r) f) ∙ from in
        let odd = least_keeps (is_odd g (lead_stride g rows)) rows k f in
        let parts = and_parts (has_elements g k) (not ((row g k).stride == lead_stride g rows)) odd.0 in
        let lead = least_kept (has_elements g) rows r among has in
        let full = least_keeps (has_elements g) rows lead.0 lead.1 in
        let one : (row g k).stride ≡ (row g r).stride = same_before g rows r k all odd.1 parts.0 (leb-true k r reach) in
        let two : (row g lead.0).stride ≡ (row g r).stride = same_before g rows r lead.0 all full.1 full.0 lead.2 in
        let three : lead_stride g rows ≡ (row g lead.0).stride = ap (stride_or g 0) lead.1 in
        let same : ((row g k).stride == lead_stride g rows) ≡ true = eq-eqb (row g k).stride (lead_stride g rows) (one ∙ sym two ∙ sym three) in
        true≢false (sym parts.1 ∙ ap not same)

-- ---- the rows that are read

pub even_is_strided : (g : Ground) (bytes : ℕ) (rows : List ℕ) (r : ℕ) → list_any (λ q. q == r) rows ≡ true → is_even g bytes (odd_of g rows) r ≡ is_strided_by g bytes rows r
even_is_strided g bytes rows r among = at (has_elements g r) refl
  where
    alike : has_elements g r ≡ true → (b : Bool) → is_from (odd_of g rows) r ≡ b → not (is_from (odd_of g rows) r) ≡ list_all (is_like g r) rows
    alike has true f =
        ap not f
        ∙ sym (false_from_ne_true (list_all (is_like g r) rows) (λ all. odd_differs g rows r f among has all))
    alike has false f = ap not f ∙ sym (passes_each (is_like g r) rows (each_from_among (λ q. is_like g r q ≡ true) rows like))
      where
        like : (q : ℕ) → list_any (λ x. x == q) rows ≡ true → is_like g r q ≡ true
        like q h = by (nat_lt q r) refl (has_elements g q) refl
          where
            by : (b : Bool) → nat_lt q r ≡ b → (c : Bool) → has_elements g q ≡ c → is_like g r q ≡ true
            by false x c y = ap (λ b. not (b && has_elements g q) || ((row g q).stride == (row g r).stride)) x
            by true x false y =
                ap₂ (λ b c. not (b && c) || ((row g q).stride == (row g r).stride)) x y
            by true x true y =
                let less : q < r = ltb-true q r x in
                let one = before_odd g rows r q f h y (omega (arith, less)) in
                let two = before_odd g rows r r f among has (omega arith) in
                or_right (not (nat_lt q r && has_elements g q)) ((row g q).stride == (row g r).stride) (eq-eqb (row g q).stride (row g r).stride (one ∙ sym two))

    at : (b : Bool) → has_elements g r ≡ b → is_even g bytes (odd_of g rows) r ≡ is_strided_by g bytes rows r
    at false e =
        ap (λ b. not b || (nat_le bytes (row g r).stride && not (is_from (odd_of g rows) r))) e
        ∙ sym (ap (λ b. not b || (nat_le bytes (row g r).stride && list_all (is_like g r) rows)) e)
    at true e =
        ap
        (λ b. not (has_elements g r) || (nat_le bytes (row g r).stride && b))
        (alike e (is_from (odd_of g rows) r) refl)

pub read_evenly : (g : Ground) (bytes : ℕ) (rows : List ℕ) → filter (λ r. is_placed g r && is_even g bytes (odd_of g rows) r) rows ≡ read_by g bytes rows
read_evenly g bytes rows =
    filter_same
    (λ r. is_placed g r && is_even g bytes (odd_of g rows) r)
    (λ r. is_placed g r && is_strided_by g bytes rows r)
    rows
    (each_from_among
    (λ r. (is_placed g r && is_even g bytes (odd_of g rows) r) ≡ (is_placed g r && is_strided_by g bytes rows r))
    rows
    (λ r h. ap (λ b. is_placed g r && b) (even_is_strided g bytes rows r h)))

pub missed_evenly : (g : Ground) (bytes : ℕ) (rows : List ℕ) → filter (λ r. not (is_even g bytes (odd_of g rows) r)) rows ≡ filter (λ r. not (is_strided_by g bytes rows r)) rows
missed_evenly g bytes rows =
    filter_same
    (λ r. not (is_even g bytes (odd_of g rows) r))
    (λ r. not (is_strided_by g bytes rows r))
    rows
    (each_from_among
    (λ r. not (is_even g bytes (odd_of g rows) r) ≡ not (is_strided_by g bytes rows r))
    rows
    (λ r h. ap not (even_is_strided g bytes rows r h)))
