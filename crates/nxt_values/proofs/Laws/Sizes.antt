-- Sizes that are added up, member by member and element by element.
use Rattle.std.proofs.Common.{◌≡◌, ℕ, zero, suc, ◌+◌, ◌-◌, ◌*◌, ◌^◌, ◌<◌, ◌≤◌, true, List, [], ◌∷◌, map, drop, length, sum_by, refl, sym, ap, ap₂, ◌∙◌, subst, arith, suc-mul}
use Rattle.std.specs.Prelude.{ℤ, nat_abs}
use Rattle.std.proofs.Math.Seq.{drop-nil}
use Rattle.std.proofs.lemmas.List.{length-map}
use Rattle.std.proofs.lemmas.List.Sums.{sum_by-cons}
use Rattle.nxt_types.specs.Shapes.{Shape, Void, Number, Array, Cluster, Mutex, Members, member, is_number}
use Rattle.nxt_types.specs.declared.kind.Kind.{Kind}
use Rattle.nxt_types.specs.Names.{size, sizes}
use Rattle.nxt_types.specs.declared.shape.TocEntry.{TocEntry}
use Rattle.nxt_model.specs.Values.{Value, Values, ListOf, values, items, many, lists_among, value}
use Rattle.nxt_model.specs.Footprint.{list_bytes, member_bytes}
use Rattle.nxt_types.specs.Pool.{round4}
use Rattle.nxt_model.proofs.Laws.Values.{items-values}
use Rattle.nxt_facts.specs.Places.{places_from}
use Rattle.nxt_facts.proofs.Places.{length-places}
use Rattle.nxt_heap.specs.Lists.{Lists, bytes_at}
use Rattle.nxt_values.specs.Held.{value_at}
use Rattle.nxt_values.specs.Regions.{value_there, values_there}
use Rattle.nxt_values.specs.Ahead.{behind}
use Rattle.nxt_values.specs.Fills.{first_of, filled, all_filled}
use Rattle.nxt_values.specs.Sizes.{IsCountable, size_in, size_there, sizes_there, size_of_filled, size_of_all_filled}
use Rattle.nxt_values.specs.Elements.{AreElements, element_place}
use Rattle.nxt_values.specs.declared.elements.Elements.{Elements}
use Rattle.nxt_values.specs.declared.reading.Place.{Place}
use Rattle.nxt_values.specs.declared.sizing.Size.{Size}
use Rattle.nxt_values.proofs.Laws.Elements.{elements_value}
use Rattle.nxt_values.proofs.Laws.Members.{AreThere, others_there}
use Rattle.nxt_values.proofs.Laws.FilledElements.{items_many}

-- ---- parts of a whole

-- what was counted of the elements and what is left of them make up the list, with its own bytes
pub record Counted (s : Shape) (own : ℕ) (inner : Size) (left : Values) (whole : Size) : Type 0 where
  pub lists : inner.lists + lists_among left + 1 ≡ whole.lists
  pub bytes : own + inner.bytes + sum_by (list_bytes s) (items left) ≡ whole.bytes

-- what was counted of the members and what is left of them make up the group
pub record Parts (ss : Members) (sum : Size) (left : Values) (whole : Size) : Type 0 where
  pub lists : sum.lists + lists_among left ≡ whole.lists
  pub bytes : sum.bytes + member_bytes ss (items left) ≡ whole.bytes

-- their sum fits its type
pub record CanAdd (a b : Size) : Type 0 where
  pub lists : a.lists + b.lists < 2 ^ 64
  pub bytes : a.bytes + b.bytes < 2 ^ 64

abbrev pub both : Size → Size → Size
both a b = record { lists = a.lists + b.lists; bytes = a.bytes + b.bytes }

abbrev pub nothing : Size
nothing = record { lists = 0; bytes = 0 }

-- a list whose elements are all still to be counted
pub elements_begin : (s : Shape) (stride count : ℕ) (vs : Values) → length (items vs) ≡ count → Counted s (round4 (count * stride)) nothing vs (size_in (Array stride s) (ListOf vs))
elements_begin s stride count vs long =
    record { lists = omega arith; bytes = let e = ap (λ n. round4 (n * stride)) long in omega (arith, e) }

-- the next element is no greater than the list
pub element_countable : {s : Shape} {own : ℕ} {inner whole : Size} {v : Value} {vs : Values} → Counted s own inner (value v vs) whole → IsCountable whole → IsCountable (size_in s v)
element_countable {s} {own} {inner} {whole} {v} {vs} e small =
    record {
      lists = omega (arith, e.lists, small.lists);
      bytes = omega (arith, e.bytes, small.bytes, sum_by-cons (list_bytes s) v (items vs));
    }

pub element_adds : {s : Shape} {own : ℕ} {inner one whole : Size} {v : Value} {vs : Values} → Counted s own inner (value v vs) whole → IsCountable whole → one ≡ size_in s v → CanAdd inner one
element_adds {s} {own} {inner} {one} {whole} {v} {vs} e small is =
    subst
    (CanAdd inner)
    (sym is)
    (record {
      lists = omega (arith, e.lists, small.lists);
      bytes = omega (arith, e.bytes, small.bytes, sum_by-cons (list_bytes s) v (items vs));
    })

-- with it less is left
pub element_added : {s : Shape} {own : ℕ} {inner one more whole : Size} {v : Value} {vs : Values} → Counted s own inner (value v vs) whole → one ≡ size_in s v → more ≡ both inner one → Counted s own more vs whole
element_added {s} {own} {inner} {one} {more} {whole} {v} {vs} e is sum =
    subst
    (λ z. Counted s own z vs whole)
    (sym (sum ∙ ap (both inner) is))
    (record {
      lists = omega (arith, e.lists);
      bytes = omega (arith, e.bytes, sum_by-cons (list_bytes s) v (items vs));
    })

-- the next member is no greater than the group
pub member_countable : {s : Shape} {ss : Members} {sum whole : Size} {v : Value} {vs : Values} → Parts (member s ss) sum (value v vs) whole → IsCountable whole → IsCountable (size_in s v)
member_countable e small =
    record { lists = omega (arith, e.lists, small.lists); bytes = omega (arith, e.bytes, small.bytes) }

-- ---- values that stand in the heap

-- the members of a group are as great as it
pub group_countable : (table : List TocEntry) (h : Lists) (ss : Members) (whole : Shape) (at : Place) → whole ≡ Cluster ss → IsCountable (size_there table h whole at) → IsCountable (sizes_there table h ss (behind at 1))
group_countable table h ss whole at is small =
    let e : IsCountable (size_there table h (Cluster ss) at) = subst (λ w. IsCountable (size_there table h w at)) is small in
    record { lists = e.lists; bytes = e.bytes }

-- of a list's elements those from number k on are still to be counted
pub record ElementsHeld (table : List TocEntry) (h : Lists) (s : Shape) (e : Elements) (k : ℕ) (inner whole : Size) : Type 0 where
  pub elements : Counted s (round4 (e.count * e.stride)) inner (values (map (value_at table h s e.entry (bytes_at h e.row)) (places_from (k * e.stride) e.stride (e.count - k)))) whole

-- these members are still to be counted
pub record MembersHeld (table : List TocEntry) (h : Lists) (all : ℕ) (whole sum : Size) (ss : Members) (p : Place) : Type 0 where
  pub there : AreThere table h all ss p
  pub parts : Parts ss sum (values (values_there table h ss p)) whole

-- the first was counted
pub member_counted : {table : List TocEntry} {h : Lists} {all : ℕ} {whole sum one more : Size} {s : Shape} {ss : Members} {at : Place} → MembersHeld table h all whole sum (member s ss) at → one ≡ size_there table h s at → more ≡ both sum one → MembersHeld table h all whole more ss (behind at (size s))
member_counted {table} {h} {all} {whole} {sum} {one} {more} {s} {ss} {at} e is added =
    record {
      there = others_there e.there;
      parts = subst
          (λ z. Parts ss z (values (values_there table h ss (behind at (size s)))) whole)
          (sym (added ∙ ap (both sum) is))
          (record { lists = omega (arith, e.parts.lists); bytes = omega (arith, e.parts.bytes) });
    }

-- all elements of the list are still to be counted
pub held_begin : {table : List TocEntry} {h : Lists} {s whole : Shape} {stride : ℕ} {list : Place} {e : Elements} → AreElements table h stride list e → whole ≡ Array stride s → ElementsHeld table h s e 0 nothing (size_there table h whole list)
held_begin {table} {h} {s} {whole} {stride} {list} {e} all is =
    let value = value_at table h s e.entry (bytes_at h e.row) in
    let places = places_from 0 e.stride e.count in
    let vs = values (map value places) in
    let long : length (items vs) ≡ e.count = ap length (items-values (map value places)) ∙ length-map places value ∙ length-places 0 e.stride e.count in
    let first : 0 ≡ 0 * e.stride = omega arith in
    let last : e.count ≡ e.count - 0 = omega arith in
    let own = round4 (e.count * e.stride) in
    let same : size_in (Array e.stride s) (ListOf vs) ≡ size_there table h whole list =
    ap (λ v. size_in (Array e.stride s) v) (sym (elements_value all is))
    ∙ ap (λ n. size_in (Array n s) (value_there table h whole list)) (ap (λ (x : Elements). x.stride) all.is)
    ∙ ap (λ w. size_in w (value_there table h whole list)) (sym is) in
    record {
      elements = subst
          (λ ps. Counted s own nothing (values (map value ps)) (size_there table h whole list))
          (ap (places_from 0 e.stride) last ∙ ap (λ b. places_from b e.stride (e.count - 0)) first)
          (subst (Counted s own nothing vs) same (elements_begin s e.stride e.count vs long));
    }

-- the places of the elements from number k on
places_next : (stride k count : ℕ) → k < count → places_from (k * stride) stride (count - k) ≡ (k * stride) ∷ places_from ((k + 1) * stride) stride (count - (k + 1))
places_next stride k count less =
    let more : count - k ≡ suc (count - (k + 1)) = omega (arith, less) in
    let next : k * stride + stride ≡ (k + 1) * stride = let a : k + 1 ≡ suc k = omega arith in omega (arith, ap (λ n. n * stride) a, suc-mul k stride) in
    ap (places_from (k * stride) stride) more
    ∙ ap (λ b. (k * stride) ∷ places_from b stride (count - (k + 1))) next

-- the first of those that are left is element k
pub held_next : {table : List TocEntry} {h : Lists} {s : Shape} {e : Elements} {k : ℕ} {place : Place} {inner whole : Size} → k < e.count → place ≡ element_place e k → ElementsHeld table h s e k inner whole → Counted s (round4 (e.count * e.stride)) inner (value (value_there table h s place) (values (map (value_at table h s e.entry (bytes_at h e.row)) (places_from ((k + 1) * e.stride) e.stride (e.count - (k + 1)))))) whole
held_next {table} {h} {s} {e} {k} {place} {inner} {whole} less at left =
    let value_of = value_at table h s e.entry (bytes_at h e.row) in
    let others = values (map value_of (places_from ((k + 1) * e.stride) e.stride (e.count - (k + 1)))) in
    subst
    (λ p. Counted s (round4 (e.count * e.stride)) inner (value (value_there table h s p) others) whole)
    (sym at)
    (subst
    (λ ps. Counted s (round4 (e.count * e.stride)) inner (values (map value_of ps)) whole)
    (places_next e.stride k e.count less)
    left.elements)

-- ---- values that numbers begin with

-- the members of a group are as great as it
pub spelled_group_countable : (ss : Members) (whole : Shape) (zs : List ℤ) → whole ≡ Cluster ss → IsCountable (size_of_filled whole zs) → IsCountable (size_of_all_filled ss zs)
spelled_group_countable ss whole zs is small =
    let e : IsCountable (size_of_filled (Cluster ss) zs) = subst (λ w. IsCountable (size_of_filled w zs)) is small in
    record { lists = e.lists; bytes = e.bytes }

-- of so many elements those from number k on are still to be counted, which the numbers begin with
pub record ElementsSpelled (s : Shape) (stride count k : ℕ) (inner : Size) (left : List ℤ) (whole : Size) (rest : List ℤ) : Type 0 where
  pub elements : Counted s (round4 (count * stride)) inner (many (count - k) (filled s) left).0 whole
  pub others : (many (count - k) (filled s) left).1 ≡ rest

-- of the members that take so many entries these are still to be counted, which the numbers begin with
pub record MembersSpelled (all : ℕ) (ss : Members) (sum : Size) (left : List ℤ) (whole : Size) (rest : List ℤ) : Type 0 where
  pub entries : sizes ss ≤ all
  pub parts : Parts ss sum (all_filled ss left).0 whole
  pub others : (all_filled ss left).1 ≡ rest

-- all elements of the list that the numbers begin with are still to be counted
pub spelled_begin : (s whole : Shape) (stride count : ℕ) (zs left : List ℤ) → whole ≡ Array stride s → count ≡ nat_abs (first_of zs) → left ≡ drop 1 zs → ElementsSpelled s stride count 0 nothing left (size_of_filled whole zs) (filled whole zs).1
spelled_begin s whole stride count zs left is counted behind =
    let found = λ (n : ℕ). many n (filled s) (drop 1 zs) in
    let list = size_in (Array stride s) (ListOf (found count).0) in
    let all : count ≡ count - 0 = omega arith in
    subst
    (λ w. ElementsSpelled s stride count 0 nothing left (size_of_filled w zs) (filled w zs).1)
    (sym is)
    (subst
    (λ ys. ElementsSpelled s stride count 0 nothing ys (size_of_filled (Array stride s) zs) (filled (Array stride s) zs).1)
    (sym behind)
    (subst
    (λ n. ElementsSpelled s stride count 0 nothing (drop 1 zs) (size_in (Array stride s) (ListOf (found n).0)) (found n).1)
    counted
    (record {
      elements = subst (λ n. Counted s (round4 (count * stride)) nothing (found n).0 list) all (elements_begin s stride count (found count).0 (items_many (filled s) count (drop 1 zs)));
      others = ap (λ n. (found n).1) (sym all);
    })))

-- element k, and those behind it
pub record NextSpelled (s : Shape) (stride count k : ℕ) (inner : Size) (left : List ℤ) (whole : Size) (rest : List ℤ) : Type 0 where
  pub elements : Counted s (round4 (count * stride)) inner (value (filled s left).0 (many (count - (k + 1)) (filled s) (filled s left).1).0) whole
  pub others : (many (count - (k + 1)) (filled s) (filled s left).1).1 ≡ rest

pub spelled_next : {s : Shape} {stride count k : ℕ} {inner : Size} {left : List ℤ} {whole : Size} {rest : List ℤ} → k < count → ElementsSpelled s stride count k inner left whole rest → NextSpelled s stride count k inner left whole rest
spelled_next {s} {stride} {count} {k} {inner} {left} {whole} {rest} less e =
    let more : count - k ≡ suc (count - (k + 1)) = omega (arith, less) in
    record {
      elements = subst (λ n. Counted s (round4 (count * stride)) inner (many n (filled s) left).0 whole) more e.elements;
      others = subst (λ n. (many n (filled s) left).1 ≡ rest) more e.others;
    }

pub spelled_added : {s : Shape} {stride count k : ℕ} {inner one more : Size} {left next : List ℤ} {whole : Size} {rest : List ℤ} → NextSpelled s stride count k inner left whole rest → one ≡ size_of_filled s left → next ≡ (filled s left).1 → more ≡ both inner one → ElementsSpelled s stride count (k + 1) more next whole rest
spelled_added {s} {stride} {count} {k} {inner} {one} {more} {left} {next} {whole} {rest} e is behind sum =
    subst
    (λ zs. ElementsSpelled s stride count (k + 1) more zs whole rest)
    (sym behind)
    (record { elements = element_added e.elements is sum; others = e.others })

-- ---- numbers

abbrev pub IsNumber : Shape → Type 0
IsNumber s = (k : Kind) × (s ≡ Number k)

number_is : (s : Shape) → is_number s ≡ true → IsNumber s
number_is Void e = let f : ⊥ = cc in absurd f
number_is (Number k) e = (k, refl)
number_is (Array stride s) e = let f : ⊥ = cc in absurd f
number_is (Cluster ss) e = let f : ⊥ = cc in absurd f
number_is Mutex e = let f : ⊥ = cc in absurd f

-- no list stands in them
no_bytes : (k : Kind) (vs : List Value) → sum_by (list_bytes (Number k)) vs ≡ 0
no_bytes k [] = refl
no_bytes k (v ∷ vs) = omega (arith, sum_by-cons (list_bytes (Number k)) v vs, no_bytes k vs)

no_lists_held : (table : List TocEntry) (h : Lists) (k : Kind) (i : ℕ) (bytes ps : List ℕ) → lists_among (values (map (value_at table h (Number k) i bytes) ps)) ≡ 0
no_lists_held table h k i bytes [] = refl
no_lists_held table h k i bytes (p ∷ ps) = omega (arith, no_lists_held table h k i bytes ps)

no_lists_spelled : (k : Kind) (n : ℕ) (zs : List ℤ) → lists_among (many n (filled (Number k)) zs).0 ≡ 0
no_lists_spelled k zero zs = refl
no_lists_spelled k (suc n) zs = omega (arith, no_lists_spelled k n (drop 1 zs))

-- so many of them, and those behind
numbers_behind : (k : Kind) (n : ℕ) (zs : List ℤ) → (many n (filled (Number k)) zs).1 ≡ drop n zs
numbers_behind k zero zs = refl
numbers_behind k (suc n) [] = numbers_behind k n [] ∙ drop-nil n ∙ sym (drop-nil (suc n))
numbers_behind k (suc n) (z ∷ zs) = numbers_behind k n zs

own_size : {s : Shape} {own : ℕ} {vs : Values} {whole : Size} → Counted s own nothing vs whole → lists_among vs ≡ 0 → sum_by (list_bytes s) (items vs) ≡ 0 → record { lists = 0 + 1; bytes = own + 0 } ≡ whole
own_size {s} {own} {vs} {whole} e none empty =
    let lists : 0 + 1 ≡ whole.lists = omega (arith, e.lists, none) in
    let bytes : own + 0 ≡ whole.bytes = omega (arith, e.bytes, empty) in
    ap₂ (λ l b. record { lists = l; bytes = b }) lists bytes

-- a list of numbers is as great as itself alone
pub numbers_held : {table : List TocEntry} {h : Lists} {s : Shape} {e : Elements} {whole : Size} → is_number s ≡ true → ElementsHeld table h s e 0 nothing whole → record { lists = 0 + 1; bytes = round4 (e.count * e.stride) + 0 } ≡ whole
numbers_held {table} {h} {s} {e} {whole} numbers all =
    let is = number_is s numbers in
    let left : ElementsHeld table h (Number is.0) e 0 nothing whole = subst (λ w. ElementsHeld table h w e 0 nothing whole) is.1 all in
    let places = places_from (0 * e.stride) e.stride (e.count - 0) in
    own_size
    left.elements
    (no_lists_held table h is.0 e.entry (bytes_at h e.row) places)
    (no_bytes is.0 (items (values (map (value_at table h (Number is.0) e.entry (bytes_at h e.row)) places))))

-- and takes as many numbers as it has elements
pub record NumbersSpelled (own count : ℕ) (left : List ℤ) (whole : Size) (rest : List ℤ) : Type 0 where
  pub size : record { lists = 0 + 1; bytes = own + 0 } ≡ whole
  pub others : drop count left ≡ rest

pub numbers_spelled : {s : Shape} {stride count : ℕ} {left : List ℤ} {whole : Size} {rest : List ℤ} → is_number s ≡ true → ElementsSpelled s stride count 0 nothing left whole rest → NumbersSpelled (round4 (count * stride)) count left whole rest
numbers_spelled {s} {stride} {count} {left} {whole} {rest} numbers all =
    let is = number_is s numbers in
    let e : ElementsSpelled (Number is.0) stride count 0 nothing left whole rest = subst (λ w. ElementsSpelled w stride count 0 nothing left whole rest) is.1 all in
    let n : count ≡ count - 0 = omega arith in
    record {
      size = own_size e.elements (no_lists_spelled is.0 (count - 0) left) (no_bytes is.0 (items (many (count - 0) (filled (Number is.0)) left).0));
      others = ap (λ m. drop m left) n ∙ sym (numbers_behind is.0 (count - 0) left) ∙ e.others;
    }
