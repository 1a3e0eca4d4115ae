-- A part of the variables is stored, and the others stay.
use Rattle.std.proofs.Common.{◌≡◌, ◌≢◌, ℕ, ◌+◌, ◌⊎◌, inl, inr, List, [], ◌∷◌, ◌++◌, take, drop, length, refl, sym, ap, ap₂, ◌∙◌, subst, arith, append_assoc, append-nil}
use Rattle.std.specs.Prelude.{ℤ}
use Rattle.nxt_types.specs.Shapes.{Shape, Void, Number, Array, Cluster, Mutex, Members, no_members, member}
use Rattle.nxt_types.specs.Names.{size}
use Rattle.nxt_types.specs.declared.shape.TocEntry.{TocEntry}
use Rattle.nxt_model.specs.Values.{Value, group_of}
use Rattle.nxt_facts.proofs.Each.{Each, each_then, each_apart}
use Rattle.nxt_heap.specs.Lists.{Lists}
use Rattle.nxt_values.specs.Held.{value_at, values_among, rows_at, rows_among, Holds, HoldAll}
use Rattle.nxt_values.specs.Regions.{bytes_in, IsRegion}
use Rattle.nxt_model.specs.Spans.{Span, spans, spans_among, IsApart, AreApart}
use Rattle.nxt_values.specs.Writes.{without, IsOther, AreOwn}
use Rattle.nxt_values.specs.Fills.{IsBeside, Fills}
use Rattle.nxt_values.specs.declared.reading.Region.{Region}
use Rattle.nxt_facts.proofs.Pairs.{Across, pair_parts, turned}
use Rattle.nxt_values.proofs.Hold.Frames.{IsSame, AllStay, Stays, members_stay}
use Rattle.nxt_values.proofs.Laws.HeldRows.{all_alive}
use Rattle.nxt_values.proofs.Store.Others.{lists_stay, beside_stays}
use Rattle.nxt_values.proofs.Laws.Without.{Differ, region_kept}

-- ---- parts

abbrev pub IsIt : Shape → ℕ → Shape → ℕ → Type 0
IsIt whole i s j = (whole ≡ s) × (i ≡ j)

-- the shape s with the entries from j on is that of entry i, or stands in it outside of its arrays' elements
abbrev mutual
  pub StandsIn : Shape → ℕ → Shape → ℕ → Type 0
  StandsIn (Cluster ss) i s j = IsIt (Cluster ss) i s j ⊎ StandsAmong ss (i + 1) s j
  StandsIn Void i s j = IsIt Void i s j
  StandsIn (Number k) i s j = IsIt (Number k) i s j
  StandsIn (Array n t) i s j = IsIt (Array n t) i s j
  StandsIn Mutex i s j = IsIt Mutex i s j

  pub StandsAmong : Members → ℕ → Shape → ℕ → Type 0
  StandsAmong no_members i s j = ⊥
  StandsAmong (member t ts) i s j = StandsIn t i s j ⊎ StandsAmong ts (i + size t) s j

-- the values there with another one for the part
abbrev mutual
  pub with_value : List TocEntry → Lists → Region → ℕ → (s : Shape) (j : ℕ) (whole : Shape) (i : ℕ) → StandsIn whole i s j → Value → Value
  with_value table h region base s j (Cluster ss) i (inl is) v = v
  with_value table h region base s j (Cluster ss) i (inr is) v = group_of (with_value_among table h region base s j ss (i + 1) is v)
  with_value table h region base s j Void i is v = v
  with_value table h region base s j (Number k) i is v = v
  with_value table h region base s j (Array n t) i is v = v
  with_value table h region base s j Mutex i is v = v

  pub with_value_among : List TocEntry → Lists → Region → ℕ → (s : Shape) (j : ℕ) (ss : Members) (i : ℕ) → StandsAmong ss i s j → Value → List Value
  with_value_among table h region base s j no_members i is v = []
  with_value_among table h region base s j (member t ts) i (inl is) v =
      with_value table h region base s j t i is v ∷ values_among table h ts (i + size t) (bytes_in h region) base
  with_value_among table h region base s j (member t ts) i (inr is) v =
      value_at table h t i (bytes_in h region) base ∷ with_value_among table h region base s j ts (i + size t) is v

-- ---- what is stored

abbrev pub gone_rows : List TocEntry → Lists → Region → ℕ → Shape → ℕ → List ℕ
gone_rows table h region base s j = rows_at table h s j (bytes_in h region) base

-- the value at entry j is freed and filled
pub record IsStored (table : List TocEntry) (h g : Lists) (region : Region) (base : ℕ) (s : Shape) (j : ℕ) (zs rest : List ℤ) : Type 0 where
  pub there : IsRegion h region
  pub other : Each (IsOther region) (gone_rows table h region base s j)
  pub fills : Fills table (without h (gone_rows table h region base s j)) g s j region base zs rest

abbrev pub part_value : List TocEntry → Lists → Region → ℕ → Shape → ℕ → Value
part_value table h region base s j = value_at table h s j (bytes_in h region) base

-- in these rows and values those of the part are others now, and all others are the same
pub record Replaced (table : List TocEntry) (h g : Lists) (region : Region) (base : ℕ) (s : Shape) (j : ℕ) (ps : List Span) (old new : List ℕ) {V : Type 0} (was is : V) (context : Value → V) : Type 0 where
  pub value_was : was ≡ context (part_value table h region base s j)
  pub value_is : is ≡ context (part_value table g region base s j)
  pub before : List ℕ
  pub after : List ℕ
  pub had : old ≡ before ++ (gone_rows table h region base s j ++ after)
  pub has : new ≡ before ++ (gone_rows table g region base s j ++ after)
  pub inside : (others : List Span) → Across IsApart ps others → Across IsApart (spans table s j) others
  pub around : (others : List Span) → Across IsApart others ps → Across IsApart others (spans table s j)

behind_part : (base : ℕ) (p q : Span) → IsApart p q → IsBeside base base q p
behind_part base p q (inl e) = inl (omega (arith, e))
behind_part base p q (inr e) = inr (omega (arith, e))

before_part : (base : ℕ) (p q : Span) → IsApart q p → IsBeside base base q p
before_part base p q (inl e) = inr (omega (arith, e))
before_part base p q (inr e) = inl (omega (arith, e))

-- the members behind the part
rest_stays : (table : List TocEntry) (h g : Lists) (region : Region) (base : ℕ) (s : Shape) (j : ℕ) (zs rest : List ℤ) (ts : Members) (k : ℕ) → IsStored table h g region base s j zs rest → HoldAll table h ts k (bytes_in h region) base → Across IsApart (spans table s j) (spans_among table ts k) → Across Differ (gone_rows table h region base s j) (rows_among table h ts k (bytes_in h region) base) → Each (IsOther region) (rows_among table h ts k (bytes_in h region) base) → AllStay table h g ts k (bytes_in h region) (bytes_in g region) base
rest_stays table h g region base s j zs rest ts k e holds apart differ other =
    let old = bytes_in h region in
    let gone = gone_rows table h region base s j in
    let grows = e.fills.grows in
    let kept = region_kept h gone region e.there e.other in
    let rows = rows_among table h ts k old base in
    members_stay
    table
    h
    g
    ts
    k
    old
    (bytes_in g region)
    base
    (each_then
    (λ q. Each (λ p. IsApart p q) (spans table s j))
    (IsSame old (bytes_in g region) base)
    (λ q all.
    grows.beside q base (each_then (λ p. IsApart p q) (IsBeside base base q) (λ p a. behind_part base p q a) (spans table s j) all)
    ∙ ap (λ bytes. take q.width (drop (base + q.place) bytes)) kept.bytes)
    (spans_among table ts k)
    (turned IsApart (spans table s j) (spans_among table ts k) apart))
    (lists_stay h g region base (spans table s j) gone (gone_rows table g region base s j) rows grows (all_alive table h ts k old base holds) differ other)
    (omega (arith, grows.long, ap length kept.bytes))

-- a member before the part
first_stays : (table : List TocEntry) (h g : Lists) (region : Region) (base : ℕ) (s : Shape) (j : ℕ) (zs rest : List ℤ) (t : Shape) (k : ℕ) → IsStored table h g region base s j zs rest → Holds table h t k (bytes_in h region) base → Across IsApart (spans table t k) (spans table s j) → Across Differ (gone_rows table h region base s j) (rows_at table h t k (bytes_in h region) base) → Each (IsOther region) (rows_at table h t k (bytes_in h region) base) → Stays table h g t k (bytes_in h region) (bytes_in g region) base
first_stays table h g region base s j zs rest t k e holds apart differ other =
    beside_stays
    table
    h
    g
    region
    base
    (spans table s j)
    (gone_rows table h region base s j)
    (gone_rows table g region base s j)
    t
    k
    base
    e.there
    e.other
    e.fills.grows
    holds
    differ
    other
    (each_then
    (λ q. Each (IsApart q) (spans table s j))
    (λ q. Each (IsBeside base base q) (spans table s j))
    (λ q all. each_then (IsApart q) (IsBeside base base q) (λ p a. before_part base p q a) (spans table s j) all)
    (spans table t k)
    apart)

-- the part itself
it_is : (table : List TocEntry) (h g : Lists) (region : Region) (base : ℕ) (s : Shape) (j : ℕ) (zs rest : List ℤ) (whole : Shape) (i : ℕ) → IsStored table h g region base s j zs rest → IsIt whole i s j → Holds table g whole i (bytes_in g region) base × Replaced table h g region base s j (spans table whole i) (rows_at table h whole i (bytes_in h region) base) (rows_at table g whole i (bytes_in g region) base) (value_at table h whole i (bytes_in h region) base) (value_at table g whole i (bytes_in g region) base) (λ v. v)
it_is table h g region base s j zs rest whole i e is =
    let P = λ (w : Shape) (n : ℕ). Holds table g w n (bytes_in g region) base × Replaced table h g region base s j (spans table w n) (rows_at table h w n (bytes_in h region) base) (rows_at table g w n (bytes_in g region) base) (value_at table h w n (bytes_in h region) base) (value_at table g w n (bytes_in g region) base) (λ v. v) in
    let here : P s j = (
      e.fills.holds,
      record {
        value_was = refl;
        value_is = refl;
        before = [];
        after = [];
        had = sym (append-nil (gone_rows table h region base s j));
        has = sym (append-nil (gone_rows table g region base s j));
        inside = λ others a. a;
        around = λ others a. a;
      },
    ) in
    subst (λ w. P w i) (sym is.0) (subst (λ n. P s n) (sym is.1) here)

-- ---- members

middle : (P : ℕ → Type 0) (before gone after : List ℕ) → Each P (before ++ (gone ++ after)) → Each P gone
middle P before gone after e = (each_apart P gone after (each_apart P before (gone ++ after) e).1).0

pub flipped : (xs ys : List ℕ) → Across Differ xs ys → Across Differ ys xs
flipped xs ys e =
    each_then
    (λ y. Each (λ x. x ≢ y) xs)
    (λ y. Each (Differ y) xs)
    (λ y all. each_then (λ x. x ≢ y) (Differ y) (λ x ne same. ne (sym same)) xs all)
    ys
    (turned Differ xs ys e)

mutual
  pub replaced_in : (table : List TocEntry) (h g : Lists) (region : Region) (base : ℕ) (s : Shape) (j : ℕ) (zs rest : List ℤ) → IsStored table h g region base s j zs rest → (whole : Shape) (i : ℕ) (part : StandsIn whole i s j) → Holds table h whole i (bytes_in h region) base → AreApart (spans table whole i) → AreOwn region (rows_at table h whole i (bytes_in h region) base) → Holds table g whole i (bytes_in g region) base × Replaced table h g region base s j (spans table whole i) (rows_at table h whole i (bytes_in h region) base) (rows_at table g whole i (bytes_in g region) base) (value_at table h whole i (bytes_in h region) base) (value_at table g whole i (bytes_in g region) base) (with_value table h region base s j whole i part)
  replaced_in table h g region base s j zs rest e Void i is holds apart own = it_is table h g region base s j zs rest Void i e is
  replaced_in table h g region base s j zs rest e (Number k) i is holds apart own = it_is table h g region base s j zs rest (Number k) i e is
  replaced_in table h g region base s j zs rest e (Array n t) i is holds apart own = it_is table h g region base s j zs rest (Array n t) i e is
  replaced_in table h g region base s j zs rest e (Cluster ss) i (inl is) holds apart own = it_is table h g region base s j zs rest (Cluster ss) i e is
  replaced_in table h g region base s j zs rest e (Cluster ss) i (inr is) holds apart own =
      let all = replaced_among table h g region base s j zs rest e ss (i + 1) is holds apart own in
      let r = all.1 in (
        all.0,
        record {
          value_was = ap group_of r.value_was;
          value_is = ap group_of r.value_is;
          before = r.before;
          after = r.after;
          had = r.had;
          has = r.has;
          inside = r.inside;
          around = r.around;
        },
      )
  replaced_in table h g region base s j zs rest e Mutex i is holds apart own = it_is table h g region base s j zs rest Mutex i e is

  pub replaced_among : (table : List TocEntry) (h g : Lists) (region : Region) (base : ℕ) (s : Shape) (j : ℕ) (zs rest : List ℤ) → IsStored table h g region base s j zs rest → (ss : Members) (i : ℕ) (part : StandsAmong ss i s j) → HoldAll table h ss i (bytes_in h region) base → AreApart (spans_among table ss i) → AreOwn region (rows_among table h ss i (bytes_in h region) base) → HoldAll table g ss i (bytes_in g region) base × Replaced table h g region base s j (spans_among table ss i) (rows_among table h ss i (bytes_in h region) base) (rows_among table g ss i (bytes_in g region) base) (values_among table h ss i (bytes_in h region) base) (values_among table g ss i (bytes_in g region) base) (with_value_among table h region base s j ss i part)
  replaced_among table h g region base s j zs rest e no_members i is holds apart own = absurd is
  replaced_among table h g region base s j zs rest e (member t ts) i (inl is) holds apart own =
      let here = spans table t i in
      let others = spans_among table ts (i + size t) in
      let rows = rows_at table h t i (bytes_in h region) base in
      let more = rows_among table h ts (i + size t) (bytes_in h region) base in
      let gone = gone_rows table h region base s j in
      let fresh = gone_rows table g region base s j in
      let parts = pair_parts IsApart here others apart in
      let pairs = pair_parts Differ rows more own.own in
      let two = each_apart (IsOther region) rows more own.other in
      let one = replaced_in table h g region base s j zs rest e t i is holds.0 parts.first (record { own = pairs.first; other = two.0 }) in
      let r = one.1 in
      let differ = middle (λ x. Each (Differ x) more) r.before gone r.after (subst (λ xs. Across Differ xs more) r.had pairs.across) in
      let stays = rest_stays table h g region base s j zs rest ts (i + size t) e holds.1 (r.inside others parts.across) differ two.1 in (
        (one.0, stays.holds holds.1),
        record {
          value_was = ap (λ v. v ∷ values_among table h ts (i + size t) (bytes_in h region) base) r.value_was;
          value_is = ap₂ (λ v vs. v ∷ vs) r.value_is stays.value;
          before = r.before;
          after = r.after ++ more;
          had = ap (λ xs. xs ++ more) r.had
              ∙ append_assoc r.before (gone ++ r.after) more
              ∙ ap (λ xs. r.before ++ xs) (append_assoc gone r.after more);
          has = ap₂ (λ xs ys. xs ++ ys) r.has stays.rows
              ∙ append_assoc r.before (fresh ++ r.after) more
              ∙ ap (λ xs. r.before ++ xs) (append_assoc fresh r.after more);
          inside = λ qs a. r.inside qs (each_apart (λ p. Each (IsApart p) qs) here others a).0;
          around = λ qs a. r.around qs (each_then (λ q. Each (IsApart q) (here ++ others)) (λ q. Each (IsApart q) here) (λ q all. (each_apart (IsApart q) here others all).0) qs a);
        },
      )
  replaced_among table h g region base s j zs rest e (member t ts) i (inr is) holds apart own =
      let here = spans table t i in
      let others = spans_among table ts (i + size t) in
      let rows = rows_at table h t i (bytes_in h region) base in
      let more = rows_among table h ts (i + size t) (bytes_in h region) base in
      let gone = gone_rows table h region base s j in
      let fresh = gone_rows table g region base s j in
      let parts = pair_parts IsApart here others apart in
      let pairs = pair_parts Differ rows more own.own in
      let two = each_apart (IsOther region) rows more own.other in
      let one = replaced_among table h g region base s j zs rest e ts (i + size t) is holds.1 parts.rest (record { own = pairs.rest; other = two.1 }) in
      let r = one.1 in
      let differ = middle (λ x. Each (Differ x) rows) r.before gone r.after (subst (λ xs. Across Differ xs rows) r.had (flipped rows more pairs.across)) in
      let stays = first_stays table h g region base s j zs rest t i e holds.0 (r.around here parts.across) differ two.0 in (
        (stays.holds holds.0, one.0),
        record {
          value_was = ap (λ vs. value_at table h t i (bytes_in h region) base ∷ vs) r.value_was;
          value_is = ap₂ (λ v vs. v ∷ vs) stays.value r.value_is;
          before = rows ++ r.before;
          after = r.after;
          had = ap (λ xs. rows ++ xs) r.had ∙ sym (append_assoc rows r.before (gone ++ r.after));
          has = ap₂ (λ xs ys. xs ++ ys) stays.rows r.has ∙ sym (append_assoc rows r.before (fresh ++ r.after));
          inside = λ qs a. r.inside qs (each_apart (λ p. Each (IsApart p) qs) here others a).1;
          around = λ qs a. r.around qs (each_then (λ q. Each (IsApart q) (here ++ others)) (λ q. Each (IsApart q) others) (λ q all. (each_apart (IsApart q) here others all).1) qs a);
        },
      )
