-- Changes one after another, each of which takes rows.
use Rattle.std.proofs.Common.{◌≡◌, ◌≢◌, ℕ, ◌+◌, inl, inr, Bool, true, false, ◌||◌, ◌==◌, List, [], ◌∷◌, ◌++◌, take, drop, length, Option, Some, None, is_some, refl, sym, ap, ◌∙◌}
use Rattle.std.specs.List.{list_any}
use Rattle.nxt_facts.proofs.Each.{Each, each_then, each_join}
use Rattle.nxt_heap.specs.Lists.{Lists, ByteList, list_at, bytes_of, stride_of, IsAlive}
use Rattle.nxt_values.specs.Regions.{bytes_in, IsRegion}
use Rattle.nxt_model.specs.Spans.{Span}
use Rattle.nxt_values.specs.Writes.{IsOther}
use Rattle.nxt_values.specs.Fills.{Grows, IsBeside, stride_in}
use Rattle.nxt_values.specs.declared.reading.Region.{Region}
use Rattle.nxt_values.specs.declared.reading.Region.TheVariants.{Static, Row}
use Rattle.nxt_facts.proofs.Pairs.{Across, pair_join}
use Rattle.nxt_values.proofs.Laws.Without.{Differ}

-- a row with a list is none without one
pub alive_other : (h : Lists) (a b : ℕ) → IsAlive h a → list_at h b ≡ None → a ≢ b
alive_other h a b alive none same = let f : ⊥ = cc (alive, ap is_some (ap (list_at h) same ∙ none)) in absurd f

pub region_other : (h : Lists) (region : Region) (row : ℕ) → IsRegion h region → list_at h row ≡ None → IsOther region row
region_other h Static row there none = tt
region_other h (Row q) row there none = alive_other h q row there none

stays_free : (h g : Lists) (region : Region) (row : ℕ) (o : Option ByteList) → list_at h row ≡ o → (IsAlive h row → IsOther region row → list_at g row ≡ list_at h row) → IsRegion g region → list_at g row ≡ None → list_at h row ≡ None
stays_free h g region row None is kept there none = is
stays_free h g Static row (Some l) is kept there none = sym (kept (ap is_some is) tt) ∙ none
stays_free h g (Row q) row (Some l) is kept there none =
    sym (kept (ap is_some is) (alive_other g q row there none)) ∙ none

-- what is free behind a change was free before it
pub was_free : (h g : Lists) (region : Region) (base : ℕ) (ps : List Span) (rows : List ℕ) (row : ℕ) → Grows h g region base ps rows → list_at g row ≡ None → list_at h row ≡ None
was_free h g region base ps rows row e none = stays_free h g region row (list_at h row) refl (e.kept row) e.there none

or_left : (a b c : Bool) → (a || b) ≡ true → (b ≡ true → c ≡ true) → (a || c) ≡ true
or_left true b c e h = refl
or_left false b c e h = h e

pub or_right : (a b : Bool) → b ≡ true → (a || b) ≡ true
or_right true b e = refl
or_right false b e = e

any_left : (p : ℕ → Bool) (xs ys : List ℕ) → list_any p xs ≡ true → list_any p (xs ++ ys) ≡ true
any_left p [] ys e = let f : ⊥ = cc in absurd f
any_left p (x ∷ xs) ys e = or_left (p x) (list_any p xs) (list_any p (xs ++ ys)) e (λ k. any_left p xs ys k)

any_right : (p : ℕ → Bool) (xs ys : List ℕ) → list_any p ys ≡ true → list_any p (xs ++ ys) ≡ true
any_right p [] ys e = e
any_right p (x ∷ xs) ys e = or_right (p x) (list_any p (xs ++ ys)) (any_right p xs ys e)

pub apart_rows : (g : Lists) (rows others : List ℕ) → Each (IsAlive g) rows → Each (λ r. list_at g r ≡ None) others → Across Differ rows others
apart_rows g rows others alive free =
    each_then
    (IsAlive g)
    (λ r. Each (Differ r) others)
    (λ r a. each_then (λ q. list_at g q ≡ None) (Differ r) (λ q none. alive_other g r q a none) others free)
    rows
    alive

-- the changes of a region one after another
pub grows_then : (h g f : Lists) (region : Region) (base second whole : ℕ) (ps qs all : List Span) (rows others : List ℕ) → Grows h g region base ps rows → Grows g f region second qs others → Each (IsAlive g) rows → ((p : Span) (b : ℕ) → Each (IsBeside whole b p) all → Each (IsBeside base b p) ps × Each (IsBeside second b p) qs) → Grows h f region whole all (rows ++ others)
grows_then h g f region base second whole ps qs all rows others e k alive beside =
    record {
      there = k.there;
      long = k.long ∙ e.long;
      stride = k.stride ∙ e.stride;
      beside = λ p b apart. let two = beside p b apart in k.beside p b two.1 ∙ e.beside p b two.0;
      static = λ r. k.static r ∙ e.static r;
      kept = λ row a other. let same = e.kept row a other in k.kept row (ap is_some same ∙ a) other ∙ same;
      own = pair_join Differ rows others e.own k.own (apart_rows g rows others alive k.fresh);
      fresh = each_join
          (λ r. list_at h r ≡ None)
          rows
          others
          e.fresh
          (each_then (λ r. list_at g r ≡ None) (λ r. list_at h r ≡ None) (λ r none. was_free h g region base ps rows r e none) others k.fresh);
      named = λ row a.
          elim (k.named row a) [
            | inl before ↦ elim (e.named row before) [
              | inl first ↦ inl first
              | inr any ↦ inr (any_left (λ r. r == row) rows others any)
            ]
            | inr any ↦ inr (any_right (λ r. r == row) rows others any)
          ];
    }

-- ---- the change of a list that was taken

pub region_bytes : (g f : Lists) (region : Region) (row : ℕ) → IsRegion g region → IsOther region row → f.static_bytes ≡ g.static_bytes → ((r : ℕ) → IsAlive g r → row ≢ r → list_at f r ≡ list_at g r) → IsRegion f region × (bytes_in f region ≡ bytes_in g region) × (stride_in f region ≡ stride_in g region)
region_bytes g f Static row there other static kept = (tt, static, refl)
region_bytes g f (Row q) row there other static kept =
    let same = kept q there (λ e. other (sym e)) in (ap is_some same ∙ there, ap bytes_of same, ap stride_of same)

-- a row is taken in a region, and then its list changes
pub grows_inside : (h g f : Lists) (region : Region) (base second : ℕ) (ps qs : List Span) (row : ℕ) (rows : List ℕ) → IsRegion h region → Grows h g region base ps (row ∷ []) → IsAlive g row → Grows g f (Row row) second qs rows → Grows h f region base ps (row ∷ rows) × (bytes_in f region ≡ bytes_in g region)
grows_inside h g f region base second ps qs row rows there e alive k =
    let other : IsOther region row = region_other h region row there e.fresh.0 in
    let same = region_bytes g f region row e.there other (k.static tt) k.kept in (
      record {
        there = same.0;
        long = ap length same.1 ∙ e.long;
        stride = same.2 ∙ e.stride;
        beside = λ p b apart. ap (λ bytes. take p.width (drop (b + p.place) bytes)) same.1 ∙ e.beside p b apart;
        static = λ r. k.static tt ∙ e.static r;
        kept = λ r a o. let first = e.kept r a o in k.kept r (ap is_some first ∙ a) (λ s. alive_other h r row a e.fresh.0 (sym s)) ∙ first;
        own = (each_then (λ r. list_at g r ≡ None) (Differ row) (λ r none. alive_other g row r alive none) rows k.fresh, k.own);
        fresh = (
          e.fresh.0,
          each_then (λ r. list_at g r ≡ None) (λ r. list_at h r ≡ None) (λ r none. was_free h g region base ps (row ∷ []) r e none) rows k.fresh,
        );
        named = λ r a.
            elim (k.named r a) [
              | inl before ↦ elim (e.named r before) [
                | inl first ↦ inl first
                | inr any ↦ inr (any_left (λ q. q == r) (row ∷ []) rows any)
              ]
              | inr any ↦ inr (any_right (λ q. q == r) (row ∷ []) rows any)
            ];
      },
      same.1,
    )

-- ---- no change

pub grows_none : (h : Lists) (region : Region) (base : ℕ) (ps : List Span) → IsRegion h region → Grows h h region base ps []
grows_none h region base ps there =
    record {
      there = there;
      long = refl;
      stride = refl;
      beside = λ p b apart. refl;
      static = λ r. refl;
      kept = λ row a other. refl;
      own = tt;
      fresh = tt;
      named = λ row a. inl a;
    }
