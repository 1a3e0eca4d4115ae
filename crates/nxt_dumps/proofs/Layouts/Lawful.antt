-- A layout that keeps the laws goes over into one that keeps them, whatever a bytecode or a compaction does.
use Rattle.std.proofs.Common.{◌≡◌, ℕ, zero, suc, ◌+◌, ◌-◌, ◌≤◌, inl, inr, Bool, true, false, cond, List, [], ◌∷◌, map, refl, sym, ap, ◌∙◌, subst, arith}
use Rattle.std.specs.Prelude.{◌&&◌, min, filter, sum_by, ◌==◌, Some, None}
use Rattle.std.specs.Bool.{OnTrue}
use Rattle.std.proofs.lemmas.Bool.{cases_eq, OnTrue_at, OnTrue_from, and_parts, eqb-true, eq-eqb, ne_eqb, le-ltb, both_ways}
use Rattle.nxt_types.specs.Pool.{pool_size}
use Rattle.nxt_model.specs.Reading.{Block}
use Rattle.nxt_model.specs.Dump.{Mark, AllStand}
use Rattle.nxt_blocks.specs.Blocks.{has_bytes, unsettled, unsettled_below, packed, at_place, place_after, settle}
use Rattle.nxt_blocks.specs.Standing.{Stand}
use Rattle.nxt_blocks.proofs.Laws.Lowest.{settle-unsettled, settle-stand}
use Rattle.nxt_dumps.specs.Layouts.{Layout, all_of, blocks_of, place_of, places_in, lengths_of, Obeys, Lawful, settled_layout, later_mark, AtMost, Changes, dense}
use Rattle.nxt_dumps.proofs.Layouts.Blocks.{Shorter, shorter-stand, filter-stand, dense-row, dense-lengths}

-- ---- settling a layout

filter_move : (to : ℕ → ℕ) (xs : List Block) → filter has_bytes (map (λ b. at_place (to b.place) b) xs) ≡ map (λ b. at_place (to b.place) b) (filter has_bytes xs)
filter_move to [] = refl
filter_move to (x ∷ xs) =
    ap (λ ys. cond (has_bytes x) (at_place (to x.place) x ∷ ys) ys) (filter_move to xs)
    ∙ by (has_bytes x) (at_place (to x.place) x) x (filter has_bytes xs) to refl
  where
    by : (t : Bool) (y x : Block) (ys : List Block) (f : ℕ → ℕ) → y ≡ at_place (f x.place) x
        → cond t (y ∷ map (λ b. at_place (f b.place) b) ys) (map (λ b. at_place (f b.place) b) ys) ≡ map (λ b. at_place (f b.place) b) (cond t (x ∷ ys) ys)
    by true y x ys f e = ap (λ z. z ∷ map (λ b. at_place (f b.place) b) ys) e
    by false y x ys f e = refl

pub settled-blocks : (k base : ℕ) (l : Layout) → blocks_of (settled_layout k base l) ≡ settle k base (blocks_of l)
settled-blocks k base l = filter_move (place_after k base (blocks_of l)) (all_of l)

lengths_move : (to : ℕ → ℕ) (xs : List Block) → map (λ b. b.bytes) (map (λ b. at_place (to b.place) b) xs) ≡ map (λ b. b.bytes) xs
lengths_move to [] = refl
lengths_move to (x ∷ xs) = ap (λ ns. x.bytes ∷ ns) (lengths_move to xs)

pub settled-lengths : (k base : ℕ) (l : Layout) → lengths_of (settled_layout k base l) ≡ lengths_of l
settled-lengths k base l = lengths_move (place_after k base (blocks_of l)) (all_of l)

none_moves : (base : ℕ) (xs : List Block) (p : ℕ) → place_after 0 base xs p ≡ p
none_moves base xs p = ap (λ t. cond t (packed base xs p) p) (le-ltb (unsettled_below base xs p) 0 (omega arith))

stay_all : (base : ℕ) (xs ys : List Block) → map (λ b. at_place (place_after 0 base xs b.place) b) ys ≡ ys
stay_all base xs [] = refl
stay_all base xs (y ∷ ys) = ap (λ p. at_place p y ∷ map (λ b. at_place (place_after 0 base xs b.place) b) ys) (none_moves base xs y.place) ∙ ap (λ zs. y ∷ zs) (stay_all base xs ys)

-- where none settles, the places stay
pub settled-none : (base : ℕ) (l : Layout) → places_in (settled_layout 0 base l) ≡ places_in l
settled-none base l = ap (map place_of) (stay_all base (blocks_of l) l.lists)

-- ---- lists that get no longer

abbrev NoLonger : List Block → List ℕ → Type 0
NoLonger [] [] = Unit {0}
NoLonger (x ∷ xs) (n ∷ ns) = (n ≤ x.bytes) × NoLonger xs ns
NoLonger _ _ = ⊥

-- a block that has a place now had it then
same_place : (x y : Block) → y.place ≡ x.place → y.bytes ≤ x.bytes → (p : ℕ) → place_of y ≡ Some p → place_of x ≡ Some p
same_place x y e l p h = elim (cases_eq y.bytes 0) [
  | inl none ↦ let f : None ≡ Some p = ap (λ t. cond t None (Some y.place)) (sym (eq-eqb y.bytes 0 none)) ∙ h in absurd (none_is_no_some p f)
  | inr some ↦
      ap (λ t. cond t None (Some x.place)) (ne_eqb x.bytes 0 (λ z. some (omega (arith, z, l))))
      ∙ ap Some (sym e)
      ∙ sym (ap (λ t. cond t None (Some y.place)) (ne_eqb y.bytes 0 some))
      ∙ h
]
  where
    none_is_no_some : (q : ℕ) → None ≡ Some q → ⊥
    none_is_no_some q e = cc

first_place : (x y : Block) → y.place ≡ x.place → y.bytes ≤ x.bytes → (p : ℕ) → Some (place_of y) ≡ Some (Some p) → Some (place_of x) ≡ Some (Some p)
first_place x y e l p h = ap Some (same_place x y e l p (cc))

stands_there : (xs ys : List Block) → Shorter xs ys → AllStand (map place_of xs) (map place_of ys)
stands_there [] [] h i p e = e
stands_there [] (y ∷ ys) h i p e = absurd h
stands_there (x ∷ xs) [] h i p e = absurd h
stands_there (x ∷ xs) (y ∷ ys) h zero p e = first_place x y h.0 h.1 p e
stands_there (x ∷ xs) (y ∷ ys) h (suc i) p e = stands_there xs ys h.2 i p e

abbrev with_bytes : List Block → List ℕ → List Block
with_bytes (x ∷ xs) (n ∷ ns) = record { place = x.place; bytes = n } ∷ with_bytes xs ns
with_bytes _ _ = []

shorter_with : (xs : List Block) (ns : List ℕ) → NoLonger xs ns → Shorter xs (with_bytes xs ns)
shorter_with [] [] h = tt
shorter_with [] (n ∷ ns) h = absurd h
shorter_with (x ∷ xs) [] h = absurd h
shorter_with (x ∷ xs) (n ∷ ns) h = (refl, h.0, shorter_with xs ns h.1)

lengths_with : (xs : List Block) (ns : List ℕ) → NoLonger xs ns → map (λ b. b.bytes) (with_bytes xs ns) ≡ ns
lengths_with [] [] h = refl
lengths_with [] (n ∷ ns) h = absurd h
lengths_with (x ∷ xs) [] h = absurd h
lengths_with (x ∷ xs) (n ∷ ns) h = ap (λ ms. n ∷ ms) (lengths_with xs ns h.1)

-- ---- the laws are kept

no_more : (a b : ℕ) → a + b ≡ 0 → (a ≡ 0) × (b ≡ 0)
no_more a b h = (omega (arith, h), omega (arith, h))

-- nothing had leave to settle, and the word standing is there, before as after
before_too : (a s : Bool) (m n : ℕ) → ((a && s) && (m + n == 0)) ≡ true → ((a && (m == 0)) ≡ true) × (n ≡ 0)
before_too a s m n h =
    let parts = and_parts (a && s) (m + n == 0) h in
    let both = and_parts a s parts.0 in
    let zeros = no_more m n (eqb-true (m + n) 0 parts.1) in
    (ap (λ t. t && (m == 0)) both.0 ∙ eq-eqb m 0 zeros.0, zeros.1)

-- at a quiet bytecode, or at a compaction, so many blocks settle
pub quiet_goes : (base n : ℕ) (s : Bool) (k : Mark) (l : Layout) → Stand base pool_size (blocks_of l) → Obeys base k l → Obeys base (later_mark n true s k) (settled_layout n base l)
quiet_goes base n s k l stand obeys = record {
  falls = OnTrue_from (k.quiet && true) (unsettled base (blocks_of (settled_layout n base l)) ≡ k.unsettled - min k.unsettled (k.settled + n)) (λ t.
      let was = OnTrue_at (and_parts k.quiet true t).0 obeys.falls in
      omega (arith, ap (unsettled base) (settled-blocks n base l), settle-unsettled n base pool_size (blocks_of l) stand, was));
  stands = OnTrue_from ((k.standing && s) && k.settled + n == 0) (AllStand k.places (places_in (settled_layout n base l))) (λ t.
      let before = before_too k.standing s k.settled n t in
      let was : AllStand k.places (places_in l) = OnTrue_at before.0 obeys.stands in
      let same : places_in (settled_layout n base l) ≡ places_in l = ap (λ m. places_in (settled_layout m base l)) before.1 ∙ settled-none base l in
      rw same was);
}

none_left : (a : Bool) (P : Type 0) → OnTrue (a && false) P
none_left a P = OnTrue_from (a && false) P (λ t. absurd (both_ways false refl (and_parts a false t).1))

abbrev shrunk : Layout → ℕ → List ℕ → Layout
shrunk l t ns = record { table = record { place = l.table.place; bytes = t }; lists = with_bytes l.lists ns }

-- where lists got no longer, they stay, before so many blocks settle
pub standing_goes : (base n t : ℕ) (ns : List ℕ) (k : Mark) (l : Layout) → NoLonger (all_of l) (t ∷ ns) → Obeys base k l
    → Obeys base (later_mark n false true k) (settled_layout n base (shrunk l t ns))
standing_goes base n t ns k l less obeys = record {
  falls = none_left k.quiet (unsettled base (blocks_of (settled_layout n base (shrunk l t ns))) ≡ k.unsettled - min k.unsettled (k.settled + n));
  stands = OnTrue_from ((k.standing && true) && k.settled + n == 0) (AllStand k.places (places_in (settled_layout n base (shrunk l t ns)))) (λ h.
      let before = before_too k.standing true k.settled n h in
      let was : AllStand k.places (places_in l) = OnTrue_at before.0 obeys.stands in
      let same : places_in (settled_layout n base (shrunk l t ns)) ≡ places_in (shrunk l t ns) = ap (λ m. places_in (settled_layout m base (shrunk l t ns))) before.1 ∙ settled-none base (shrunk l t ns) in
      let now : AllStand k.places (places_in (shrunk l t ns)) = λ i p e. was i p (stands_there l.lists (with_bytes l.lists ns) (shorter_with l.lists ns less.1) i p e) in
      rw same now);
}

pub shrunk-stand : (base t : ℕ) (ns : List ℕ) (l : Layout) → Stand base pool_size (blocks_of l) → NoLonger (all_of l) (t ∷ ns) → Stand base pool_size (blocks_of (shrunk l t ns))
shrunk-stand base t ns l stand less = shorter-stand base pool_size (all_of l) (all_of (shrunk l t ns)) stand (shorter_with (all_of l) (t ∷ ns) less)

-- at any other bytecode the law asks nothing, and the blocks may stand without gaps
abbrev fresh : ℕ → ℕ → List ℕ → Layout
fresh base t ns = record { table = record { place = base; bytes = t }; lists = dense (base + t) ns }

pub other_goes : (base n t : ℕ) (ns : List ℕ) (k : Mark) → Obeys base (later_mark n false false k) (fresh base t ns)
other_goes base n t ns k = record {
  falls = none_left k.quiet (unsettled base (blocks_of (fresh base t ns)) ≡ k.unsettled - min k.unsettled (k.settled + n));
  stands = OnTrue_from ((k.standing && false) && k.settled + n == 0) (AllStand k.places (places_in (fresh base t ns))) (λ h. absurd (both_ways false refl (and_parts k.standing false (and_parts (k.standing && false) (k.settled + n == 0) h).0).1));
}

pub fresh-stand : (base t : ℕ) (ns : List ℕ) → base + sum_by (λ n. n) (t ∷ ns) ≤ pool_size → Stand base pool_size (blocks_of (fresh base t ns))
fresh-stand base t ns room =
    let row = dense-row base pool_size (t ∷ ns) room in
    filter-stand base pool_size (all_of (fresh base t ns)) row.apart row.above row.within

-- ---- what comes next

-- as many lengths, none of them longer than its block
no_longer : (xs : List Block) (ns : List ℕ) → AtMost (map (λ b. b.bytes) xs) ns → NoLonger xs ns
no_longer [] [] h = tt
no_longer [] (n ∷ ns) h = absurd h
no_longer (x ∷ xs) [] h = absurd h
no_longer (x ∷ xs) (n ∷ ns) h = (h.0, no_longer xs ns h.1)

-- so a layout that keeps the laws is there for ever, as long as the pool holds the bytes
pub goes_over : (base n t u : ℕ) (ns ms : List ℕ) (quiet standing : Bool) (k : Mark) → Changes (t ∷ ns) (u ∷ ms) quiet standing → base + sum_by (λ n. n) (u ∷ ms) ≤ pool_size → Lawful base (t ∷ ns) k → Lawful base (u ∷ ms) (later_mark n quiet standing k)
goes_over base n t u ns ms true standing k c room h = record {
  layout = settled_layout n base h.layout;
  lengths_are = settled-lengths n base h.layout ∙ h.lengths_are ∙ sym (c.same refl);
  stand = rw (settled-blocks n base h.layout) (settle-stand n base pool_size (blocks_of h.layout) h.stand);
  obeys = quiet_goes base n standing k h.layout h.stand h.obeys;
}
goes_over base n t u ns ms false true k c room h =
    let less : NoLonger (all_of h.layout) (u ∷ ms) = no_longer (all_of h.layout) (u ∷ ms) (subst (λ ls. AtMost ls (u ∷ ms)) (sym h.lengths_are) (c.less refl)) in
    record {
      layout = settled_layout n base (shrunk h.layout u ms);
      lengths_are = settled-lengths n base (shrunk h.layout u ms) ∙ lengths_with (all_of h.layout) (u ∷ ms) less;
      stand = rw (settled-blocks n base (shrunk h.layout u ms)) (settle-stand n base pool_size (blocks_of (shrunk h.layout u ms)) (shrunk-stand base u ms h.layout h.stand less));
      obeys = standing_goes base n u ms k h.layout less h.obeys;
    }
goes_over base n t u ns ms false false k c room h = record {
  layout = fresh base u ms;
  lengths_are = dense-lengths base (u ∷ ms);
  stand = fresh-stand base u ms room;
  obeys = other_goes base n u ms k;
}

-- and there is one, where the laws ask nothing
pub fresh_lawful : (base t : ℕ) (ns : List ℕ) (k : Mark) → base + sum_by (λ n. n) (t ∷ ns) ≤ pool_size → Lawful base (t ∷ ns) (later_mark 0 false false k)
fresh_lawful base t ns k room = record {
  layout = fresh base t ns;
  lengths_are = dense-lengths base (t ∷ ns);
  stand = fresh-stand base t ns room;
  obeys = other_goes base 0 t ns k;
}

-- the mark that a dump leaves where the blocks stand like this
abbrev pub first_mark : ℕ → Layout → Mark
first_mark base l = record { unsettled = unsettled base (blocks_of l); places = places_in l; settled = 0; quiet = true; standing = true }

-- the dump's own layout obeys it
pub first_obeys : (base : ℕ) (l : Layout) → Obeys base (first_mark base l) l
first_obeys base l = record { falls = omega arith; stands = λ i p e. e }
