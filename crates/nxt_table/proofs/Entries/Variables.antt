-- A table's variables, and the place at which it is open, by what the pass over it finds.
use Rattle.std.proofs.Common.{◌≡◌, ℕ, zero, suc, ◌+◌, ◌-◌, ◌<◌, ◌≤◌, List, [], ◌∷◌, ◌++◌, refl, sym, ap, ◌∙◌, length, arith, Bool, true, ◌&&◌, not, take, drop, ⊎_elim, Option, Some, None}
use Rattle.std.proofs.lemmas.Bool.{and_parts}
use Rattle.std.proofs.Math.Seq.{take-append_seam, take-length}
use Rattle.std.proofs.lemmas.List.{length-append, length-map, length-take-le, length-drop, take-append-drop, take-map, drop-map}
use Rattle.std.proofs.lemmas.List.Folds.{list_all-append}
use Rattle.std.proofs.lemmas.Bool.Decides.{nat_tests}
use Rattle.std.specs.Prelude.{map, nat_lt, IsTrue}
use Rattle.nxt_types.proofs.Laws.Shapes.{size_positive}
use Rattle.nxt_types.specs.declared.shape.TocEntry.{TocEntry}
use Rattle.nxt_types.specs.Shapes.{Shape, Void, Number, Array, Cluster, Mutex, Members, no_members, member, count, outline, spelling, spellings, is_filled, are_filled, Spells}
use Rattle.nxt_types.specs.Names.{size, sizes}
use Rattle.nxt_table.specs.Inside.Items.{open_from}
use Rattle.nxt_table.specs.Leaves.{Site, sites_in, sites_among, voids_stand_alone, is_void, AreShapes}
use Rattle.nxt_table.specs.TableRules.{IsOpen}
use Rattle.nxt_table.proofs.Entries.Spelled.{no_void, no_voids, is_variable, are_variables, over_variable, over_variables}
use Rattle.nxt_table.proofs.Entries.Closed.{Split, parsed}
use Rattle.nxt_table.proofs.Entries.Open.{OpensAt, opens, at_least}

-- ---- voids

abbrev stands_alone : Site → Bool
stands_alone s = not (is_void s.shape && nat_lt 0 s.depth)

mutual
  voids_in : (s : Shape) (i d : ℕ) (arrays : List ℕ) → nat_lt 0 d ≡ true → voids_stand_alone (sites_in s i d arrays) ≡ no_void s
  voids_in Void i d arrays h = rw h refl
  voids_in (Number k) i d arrays h = refl
  voids_in (Array n s) i d arrays h = voids_in s (i + 1) (d + 1) (i ∷ arrays) (grind (arith, nat_tests))
  voids_in (Cluster ss) i d arrays h = voids_among ss (i + 1) (d + 1) arrays (grind (arith, nat_tests))
  voids_in Mutex i d arrays h = refl

  voids_among : (ss : Members) (i d : ℕ) (arrays : List ℕ) → nat_lt 0 d ≡ true → voids_stand_alone (sites_among ss i d arrays) ≡ no_voids ss
  voids_among no_members i d arrays h = refl
  voids_among (member s ss) i d arrays h =
      list_all-append stands_alone (sites_in s i d arrays) (sites_among ss (i + size s) d arrays)
      ∙ ap (λ b. b && voids_stand_alone (sites_among ss (i + size s) d arrays)) (voids_in s i d arrays h)
      ∙ ap (λ b. no_void s && b) (voids_among ss (i + size s) d arrays h)

pub variable_sites : (s : Shape) (i : ℕ) → voids_stand_alone (sites_in s i 0 []) ≡ is_variable s
variable_sites Void i = refl
variable_sites (Number k) i = refl
variable_sites (Array n s) i = voids_in s (i + 1) 1 (i ∷ []) refl
variable_sites (Cluster ss) i = voids_among ss (i + 1) 1 [] refl
variable_sites Mutex i = refl

pub variables_sites : (ss : Members) (i : ℕ) → voids_stand_alone (sites_among ss i 0 []) ≡ are_variables ss
variables_sites no_members i = refl
variables_sites (member s ss) i =
    list_all-append stands_alone (sites_in s i 0 []) (sites_among ss (i + size s) 0 [])
    ∙ ap (λ b. b && voids_stand_alone (sites_among ss (i + size s) 0 [])) (variable_sites s i)
    ∙ ap (λ b. is_variable s && b) (variables_sites ss (i + size s))

-- ---- sizes

mutual
  pub length-spelling : (s : Shape) → length (spelling s) ≡ size s
  length-spelling Void = refl
  length-spelling (Number k) = refl
  length-spelling (Array n s) = let e = length-spelling s in omega (arith, e)
  length-spelling (Cluster ss) = let e = length-spellings ss in omega (arith, e)
  length-spelling Mutex = refl

  pub length-spellings : (ss : Members) → length (spellings ss) ≡ sizes ss
  length-spellings no_members = refl
  length-spellings (member s ss) = omega (arith, length-append (spelling s) (spellings ss), length-spelling s, length-spellings ss)

-- ---- a whole table

shapes_of_split : (table : List TocEntry) → Split 0 (map outline table) → (ss : Members) × AreShapes table ss
shapes_of_split table r = (r.variables, at r.inner refl)
  where
    at : (ss : Members) → ss ≡ r.inner → AreShapes table r.variables
    at (member s ss) e = absurd (let c = ap count e in let d = r.counts in omega (arith, c, d))
    at no_members e =
        record {
          spelled = record { entries = r.whole ∙ ap (λ q. spellings q ++ spellings r.variables) (sym e); filled = r.filled_variables };
          strides = r.plain_variables;
          voids = variables_sites r.variables 0 ∙ r.right;
        }

-- where nothing is open, the table spells variables
pub whole_table : (table : List TocEntry) → open_from 0 0 0 (map outline table) ≡ None → (ss : Members) × AreShapes table ss
whole_table table e = shapes_of_split table (parsed table 0 0 0 e)

-- ---- an open table

take_less : {X : Type 0} (a b : ℕ) (xs : List X) → a ≤ b → take a (take b xs) ≡ take a xs
take_less zero b xs h = refl
take_less (suc a) zero xs h = absurd (omega (arith, h))
take_less (suc a) (suc b) [] h = refl
take_less (suc a) (suc b) (x ∷ xs) h = ap (λ l. x ∷ l) (take_less a b xs (omega (arith, h)))

front_of : {X : Type 0} (xs ys zs : List X) → xs ≡ ys ++ zs → take (length ys) xs ≡ ys
front_of xs ys zs e = ap (take (length ys)) e ∙ take-append_seam ys zs

-- nothing is spelled from the place that was found
nothing_there : (table : List TocEntry) (w j : ℕ) (s : Shape) → open_from 0 0 w (drop w (map outline table)) ≡ Some w → Spells table w j s →
    IsTrue (voids_stand_alone (sites_in s 0 0 [])) → ⊥
nothing_there table w j s e h voids =
    let os = drop w (map outline table) in
    let rest = drop (j - w) os in
    let front : take (j - w) os ≡ spelling s =
    ap (take (j - w)) (drop-map outline w table) ∙ take-map outline (j - w) (drop w table) ∙ h.entries in
    let whole : os ≡ spelling s ++ rest = sym (take-append-drop (j - w) os) ∙ ap (λ l. l ++ rest) front in
    let behind : open_from 0 0 (w + size s) rest ≡ Some w =
    sym (over_variable s 0 w rest h.filled (sym (variable_sites s 0) ∙ voids)) ∙ ap (open_from 0 0 w) (sym whole) ∙ e in
    ⊎_elim (λ g. omega (arith, g.1)) (λ g. omega (arith, g, size_positive s)) (at_least 0 0 (w + size s) rest w behind)

pub is_open_there : (table : List TocEntry) (w : ℕ) → open_from 0 0 0 (map outline table) ≡ Some w → IsOpen table w
is_open_there table w e = ⊎_elim (λ g. absurd (omega (arith, g.1))) at (opens 0 0 0 (map outline table) w e)
  where
    at : OpensAt 0 0 0 (map outline table) w → IsOpen table w
    at r =
        let same : r.k ≡ w = omega (arith, r.place) in
        let b : open_from 0 0 0 (map outline (take w table)) ≡ None =
        ap (open_from 0 0 0) (sym (take-map outline w table) ∙ ap (λ k. take k (map outline table)) (sym same)) ∙ r.before in
        let ss = whole_table (take w table) b in
        let here : open_from 0 0 w (drop w (map outline table)) ≡ Some w = ap (λ k. open_from 0 0 w (drop k (map outline table))) (sym same) ∙ r.here in
        record {
          before = ss.0;
          whole = ss.1;
          inside = let i = r.within in omega (arith, i, same, length-map table outline);
          opens = λ j s h voids. nothing_there table w j s here h voids;
        }

-- the first of the variables that entries spell
first_spelled : (table : List TocEntry) (v k : ℕ) → 0 < k → v + k ≤ length table → Split 0 (map outline (take k (drop v table))) →
    (s : Shape) × Spells table v (v + size s) s × IsTrue (voids_stand_alone (sites_in s 0 0 []))
first_spelled table v k pos within r = at (shapes_of_split (take k (drop v table)) r)
  where
    es : List TocEntry
    es = take k (drop v table)

    at : (ss : Members) × AreShapes (take k (drop v table)) ss → (s : Shape) × Spells table v (v + size s) s × IsTrue (voids_stand_alone (sites_in s 0 0 []))
    at (no_members, h) =
        let l : length (take k (drop v table)) ≡ k = length-take-le k (drop v table) (omega (arith, length-drop v table, within)) in
        let e = ap (λ x. length x) h.spelled.entries in
        absurd (omega (arith, e, l, pos, length-map (take k (drop v table)) outline))
    at (member s ss, h) =
        let l : length (take k (drop v table)) ≡ k = length-take-le k (drop v table) (omega (arith, length-drop v table, within)) in
        let e = ap (λ x. length x) h.spelled.entries in
        let n : size s ≤ k = omega (arith, e, l, length-map (take k (drop v table)) outline, length-append (spelling s) (spellings ss), length-spelling s) in
        let f = and_parts (is_filled s) (are_filled ss) h.spelled.filled in
        let g = and_parts (is_variable s) (are_variables ss) (sym (variables_sites (member s ss) 0) ∙ h.voids) in
        let less : v + size s - v ≡ size s = omega arith in (
          s,
          record {
            ordered = omega arith;
            within = omega (arith, n, within);
            entries =
                ap (λ m. map outline (take m (drop v table))) less
                ∙ ap (map outline) (sym (take_less (size s) k (drop v table) n))
                ∙ sym (take-map outline (size s) (take k (drop v table)))
                ∙ ap (λ m. take m (map outline (take k (drop v table)))) (sym (length-spelling s))
                ∙ front_of (map outline (take k (drop v table))) (spelling s) (spellings ss) h.spelled.entries;
            filled = f.0;
          },
          variable_sites s 0 ∙ g.0,
        )

-- a table is open at one place, which is found
pub open_is_found : (table : List TocEntry) (v : ℕ) → IsOpen table v → open_from 0 0 0 (map outline table) ≡ Some v
open_is_found table v h = over_front ∙ at (open_from 0 0 v (map outline (drop v table))) refl
  where
    inside : v < length table
    inside = h.inside

    none_spelled : (k : ℕ) → 0 < k → v + k ≤ length table → Split 0 (map outline (take k (drop v table))) → ⊥
    none_spelled k pos within r = let x = first_spelled table v k pos within r in h.opens (v + size x.0) x.0 x.1 x.2

    over_front : open_from 0 0 0 (map outline table) ≡ open_from 0 0 v (map outline (drop v table))
    over_front =
        let l : length (take v table) ≡ v = length-take-le v table (omega (arith, h.inside)) in
        let e = ap (λ x. length x) h.whole.spelled.entries in
        let n : 0 + sizes h.before ≡ v = omega (arith, e, l, length-map (take v table) outline, length-spellings h.before) in
        let whole : map outline table ≡ spellings h.before ++ map outline (drop v table) =
        sym (take-append-drop v (map outline table)) ∙ ap (λ x. x ++ drop v (map outline table)) (take-map outline v table ∙ h.whole.spelled.entries)
        ∙ ap (λ x. spellings h.before ++ x) (drop-map outline v table) in
        ap (open_from 0 0 0) whole
        ∙ over_variables h.before 0 0 (map outline (drop v table)) h.whole.spelled.filled (sym (variables_sites h.before 0) ∙ h.whole.voids)
        ∙ ap (λ i. open_from 0 0 i (map outline (drop v table))) n

    found : (w : ℕ) → OpensAt 0 0 v (map outline (drop v table)) w → Some w ≡ Some v
    found w r = by r.k refl
      where
        by : (k : ℕ) → k ≡ r.k → Some w ≡ Some v
        by zero e = let p : w ≡ v = omega (arith, r.place, e) in ap Some p
        by (suc k) e =
            let within = r.within in
            let b : open_from 0 0 v (map outline (take r.k (drop v table))) ≡ None = ap (open_from 0 0 v) (sym (take-map outline r.k (drop v table))) ∙ r.before in
            absurd (none_spelled r.k (omega (arith, e)) (omega (arith, within, length-map (drop v table) outline, length-drop v table, h.inside)) (parsed (take r.k (drop v table)) 0 0 v b))

    at : (o : Option ℕ) → open_from 0 0 v (map outline (drop v table)) ≡ o → o ≡ Some v
    at None e =
        let n : ℕ = length (drop v table) in
        let b : open_from 0 0 v (map outline (take n (drop v table))) ≡ None = ap (λ l. open_from 0 0 v (map outline l)) (take-length (drop v table)) ∙ e in
        absurd (none_spelled n (omega (arith, length-drop v table, h.inside)) (omega (arith, length-drop v table, h.inside)) (parsed (take n (drop v table)) 0 0 v b))
    at (Some w) e = ⊎_elim (λ g. absurd (omega (arith, g.1))) (λ r. found w r) (opens 0 0 v (map outline (drop v table)) w e)

-- a table spells one list of variables
