-- What the first place that is found says.
use Rattle.std.proofs.Common.{◌≡◌, ℕ, zero, suc, ◌+◌, ◌-◌, ◌<◌, ◌≤◌, List, [], ◌∷◌, refl, sym, ap, ◌∙◌, length, arith, Bool, true, false, drop, Some, None}
use Rattle.std.specs.Prelude.{map, nat_lt, IsTrue, slice_get, if◌then◌else◌}
use Rattle.std.proofs.lemmas.Bool.Decides.{nat_tests}
use Rattle.std.proofs.lemmas.List.{length-drop}
use Rattle.nxt_types.specs.Refusals.{passes}
use Rattle.nxt_types.specs.declared.shape.TocEntry.{TocEntry}
use Rattle.nxt_types.specs.Shapes.{outline}
use Rattle.nxt_table.specs.declared.enclosing.Frame.{Frame}
use Rattle.nxt_table.specs.Inside.Items.{first_from}
use Rattle.nxt_table.specs.Inside.Enclosing.{marks_from, is_deep}

module _ {X : Type 0} (test : X → Bool) where
  -- where something passes, something before or at it is found
  found_before : (xs : List X) (i v : ℕ) → IsTrue (passes test (slice_get xs v)) → (w : ℕ) × (first_from test i xs ≡ Some w) × (w ≤ i + v)
  found_before [] i v h = absurd (let e : false ≡ true = h in cc)
  found_before (x ∷ xs) i zero h = (i, ap (λ b. if b then Some i else first_from test (i + 1) xs) h, omega arith)
  found_before (x ∷ xs) i (suc v) h = at (test x) refl (found_before xs (i + 1) v h)
    where
      at : (b : Bool) → test x ≡ b → (w : ℕ) × (first_from test (i + 1) xs ≡ Some w) × (w ≤ i + 1 + v) → (w : ℕ) × (first_from test i (x ∷ xs) ≡ Some w) × (w ≤ i + suc v)
      at true e r = (i, ap (λ b. if b then Some i else first_from test (i + 1) xs) e, omega arith)
      at false e r = (r.0, ap (λ b. if b then Some i else first_from test (i + 1) xs) e ∙ r.1, omega (arith, r.2))

  -- what is found passes
  found_passes : (xs : List X) (i w : ℕ) → first_from test i xs ≡ Some w → (i ≤ w) × IsTrue (passes test (slice_get xs (w - i)))
  found_passes [] i w e = cc
  found_passes (x ∷ xs) i w e = at (test x) refl (found_passes xs (i + 1) w)
    where
      at : (b : Bool) → test x ≡ b → (first_from test (i + 1) xs ≡ Some w → (i + 1 ≤ w) × IsTrue (passes test (slice_get xs (w - (i + 1))))) →
          (i ≤ w) × IsTrue (passes test (slice_get (x ∷ xs) (w - i)))
      at true f r =
          let s : Some i ≡ Some w = sym (ap (λ b. if b then Some i else first_from test (i + 1) xs) f) ∙ e in
          let same : i ≡ w = cc in
          let none : w - i ≡ 0 = omega (arith, same) in
          (omega (arith, same), ap (λ k. passes test (slice_get (x ∷ xs) k)) none ∙ f)
      at false f r =
          let s : first_from test (i + 1) xs ≡ Some w = sym (ap (λ b. if b then Some i else first_from test (i + 1) xs) f) ∙ e in
          let g = r s in
          let one : w - i ≡ suc (w - (i + 1)) = omega (arith, g.0) in
          (omega (arith, g.0), ap (λ k. passes test (slice_get (x ∷ xs) k)) one ∙ g.1)

-- the first that passes passes, and no lesser one does
pub first_passes : {X : Type 0} (test : X → Bool) (xs : List X) (w : ℕ) → first_from test 0 xs ≡ Some w → IsTrue (passes test (slice_get xs w))
first_passes test xs w e =
    let none : w - 0 ≡ w = omega arith in sym (ap (λ k. passes test (slice_get xs k)) none) ∙ (found_passes test xs 0 w e).1

pub first_is_least : {X : Type 0} (test : X → Bool) (xs : List X) (w v : ℕ) → first_from test 0 xs ≡ Some w → IsTrue (passes test (slice_get xs v)) → w ≤ v
first_is_least test xs w v e h =
    let r = found_before test xs 0 v h in
    let s : Some w ≡ Some r.0 = sym e ∙ r.1 in
    let same : w ≡ r.0 = cc in
    omega (arith, same, r.2)

-- where none is found, none passes
pub none_passes : {X : Type 0} (test : X → Bool) (xs : List X) (v : ℕ) → first_from test 0 xs ≡ None → IsTrue (passes test (slice_get xs v)) → ⊥
none_passes test xs v e h = let r = found_before test xs 0 v h in let s : None ≡ Some r.0 = sym e ∙ r.1 in cc

pub first_from-map : {X Y : Type 0} (test : Y → Bool) (f : X → Y) (i : ℕ) (xs : List X) → first_from test i (map f xs) ≡ first_from (λ x. test (f x)) i xs
first_from-map test f i [] = refl
first_from-map test f i (x ∷ xs) = ap (λ o. if test (f x) then Some i else o) (first_from-map test f (i + 1) xs)

-- an entry that is too deep is found where it stands
pub deep_here : (n i : ℕ) (fs : List Frame) (entries : List TocEntry) → 8 < length fs → i < length entries →
    first_from is_deep i (marks_from n fs i (map outline (drop i entries))) ≡ Some i
deep_here n i fs entries deep within = at (drop i entries) (omega (arith, within, length-drop i entries))
  where
    at : (es : List TocEntry) → 0 < length es → first_from is_deep i (marks_from n fs i (map outline es)) ≡ Some i
    at [] h = absurd (omega (arith, h))
    at (e ∷ es) h = let t : nat_lt 8 (length fs) ≡ true = grind (arith, nat_tests) in rw t refl
