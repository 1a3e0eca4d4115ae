-- A table that is open, and where.
use Rattle.std.proofs.Common.{◌≡◌, ℕ, zero, suc, ◌+◌, ◌<◌, ◌≤◌, List, [], ◌∷◌, refl, sym, ap, ◌∙◌, length, arith, Bool, true, false, ◌⊎◌, inl, inr, ⊎_elim, take, drop, Option, Some, None}
use Rattle.std.specs.Prelude.{if◌then◌else◌}
use Rattle.nxt_table.specs.Inside.Items.{item, needs_behind, breaks_off, open_from}
use Rattle.nxt_table.proofs.Entries.Spelled.{suc_not_zero, inside, at_place}

-- ---- a table that is open

fork : (b : Bool) (a w : ℕ) (x : Option ℕ) → (if b then Some a else x) ≡ Some w → (w ≡ a) ⊎ ((b ≡ false) × (x ≡ Some w))
fork true a w x e = inl cc
fork false a w x e = inr (refl, e)

none_left : (start n w : ℕ) → open_from start (suc n) 0 [] ≡ Some w → w ≡ start
none_left start n w e = let f = sym (ap (λ b. if b then None else Some start) (suc_not_zero n)) ∙ e in cc

-- the answer is the beginning that is known, or lies behind
pub at_least : (start n i : ℕ) (os : List (ℕ × ℕ)) (w : ℕ) → open_from start n i os ≡ Some w → ((w ≡ start) × (0 < n)) ⊎ (i ≤ w)
at_least start zero i [] w e = cc
at_least start (suc n) i [] w e = inl (none_left start n w e, omega arith)
at_least start zero i (o ∷ os) w e =
    ⊎_elim
    (λ (h : w ≡ i). inr (omega (arith, h)))
    (λ h. ⊎_elim (λ g. inr (omega (arith, g.0))) (λ g. inr (omega (arith, g))) (at_least i (needs_behind 0 (item o)) (i + 1) os w h.1))
    (fork (breaks_off 0 (item o)) i w _ e)
at_least start (suc n) i (o ∷ os) w e =
    ⊎_elim
    (λ (h : w ≡ start). inl (h, omega arith))
    (λ h. ⊎_elim (λ g. inl (g.0, omega arith)) (λ g. inr (omega (arith, g))) (at_least start (needs_behind (suc n) (item o)) (i + 1) os w h.1))
    (fork (breaks_off (suc n) (item o)) start w _ (sym (inside start n i o os) ∙ e))

-- what stands before the place is whole, and nothing is spelled from it
pub record OpensAt (start n i : ℕ) (os : List (ℕ × ℕ)) (w : ℕ) : Type 0 where
  pub k : ℕ
  pub place : w ≡ i + k
  pub before : open_from start n i (take k os) ≡ None
  pub here : open_from 0 0 w (drop k os) ≡ Some w
  pub within : k < length os

opens_here : (start i w : ℕ) (o : ℕ × ℕ) (os : List (ℕ × ℕ)) → w ≡ i → open_from start 0 i (o ∷ os) ≡ Some w → OpensAt start 0 i (o ∷ os) w
opens_here start i w o os h e =
    record {
      k = 0;
      place = omega (arith, h);
      before = refl;
      here = at_place 0 0 w i (o ∷ os) h ∙ e;
      within = omega arith;
    }

pub opens : (start n i : ℕ) (os : List (ℕ × ℕ)) (w : ℕ) → open_from start n i os ≡ Some w → ((w ≡ start) × (0 < n)) ⊎ OpensAt start n i os w
opens start zero i [] w e = cc
opens start (suc n) i [] w e = inl (none_left start n w e, omega arith)
opens start zero i (o ∷ os) w e =
    ⊎_elim
    (λ (h : w ≡ i). inr (opens_here start i w o os h e))
    (λ h. ⊎_elim
    (λ g. inr (opens_here start i w o os g.0 e))
    (λ r. inr (record {
      k = suc r.k;
      place = let p = r.place in omega (arith, p);
      before = ap (λ b. if b then Some i else open_from i (needs_behind 0 (item o)) (i + 1) (take r.k os)) h.0 ∙ r.before;
      here = r.here;
      within = let p = r.within in omega (arith, p);
    }))
    (opens i (needs_behind 0 (item o)) (i + 1) os w h.1))
    (fork (breaks_off 0 (item o)) i w _ e)
opens start (suc n) i (o ∷ os) w e =
    ⊎_elim
    (λ (h : w ≡ start). inl (h, omega arith))
    (λ h. ⊎_elim
    (λ g. inl (g.0, omega arith))
    (λ r. inr (record {
      k = suc r.k;
      place = let p = r.place in omega (arith, p);
      before = inside start n i o (take r.k os) ∙ ap (λ b. if b then Some start else open_from start (needs_behind (suc n) (item o)) (i + 1) (take r.k os)) h.0 ∙ r.before;
      here = r.here;
      within = let p = r.within in omega (arith, p);
    }))
    (opens start (needs_behind (suc n) (item o)) (i + 1) os w h.1))
    (fork (breaks_off (suc n) (item o)) start w _ (sym (inside start n i o os) ∙ e))
