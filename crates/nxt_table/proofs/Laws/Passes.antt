-- Passes one after another, of which the first that finds a fault tells it.
use Rattle.std.proofs.Common.{◌≡◌, ℕ, ◌<◌, ◌≤◌, List, [], ◌∷◌, refl, sym, ap, ◌∙◌, subst, arith, Bool, true, false, ◌&&◌, ◌⊎◌, ⊎_elim, Option, Some, None}
use Rattle.std.proofs.lemmas.Bool.Decides.{nat_tests}
use Rattle.std.specs.Prelude.{nat_lt, ◌==◌, IsTrue}
use Rattle.std.proofs.Common.{◌≡◌, ℕ, ◌≤◌, ◌<◌, List, [], ◌∷◌, refl, sym, ap, ◌∙◌, subst, arith, Bool, true, false, ◌&&◌, ◌||◌, Option, Some, None, Result, Ok, Err, IfErr, IsErrAnd, lt-ltb}
use Rattle.std.proofs.lemmas.Bool.{or_left}
use Rattle.std.proofs.lemmas.Bool.Decides.{nat_tests}
use Rattle.std.specs.Prelude.{nat_lt, ◌==◌, IsTrue}
use Rattle.nxt_types.specs.Refusals.{comes_first}
use Rattle.nxt_table.specs.Inside.Checks.{fault_or}

-- ---- in order

-- it is one that comes first, or the same
pub record Finds {F : Type 0} (rank : F → List ℕ) (o : Option F) (g : F) : Type 0 where
  pub fault : F
  pub found : o ≡ Some fault
  pub order : IsTrue (comes_first (rank fault) (rank g))

abbrev pub option_or : {F : Type 0} → Option F → Option F → Option F
option_or None later = later
option_or (Some f) later = Some f

-- past a pass that is the last of its kind
pub past_last : {F : Type 0} (rank : F → List ℕ) (fault : ℕ → F) (o : Option ℕ) (more : Option F) (g : F) → ((w : ℕ) → o ≡ Some w → IsTrue (comes_first (rank (fault w)) (rank g))) →
    (o ≡ None → Finds rank more g) → Finds rank (fault_or fault o more) g
past_last rank fault None more g before next = next refl
past_last rank fault (Some w) more g before next = record { fault = fault w; found = refl; order = before w refl }

-- past a pass, to those behind it
pub past : {F : Type 0} (rank : F → List ℕ) (fault : ℕ → F) (o : Option ℕ) (more later : Option F) (g : F) → ((w : ℕ) → o ≡ Some w → IsTrue (comes_first (rank (fault w)) (rank g))) →
    (o ≡ None → Finds rank (option_or more later) g) → Finds rank (option_or (fault_or fault o more) later) g
past rank fault None more later g before next = next refl
past rank fault (Some w) more later g before next = record { fault = fault w; found = refl; order = before w refl }

-- ---- places

pub same_rule : (r w v : ℕ) → w ≤ v → IsTrue (comes_first (r ∷ w ∷ []) (r ∷ v ∷ []))
same_rule r w v h = grind (arith, nat_tests)

pub first_more : (r a b c d : ℕ) → IsTrue (comes_first (a ∷ b ∷ []) (c ∷ d ∷ [])) → IsTrue (comes_first (r ∷ a ∷ b ∷ []) (r ∷ c ∷ d ∷ []))
first_more r a b c d h =
    let s : (r == r) ≡ true = grind (arith, nat_tests) in
    by (nat_lt r r) (ap (λ q. q && comes_first (a ∷ b ∷ []) (c ∷ d ∷ [])) s ∙ h)
  where
    by : (q : Bool) → ((r == r) && comes_first (a ∷ b ∷ []) (c ∷ d ∷ [])) ≡ true → (q || ((r == r) && comes_first (a ∷ b ∷ []) (c ∷ d ∷ []))) ≡ true
    by true e = refl
    by false e = e

-- a lesser rule comes first
pub later_rule : (k : ℕ) (other : List ℕ) (r : ℕ) (place : List ℕ) → r < k → IsTrue (comes_first (r ∷ place) (k ∷ other))
later_rule k other r place below =
    or_left (nat_lt r k) ((r == k) && comes_first place other) (lt-ltb r k below)

-- ---- what is found is broken

pub by_pass : {F : Type 0} (P : F → Type 0) (fault : ℕ → F) (o : Option ℕ) (more : Option F) (f : F) → fault_or fault o more ≡ Some f →
    ((w : ℕ) → o ≡ Some w → P (fault w)) → (o ≡ None → more ≡ Some f → P f) → P f
by_pass P fault None more f e here next = next refl e
by_pass P fault (Some w) more f e here next = let same : fault w ≡ f = cc in subst P same (here w refl)

-- ---- passes that found nothing

pub nothing : {F : Type 0} (fault : ℕ → F) (o : Option ℕ) (later : Option F) → fault_or fault o later ≡ None → (o ≡ None) × (later ≡ None)
nothing fault None later e = (refl, e)
nothing fault (Some w) later e = cc

-- ---- answers

-- an error that is passed on
pub passed_on : {T F : Type 0} (r : Result T F) (f : F) (P : F → Type 0) → IsErrAnd r (λ e. e ≡ f) → P f → IfErr r P
passed_on (Ok x) f P h b = tt
passed_on (Err e) f P h b = subst P (sym h) b

pub comes : (a b c d : ℕ) → (a < c) ⊎ ((a ≡ c) × (b ≤ d)) → IsTrue (comes_first (a ∷ b ∷ []) (c ∷ d ∷ []))
comes a b c d h = ⊎_elim (λ (p : a < c). grind (arith, nat_tests)) (λ p. let x : a ≡ c = p.0 in let y : b ≤ d = p.1 in grind (arith, nat_tests)) h
