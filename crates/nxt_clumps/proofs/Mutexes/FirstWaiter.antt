-- The first who waits for a mutex.
use Rattle.std.proofs.Common.{◌≡◌, ◌≢◌, ℕ, zero, suc, ◌<◌, ◌≤◌, ◌==◌, Bool, true, false, if◌then◌else◌, List, [], ◌∷◌, length, get_or, Some, None, refl, ap, sym, ◌∙◌, arith}
use Rattle.std.specs.List.{remove, position, position_or_len}
use Rattle.std.proofs.lemmas.Bool.{eqb-true, ne_eqb, ltb-false}
use Rattle.std.proofs.lemmas.List.Quantifiers.{position-Some}
use Rattle.std.proofs.lemmas.List.Sums.{fails_before_first}
use Rattle.std.specs.Prelude.{nat_lt}
use Rattle.nxt_clumps.specs.declared.waiter.Waiter.{Waiter}
use Rattle.nxt_clumps.specs.Inside.States.{waiters}

-- it stands at a position
pub record IsFirst (m : ℕ) (ws : List Waiter) (i : ℕ) (d : Waiter) : Type 0 where
  pub inside : i < length ws
  pub first : waiters m ws ≡ (get_or ws i d).clump ∷ waiters m (remove ws i)
  pub others : (n : ℕ) → n ≢ m → waiters n (remove ws i) ≡ waiters n ws

if_waits : (x : Waiter) (m : ℕ) (b : Bool) (ws : List Waiter) → (x.mutex == m) ≡ b → waiters m (x ∷ ws) ≡ (if b then x.clump ∷ waiters m ws else waiters m ws)
if_waits x m b ws e = ap (λ (b : Bool). if b then x.clump ∷ waiters m ws else waiters m ws) e

by_first : (m : ℕ) (ws : List Waiter) (i : ℕ) (d : Waiter) → i < length ws → ((get_or ws i d).mutex == m) ≡ true
    → ((k : ℕ) → k < i → ((get_or ws k d).mutex == m) ≡ false) → IsFirst m ws i d
by_first m [] i d inside here before = absurd (omega (arith, inside))
by_first m (x ∷ ws) zero d inside here before =
    record {
      inside = inside;
      first = if_waits x m true ws here;
      others = λ n other.
          let same : x.mutex ≡ m = eqb-true x.mutex m here in
          sym (if_waits x n false ws (ne_eqb x.mutex n (λ e. other (sym e ∙ same))));
    }
by_first m (x ∷ ws) (suc i) d inside here before =
    let later = by_first m ws i d (omega (arith, inside)) here (λ k less. before (suc k) (omega (arith, less))) in
    let not_x = before zero (omega arith) in
    record {
      inside = inside;
      first = if_waits x m false ws not_x ∙ later.first
          ∙ ap (λ (l : List ℕ). (get_or ws i d).clump ∷ l) (sym (if_waits x m false (remove ws i) not_x));
      others = λ n other. ap (λ (l : List ℕ). if x.mutex == n then x.clump ∷ l else l) (later.others n other);
    }

pub first-waiter : (m : ℕ) (ws : List Waiter) (i : ℕ) (d : Waiter) → position (λ (w : Waiter). w.mutex == m) ws ≡ Some i → IsFirst m ws i d
first-waiter m ws i d e =
    let at = position-Some (λ (w : Waiter). w.mutex == m) ws i d e in
    by_first m ws i d at.0 at.1 at.2

none_waits : (m : ℕ) (ws : List Waiter) → ((k : ℕ) (d : Waiter) → k < length ws → ((get_or ws k d).mutex == m) ≡ false) → waiters m ws ≡ []
none_waits m [] h = refl
none_waits m (x ∷ ws) h =
    if_waits x m false ws (h zero x (omega arith)) ∙ none_waits m ws (λ k d less. h (suc k) d (omega (arith, less)))

none_if : (b : Bool) (i : ℕ) → (if b then Some i else None) ≡ None → b ≡ false
none_if true i e = cc
none_if false i e = refl

pub no-waiter : (m : ℕ) (ws : List Waiter) → position (λ (w : Waiter). w.mutex == m) ws ≡ None → waiters m ws ≡ []
no-waiter m ws e =
    let p : Waiter → Bool = λ w. w.mutex == m in
    let past : length ws ≤ position_or_len p ws = ltb-false (position_or_len p ws) (length ws) (none_if (nat_lt (position_or_len p ws) (length ws)) (position_or_len p ws) e) in
    none_waits m ws (λ k d less. fails_before_first p ws k d (omega (arith, past, less)))
