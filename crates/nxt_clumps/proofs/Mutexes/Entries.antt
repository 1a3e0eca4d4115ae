-- Mutexes with their owners and those who wait.
use Rattle.std.proofs.Common.{◌≡◌, ◌≢◌, ℕ, zero, suc, ◌+◌, ◌<◌, ◌≤◌, ◌==◌, Bool, true, false, if◌then◌else◌, List, [], ◌∷◌, ◌++◌, length, set, get_or, Option, Some, None, refl, ap, sym, ◌∙◌, arith}
use Rattle.std.proofs.lemmas.Bool.{eq-eqb, ne_eqb}
use Rattle.std.proofs.lemmas.List.{append-nil}
use Rattle.nxt_model.specs.Clumps.{Mutex, Free, Owned}
use Rattle.nxt_clumps.specs.declared.waiter.Waiter.{Waiter}
use Rattle.nxt_clumps.specs.Inside.States.{waiters, mutex_with, mutexes_from, owner_in, waiters_in}

-- the mutex of an entry
pub mutex-at : (k : ℕ) (os : List (Option ℕ)) (ws : List Waiter) (i j : ℕ) → i < length os → k + i ≡ j
    → get_or (mutexes_from k os ws) i Free ≡ mutex_with (get_or os i None) (waiters j ws)
mutex-at k [] ws i j h e = absurd (omega (arith, h))
mutex-at k (o ∷ os) ws zero j h e =
    let same : k ≡ j = omega (arith, e) in
    ap (λ (m : ℕ). mutex_with o (waiters m ws)) same
mutex-at k (o ∷ os) ws (suc i) j h e = mutex-at (k + 1) os ws i j (omega (arith, h)) (omega (arith, e))

-- no mutex from k on changes
mutexes_same : (k : ℕ) (os : List (Option ℕ)) (ws ws' : List Waiter) → ((m : ℕ) → k ≤ m → waiters m ws' ≡ waiters m ws)
    → mutexes_from k os ws' ≡ mutexes_from k os ws
mutexes_same k [] ws ws' h = refl
mutexes_same k (o ∷ os) ws ws' h =
    ap (λ l. mutex_with o l ∷ mutexes_from (k + 1) os ws') (h k (omega arith))
    ∙ ap (λ ms. mutex_with o (waiters k ws) ∷ ms) (mutexes_same (k + 1) os ws ws' (λ m le. h m (omega (arith, le))))

-- one mutex changes
pub mutexes-set : (k : ℕ) (os : List (Option ℕ)) (ws ws' : List Waiter) (i j : ℕ) (o : Option ℕ) → i < length os → k + i ≡ j
    → ((m : ℕ) → m ≢ j → waiters m ws' ≡ waiters m ws)
    → mutexes_from k (set os i o) ws' ≡ set (mutexes_from k os ws) i (mutex_with o (waiters j ws'))
mutexes-set k [] ws ws' i j o h e other = absurd (omega (arith, h))
mutexes-set k (p ∷ os) ws ws' zero j o h e other =
    let same : k ≡ j = omega (arith, e) in
    ap (λ (m : ℕ). mutex_with o (waiters m ws') ∷ mutexes_from (k + 1) os ws') same
    ∙ ap (λ ms. mutex_with o (waiters j ws') ∷ ms) (mutexes_same (k + 1) os ws ws' (λ m le. other m (λ d. omega (arith, d, le, e))))
mutexes-set k (p ∷ os) ws ws' (suc i) j o h e other =
    ap (λ l. mutex_with p l ∷ mutexes_from (k + 1) (set os i o) ws') (other k (λ d. omega (arith, d, e)))
    ∙ ap (λ ms. mutex_with p (waiters k ws) ∷ ms) (mutexes-set (k + 1) os ws ws' i j o (omega (arith, h)) (omega (arith, e)) other)

-- ---- one more waits

waits_more : (b : Bool) (w : ℕ) (xs ys : List ℕ) → (if b then w ∷ (xs ++ ys) else xs ++ ys) ≡ (if b then w ∷ xs else xs) ++ ys
waits_more true w xs ys = refl
waits_more false w xs ys = refl

pub waiters-push : (m : ℕ) (ws : List Waiter) (w : Waiter) → waiters m (ws ++ w ∷ []) ≡ waiters m ws ++ (if w.mutex == m then w.clump ∷ [] else [])
waiters-push m [] w = refl
waiters-push m (x ∷ ws) w =
    ap (λ l. if x.mutex == m then x.clump ∷ l else l) (waiters-push m ws w)
    ∙ waits_more (x.mutex == m) x.clump (waiters m ws) (if w.mutex == m then w.clump ∷ [] else [])

pub waiters-push_same : (m : ℕ) (ws : List Waiter) (w : Waiter) → w.mutex ≡ m → waiters m (ws ++ w ∷ []) ≡ waiters m ws ++ w.clump ∷ []
waiters-push_same m ws w e =
    waiters-push m ws w ∙ ap (λ (b : Bool). waiters m ws ++ (if b then w.clump ∷ [] else [])) (eq-eqb w.mutex m e)

pub waiters-push_other : (m : ℕ) (ws : List Waiter) (w : Waiter) → m ≢ w.mutex → waiters m (ws ++ w ∷ []) ≡ waiters m ws
waiters-push_other m ws w e =
    waiters-push m ws w ∙ ap (λ (b : Bool). waiters m ws ++ (if b then w.clump ∷ [] else [])) (ne_eqb w.mutex m (λ d. e (sym d))) ∙ append-nil (waiters m ws)

-- ---- owners

pub owner-with : (o : Option ℕ) (ws : List ℕ) → owner_in (mutex_with o ws) ≡ o
owner-with None ws = refl
owner-with (Some owner) ws = refl

pub owner-at : (os : List (Option ℕ)) (ws : List Waiter) (m : ℕ) → m < length os → owner_in (get_or (mutexes_from 0 os ws) m Free) ≡ get_or os m None
owner-at os ws m h = ap owner_in (mutex-at 0 os ws m m h (omega arith)) ∙ owner-with (get_or os m None) (waiters m ws)

of_mutex : (o : Option ℕ) (ws : List ℕ) (owner : ℕ) (those : List ℕ) → mutex_with o ws ≡ Owned owner those → (o ≡ Some owner) × (ws ≡ those)
of_mutex None ws owner those e = cc
of_mutex (Some p) ws owner those e = (ap owner_in e, ap waiters_in e)

pub waiters-at : (os : List (Option ℕ)) (ws : List Waiter) (m owner : ℕ) (those : List ℕ) → m < length os
    → get_or (mutexes_from 0 os ws) m Free ≡ Owned owner those → (get_or os m None ≡ Some owner) × (waiters m ws ≡ those)
waiters-at os ws m owner those h e = of_mutex (get_or os m None) (waiters m ws) owner those (sym (mutex-at 0 os ws m m h (omega arith)) ∙ e)

pub owner-none : (x : Mutex) → owner_in x ≡ None → x ≡ Free
owner-none Free e = refl
owner-none (Owned owner ws) e = cc

pub owner-some : (x : Mutex) (owner : ℕ) → owner_in x ≡ Some owner → x ≡ Owned owner (waiters_in x)
owner-some Free owner e = cc
owner-some (Owned o ws) owner e = let same : o ≡ owner = cc in ap (λ (o : ℕ). Owned o ws) same
