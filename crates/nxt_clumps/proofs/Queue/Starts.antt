-- Clumps at their start.
use Rattle.std.proofs.Common.{◌≡◌, ℕ, zero, suc, ◌+◌, ◌<◌, ◌==◌, Bool, true, false, if◌then◌else◌, List, [], ◌∷◌, length, map, replicate, Option, None, refl, ap, sym, ◌∙◌, arith}
use Rattle.std.proofs.lemmas.Bool.{eq-eqb, ne_eqb}
use Rattle.std.proofs.lemmas.List.Sums.{sum_by-cons}
use Rattle.nxt_model.specs.Clumps.{Activity, Idle, Queued, Plan, Clump, first_clump, first_queue, Free}
use Rattle.nxt_clumps.specs.declared.waiter.Waiter.{Waiter}
use Rattle.nxt_clumps.specs.Inside.States.{is_queued, is_waiting, one, activity_at, how_many, times, AreThose, mutexes_from}

times_other : (b : Bool) (n k : ℕ) (rest : List ℕ) → (k ≡ n → ⊥) → times n (if b then k ∷ rest else rest) ≡ times n rest
times_other true n k rest other = omega (arith, sum_by-cons (λ (m : ℕ). one (m == n)) k rest, ap one (ne_eqb k n other))
times_other false n k rest other = refl

times_same : (b : Bool) (n k : ℕ) (rest : List ℕ) → k ≡ n → times n rest ≡ 0 → times n (if b then k ∷ rest else rest) ≡ one (is_queued (if b then Queued else Idle))
times_same true n k rest same none = omega (arith, sum_by-cons (λ (m : ℕ). one (m == n)) k rest, ap one (eq-eqb k n same))
times_same false n k rest same none = none

below : (k : ℕ) (ps : List Plan) (n : ℕ) → n < k → times n (first_queue k ps) ≡ 0
below k [] n h = refl
below k (p ∷ ps) n h = times_other (p.fire == 0) n k (first_queue (k + 1) ps) (λ e. omega (arith, e, h)) ∙ below (k + 1) ps n (omega (arith, h))

from : (k : ℕ) (ps : List Plan) (n m : ℕ) → k + n ≡ m → times m (first_queue k ps) ≡ one (is_queued (activity_at (map first_clump ps) n))
from k [] n m e = refl
from k (p ∷ ps) zero m e =
    times_same (p.fire == 0) m k (first_queue (k + 1) ps) (omega (arith, e)) (below (k + 1) ps m (omega (arith, e)))
from k (p ∷ ps) (suc n) m e =
    times_other (p.fire == 0) m k (first_queue (k + 1) ps) (λ d. omega (arith, d, e)) ∙ from (k + 1) ps n m (omega (arith, e))

long_if : (b : Bool) (k : ℕ) (rest : List ℕ) → length (if b then k ∷ rest else rest) ≡ one (is_queued (if b then Queued else Idle)) + length rest
long_if true k rest = omega arith
long_if false k rest = omega arith

whole : (k : ℕ) (ps : List Plan) → length (first_queue k ps) ≡ how_many is_queued (map first_clump ps)
whole k [] = refl
whole k (p ∷ ps) =
    omega (arith, long_if (p.fire == 0) k (first_queue (k + 1) ps), whole (k + 1) ps, sum_by-cons (λ (k : Clump). one (is_queued k.activity)) (first_clump p) (map first_clump ps))

pub queued-start : (ps : List Plan) → AreThose is_queued (map first_clump ps) (first_queue 0 ps)
queued-start ps = record { each = λ n. from 0 ps n n (omega arith); whole = whole 0 ps }

none_if : (test : Activity → Bool) → test Queued ≡ false → test Idle ≡ false → (b : Bool) → one (test (if b then Queued else Idle)) ≡ 0
none_if test q i true = ap one q
none_if test q i false = ap one i

none-at : (test : Activity → Bool) → test Queued ≡ false → test Idle ≡ false → (ps : List Plan) (n : ℕ) → one (test (activity_at (map first_clump ps) n)) ≡ 0
none-at test q i [] n = ap one i
none-at test q i (p ∷ ps) zero = none_if test q i (p.fire == 0)
none-at test q i (p ∷ ps) (suc n) = none-at test q i ps n

pub none-start : (test : Activity → Bool) → test Queued ≡ false → test Idle ≡ false → (ps : List Plan) → how_many test (map first_clump ps) ≡ 0
none-start test q i [] = refl
none-start test q i (p ∷ ps) =
    omega (arith, none_if test q i (p.fire == 0), none-start test q i ps, sum_by-cons (λ (k : Clump). one (test k.activity)) (first_clump p) (map first_clump ps))

pub waits-start : (ps : List Plan) → AreThose is_waiting (map first_clump ps) []
waits-start ps = record { each = λ n. sym (none-at is_waiting refl refl ps n); whole = sym (none-start is_waiting refl refl ps) }

-- ---- mutexes

pub length-mutexes_from : (m : ℕ) (owners : List (Option ℕ)) (ws : List Waiter) → length (mutexes_from m owners ws) ≡ length owners
length-mutexes_from m [] ws = refl
length-mutexes_from m (o ∷ os) ws = ap suc (length-mutexes_from (m + 1) os ws)

pub mutexes-start : (m n : ℕ) → mutexes_from m (replicate n None) [] ≡ replicate n Free
mutexes-start m zero = refl
mutexes-start m (suc n) = ap (λ ms. Free ∷ ms) (mutexes-start (m + 1) n)
