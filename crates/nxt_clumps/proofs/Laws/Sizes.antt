-- No rule changes how many clumps or mutexes there are.
use Rattle.std.proofs.Common.{◌≡◌, ℕ, ◌-◌, Bool, true, false, if◌then◌else◌, List, [], ◌∷◌, ◌++◌, length, ℤ, Option, Some, None, refl, ◌∙◌, length-set, ◌==◌}
use Rattle.std.specs.Prelude.{nat_lt}
use Rattle.std.proofs.lemmas.List.{length-map, length-replicate}
use Rattle.nxt_model.specs.declared.line.Stop.{Stop}
use Rattle.nxt_model.specs.Step.{turned}
use Rattle.nxt_clumps.specs.Clumps.{moved}
use Rattle.nxt_model.specs.Clumps.{Plan, Activity, Idle, Queued, Waiting, Calling, Clump, Clumps, Mutex, Free, Owned, Ruled, first_clump, change_clump, change_mutex, leave, enqueue, enqueue_at, retire, with_place, rotate, is_idle, is_calling, clump, mutex, lower, lower_all, unless_stopped, between, finish, schedule, call, return_to, acquire, acquire_at, hand_on, release, release_at, enqueue_all, by_moment, due_from, wake, clumps_at_start, plan_of}

pub record SameSizes (old new : Clumps) : Type 0 where
  pub clumps : length new.clumps ≡ length old.clumps
  pub mutexes : length new.mutexes ≡ length old.mutexes

same : (s : Clumps) → SameSizes s s
same s = record { clumps = refl; mutexes = refl }

after : (a b c : Clumps) → SameSizes a b → SameSizes b c → SameSizes a c
after a b c x y = record { clumps = y.clumps ∙ x.clumps; mutexes = y.mutexes ∙ x.mutexes }

pub sizes-at_start : (plans : List Plan) (entries : ℕ) → (length (clumps_at_start plans entries).clumps ≡ length plans) × (length (clumps_at_start plans entries).mutexes ≡ entries)
sizes-at_start plans entries = (length-map plans first_clump, length-replicate entries Free)

pub sizes-change_clump : (f : Clump → Clump) (c : ℕ) (s : Clumps) → SameSizes s (change_clump f c s)
sizes-change_clump f c s = record { clumps = length-set s.clumps c (f (clump s c)); mutexes = refl }

sizes-change_mutex : (m : ℕ) (x : Mutex) (s : Clumps) → SameSizes s (change_mutex m x s)
sizes-change_mutex m x s = record { clumps = refl; mutexes = length-set s.mutexes m x }

pub sizes-rotate : (s : Clumps) → SameSizes s (rotate s)
sizes-rotate s = record { clumps = refl; mutexes = refl }

pub sizes-moved : (h place n : ℕ) (s : Clumps) → SameSizes s (moved h place n s)
sizes-moved h place n s = record { clumps = (sizes-change_clump (with_place place) h s).clumps; mutexes = refl }

if_turned : (b : Bool) (s : Clumps) → SameSizes s (if b then rotate s else s)
if_turned true s = sizes-rotate s
if_turned false s = same s

pub sizes-turned : (s : Clumps) → SameSizes s (turned s)
sizes-turned s = if_turned (s.turn == 20) s

pub sizes-leave : (a : Activity) (h : ℕ) (s : Clumps) → SameSizes s (leave a h s)
sizes-leave a h s = record { clumps = (sizes-change_clump (λ k. record k { activity = a }) h s).clumps; mutexes = refl }

sizes-enqueue : (c : ℕ) (s : Clumps) → SameSizes s (enqueue c s)
sizes-enqueue c s = record { clumps = length-set s.clumps c (record (clump s c) { activity = Queued }); mutexes = refl }

sizes-enqueue_at : (start c : ℕ) (s : Clumps) → SameSizes s (enqueue_at start c s)
sizes-enqueue_at start c s =
    after s (enqueue c s) (enqueue_at start c s) (sizes-enqueue c s) (sizes-change_clump (λ k. record k { place = start }) c (enqueue c s))

sizes-retire : (plans : List Plan) (h : ℕ) (s : Clumps) → SameSizes s (retire plans h s)
sizes-retire plans h s =
    after s (leave Idle h s) (retire plans h s) (sizes-leave Idle h s) (sizes-change_clump (λ k. record k { place = (plan_of plans h).start }) h (leave Idle h s))

-- ---- rules

if_ruled : (b : Bool) (s : Clumps) (x y : Ruled) → SameSizes s x.0 → SameSizes s y.0 → SameSizes s (if b then x else y).0
if_ruled true s x y h k = h
if_ruled false s x y h k = k

pub sizes-lower : (plans : List Plan) (d : ℕ) (s : Clumps) → SameSizes s (lower plans d s).0
sizes-lower plans d s =
    let queued = enqueue_at (plan_of plans d).start d s in
    let lowered : SameSizes s (change_clump (λ k. record k { count = (clump s d).count - 1 }) d s) = sizes-change_clump (λ k. record k { count = (clump s d).count - 1 }) d s in
    let due : SameSizes s (change_clump (λ k. record k { count = (plan_of plans d).fire }) d queued) =
    after s queued _ (sizes-enqueue_at (plan_of plans d).start d s) (sizes-change_clump (λ k. record k { count = (plan_of plans d).fire }) d queued) in
    if_ruled (nat_lt 1 (clump s d).count) s _ _ lowered (if_ruled (is_idle (clump s d).activity) s _ _ due (same s))

sizes_more : (plans : List Plan) (ds : List ℕ) (s t : Clumps) (r : Option Stop) → SameSizes s t → SameSizes t (lower_all plans ds t).0
    → SameSizes s (unless_stopped (lower_all plans ds) t r).0
sizes_more plans ds s t None x y = after s t (lower_all plans ds t).0 x y
sizes_more plans ds s t (Some why) x y = x

pub sizes-lower_all : (plans : List Plan) (ds : List ℕ) (s : Clumps) → SameSizes s (lower_all plans ds s).0
sizes-lower_all plans [] s = same s
sizes-lower_all plans (d ∷ ds) s =
    sizes_more plans ds s (lower plans d s).0 (lower plans d s).1 (sizes-lower plans d s) (sizes-lower_all plans ds (lower plans d s).0)

pub sizes-finish : (plans : List Plan) (start end : ℤ) (h : ℕ) (s : Clumps) → SameSizes s (finish plans start end h s).0
sizes-finish plans start end h s =
    after s (retire plans h s) (finish plans start end h s).0 (sizes-retire plans h s)
    (sizes-lower_all plans (between start end 0 (plan_of plans h).dependents) (retire plans h s))

pub sizes-schedule : (plans : List Plan) (c h : ℕ) (s : Clumps) → SameSizes s (schedule plans c h s).0
sizes-schedule plans c h s =
    after s (retire plans h s) (schedule plans c h s).0 (sizes-retire plans h s) (sizes-lower plans c (retire plans h s))

pub sizes-call : (plans : List Plan) (c h : ℕ) (s : Clumps) → SameSizes s (call plans c h s).0
sizes-call plans c h s =
    let away = leave Calling h s in
    if_ruled (is_idle (clump s c).activity) s _ _
    (after s away (enqueue_at (plan_of plans c).start c away) (sizes-leave Calling h s) (sizes-enqueue_at (plan_of plans c).start c away)) (same s)

pub sizes-return_to : (plans : List Plan) (n h : ℕ) (s : Clumps) → SameSizes s (return_to plans n h s).0
sizes-return_to plans n h s =
    if_ruled (is_calling (clump s n).activity) s _ _
    (after s (retire plans h s) (enqueue n (retire plans h s)) (sizes-retire plans h s) (sizes-enqueue n (retire plans h s))) (same s)

sizes_acquire : (x : Mutex) (m h : ℕ) (s : Clumps) → SameSizes s (acquire_at x m h s).0
sizes_acquire Free m h s = sizes-change_mutex m (Owned h []) s
sizes_acquire (Owned owner ws) m h s =
    let away = leave (Waiting m) h s in
    after s away (change_mutex m (Owned owner (ws ++ h ∷ [])) away) (sizes-leave (Waiting m) h s) (sizes-change_mutex m (Owned owner (ws ++ h ∷ [])) away)

pub sizes-acquire : (m h : ℕ) (s : Clumps) → SameSizes s (acquire m h s).0
sizes-acquire m h s = sizes_acquire (mutex s m) m h s

sizes_hand_on : (ws : List ℕ) (m : ℕ) (s : Clumps) → SameSizes s (hand_on ws m s)
sizes_hand_on [] m s = sizes-change_mutex m Free s
sizes_hand_on (w ∷ ws) m s =
    let given = change_mutex m (Owned w ws) s in
    after s given (enqueue w given) (sizes-change_mutex m (Owned w ws) s) (sizes-enqueue w given)

sizes_release : (x : Mutex) (m h : ℕ) (s : Clumps) → SameSizes s (release_at x m h s).0
sizes_release Free m h s = same s
sizes_release (Owned owner ws) m h s = if_ruled (owner == h) s _ _ (sizes_hand_on ws m s) (same s)

pub sizes-release : (m h : ℕ) (s : Clumps) → SameSizes s (release m h s).0
sizes-release m h s = sizes_release (mutex s m) m h s

sizes_enqueue_all : (xs : List (ℕ × ℕ)) (s : Clumps) → SameSizes s (enqueue_all xs s)
sizes_enqueue_all [] s = same s
sizes_enqueue_all (x ∷ xs) s = after s (enqueue x.1 s) (enqueue_all xs (enqueue x.1 s)) (sizes-enqueue x.1 s) (sizes_enqueue_all xs (enqueue x.1 s))

pub sizes-wake : (clock : ℕ) (s : Clumps) → SameSizes s (wake clock s)
sizes-wake clock s = sizes_enqueue_all (by_moment (due_from clock 0 s.clumps)) s
