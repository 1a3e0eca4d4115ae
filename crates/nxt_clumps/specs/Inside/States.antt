-- The queue, those who wait and the owners of mutexes, as the program keeps them.
use Rattle.std.specs.Prelude.{◌≡◌, ℕ, ◌+◌, ◌≤◌, Bool, true, false, if◌then◌else◌, ◌==◌, List, [], ◌∷◌, length, map, sum_by, Option, Some, None, slice_index_or}
use Rattle.nxt_model.specs.Clumps.{Activity, Queued, Waiting, Clump, no_clump, is_asleep, Mutex, Free, Owned, Clumps}
use Rattle.nxt_clumps.specs.declared.sleeper.Sleeper.{Sleeper}
use Rattle.nxt_clumps.specs.declared.waiter.Waiter.{Waiter}
use Rattle.nxt_clumps.specs.Inside.Sleepers.{pairs_of, in_order}

abbrev pub is_queued : Activity → Bool
is_queued Queued = true
is_queued _ = false

abbrev pub is_waiting : Activity → Bool
is_waiting (Waiting m) = true
is_waiting _ = false

-- neither queued, nor waiting for a mutex, nor asleep
pub record IsPlain (a : Activity) : Type 0 where
  pub not_queued : is_queued a ≡ false
  pub not_waiting : is_waiting a ≡ false
  pub not_asleep : is_asleep a ≡ false

abbrev pub one : Bool → ℕ
one b = if b then 1 else 0

-- what the clump with this number does
abbrev pub activity_at : List Clump → ℕ → Activity
activity_at clumps c = (slice_index_or clumps c no_clump).activity

-- how many clumps pass a test
abbrev pub how_many : (Activity → Bool) → List Clump → ℕ
how_many test clumps = sum_by (λ (k : Clump). one (test k.activity)) clumps

-- how often a number stands in a list
abbrev pub times : ℕ → List ℕ → ℕ
times c numbers = sum_by (λ (n : ℕ). one (n == c)) numbers

-- these are the numbers of the clumps that pass a test, each of them once
pub record AreThose (test : Activity → Bool) (clumps : List Clump) (numbers : List ℕ) : Type 0 where
  pub each : (c : ℕ) → times c numbers ≡ one (test (activity_at clumps c))
  pub whole : length numbers ≡ how_many test clumps

-- ---- mutexes

abbrev pub numbers_of : List Waiter → List ℕ
numbers_of ws = map (λ (w : Waiter). w.clump) ws

-- the clumps that wait for a mutex, in the order in which they came
abbrev pub waiters : ℕ → List Waiter → List ℕ
waiters m [] = []
waiters m (w ∷ ws) = if w.mutex == m then w.clump ∷ waiters m ws else waiters m ws

abbrev pub mutex_with : Option ℕ → List ℕ → Mutex
mutex_with None ws = Free
mutex_with (Some owner) ws = Owned owner ws

abbrev pub owner_in : Mutex → Option ℕ
owner_in Free = None
owner_in (Owned owner ws) = Some owner

abbrev pub waiters_in : Mutex → List ℕ
waiters_in Free = []
waiters_in (Owned owner ws) = ws

abbrev pub mutexes_from : ℕ → List (Option ℕ) → List Waiter → List Mutex
mutexes_from m [] ws = []
mutexes_from m (o ∷ os) ws = mutex_with o (waiters m ws) ∷ mutexes_from (m + 1) os ws

abbrev pub clumps_of : List Clump → List ℕ → ℕ → List (Option ℕ) → List Waiter → Clumps
clumps_of clumps queue turn owners waiting =
    record { clumps = clumps; queue = queue; turn = turn; mutexes = mutexes_from 0 owners waiting }

-- ---- the whole

-- the fields fit one another, and the lists have room for every clump
pub record AreKept (clumps : List Clump) (queue : List ℕ) (turn : ℕ) (owners : List (Option ℕ)) (waiting : List Waiter) (sleepers : List Sleeper) (room room' room'' room''' : ℕ) : Type 0 where
  pub few : length clumps ≤ 255
  pub queued : AreThose is_queued clumps queue
  pub waits : AreThose is_waiting clumps (numbers_of waiting)
  pub asleep : pairs_of sleepers ≡ in_order clumps
  pub free : (m : ℕ) → slice_index_or owners m None ≡ None → waiters m waiting ≡ []
  pub short : turn ≤ 20
  pub queue_room : 255 ≤ room
  pub waiting_room : 255 ≤ room'
  pub sleepers_room : 255 ≤ room''
  pub clump_room : 255 ≤ room'''
