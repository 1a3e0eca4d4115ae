-- A command's tests, one after another.
use Rattle.std.proofs.Common.{◌≡◌, ◌≤◌, ◌+◌, ◌==◌, ◌||◌, not, nat_lt, ℕ, Bool, true, false, List, [], Option, Some, None, if◌then◌else◌, length, drop, slice_index, refl, ap, ◌∙◌, arith, rules}
use Rattle.std.proofs.lemmas.List.{get_or-drop}
use Rattle.std.proofs.lemmas.Grind.{common_steps}
use Rattle.nxt_model.specs.Devices.{Devices, changed, put_message}
use Rattle.nxt_model.specs.DirectCommands.{Outcome, Refused, refused_if, stays, set_output, write_message}
use Rattle.nxt_model.specs.Messages.{is_message}
use Rattle.nxt_direct.specs.Outcomes.{lines_of, more_of}

-- a test that refuses, and one that is passed
pub refused : (b : Bool) (status : ℕ) (o : Outcome) → b ≡ true → refused_if b status o ≡ Refused status
refused b status o h = ap (λ v. refused_if v status o) h

pub passed : (b : Bool) (status : ℕ) (o : Outcome) → b ≡ false → refused_if b status o ≡ o
passed b status o h = ap (λ v. refused_if v status o) h

-- a choice that gave something had its test
pub some_where : {A : Type 0} (b : Bool) (x y : A) (o : Option A) → o ≡ (if b then Some x else None) → o ≡ Some y → b ≡ true
some_where true x y o h k = refl
some_where false x y o h k = cc

-- what is still tested where the bytes of a message are in order
pub write_message-in_order : (bytes : List ℕ) (active : Bool) (d : Devices)
    → 4 ≤ length bytes → length bytes ≡ 4 + slice_index bytes 3 → is_message (drop 4 bytes) ≡ true
    → write_message bytes active d
    ≡ refused_if (not active) 0xEC
    (refused_if (nat_lt 19 (slice_index bytes 2)) 0xEE
    (stays (changed (put_message (slice_index bytes 2) (drop 4 bytes) d) []) []))
write_message-in_order bytes active d long whole message =
    let short : nat_lt (length bytes) 4 ≡ false = grind (arith, common_steps) in
    let size : (slice_index bytes 3 == 0 || nat_lt 59 (slice_index bytes 3)) ≡ false = grind (arith, common_steps) in
    let other : not (length bytes == 4 + slice_index bytes 3) ≡ false = grind (arith, common_steps) in
    let last : slice_index bytes (3 + slice_index bytes 3) ≡ 0 = grind (arith, common_steps, get_or-drop) in
    let ended : not (slice_index bytes (3 + slice_index bytes 3) == 0) ≡ false = rw last refl in
    passed _ _ _ short ∙ passed _ _ _ size ∙ passed _ _ _ other ∙ passed _ _ _ ended

-- ---- commands that tell no line, or want no more in their reply

lines_of-refused_if : (b : Bool) (status : ℕ) (o : Outcome) → lines_of o ≡ [] → lines_of (refused_if b status o) ≡ []
lines_of-refused_if true status o h = refl
lines_of-refused_if false status o h = h

more_of-refused_if : (b : Bool) (status : ℕ) (o : Outcome) → more_of o ≡ [] → more_of (refused_if b status o) ≡ []
more_of-refused_if true status o h = refl
more_of-refused_if false status o h = h

pub more_of-set_output : (bytes : List ℕ) (d : Devices) → more_of (set_output bytes d) ≡ []
more_of-set_output bytes d = search (rules, more_of-refused_if)

pub lines_of-write_message : (bytes : List ℕ) (active : Bool) (d : Devices) → lines_of (write_message bytes active d) ≡ []
lines_of-write_message bytes active d = search (rules, lines_of-refused_if)

pub more_of-write_message : (bytes : List ℕ) (active : Bool) (d : Devices) → more_of (write_message bytes active d) ≡ []
more_of-write_message bytes active d = search (rules, more_of-refused_if)
