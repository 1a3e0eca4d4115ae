-- What comes from outside, and what it changes.
use Rattle.std.specs.Prelude.{ℕ, List, ℤ, pos, Option, Some, None, slice_get, slice_set}
use Rattle.nxt_model.specs.declared.event.Event.{Event}
use Rattle.nxt_model.specs.declared.event.Event.TheVariants as events
use Rattle.nxt_model.specs.Devices.{Devices, Button, reading, tacho, button, random_came}
use Rattle.nxt_model.specs.SystemCalls.{reset_count}

-- an event from a device changes that one, and every other event changes none
abbrev pub taken : Event → Devices → Devices
taken (events.Reading port raw normalized scaled) d = reading port raw normalized scaled d
taken (events.Tacho port speed count block rotation) d = tacho port speed count block rotation d
taken (events.Button i pressed count) d = button i pressed count d
taken (events.Battery mv) d = record d { battery = mv }
taken (events.Random n) d = random_came n d
taken _ d = d

-- one motor after its tacho told
abbrev pub counted : ℤ → ℤ → ℤ → ℤ → List ℤ → List ℤ
counted speed count block rotation motor =
    slice_set (slice_set (slice_set (slice_set motor 3 speed) 4 count) 13 block) 14 rotation

-- one sensor after a reading, which is valid
abbrev pub read_out : ℕ → ℕ → ℤ → List ℤ → List ℤ
read_out raw normalized scaled sensor =
    slice_set (slice_set (slice_set (slice_set sensor 2 (pos raw)) 3 (pos normalized)) 4 scaled) 5 (pos 0)

-- the count of a button becomes 0, if there is such a button
abbrev pub count_reset_of : Option Button → ℕ → Devices → Devices
count_reset_of None i d = d
count_reset_of (Some b) i d = reset_count i b d

abbrev pub count_reset : ℕ → Devices → Devices
count_reset i d = count_reset_of (slice_get d.buttons i) i d
