-- What comes from outside, told plainly.
use Rattle.std.proofs.Common.{◌≡◌, List, [], ◌∷◌, ℤ, pos, negsuc, replicate, refl}
use Rattle.nxt_model.specs.declared.event.Event.TheVariants as events
use Rattle.nxt_model.specs.Devices.{at_start, set_in}
use Rattle.nxt_io.specs.Taken.{taken, count_reset}

-- a reading of the third sensor, whose invalid byte a program has set, sets properties 2 to 4 and makes property 5 zero
a_reading :
    (taken (events.Reading 2 700 800 (negsuc 4)) (set_in 2 5 (pos 1) at_start)).sensors
    ≡ (replicate 6 (pos 0)) ∷ (replicate 6 (pos 0)) ∷ (pos 0 ∷ pos 0 ∷ pos 700 ∷ pos 800 ∷ negsuc 4 ∷ pos 0 ∷ []) ∷ (replicate 6 (pos 0)) ∷ []
a_reading = refl

-- a reading of a port with no sensor changes nothing
no_such_sensor : taken (events.Reading 4 700 800 (pos 5)) at_start ≡ at_start
no_such_sensor = refl

-- what the tacho of the first motor tells
a_tacho : (taken (events.Tacho 0 (negsuc 9) (pos 360) (pos 90) (negsuc 0)) at_start).motors
    ≡ (pos 0 ∷ pos 0 ∷ pos 0 ∷ negsuc 9 ∷ pos 360 ∷ pos 0 ∷ pos 0 ∷ pos 0 ∷ pos 0 ∷ pos 0 ∷ pos 0 ∷ pos 0 ∷ pos 0 ∷ pos 90 ∷ negsuc 0 ∷ [])
    ∷ replicate 15 (pos 0) ∷ replicate 15 (pos 0) ∷ []
a_tacho = refl

abbrev words : List ℤ
words =
    pos 1 ∷ pos 2 ∷ pos 3 ∷ pos 4 ∷ pos 5 ∷ pos 6 ∷ pos 7 ∷ pos 8 ∷ pos 9 ∷ pos 10 ∷ pos 11 ∷ pos 12 ∷ pos 13 ∷ pos 14 ∷ pos 15 ∷ pos 16 ∷ []

-- a 17th random word puts the oldest out
a_seventeenth_word : (taken (events.Random (pos 17)) (record at_start { random = words })).random
    ≡ pos 2 ∷ pos 3 ∷ pos 4 ∷ pos 5 ∷ pos 6 ∷ pos 7 ∷ pos 8 ∷ pos 9 ∷ pos 10 ∷ pos 11 ∷ pos 12 ∷ pos 13 ∷ pos 14 ∷ pos 15 ∷ pos 16 ∷ pos 17 ∷ []
a_seventeenth_word = refl

-- a reset keeps whether the button is pressed
a_reset : (count_reset 3 (taken (events.Button 3 1 9) at_start)).buttons
    ≡ (taken (events.Button 3 1 0) at_start).buttons
a_reset = refl

-- a tick is no event of a device
a_tick : taken (events.Tick 5) at_start ≡ at_start
a_tick = refl
