-- Telegrams to an active program, told plainly.
use Rattle.std.proofs.Common.{◌≡◌, ℕ, true, false, List, [], ◌∷◌, ◌++◌, replicate, pos, negsuc, Some, None, refl}
use Rattle.nxt_model.specs.declared.line.Line.TheVariants as lines
use Rattle.nxt_model.specs.Devices.{at_start, put_message, mailbox}
use Rattle.nxt_model.specs.DirectCommands.{Direct, direct, Stay, Restart, Halt}

abbrev told : List ℕ → Direct
told bytes = direct bytes true 0 at_start

-- ---- what is dropped or refused

nothing : told [] ≡ record { effect = Stay; devices = at_start; lines = []; reply = None }
nothing = refl

another_first_byte : told (0x02 ∷ 0xFF ∷ []) ≡ record { effect = Stay; devices = at_start; lines = []; reply = None }
another_first_byte = refl

an_unknown_command : (told (0x00 ∷ 0x55 ∷ [])).reply ≡ Some (0x02 ∷ 0x55 ∷ 0xBE ∷ [])
an_unknown_command = refl

without_a_reply : (told (0x80 ∷ 0x55 ∷ [])).reply ≡ None
without_a_reply = refl

a_start_without_a_name : (told (0x00 ∷ 0x00 ∷ [])).reply ≡ Some (0x02 ∷ 0x00 ∷ 0xBF ∷ [])
a_start_without_a_name = refl

a_start_by_another_name : (told (0x00 ∷ 0x00 ∷ 0x61 ∷ 0x00 ∷ [])).reply ≡ Some (0x02 ∷ 0x00 ∷ 0xBD ∷ [])
a_start_by_another_name = refl

a_tone_of_199_hz : (told (0x00 ∷ 0x03 ∷ 0xC7 ∷ 0x00 ∷ 0x01 ∷ 0x00 ∷ [])).reply ≡ Some (0x02 ∷ 0x03 ∷ 0xC0 ∷ [])
a_tone_of_199_hz = refl

a_fourth_motor :
    (told (0x00 ∷ 0x04 ∷ 0x03 ∷ 0x00 ∷ 0x00 ∷ 0x00 ∷ 0x00 ∷ 0x00 ∷ 0x00 ∷ 0x00 ∷ 0x00 ∷ 0x00 ∷ [])).reply
    ≡ Some (0x02 ∷ 0x04 ∷ 0xF0 ∷ [])
a_fourth_motor = refl

a_power_of_minus_101 :
    (told (0x00 ∷ 0x04 ∷ 0x00 ∷ 0x9B ∷ 0x00 ∷ 0x00 ∷ 0x00 ∷ 0x00 ∷ 0x00 ∷ 0x00 ∷ 0x00 ∷ 0x00 ∷ [])).reply
    ≡ Some (0x02 ∷ 0x04 ∷ 0xC0 ∷ [])
a_power_of_minus_101 = refl

a_message_without_a_byte : (told (0x00 ∷ 0x09 ∷ 0x00 ∷ 0x00 ∷ [])).reply ≡ Some (0x02 ∷ 0x09 ∷ 0xED ∷ [])
a_message_without_a_byte = refl

a_message_without_its_zero : (told (0x00 ∷ 0x09 ∷ 0x00 ∷ 0x01 ∷ 0x31 ∷ [])).reply ≡ Some (0x02 ∷ 0x09 ∷ 0xFF ∷ [])
a_message_without_its_zero = refl

a_message_for_mailbox_20 :
    (told (0x00 ∷ 0x09 ∷ 0x14 ∷ 0x02 ∷ 0x01 ∷ 0x00 ∷ [])).reply ≡ Some (0x02 ∷ 0x09 ∷ 0xEE ∷ [])
a_message_for_mailbox_20 = refl

-- ---- what is done

a_tone : (told (0x00 ∷ 0x03 ∷ 0xC8 ∷ 0x00 ∷ 0x01 ∷ 0x00 ∷ [])).lines ≡ lines.Tone 200 1 0 4 ∷ []
a_tone = refl

a_motor :
    (told (0x00 ∷ 0x04 ∷ 0x00 ∷ 0x64 ∷ 0x07 ∷ 0x00 ∷ 0x00 ∷ 0x20 ∷ 0x00 ∷ 0x00 ∷ 0x00 ∷ 0x00 ∷ [])).lines
    ≡ lines.Motor 0 7 (pos 100) 32 (pos 0) 0 0 ∷ []
a_motor = refl

three_motors :
    (told (0x80 ∷ 0x04 ∷ 0xFF ∷ 0x9C ∷ 0x01 ∷ 0x00 ∷ 0x00 ∷ 0x20 ∷ 0x68 ∷ 0x01 ∷ 0x00 ∷ 0x00 ∷ [])).lines
    ≡ lines.Motor 0 1 (negsuc 99) 32 (pos 0) 0 360 ∷ lines.Motor 1 1 (negsuc 99) 32 (pos 0) 0 360
    ∷ lines.Motor 2 1 (negsuc 99) 32 (pos 0) 0 360 ∷ []
three_motors = refl

a_stop : (told (0x80 ∷ 0x01 ∷ [])).effect ≡ Halt
a_stop = refl

a_start :
    (told (0x00 ∷ 0x00 ∷ 0x70 ∷ 0x72 ∷ 0x6F ∷ 0x67 ∷ 0x72 ∷ 0x61 ∷ 0x6D ∷ 0x2E ∷ 0x72 ∷ 0x78 ∷ 0x65 ∷ 0x00 ∷ [])).effect
    ≡ Restart
a_start = refl

the_battery : (told (0x00 ∷ 0x0B ∷ [])).reply ≡ Some (0x02 ∷ 0x0B ∷ 0x00 ∷ 0x40 ∷ 0x1F ∷ [])
the_battery = refl

ten_minutes : (told (0x00 ∷ 0x0D ∷ [])).reply ≡ Some (0x02 ∷ 0x0D ∷ 0x00 ∷ 0xC0 ∷ 0x27 ∷ 0x09 ∷ 0x00 ∷ [])
ten_minutes = refl

-- a message that is read, and taken out
a_message :
    (direct (0x00 ∷ 0x13 ∷ 0x03 ∷ 0x07 ∷ 0x01 ∷ []) true 0 (put_message 3 (0x31 ∷ 0x00 ∷ []) at_start)).reply
    ≡ Some ((0x02 ∷ 0x13 ∷ 0x00 ∷ 0x07 ∷ 0x02 ∷ 0x31 ∷ []) ++ replicate 58 0)
a_message = refl

its_mailbox :
    mailbox 3 (direct (0x80 ∷ 0x13 ∷ 0x03 ∷ 0x07 ∷ 0x01 ∷ []) true 0 (put_message 3 (0x31 ∷ 0x00 ∷ []) at_start)).devices ≡ []
its_mailbox = refl

-- without an active program there is no message
no_program : (direct (0x00 ∷ 0x13 ∷ 0x00 ∷ 0x00 ∷ 0x01 ∷ []) false 0 at_start).reply ≡ Some (0x02 ∷ 0x13 ∷ 0xEC ∷ [])
no_program = refl
