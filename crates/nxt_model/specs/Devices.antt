-- Motors, sensors, buttons, the battery, sound, random words and mailboxes.
use Rattle.std.specs.Prelude.{ℕ, ◌+◌, ◌-◌, Bool, false, ◌&&◌, ◌||◌, not, if◌then◌else◌, ◌==◌, nat_lt, nat_le, List, [], ◌∷◌, ◌++◌, length, drop, replicate, ℤ, pos, nat_abs, Option, Some, None, slice_index_or, slice_set, bit_and}
use Rattle.nxt_types.specs.Arithmetic.{cut}
use Rattle.nxt_types.specs.declared.kind.Kind.{Kind}
use Rattle.nxt_types.specs.declared.kind.Kind.TheVariants.{Ubyte, Sbyte, Uword, Sword, Ulong, Slong}
use Rattle.nxt_model.specs.declared.line.Line.{Line}
use Rattle.nxt_model.specs.declared.line.Line.TheVariants as lines

-- a button: whether it is pressed, and how often it was
pub record Button : Type 0 where
  pub pressed : ℕ
  pub presses : ℕ

-- the state and flags of sound, and the moment at which a tone ends
pub record Sound : Type 0 where
  pub state : ℕ
  pub flags : ℕ
  pub ends : Option ℕ

-- a motor and a sensor are the numbers of their properties
pub record Devices : Type 0 where
  pub motors : List (List ℤ)
  pub sensors : List (List ℤ)
  pub buttons : List Button
  pub battery : ℕ
  pub sound : Sound
  pub random : List ℤ
  pub mailboxes : List (List (List ℕ))

abbrev pub silence : Sound
silence = record { state = 0; flags = 0; ends = None }

abbrev pub at_start : Devices
at_start =
    record {
      motors = replicate 3 (replicate 15 (pos 0));
      sensors = replicate 4 (replicate 6 (pos 0));
      buttons = replicate 4 (record { pressed = 0; presses = 0 });
      battery = 8000;
      sound = silence;
      random = [];
      mailboxes = replicate 20 [];
    }

-- ---- properties

-- the kinds of a motor's properties
abbrev pub motor_kinds : List Kind
motor_kinds =
    Ubyte ∷ Ubyte ∷ Sbyte ∷ Sbyte ∷ Slong ∷ Ulong ∷ Ubyte ∷ Sbyte ∷ Ubyte ∷ Ubyte ∷ Ubyte ∷ Ubyte ∷ Ubyte ∷ Slong ∷ Slong ∷ []

abbrev pub sensor_kinds : List Kind
sensor_kinds = Ubyte ∷ Ubyte ∷ Uword ∷ Uword ∷ Sword ∷ Ubyte ∷ []

-- a program may write a motor's property: not the actual speed, a count or the overload
abbrev pub motor_writable : ℕ → Bool
motor_writable prop = nat_lt prop 15 && not (prop == 3 || prop == 4 || prop == 9 || prop == 13 || prop == 14)

-- and a sensor's: not the raw and the normalized value
abbrev pub sensor_writable : ℕ → Bool
sensor_writable prop = nat_lt prop 6 && not (prop == 2 || prop == 3)

-- the property of the port's device, or 0 where there is none
abbrev pub property : List (List ℤ) → ℕ → ℕ → ℤ
property table port prop = slice_index_or (slice_index_or table port []) prop (pos 0)

-- the table with that property, where there is such a port
abbrev pub with_property : List (List ℤ) → ℕ → ℕ → ℤ → List (List ℤ)
with_property table port prop z = slice_set table port (slice_set (slice_index_or table port []) prop z)

-- a number, cut to the property's kind
abbrev pub as_property : List Kind → ℕ → ℤ → ℤ
as_property kinds prop z = cut (slice_index_or kinds prop Slong) z

-- ---- one motor

-- a number stored in a motor's property, where a program may write that one
abbrev pub set_property : ℕ → ℤ → List ℤ → List ℤ
set_property prop z motor = if motor_writable prop then slice_set motor prop (as_property motor_kinds prop z) else motor

-- a property becomes 0 where the test holds
abbrev pub zeroed_if : Bool → ℕ → List ℤ → List ℤ
zeroed_if b prop motor = if b then slice_set motor prop (pos 0) else motor

abbrev pub update_flags : List ℤ → ℕ
update_flags motor = nat_abs (slice_index_or motor 0 (pos 0))

-- a flag is set; its value is a power of two
abbrev pub has_flag : ℕ → ℕ → Bool
has_flag flags value = not (bit_and flags value == 0)

-- the update flags act and become 0
abbrev pub updated : List ℤ → List ℤ
updated motor =
    let flags = update_flags motor in
    slice_set
    (zeroed_if (has_flag flags 64) 14 (zeroed_if (has_flag flags 32) 13 (zeroed_if (has_flag flags 8) 4 motor)))
    0 (pos 0)

-- the line of a port's motor
abbrev pub motor_line : ℕ → List ℤ → Line
motor_line port motor =
    lines.Motor port (nat_abs (slice_index_or motor 1 (pos 0))) (slice_index_or motor 2 (pos 0))
    (nat_abs (slice_index_or motor 6 (pos 0))) (slice_index_or motor 7 (pos 0)) (nat_abs (slice_index_or motor 8 (pos 0)))
    (nat_abs (slice_index_or motor 5 (pos 0)))

-- ---- motors

abbrev pub motor_at : ℕ → Devices → List ℤ
motor_at port d = slice_index_or d.motors port []

-- the devices with another motor, where there is such a port
abbrev pub with_motor : ℕ → List ℤ → Devices → Devices
with_motor port motor d = record d { motors = slice_set d.motors port motor }

abbrev pub set_out : ℕ → ℕ → ℤ → Devices → Devices
set_out port prop z d = with_motor port (set_property prop z (motor_at port d)) d

abbrev pub get_out : ℕ → ℕ → Devices → ℤ
get_out port prop d = property d.motors port prop

-- what a step gives: the devices after it, and its lines
pub record Change : Type 0 where
  pub devices : Devices
  pub lines : List Line

abbrev pub changed : Devices → List Line → Change
changed d ls = record { devices = d; lines = ls }

-- the motor takes its properties over, if there is such a port
abbrev pub commit : ℕ → Devices → Change
commit port d =
    if nat_lt port 3
    then changed (with_motor port (updated (motor_at port d)) d) (motor_line port (motor_at port d) ∷ [])
    else changed d []

-- one change after another
abbrev pub and_then : Change → (Devices → Change) → Change
and_then c f = let more = f c.devices in changed more.devices (c.lines ++ more.lines)

abbrev pub each_port : List ℕ → (ℕ → Devices → Change) → Devices → Change
each_port [] f d = changed d []
each_port (p ∷ ps) f d = and_then (f p d) (each_port ps f)

-- ---- sensors

abbrev pub set_in : ℕ → ℕ → ℤ → Devices → Devices
set_in port prop z d =
    if sensor_writable prop
    then record d { sensors = with_property d.sensors port prop (as_property sensor_kinds prop z) }
    else d

abbrev pub get_in : ℕ → ℕ → Devices → ℤ
get_in port prop d = property d.sensors port prop

-- ---- what comes from outside

-- the properties from `prop` on
abbrev pub with_properties : List (List ℤ) → ℕ → ℕ → List ℤ → List (List ℤ)
with_properties table port prop [] = table
with_properties table port prop (z ∷ zs) = with_properties (with_property table port prop z) port (prop + 1) zs

abbrev pub reading : ℕ → ℕ → ℕ → ℤ → Devices → Devices
reading port raw normalized scaled d =
    record d { sensors = with_properties d.sensors port 2 (pos raw ∷ pos normalized ∷ scaled ∷ pos 0 ∷ []) }

abbrev pub tacho : ℕ → ℤ → ℤ → ℤ → ℤ → Devices → Devices
tacho port speed count block rotation d =
    record d { motors = with_properties (with_properties d.motors port 3 (speed ∷ count ∷ [])) port 13 (block ∷ rotation ∷ []) }

abbrev pub button : ℕ → ℕ → ℕ → Devices → Devices
button i pressed presses d = record d { buttons = slice_set d.buttons i (record { pressed = pressed; presses = presses }) }

-- the last n of a list
abbrev pub newest : {A : Type 0} → ℕ → List A → List A
newest n xs = drop (length xs - n) xs

abbrev pub random_came : ℤ → Devices → Devices
random_came z d = record d { random = newest 16 (d.random ++ z ∷ []) }

-- ---- sound

abbrev pub tone : ℕ → ℕ → ℕ → ℕ → ℕ → Devices → Change
tone frequency ms loop level clock d =
    changed (record d { sound = record { state = 3; flags = 1; ends = if loop == 0 then Some (clock + ms) else None } })
    (lines.Tone frequency ms loop level ∷ [])

abbrev pub set_sound : ℕ → ℕ → Devices → Change
set_sound state flags d =
    if state == 4
    then changed (record d { sound = silence }) (lines.Quiet ∷ [])
    else changed (record d { sound = record { state = state; flags = flags; ends = None } }) []

-- a tone is over at this moment
abbrev pub is_over : Option ℕ → ℕ → Bool
is_over None clock = false
is_over (Some moment) clock = nat_le moment clock

abbrev pub pass : ℕ → Devices → Devices
pass clock d = if is_over d.sound.ends clock then record d { sound = silence } else d

-- ---- mailboxes

abbrev pub mailbox : ℕ → Devices → List (List ℕ)
mailbox box d = slice_index_or d.mailboxes box []

abbrev pub put_message : ℕ → List ℕ → Devices → Devices
put_message box message d = record d { mailboxes = slice_set d.mailboxes box (newest 5 (mailbox box d ++ message ∷ [])) }

abbrev pub without_oldest : ℕ → Devices → Devices
without_oldest box d = record d { mailboxes = slice_set d.mailboxes box (drop 1 (mailbox box d)) }
