-- The system calls.
use Rattle.std.specs.Prelude.{ℕ, ◌%◌, Bool, false, not, if◌then◌else◌, ◌==◌, nat_lt, List, [], ◌∷◌, length, take, take_while, ℤ, pos, negsuc, Option, Some, None, slice_index_or, slice_set, slice_get}
use Rattle.nxt_types.specs.Shapes.{Shape, Void, Cluster, shapes_of}
use Rattle.nxt_model.specs.Values.{Value, Num, byte_list, bytes_of, number, word_of, elements, stored}
use Rattle.nxt_model.specs.Means.Effects.{Effect, Store}
use Rattle.nxt_model.specs.Means.Text.{body, ended}
use Rattle.nxt_model.specs.Devices.{Devices, Change, changed, Button, tone, set_sound, put_message, mailbox, without_oldest}
use Rattle.nxt_model.specs.declared.line.Line.{Line}
use Rattle.nxt_model.specs.declared.line.Line.TheVariants as lines
use Rattle.nxt_types.specs.declared.calls.Call.{Call}
use Rattle.nxt_types.specs.declared.calls.Call.TheVariants.{PlayTone, GetSound, SetSound, DrawText, DrawPoint, DrawLine, DrawCircle, DrawRect, SetScreen, ReadButton, RandomNumber, StartTick, WriteMessage, ReadMessage, KeepAlive}

-- the moment, and the moment of the program's start
pub record Clock : Type 0 where
  pub now : ℕ
  pub start : ℕ

-- ---- fields of the cluster

abbrev pub field : ℕ → Value → Value
field k v = slice_index_or (elements v) k (Num (pos 0))

abbrev pub field_number : ℕ → Value → ℤ
field_number k v = number (field k v)

abbrev pub field_word : ℕ → Value → ℕ
field_word k v = word_of (field k v)

abbrev pub field_text : ℕ → Value → List ℕ
field_text k v = bytes_of (field k v)

-- the coordinates of a place
abbrev pub x_of : ℕ → Value → ℤ
x_of k v = field_number 0 (field k v)

abbrev pub y_of : ℕ → Value → ℤ
y_of k v = field_number 1 (field k v)

abbrev pub field_shape : ℕ → Shape → Shape
field_shape k (Cluster ss) = slice_index_or (shapes_of ss) k Void
field_shape k _ = Void

-- a field of the cluster, which is the second operand
abbrev pub field_store : Shape → ℕ → Value → Store
field_store s k v = record { operand = 1; path = k ∷ []; value = stored (field_shape k s) v }

-- fields with their values, and the devices and lines
abbrev pub fields : Shape → List (ℕ × Value) → List Store
fields s [] = []
fields s (f ∷ fs) = field_store s f.0 f.1 ∷ fields s fs

abbrev pub answers : Shape → List (ℕ × Value) → Change → Effect
answers s fs c = record { stores = fields s fs; devices = c.devices; lines = c.lines; jumps = false }

abbrev pub num : ℕ → Value
num n = Num (pos n)

-- the result 0 and a line
abbrev pub draws : Shape → Devices → Line → Effect
draws s d line = answers s ((0, num 0) ∷ []) (changed d (line ∷ []))

-- ---- calls with cases

-- the bytes of a text that are shown
abbrev pub shown : List ℕ → List ℕ
shown bytes = take 64 (take_while (λ b. not (b == 0)) bytes)

-- a button's count becomes 0
abbrev pub reset_count : ℕ → Button → Devices → Devices
reset_count i b d = record d { buttons = slice_set d.buttons i (record { pressed = b.pressed; presses = 0 }) }

abbrev pub read_button : Shape → Option Button → ℕ → Bool → Devices → Effect
read_button s None i reset d = answers s ((0, Num (negsuc 15)) ∷ []) (changed d [])
read_button s (Some b) i reset d =
    answers s ((0, num 0) ∷ (2, num b.pressed) ∷ (3, num b.presses) ∷ []) (changed (if reset then reset_count i b d else d) [])

abbrev pub take_random : Shape → List ℤ → Devices → Effect
take_random s [] d = answers s ((0, num 0) ∷ []) (changed d [])
take_random s (z ∷ zs) d = answers s ((0, Num z) ∷ []) (changed (record d { random = zs }) [])

abbrev pub write_message : Shape → ℕ → List ℕ → Devices → Effect
write_message s box message d =
    if nat_lt 19 box
    then answers s ((0, Num (negsuc 17)) ∷ []) (changed d [])
    else if nat_lt 59 (length message)
    then answers s ((0, Num (negsuc 18)) ∷ []) (changed d [])
    else answers s ((0, num 0) ∷ []) (changed (put_message box message d) [])

abbrev pub read_message : Shape → ℕ → List (List ℕ) → Bool → Devices → Effect
read_message s box [] remove d = answers s ((0, num 64) ∷ (3, byte_list (0 ∷ [])) ∷ []) (changed d [])
read_message s box (m ∷ ms) remove d =
    answers s ((0, num 0) ∷ (3, byte_list m) ∷ []) (changed (if remove then without_oldest box d else d) [])

abbrev pub read_mailbox : Shape → ℕ → Bool → Devices → Effect
read_mailbox s box remove d =
    if nat_lt 19 box
    then answers s ((0, Num (negsuc 17)) ∷ []) (changed d [])
    else read_message s box (mailbox box d) remove d

-- a number other than 0
abbrev pub is_set : ℕ → Bool
is_set n = not (n == 0)

-- ---- the table

-- what a call does with a cluster v of the shape s
abbrev pub call_effect : Call → Shape → Value → Devices → Clock → Effect
call_effect PlayTone s v d t =
    answers s ((0, num 0) ∷ []) (tone (field_word 1 v) (field_word 2 v) (field_word 3 v) (field_word 4 v) t.now d)
call_effect GetSound s v d t = answers s ((0, num d.sound.state) ∷ (1, num d.sound.flags) ∷ []) (changed d [])
call_effect SetSound s v d t =
    let c = set_sound (field_word 1 v % 256) (field_word 2 v % 256) d in answers s ((0, num c.devices.sound.state) ∷ []) c
call_effect DrawText s v d t = draws s d (lines.Text (x_of 1 v) (y_of 1 v) (field_number 3 v) (shown (field_text 2 v)))
call_effect DrawPoint s v d t = draws s d (lines.Point (x_of 1 v) (y_of 1 v) (field_number 2 v))
call_effect DrawLine s v d t =
    draws s d (lines.Line (x_of 1 v) (y_of 1 v) (x_of 2 v) (y_of 2 v) (field_number 3 v))
call_effect DrawCircle s v d t = draws s d (lines.Circle (x_of 1 v) (y_of 1 v) (field_number 2 v) (field_number 3 v))
call_effect DrawRect s v d t =
    draws s d (lines.Rect (x_of 1 v) (y_of 1 v) (x_of 2 v) (y_of 2 v) (field_number 3 v))
call_effect SetScreen s v d t = draws s d (lines.Screen (field_number 1 v))
call_effect ReadButton s v d t =
    read_button s (slice_get d.buttons (field_word 1 v)) (field_word 1 v) (is_set (field_word 4 v)) d
call_effect RandomNumber s v d t = take_random s d.random d
call_effect StartTick s v d t = answers s ((0, num t.start) ∷ []) (changed d [])
call_effect WriteMessage s v d t = write_message s (field_word 1 v) (ended (body (field_text 2 v))) d
call_effect ReadMessage s v d t = read_mailbox s (field_word 1 v) (is_set (field_word 2 v)) d
call_effect KeepAlive s v d t = answers s ((0, num 600000) ∷ []) (changed d [])

abbrev pub system_call : Option Call → Shape → Value → Devices → Clock → Effect
system_call None s v d t = answers s [] (changed d [])
system_call (Some c) s v d t = call_effect c s v d t
