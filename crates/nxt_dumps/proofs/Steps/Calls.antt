-- A system call stores fields of its cluster, and nothing else.
use Rattle.std.proofs.Common.{◌≡◌, ℕ, Bool, true, false, if◌then◌else◌, List, [], ◌∷◌, length, Option, Some, None, refl}
use Rattle.std.specs.Prelude.{ℤ, negsuc, ◌%◌, nat_lt, slice_get}
use Rattle.nxt_types.specs.Shapes.{Shape}
use Rattle.nxt_types.specs.declared.calls.Call.{Call}
use Rattle.nxt_types.specs.declared.calls.Call.TheVariants.{PlayTone, GetSound, SetSound, DrawText, DrawPoint, DrawLine, DrawCircle, DrawRect, SetScreen, ReadButton, RandomNumber, StartTick, WriteMessage, ReadMessage, KeepAlive}
use Rattle.nxt_model.specs.Values.{Value, Num, byte_list}
use Rattle.nxt_model.specs.Devices.{Devices, Button, mailbox, changed, set_sound, put_message}
use Rattle.nxt_model.specs.Means.Effects.{Effect}
use Rattle.nxt_model.specs.SystemCalls.{Clock, fields, num, answers, read_button, take_random, write_message, read_message, read_mailbox, call_effect, system_call, field_word, field_text, is_set}
use Rattle.nxt_model.specs.Means.Text.{body, ended}

-- the effect stores these fields
abbrev pub StoresFields : Shape → Effect → Type 0
StoresFields s e = (fs : List (ℕ × Value)) × (e.stores ≡ fields s fs)

-- one of two does where both do
either : (s : Shape) (b : Bool) (e f : Effect) → StoresFields s e → StoresFields s f → StoresFields s (if b then e else f)
either s true e f x y = x
either s false e f x y = y

button_fields : (s : Shape) (b : Option Button) (i : ℕ) (reset : Bool) (d : Devices) → StoresFields s (read_button s b i reset d)
button_fields s None i reset d = ((0, Num (negsuc 15)) ∷ [], refl)
button_fields s (Some b) i reset d = ((0, num 0) ∷ (2, num b.pressed) ∷ (3, num b.presses) ∷ [], refl)

random_fields : (s : Shape) (zs : List ℤ) (d : Devices) → StoresFields s (take_random s zs d)
random_fields s [] d = ((0, num 0) ∷ [], refl)
random_fields s (z ∷ zs) d = ((0, Num z) ∷ [], refl)

write_fields : (s : Shape) (box : ℕ) (message : List ℕ) (d : Devices) → StoresFields s (write_message s box message d)
write_fields s box message d =
    let far = answers s ((0, Num (negsuc 17)) ∷ []) (changed d []) in
    let long = answers s ((0, Num (negsuc 18)) ∷ []) (changed d []) in
    let put = answers s ((0, num 0) ∷ []) (changed (put_message box message d) []) in
    either s (nat_lt 19 box) far (if nat_lt 59 (length message) then long else put) ((0, Num (negsuc 17)) ∷ [], refl)
    (either s (nat_lt 59 (length message)) long put ((0, Num (negsuc 18)) ∷ [], refl) ((0, num 0) ∷ [], refl))

message_fields : (s : Shape) (box : ℕ) (ms : List (List ℕ)) (remove : Bool) (d : Devices) → StoresFields s (read_message s box ms remove d)
message_fields s box [] remove d = ((0, num 64) ∷ (3, byte_list (0 ∷ [])) ∷ [], refl)
message_fields s box (m ∷ ms) remove d = ((0, num 0) ∷ (3, byte_list m) ∷ [], refl)

mailbox_fields : (s : Shape) (box : ℕ) (remove : Bool) (d : Devices) → StoresFields s (read_mailbox s box remove d)
mailbox_fields s box remove d =
    either s (nat_lt 19 box) (answers s ((0, Num (negsuc 17)) ∷ []) (changed d [])) (read_message s box (mailbox box d) remove d) ((0, Num (negsuc 17)) ∷ [], refl)
    (message_fields s box (mailbox box d) remove d)

call_fields : (c : Call) (s : Shape) (v : Value) (d : Devices) (t : Clock) → StoresFields s (call_effect c s v d t)
call_fields PlayTone s v d t = ((0, num 0) ∷ [], refl)
call_fields GetSound s v d t = ((0, num d.sound.state) ∷ (1, num d.sound.flags) ∷ [], refl)
call_fields SetSound s v d t = ((0, num (set_sound (field_word 1 v % 256) (field_word 2 v % 256) d).devices.sound.state) ∷ [], refl)
call_fields DrawText s v d t = ((0, num 0) ∷ [], refl)
call_fields DrawPoint s v d t = ((0, num 0) ∷ [], refl)
call_fields DrawLine s v d t = ((0, num 0) ∷ [], refl)
call_fields DrawCircle s v d t = ((0, num 0) ∷ [], refl)
call_fields DrawRect s v d t = ((0, num 0) ∷ [], refl)
call_fields SetScreen s v d t = ((0, num 0) ∷ [], refl)
call_fields ReadButton s v d t = button_fields s (slice_get d.buttons (field_word 1 v)) (field_word 1 v) (is_set (field_word 4 v)) d
call_fields RandomNumber s v d t = random_fields s d.random d
call_fields StartTick s v d t = ((0, num t.start) ∷ [], refl)
call_fields WriteMessage s v d t = write_fields s (field_word 1 v) (ended (body (field_text 2 v))) d
call_fields ReadMessage s v d t = mailbox_fields s (field_word 1 v) (is_set (field_word 2 v)) d
call_fields KeepAlive s v d t = ((0, num 600000) ∷ [], refl)

pub calls_fields : (c : Option Call) (s : Shape) (v : Value) (d : Devices) (t : Clock) → StoresFields s (system_call c s v d t)
calls_fields None s v d t = ([], refl)
calls_fields (Some c) s v d t = call_fields c s v d t
