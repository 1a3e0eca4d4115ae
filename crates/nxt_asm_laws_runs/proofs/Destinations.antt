-- Values are stored in destinations alone, and jumps alone jump.
use Rattle.std.proofs.Common.{◌≡◌, ℕ, Bool, true, false, List, [], ◌∷◌, ◌++◌, Option, Some, None, ℤ, refl}
use Rattle.std.specs.Prelude.{◌%◌, if◌then◌else◌, length, nat_lt, negsuc, slice_get}
use Rattle.nxt_facts.proofs.Each.{Each, each_join}
use Rattle.nxt_types.specs.OperandRules.{is_destination}
use Rattle.nxt_types.specs.Shapes.{Shape, Void, Number, Array, Cluster, Mutex}
use Rattle.nxt_types.specs.declared.calls.Call.{Call}
use Rattle.nxt_types.specs.declared.calls.Call.TheVariants.{PlayTone, GetSound, SetSound, ReadButton, RandomNumber, StartTick, WriteMessage, ReadMessage, KeepAlive}
use Rattle.nxt_types.specs.declared.instr.Op.{Op}
use Rattle.nxt_types.specs.declared.instr.Op.TheVariants as ops
use Rattle.nxt_types.specs.declared.kind.Cmp.{Cmp}
use Rattle.nxt_types.specs.Calls.{call_of}
use Rattle.nxt_code.specs.CodeRules.{is_jump}
use Rattle.nxt_model.specs.Values.{Value, Num, byte_list}
use Rattle.nxt_model.specs.Devices.{Devices, Button, Change, changed, mailbox, put_message, set_sound, without_oldest}
use Rattle.nxt_model.specs.Means.{means, operand_at, comparison}
use Rattle.nxt_model.specs.Means.Effects.{Effect, Operand, Given, Immediate, Jump, Left, Store, shape_of, store, value_of, word_or}
use Rattle.nxt_model.specs.Means.Arrays.{build}
use Rattle.nxt_model.specs.Means.Ports.{set_output}
use Rattle.nxt_model.specs.Means.Strings.{concatenate, found_number, unflatten}
use Rattle.nxt_model.specs.Means.Text.{body, ended}
use Rattle.nxt_model.specs.SystemCalls.{Clock, answers, call_effect, field_text, field_word, fields, is_set, num, read_button, read_mailbox, read_message, reset_count, system_call, take_random, write_message}

-- a value for a destination
abbrev pub IsStored : Op → Store → Type 0
IsStored op s = is_destination op s.operand ≡ true

-- an effect that stores in destinations alone, and jumps nowhere
abbrev pub Gives : Op → Effect → Type 0
Gives op e = Each (IsStored op) e.stores × (e.jumps ≡ false)

-- ---- stores

pub store_there : (op : Op) (k : ℕ) (x : Operand) (v : Value) → is_destination op k ≡ true → Each (IsStored op) (store k x v)
store_there op k (Given s old) v e = (e, tt)
store_there op k (Immediate n) v e = tt
store_there op k Jump v e = tt
store_there op k Left v e = tt

two_there : (op : Op) (x y : Operand) (v w : Value) → is_destination op 0 ≡ true → is_destination op 1 ≡ true → Each (IsStored op) (store 0 x v ++ store 1 y w)
two_there op x y v w e f = each_join (IsStored op) (store 0 x v) (store 1 y w) (store_there op 0 x v e) (store_there op 1 y w f)

-- one of two effects
either_there : (op : Op) (b : Bool) (e f : Effect) → Gives op e → Gives op f → Gives op (if b then e else f)
either_there op true e f g h = g
either_there op false e f g h = h

-- ---- statements with cases

comparison_there : (c : Cmp) (s : Shape) (d : Devices) (dest x y : Operand) → Gives ops.Cmp (comparison c s d dest x y)
comparison_there c (Number k) d dest x y = (store_there ops.Cmp 0 dest _ refl, refl)
comparison_there c Void d dest x y = (store_there ops.Cmp 0 dest _ refl, refl)
comparison_there c (Array n s) d dest x y = (store_there ops.Cmp 0 dest _ refl, refl)
comparison_there c (Cluster ss) d dest x y = (store_there ops.Cmp 0 dest _ refl, refl)
comparison_there c Mutex d dest x y = (store_there ops.Cmp 0 dest _ refl, refl)

build_there : (d : Devices) (os : List Operand) → Gives ops.Arrbuild (build d os)
build_there d [] = (tt, refl)
build_there d (dest ∷ sources) = (store_there ops.Arrbuild 0 dest _ refl, refl)

concatenate_there : (d : Devices) (os : List Operand) → Gives ops.Strcat (concatenate d os)
concatenate_there d [] = (tt, refl)
concatenate_there d (dest ∷ sources) = (store_there ops.Strcat 0 dest _ refl, refl)

unflatten_there : (d : Devices) (dest error source kind_of : Operand) → Gives ops.Unflatten (unflatten d dest error source kind_of)
unflatten_there d dest error source kind_of =
    either_there ops.Unflatten _ _ _ (two_there ops.Unflatten dest error _ _ refl refl, refl) (two_there ops.Unflatten dest error _ _ refl refl, refl)

found_there : (o : Option (ℤ × ℕ)) (d : Devices) (dest past : Operand) (offset : ℕ) (default : Operand) → Gives ops.Strtonum (found_number o d dest past offset default)
found_there None d dest past offset default = (two_there ops.Strtonum dest past _ _ refl refl, refl)
found_there (Some f) d dest past offset default = (two_there ops.Strtonum dest past _ _ refl refl, refl)

set_output_there : (d : Devices) (os : List Operand) → Gives ops.Setout (set_output d os)
set_output_there d [] = (tt, refl)
set_output_there d (port ∷ rest) = (tt, refl)

-- ---- system calls

fields_there : (s : Shape) (fs : List (ℕ × Value)) → Each (IsStored ops.Syscall) (fields s fs)
fields_there s [] = tt
fields_there s (f ∷ fs) = (refl, fields_there s fs)

answers_there : (s : Shape) (fs : List (ℕ × Value)) (c : Change) → Gives ops.Syscall (answers s fs c)
answers_there s fs c = (fields_there s fs, refl)

button_there : (s : Shape) (o : Option Button) (i : ℕ) (reset : Bool) (d : Devices) → Gives ops.Syscall (read_button s o i reset d)
button_there s None i reset d = answers_there s ((0, Num (negsuc 15)) ∷ []) (changed d [])
button_there s (Some b) i reset d = answers_there s ((0, num 0) ∷ (2, num b.pressed) ∷ (3, num b.presses) ∷ []) (changed (if reset then reset_count i b d else d) [])

random_there : (s : Shape) (zs : List ℤ) (d : Devices) → Gives ops.Syscall (take_random s zs d)
random_there s [] d = answers_there s ((0, num 0) ∷ []) (changed d [])
random_there s (z ∷ zs) d = answers_there s ((0, Num z) ∷ []) (changed (record d { random = zs }) [])

write_there : (s : Shape) (box : ℕ) (message : List ℕ) (d : Devices) → Gives ops.Syscall (write_message s box message d)
write_there s box message d = by (nat_lt 19 box) (nat_lt 59 (length message))
  where
    by : (a b : Bool)
        → Gives ops.Syscall
        (if a then answers s ((0, Num (negsuc 17)) ∷ []) (changed d [])
        else if b then answers s ((0, Num (negsuc 18)) ∷ []) (changed d [])
        else answers s ((0, num 0) ∷ []) (changed (put_message box message d) []))
    by true b = answers_there s ((0, Num (negsuc 17)) ∷ []) (changed d [])
    by false true = answers_there s ((0, Num (negsuc 18)) ∷ []) (changed d [])
    by false false = answers_there s ((0, num 0) ∷ []) (changed (put_message box message d) [])

message_there : (s : Shape) (box : ℕ) (ms : List (List ℕ)) (remove : Bool) (d : Devices) → Gives ops.Syscall (read_message s box ms remove d)
message_there s box [] remove d = answers_there s ((0, num 64) ∷ (3, byte_list (0 ∷ [])) ∷ []) (changed d [])
message_there s box (m ∷ ms) remove d = answers_there s ((0, num 0) ∷ (3, byte_list m) ∷ []) (changed (if remove then without_oldest box d else d) [])

mailbox_there : (s : Shape) (box : ℕ) (remove : Bool) (d : Devices) → Gives ops.Syscall (read_mailbox s box remove d)
mailbox_there s box remove d = by (nat_lt 19 box)
  where
    by : (a : Bool) → Gives ops.Syscall (if a then answers s ((0, Num (negsuc 17)) ∷ []) (changed d []) else read_message s box (mailbox box d) remove d)
    by true = answers_there s ((0, Num (negsuc 17)) ∷ []) (changed d [])
    by false = message_there s box (mailbox box d) remove d

call_there : (c : Call) (s : Shape) (v : Value) (d : Devices) (t : Clock) → Gives ops.Syscall (call_effect c s v d t)
call_there PlayTone s v d t = (fields_there s ((0, num 0) ∷ []), refl)
call_there GetSound s v d t = (fields_there s ((0, num d.sound.state) ∷ (1, num d.sound.flags) ∷ []), refl)
call_there SetSound s v d t =
    let c = set_sound (field_word 1 v % 256) (field_word 2 v % 256) d in (fields_there s ((0, num c.devices.sound.state) ∷ []), refl)
call_there ReadButton s v d t = button_there s (slice_get d.buttons (field_word 1 v)) (field_word 1 v) (is_set (field_word 4 v)) d
call_there RandomNumber s v d t = random_there s d.random d
call_there StartTick s v d t = (fields_there s ((0, num t.start) ∷ []), refl)
call_there WriteMessage s v d t = write_there s (field_word 1 v) (ended (body (field_text 2 v))) d
call_there ReadMessage s v d t = mailbox_there s (field_word 1 v) (is_set (field_word 2 v)) d
call_there KeepAlive s v d t = (fields_there s ((0, num 600000) ∷ []), refl)
call_there c s v d t = (fields_there s ((0, num 0) ∷ []), refl)

system_there : (o : Option Call) (s : Shape) (v : Value) (d : Devices) (t : Clock) → Gives ops.Syscall (system_call o s v d t)
system_there None s v d t = (tt, refl)
system_there (Some c) s v d t = call_there c s v d t

-- ---- all statements

-- values go to destinations
pub stored_there : (op : Op) (c : Cmp) (d : Devices) (t : Clock) (os : List Operand) → Each (IsStored op) (means op c d t os).stores
stored_there ops.Cmp c d t os = (comparison_there c (shape_of (operand_at os 0)) d (operand_at os 0) (operand_at os 1) (operand_at os 2)).0
stored_there ops.Arrbuild c d t os = (build_there d os).0
stored_there ops.Strcat c d t os = (concatenate_there d os).0
stored_there ops.Unflatten c d t os = (unflatten_there d (operand_at os 0) (operand_at os 1) (operand_at os 2) (operand_at os 3)).0
stored_there ops.Strtonum c d t os = (found_there _ d (operand_at os 0) (operand_at os 1) _ (operand_at os 4)).0
stored_there ops.Setout c d t os = (set_output_there d os).0
stored_there ops.Syscall c d t os = (system_there (call_of (word_or 0 (operand_at os 0))) (shape_of (operand_at os 1)) (value_of (operand_at os 1)) d t).0
stored_there ops.Jmp c d t os = tt
stored_there ops.Brcmp c d t os = tt
stored_there ops.Brtst c d t os = tt
stored_there ops.Setin c d t os = tt
stored_there ops.Stop c d t os = tt
stored_there ops.Finclump c d t os = tt
stored_there ops.Finclumpimmed c d t os = tt
stored_there ops.Acquire c d t os = tt
stored_there ops.Release c d t os = tt
stored_there ops.Subcall c d t os = tt
stored_there ops.Subret c d t os = tt
stored_there ops.Wait c d t os = tt
stored_there ops.Add c d t os = store_there ops.Add 0 (operand_at os 0) _ refl
stored_there ops.Sub c d t os = store_there ops.Sub 0 (operand_at os 0) _ refl
stored_there ops.Neg c d t os = store_there ops.Neg 0 (operand_at os 0) _ refl
stored_there ops.Mul c d t os = store_there ops.Mul 0 (operand_at os 0) _ refl
stored_there ops.Div c d t os = store_there ops.Div 0 (operand_at os 0) _ refl
stored_there ops.Mod c d t os = store_there ops.Mod 0 (operand_at os 0) _ refl
stored_there ops.And c d t os = store_there ops.And 0 (operand_at os 0) _ refl
stored_there ops.Or c d t os = store_there ops.Or 0 (operand_at os 0) _ refl
stored_there ops.Xor c d t os = store_there ops.Xor 0 (operand_at os 0) _ refl
stored_there ops.Tst c d t os = store_there ops.Tst 0 (operand_at os 0) _ refl
stored_there ops.Not c d t os = store_there ops.Not 0 (operand_at os 0) _ refl
stored_there ops.Index c d t os = store_there ops.Index 0 (operand_at os 0) _ refl
stored_there ops.Replace c d t os = store_there ops.Replace 0 (operand_at os 0) _ refl
stored_there ops.Arrsize c d t os = store_there ops.Arrsize 0 (operand_at os 0) _ refl
stored_there ops.Arrsubset c d t os = store_there ops.Arrsubset 0 (operand_at os 0) _ refl
stored_there ops.Arrinit c d t os = store_there ops.Arrinit 0 (operand_at os 0) _ refl
stored_there ops.Mov c d t os = store_there ops.Mov 0 (operand_at os 0) _ refl
stored_there ops.Set c d t os = store_there ops.Set 0 (operand_at os 0) _ refl
stored_there ops.Flatten c d t os = store_there ops.Flatten 0 (operand_at os 0) _ refl
stored_there ops.Numtostr c d t os = store_there ops.Numtostr 0 (operand_at os 0) _ refl
stored_there ops.Strsubset c d t os = store_there ops.Strsubset 0 (operand_at os 0) _ refl
stored_there ops.Strtoarr c d t os = store_there ops.Strtoarr 0 (operand_at os 0) _ refl
stored_there ops.Arrtostr c d t os = store_there ops.Arrtostr 0 (operand_at os 0) _ refl
stored_there ops.Getin c d t os = store_there ops.Getin 0 (operand_at os 0) _ refl
stored_there ops.Getout c d t os = store_there ops.Getout 0 (operand_at os 0) _ refl
stored_there ops.Gettick c d t os = store_there ops.Gettick 0 (operand_at os 0) _ refl

-- and a statement that isn't a jump goes on
pub goes_on : (op : Op) (c : Cmp) (d : Devices) (t : Clock) (os : List Operand) → is_jump op ≡ false → (means op c d t os).jumps ≡ false
goes_on ops.Cmp c d t os e = (comparison_there c (shape_of (operand_at os 0)) d (operand_at os 0) (operand_at os 1) (operand_at os 2)).1
goes_on ops.Arrbuild c d t os e = (build_there d os).1
goes_on ops.Strcat c d t os e = (concatenate_there d os).1
goes_on ops.Unflatten c d t os e = (unflatten_there d (operand_at os 0) (operand_at os 1) (operand_at os 2) (operand_at os 3)).1
goes_on ops.Strtonum c d t os e = (found_there _ d (operand_at os 0) (operand_at os 1) _ (operand_at os 4)).1
goes_on ops.Setout c d t os e = (set_output_there d os).1
goes_on ops.Syscall c d t os e = (system_there (call_of (word_or 0 (operand_at os 0))) (shape_of (operand_at os 1)) (value_of (operand_at os 1)) d t).1
goes_on ops.Jmp c d t os e = absurd cc
goes_on ops.Brcmp c d t os e = absurd cc
goes_on ops.Brtst c d t os e = absurd cc
goes_on op c d t os e = refl
