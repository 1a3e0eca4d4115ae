-- Worked runs of small programs.
use Rattle.std.proofs.Common.{◌≡◌, ℕ, refl, List, [], ◌∷◌, replicate}
use Rattle.std.specs.Prelude.{pos, codes}
use Rattle.std.specs.Fmt.{digits}
use Rattle.hex.specs.Hex.{encode_with}
use Rattle.nxt_types.specs.declared.shape.TocEntry.{TocEntry}
use Rattle.nxt_types.specs.declared.lists.ClumpRec.{ClumpRec}
use Rattle.nxt_types.specs.declared.kind.Kind.TheVariants.{Ubyte, Sbyte, Slong}
use Rattle.nxt_types.specs.Shapes.{Number, Mutex, members, Shape}
use Rattle.nxt_model.specs.declared.event.Event.{Event}
use Rattle.nxt_model.specs.declared.event.Event.TheVariants.{Bytecode, Telegram}
use Rattle.nxt_model.specs.declared.line.Line.TheVariants as lines
use Rattle.nxt_model.specs.declared.line.Stop.TheVariants as stops
use Rattle.nxt_model.specs.Values.{Value, Num, group_of}
use Rattle.nxt_model.specs.Image.{Image, program_of}
use Rattle.nxt_model.specs.Program.{start}
use Rattle.nxt_model.specs.Step.{run}
use Rattle.nxt_model.specs.LineText.{lines_text}

abbrev entry : ℕ → ℕ → TocEntry
entry code at = record { code = code; flags = 0; desc = at }

abbrev clump_rec : ℕ → ℕ → ClumpRec
clump_rec fire at = record { fire = fire; dependents = 0; start = at }

abbrev image_of : List TocEntry → List Shape → List Value → ℕ → List ClumpRec → List ℕ → Image
image_of entries shapes vars size clumps words =
    record {
      entries = entries;
      shapes = members shapes;
      values = group_of vars;
      rows = 1;
      static_size = size;
      clumps = clumps;
      dependents = [];
      words = words;
    }

-- a motor is set to 75, and the program ends
abbrev one_motor : Image
one_motor =
    image_of
    (entry 1 0 ∷ entry 2 1 ∷ entry 1 2 ∷ [])
    (Number Ubyte ∷ Number Sbyte ∷ Number Ubyte ∷ [])
    (Num (pos 0) ∷ Num (pos 75) ∷ Num (pos 2) ∷ [])
    3 (clump_rec 0 0 ∷ [])
    (0xE031 ∷ 14 ∷ 0 ∷ 2 ∷ 1 ∷ 0 ∷ 2 ∷ 0x602A ∷ 0 ∷ 0xFFFF ∷ [])

one_motor_runs : (run (program_of one_motor) (replicate 100 Bytecode) (start (program_of one_motor))).lines
    ≡ lines.Motor 0 0 (pos 75) 0 (pos 0) 0 0 ∷ lines.Stop stops.Finished ∷ []
one_motor_runs = refl

-- a jump to itself beside a thread that sets a motor
abbrev two_threads : Image
two_threads =
    image_of
    (entry 6 0 ∷ entry 6 4 ∷ entry 6 8 ∷ [])
    (Number Slong ∷ Number Slong ∷ Number Slong ∷ [])
    (Num (pos 0) ∷ Num (pos 5) ∷ Num (pos 2) ∷ [])
    12 (clump_rec 0 0 ∷ clump_rec 0 2 ∷ [])
    (0x4025 ∷ 0 ∷ 0xE031 ∷ 14 ∷ 0 ∷ 2 ∷ 1 ∷ 0 ∷ 2 ∷ 0x602A ∷ 0 ∷ 0xFFFF ∷ [])

first_turn : (run (program_of two_threads) (replicate 20 Bytecode) (start (program_of two_threads))).lines ≡ []
first_turn = refl

second_turn : (run (program_of two_threads) (replicate 21 Bytecode) (start (program_of two_threads))).lines ≡ lines.Motor 0 0 (pos 5) 0 (pos 0) 0 0 ∷ []
second_turn = refl

-- a mutex is taken twice by one thread
abbrev locked_twice : Image
locked_twice =
    image_of (entry 9 0 ∷ []) (Mutex ∷ []) (Num (pos 0) ∷ []) 4 (clump_rec 0 0 ∷ [])
    (0x402C ∷ 0 ∷ 0x402C ∷ 0 ∷ 0x602A ∷ 0 ∷ 0xFFFF ∷ [])

stuck : (run (program_of locked_twice) (replicate 5 Bytecode) (start (program_of locked_twice))).lines ≡ lines.Stop stops.Stuck ∷ []
stuck = refl

-- a jump to itself
abbrev looping : Image
looping = image_of [] [] [] 0 (clump_rec 0 0 ∷ []) (0x4025 ∷ 0 ∷ [])

abbrev sends : List (List ℕ) → List Event
sends [] = []
sends (m ∷ ms) = Telegram m ∷ sends ms

abbrev told : List (List ℕ) → List ℕ
told ms = lines_text (run (program_of looping) (sends ms) (start (program_of looping))).lines

motor_told : told ((0 ∷ 4 ∷ 0 ∷ 0x64 ∷ 7 ∷ 0 ∷ 0 ∷ 0x20 ∷ 0 ∷ 0 ∷ 0 ∷ 0 ∷ []) ∷ []) ≡ codes "motor,0,7,100,32,0,0,0\nreply,020400\n"
unfolding digits encode_with
motor_told = refl

thirteen_bytes : told ((0 ∷ 4 ∷ 0 ∷ 0x64 ∷ 7 ∷ 0 ∷ 0 ∷ 0x20 ∷ 0 ∷ 0 ∷ 0 ∷ 0 ∷ 0 ∷ []) ∷ []) ≡ codes "motor,0,7,100,32,0,0,0\nreply,020400\n"
unfolding digits encode_with
thirteen_bytes = refl

unknown_command : told ((0 ∷ 0x55 ∷ []) ∷ []) ≡ codes "reply,0255be\n"
unfolding encode_with
unknown_command = refl

no_reply_wanted : told ((0x80 ∷ 0x55 ∷ []) ∷ []) ≡ []
no_reply_wanted = refl

battery_told : told ((0 ∷ 0x0B ∷ []) ∷ []) ≡ codes "reply,020b00401f\n"
unfolding encode_with
battery_told = refl

stopped_then_no_message : told ((0 ∷ 1 ∷ []) ∷ (0 ∷ 0x13 ∷ 0 ∷ 0 ∷ 1 ∷ []) ∷ []) ≡ codes "stop,telegram\nreply,020100\nreply,0213ec\n"
unfolding encode_with
stopped_then_no_message = refl

tone_told : told ((0 ∷ 3 ∷ 0xC8 ∷ 0 ∷ 1 ∷ 0 ∷ []) ∷ []) ≡ codes "tone,200,1,0,4\nreply,020300\n"
unfolding digits encode_with
tone_told = refl

-- refused telegrams, and those that are dropped
refusals_told : told
    ([] ∷ (0 ∷ []) ∷ (2 ∷ 0xFF ∷ []) ∷ (0 ∷ 0 ∷ []) ∷ (0 ∷ 0 ∷ 0x61 ∷ 0 ∷ []) ∷ (0 ∷ 3 ∷ 0xC7 ∷ 0 ∷ 1 ∷ 0 ∷ []) ∷ (0 ∷ 4 ∷ [])
    ∷ (0 ∷ 4 ∷ 3 ∷ 0 ∷ 0 ∷ 0 ∷ 0 ∷ 0 ∷ 0 ∷ 0 ∷ 0 ∷ 0 ∷ []) ∷ (0 ∷ 4 ∷ 0 ∷ 0x9B ∷ 0 ∷ 0 ∷ 0 ∷ 0 ∷ 0 ∷ 0 ∷ 0 ∷ 0 ∷ []) ∷ (0 ∷ 9 ∷ 0 ∷ 0 ∷ [])
    ∷ (0 ∷ 9 ∷ 0 ∷ 1 ∷ 0x31 ∷ []) ∷ (0 ∷ 9 ∷ 0x14 ∷ 2 ∷ 1 ∷ 0 ∷ []) ∷ (0 ∷ 0x13 ∷ 0x14 ∷ 0 ∷ 1 ∷ []) ∷ [])
    ≡ codes "reply,0200bf\nreply,0200bd\nreply,0203c0\nreply,0204bf\nreply,0204f0\nreply,0204c0\nreply,0209ed\nreply,0209ff\nreply,0209ee\nreply,0213ee\n"
unfolding encode_with
refusals_told = refl

abbrev put : ℕ → List ℕ
put b = 0x80 ∷ 9 ∷ 0 ∷ 2 ∷ b ∷ 0 ∷ []

abbrev get : List ℕ
get = 0 ∷ 0x13 ∷ 0 ∷ 0 ∷ 1 ∷ []

-- a message of two bytes, as a mailbox gives it
abbrev got : ℕ → List ℕ
got b = 2 ∷ 0x13 ∷ 0 ∷ 0 ∷ 2 ∷ b ∷ 0 ∷ replicate 57 0

-- a full mailbox loses its oldest message
six_messages : (run (program_of looping) (sends (put 0x31 ∷ put 0x32 ∷ put 0x33 ∷ put 0x34 ∷ put 0x35 ∷ put 0x36 ∷ get ∷ get ∷ get ∷ get ∷ get ∷ get ∷ [])) (start (program_of looping))).lines
    ≡ lines.Reply (got 0x32) ∷ lines.Reply (got 0x33) ∷ lines.Reply (got 0x34) ∷ lines.Reply (got 0x35) ∷ lines.Reply (got 0x36)
    ∷ lines.Reply (2 ∷ 0x13 ∷ 0x40 ∷ []) ∷ []
six_messages = refl

loops : (run (program_of looping) (replicate 3 Bytecode) (start (program_of looping))).lines ≡ []
loops = refl

silence_told : told ((0 ∷ 0x0C ∷ []) ∷ []) ≡ codes "quiet\nreply,020c00\n"
unfolding encode_with
silence_told = refl
