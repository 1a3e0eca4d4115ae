-- The names of NXTDefs.h.
use Rattle.std.specs.Prelude.{ℕ, ◌+◌, Bool, List, [], ◌∷◌, ◌++◌, map, find, codes, bytes_eq, Option, option_map}
use Rattle.std.specs.List.{list_any}
use Rattle.nxt_types.specs.Calls.{all_calls, call_name, call_number}
use Rattle.nxt_types.specs.declared.kind.Kind.{Kind}
use Rattle.nxt_types.specs.declared.kind.Kind.TheVariants.{Ubyte, Sbyte, Uword, Sword, Ulong}
use Rattle.nxt_model.specs.declared.nbc.NbcBase.{NbcBase}
use Rattle.nxt_model.specs.declared.nbc.NbcBase.TheVariants as bases
use Rattle.nxt_model.specs.declared.nbc.NbcType.{NbcType}
use Rattle.nxt_model.specs.Nbc.Types.{Struct, StructMember}

-- ---- numbers

abbrev pub Constant : Type 0
Constant = List ℕ × ℕ

-- names for 0, 1 and so on
abbrev pub counted : ℕ → List (List ℕ) → List Constant
counted n [] = []
counted n (name ∷ names) = (name, n) ∷ counted (n + 1) names

abbrev pub call_names : List Constant
call_names = map (λ c. (call_name c, call_number c)) all_calls

abbrev pub constants : List Constant
constants =
    (codes "TRUE", 1) ∷ (codes "FALSE", 0) ∷ (codes "NA", 65535) ∷ []
    ++ counted 0 (codes "OUT_A" ∷ codes "OUT_B" ∷ codes "OUT_C" ∷ [])
    ++ counted 0 (codes "IN_1" ∷ codes "IN_2" ∷ codes "IN_3" ∷ codes "IN_4" ∷ [])
    ++ counted 0
    (codes "Type" ∷ codes "InputMode" ∷ codes "RawValue" ∷ codes "NormalizedValue" ∷ codes "ScaledValue"
    ∷ codes "InvalidData" ∷ [])
    ++ counted 0
    (codes "UpdateFlags" ∷ codes "OutputMode" ∷ codes "Power" ∷ codes "ActualSpeed" ∷ codes "TachoCount"
    ∷ codes "TachoLimit" ∷ codes "RunState" ∷ codes "TurnRatio" ∷ codes "RegMode" ∷ codes "Overload"
    ∷ codes "RegPValue" ∷ codes "RegIValue" ∷ codes "RegDValue" ∷ codes "BlockTachoCount" ∷ codes "RotationCount" ∷ [])
    ++ (codes "UF_UPDATE_MODE", 1) ∷ (codes "UF_UPDATE_SPEED", 2) ∷ (codes "UF_UPDATE_TACHO_LIMIT", 4)
    ∷ (codes "UF_UPDATE_RESET_COUNT", 8) ∷ (codes "UF_UPDATE_PID_VALUES", 16)
    ∷ (codes "UF_UPDATE_RESET_BLOCK_COUNT", 32) ∷ (codes "UF_UPDATE_RESET_ROTATION_COUNT", 64) ∷ []
    ++ (codes "OUT_MODE_COAST", 0) ∷ (codes "OUT_MODE_MOTORON", 1) ∷ (codes "OUT_MODE_BRAKE", 2)
    ∷ (codes "OUT_MODE_REGULATED", 4) ∷ (codes "OUT_RUNSTATE_IDLE", 0) ∷ (codes "OUT_RUNSTATE_RAMPUP", 16)
    ∷ (codes "OUT_RUNSTATE_RUNNING", 32) ∷ (codes "OUT_RUNSTATE_RAMPDOWN", 64) ∷ []
    ++ counted 0 (codes "OUT_REGMODE_IDLE" ∷ codes "OUT_REGMODE_SPEED" ∷ codes "OUT_REGMODE_SYNC" ∷ [])
    ++ (codes "IN_TYPE_NO_SENSOR", 0) ∷ (codes "IN_TYPE_SWITCH", 1) ∷ (codes "IN_TYPE_LIGHT_ACTIVE", 5)
    ∷ (codes "IN_TYPE_LIGHT_INACTIVE", 6) ∷ (codes "IN_TYPE_SOUND_DB", 7) ∷ (codes "IN_TYPE_SOUND_DBA", 8)
    ∷ (codes "IN_MODE_RAW", 0) ∷ (codes "IN_MODE_BOOLEAN", 32) ∷ (codes "IN_MODE_PCTFULLSCALE", 128) ∷ []
    ++ (codes "LCD_LINE1", 56) ∷ (codes "LCD_LINE2", 48) ∷ (codes "LCD_LINE3", 40) ∷ (codes "LCD_LINE4", 32)
    ∷ (codes "LCD_LINE5", 24) ∷ (codes "LCD_LINE6", 16) ∷ (codes "LCD_LINE7", 8) ∷ (codes "LCD_LINE8", 0) ∷ []
    ++ counted 0 (codes "BTNEXIT" ∷ codes "BTNRIGHT" ∷ codes "BTNLEFT" ∷ codes "BTNCENTER" ∷ [])
    ++ counted 0
    (codes "MAILBOX1" ∷ codes "MAILBOX2" ∷ codes "MAILBOX3" ∷ codes "MAILBOX4" ∷ codes "MAILBOX5" ∷ codes "MAILBOX6"
    ∷ codes "MAILBOX7" ∷ codes "MAILBOX8" ∷ codes "MAILBOX9" ∷ codes "MAILBOX10" ∷ [])
    ++ call_names

abbrev pub constant_named : List ℕ → Option ℕ
constant_named name = option_map (λ c. c.1) (find (λ c. bytes_eq c.0 name) constants)

-- ---- structs

abbrev pub typed : NbcBase → ℕ → NbcType
typed base arrays = record { base = base; arrays = arrays }

abbrev pub a_member : NbcType → List ℕ → StructMember
a_member t name = record { name = name; type = t }

abbrev pub of_kind : Kind → List ℕ → StructMember
of_kind k name = a_member (typed (bases.Number k) 0) name

abbrev pub a_byte : List ℕ → StructMember
a_byte name = of_kind Ubyte name

abbrev pub bytes_named : List ℕ → StructMember
bytes_named name = a_member (typed (bases.Number Ubyte) 1) name

-- TLocation and TSize, which are the header's first two structs
abbrev pub a_location : List ℕ → StructMember
a_location name = a_member (typed (bases.Struct 0) 0) name

abbrev pub a_size : List ℕ → StructMember
a_size name = a_member (typed (bases.Struct 1) 0) name

abbrev pub sbyte_result : StructMember
sbyte_result = of_kind Sbyte (codes "Result")

abbrev pub options : StructMember
options = of_kind Ulong (codes "Options")

abbrev pub a_struct : List ℕ → List StructMember → Struct
a_struct name members = record { name = name; members = members; line = 0 }

-- the header's structs, as they stand behind no others and on no line
abbrev pub header_structs : List Struct
header_structs =
    a_struct (codes "TLocation") (of_kind Sword (codes "X") ∷ of_kind Sword (codes "Y") ∷ [])
    ∷ a_struct (codes "TSize") (of_kind Sword (codes "Width") ∷ of_kind Sword (codes "Height") ∷ [])
    ∷ a_struct (codes "TSoundPlayTone")
    (sbyte_result ∷ of_kind Uword (codes "Frequency") ∷ of_kind Uword (codes "Duration") ∷ a_byte (codes "Loop")
    ∷ a_byte (codes "SoundLevel") ∷ [])
    ∷ a_struct (codes "TSoundGetState") (a_byte (codes "State") ∷ a_byte (codes "Flags") ∷ [])
    ∷ a_struct (codes "TSoundSetState") (a_byte (codes "Result") ∷ a_byte (codes "State") ∷ a_byte (codes "Flags") ∷ [])
    ∷ a_struct (codes "TDrawText") (sbyte_result ∷ a_location (codes "Location") ∷ bytes_named (codes "Text") ∷ options ∷ [])
    ∷ a_struct (codes "TDrawPoint") (sbyte_result ∷ a_location (codes "Location") ∷ options ∷ [])
    ∷ a_struct (codes "TDrawLine") (sbyte_result ∷ a_location (codes "StartLoc") ∷ a_location (codes "EndLoc") ∷ options ∷ [])
    ∷ a_struct (codes "TDrawCircle") (sbyte_result ∷ a_location (codes "Center") ∷ a_byte (codes "Size") ∷ options ∷ [])
    ∷ a_struct (codes "TDrawRect") (sbyte_result ∷ a_location (codes "Location") ∷ a_size (codes "Size") ∷ options ∷ [])
    ∷ a_struct (codes "TSetScreenMode") (sbyte_result ∷ of_kind Ulong (codes "ScreenMode") ∷ [])
    ∷ a_struct (codes "TReadButton")
    (sbyte_result ∷ a_byte (codes "Index") ∷ a_byte (codes "Pressed") ∷ a_byte (codes "Count") ∷ a_byte (codes "Reset") ∷ [])
    ∷ a_struct (codes "TRandomNumber") (of_kind Sword (codes "Result") ∷ [])
    ∷ a_struct (codes "TGetStartTick") (of_kind Ulong (codes "Result") ∷ [])
    ∷ a_struct (codes "TMessageWrite") (sbyte_result ∷ a_byte (codes "QueueID") ∷ bytes_named (codes "Message") ∷ [])
    ∷ a_struct (codes "TMessageRead")
    (sbyte_result ∷ a_byte (codes "QueueID") ∷ a_byte (codes "Remove") ∷ bytes_named (codes "Message") ∷ [])
    ∷ a_struct (codes "TKeepAlive") (of_kind Ulong (codes "Result") ∷ [])
    ∷ []

-- a type of the header's, where so many structs stand before them
abbrev pub base_behind : ℕ → NbcBase → NbcBase
base_behind first (bases.Struct i) = bases.Struct (first + i)
base_behind first b = b

abbrev pub type_behind : ℕ → NbcType → NbcType
type_behind first t = record t { base = base_behind first t.base }

abbrev pub member_behind : ℕ → StructMember → StructMember
member_behind first m = record m { type = type_behind first m.type }

abbrev pub struct_behind : ℕ → ℕ → Struct → Struct
struct_behind first line s = record { name = s.name; members = map (member_behind first) s.members; line = line }

-- the structs that an include at the line gives behind so many others
abbrev pub header_at : ℕ → ℕ → List Struct
header_at first line = map (struct_behind first line) header_structs

abbrev pub is_header_struct : List ℕ → Bool
is_header_struct name = list_any (λ s. bytes_eq s.name name) header_structs
