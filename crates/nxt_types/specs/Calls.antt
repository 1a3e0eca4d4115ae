-- The system calls, and the clusters that they take.
use Rattle.std.specs.Prelude.{ℕ, Bool, true, false, ◌&&◌, ◌==◌, List, [], ◌∷◌, find, codes, Option}
use Rattle.nxt_types.specs.Shapes.{Shape, Number, Array, Cluster, Members, no_members, member, is_number}
use Rattle.nxt_types.specs.declared.kind.Kind.TheVariants.{Ubyte}
use Rattle.nxt_types.specs.declared.calls.Call.{Call}
use Rattle.nxt_types.specs.declared.calls.Call.TheVariants.{PlayTone, GetSound, SetSound, DrawText, DrawPoint, DrawLine, DrawCircle, DrawRect, SetScreen, ReadButton, RandomNumber, StartTick, WriteMessage, ReadMessage, KeepAlive}
use Rattle.nxt_types.specs.declared.calls.Field.{Field}
use Rattle.nxt_types.specs.declared.calls.Field.TheVariants.{Number as a_number, Text as a_text, Place as a_place}

-- ---- the table

-- a call's number, its name and the members of its cluster
pub record CallRow : Type 0 where
  pub number : ℕ
  pub name : List ℕ
  pub fields : List Field

abbrev pub a_row : ℕ → List ℕ → List Field → CallRow
a_row number name fields = record { number = number; name = name; fields = fields }

abbrev pub call_row : Call → CallRow
call_row PlayTone = a_row 10 (codes "SoundPlayTone") (a_number ∷ a_number ∷ a_number ∷ a_number ∷ a_number ∷ [])
call_row GetSound = a_row 11 (codes "SoundGetState") (a_number ∷ a_number ∷ [])
call_row SetSound = a_row 12 (codes "SoundSetState") (a_number ∷ a_number ∷ a_number ∷ [])
call_row DrawText = a_row 13 (codes "DrawText") (a_number ∷ a_place ∷ a_text ∷ a_number ∷ [])
call_row DrawPoint = a_row 14 (codes "DrawPoint") (a_number ∷ a_place ∷ a_number ∷ [])
call_row DrawLine = a_row 15 (codes "DrawLine") (a_number ∷ a_place ∷ a_place ∷ a_number ∷ [])
call_row DrawCircle = a_row 16 (codes "DrawCircle") (a_number ∷ a_place ∷ a_number ∷ a_number ∷ [])
call_row DrawRect = a_row 17 (codes "DrawRect") (a_number ∷ a_place ∷ a_place ∷ a_number ∷ [])
call_row SetScreen = a_row 19 (codes "SetScreenMode") (a_number ∷ a_number ∷ [])
call_row ReadButton = a_row 20 (codes "ReadButton") (a_number ∷ a_number ∷ a_number ∷ a_number ∷ a_number ∷ [])
call_row RandomNumber = a_row 24 (codes "RandomNumber") (a_number ∷ [])
call_row StartTick = a_row 25 (codes "GetStartTick") (a_number ∷ [])
call_row WriteMessage = a_row 26 (codes "MessageWrite") (a_number ∷ a_number ∷ a_text ∷ [])
call_row ReadMessage = a_row 27 (codes "MessageRead") (a_number ∷ a_number ∷ a_number ∷ a_text ∷ [])
call_row KeepAlive = a_row 31 (codes "KeepAlive") (a_number ∷ [])

abbrev pub all_calls : List Call
all_calls =
    PlayTone ∷ GetSound ∷ SetSound ∷ DrawText ∷ DrawPoint ∷ DrawLine ∷ DrawCircle ∷ DrawRect ∷ SetScreen
    ∷ ReadButton ∷ RandomNumber ∷ StartTick ∷ WriteMessage ∷ ReadMessage ∷ KeepAlive ∷ []

-- ---- columns

abbrev pub call_number : Call → ℕ
call_number c = (call_row c).number

abbrev pub call_name : Call → List ℕ
call_name c = (call_row c).name

abbrev pub cluster_fields : Call → List Field
cluster_fields c = (call_row c).fields

abbrev pub call_of : ℕ → Option Call
call_of n = find (λ c. call_number c == n) all_calls

-- ---- clusters

abbrev pub is_text : Shape → Bool
is_text (Array n (Number Ubyte)) = true
is_text _ = false

abbrev pub is_place : Shape → Bool
is_place (Cluster (member x (member y no_members))) = is_number x && is_number y
is_place _ = false

abbrev pub is_field : Field → Shape → Bool
is_field a_number s = is_number s
is_field a_text s = is_text s
is_field a_place s = is_place s

abbrev pub are_fields : List Field → Members → Bool
are_fields [] no_members = true
are_fields [] (member s ss) = false
are_fields (f ∷ fs) no_members = false
are_fields (f ∷ fs) (member s ss) = is_field f s && are_fields fs ss

-- the shape is that of the call's cluster
abbrev pub is_cluster_of : Call → Shape → Bool
is_cluster_of c (Cluster ss) = are_fields (cluster_fields c) ss
is_cluster_of c _ = false
