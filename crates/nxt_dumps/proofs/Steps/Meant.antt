-- What each statement stores: values of their parts' shapes.
use Rattle.std.proofs.Common.{◌≡◌, ℕ, ◌⊎◌, inl, inr, Bool, true, false, if◌then◌else◌, List, [], ◌∷◌, ◌++◌, length, Option, Some, None, refl, sym, ap, ◌∙◌, subst}
use Rattle.std.specs.Prelude.{ℤ, pos, drop, nat_le}
use Rattle.nxt_facts.proofs.Each.{Each, each_join}
use Rattle.nxt_types.specs.Calls.{call_of}
use Rattle.nxt_types.specs.Shapes.{Shape, Void, Number, Array, Cluster, Mutex}
use Rattle.nxt_types.specs.declared.kind.Cmp.{Cmp}
use Rattle.nxt_types.specs.declared.instr.Op.{Op}
use Rattle.nxt_types.specs.declared.instr.Op.TheVariants as ops
use Rattle.nxt_model.specs.Values.{Value, Num, is_of, stored}
use Rattle.nxt_model.specs.Devices.{Devices}
use Rattle.nxt_model.specs.SystemCalls.{Clock, field_shape, fields}
use Rattle.nxt_model.specs.Means.Effects.{Operand, Given, Immediate, Jump, Left, Store, Effect, store, shape_of, value_of, word_or}
use Rattle.nxt_model.specs.Means.{means, operand_at, comparison, calls}
use Rattle.nxt_model.specs.Means.Arrays.{build}
use Rattle.nxt_model.specs.Means.Strings.{found_number, concatenate, text_of}
use Rattle.nxt_model.specs.Means.Ports.{set_output}
use Rattle.nxt_model.specs.Means.Text.{number_at, body, packed_size}
use Rattle.nxt_model.specs.Dump.{shape_under}
use Rattle.nxt_model.specs.Step.{caller_stores}
use Rattle.nxt_dumps.proofs.Steps.Calls.{calls_fields}
use Rattle.nxt_dumps.proofs.Steps.Stored.{stored_of}

-- a store of a statement: a value of the part's shape, for a whole operand or for a field of a system call's cluster
pub record IsMeant (os : List Operand) (op : Op) (x : Store) : Type 0 where
  pub of : is_of (shape_under (shape_of (operand_at os x.operand)) x.path) x.value ≡ true
  pub way : (x.path ≡ []) ⊎ ((op ≡ ops.Syscall) × (x.operand ≡ 1) × (k : ℕ) × (x.path ≡ k ∷ []))

abbrev pub AreMeant : List Operand → Op → List Store → Type 0
AreMeant os op xs = Each (IsMeant os op) xs

store_by : (os : List Operand) (op : Op) (k : ℕ) (o : Operand) (v : Value) → operand_at os k ≡ o → AreMeant os op (store k o v)
store_by os op k (Given s old) v e = (record { of = ap (λ p. is_of (shape_of p) (stored s v)) e ∙ stored_of s v; way = inl refl }, tt)
store_by os op k (Immediate n) v e = tt
store_by os op k Jump v e = tt
store_by os op k Left v e = tt

pub store_meant : (os : List Operand) (op : Op) (k : ℕ) (v : Value) → AreMeant os op (store k (operand_at os k) v)
store_meant os op k v = store_by os op k (operand_at os k) v refl

-- ---- statements with cases

comparison_meant : (os : List Operand) (op : Op) (c : Cmp) (s : Shape) (d : Devices) → AreMeant os op (comparison c s d (operand_at os 0) (operand_at os 1) (operand_at os 2)).stores
comparison_meant os op c Void d = store_meant os op 0 _
comparison_meant os op c (Number k) d = store_meant os op 0 _
comparison_meant os op c (Array stride s) d = store_meant os op 0 _
comparison_meant os op c (Cluster ss) d = store_meant os op 0 _
comparison_meant os op c Mutex d = store_meant os op 0 _

either : (os : List Operand) (op : Op) (b : Bool) (e f : Effect) → AreMeant os op e.stores → AreMeant os op f.stores → AreMeant os op (if b then e else f).stores
either os op true e f x y = x
either os op false e f x y = y

two_stores : (os : List Operand) (op : Op) (v w : Value) → AreMeant os op (store 0 (operand_at os 0) v ++ store 1 (operand_at os 1) w)
two_stores os op v w = each_join (IsMeant os op) (store 0 (operand_at os 0) v) (store 1 (operand_at os 1) w) (store_meant os op 0 v) (store_meant os op 1 w)

found_meant : (os : List Operand) (op : Op) (found : Option (ℤ × ℕ)) (d : Devices) (offset : ℕ) (default : Operand) → AreMeant os op (found_number found d (operand_at os 0) (operand_at os 1) offset default).stores
found_meant os op None d offset default = two_stores os op _ _
found_meant os op (Some found) d offset default = two_stores os op _ _

build_meant : (os : List Operand) (op : Op) (d : Devices) → AreMeant os op (build d os).stores
build_meant [] op d = tt
build_meant (o ∷ os) op d = store_meant (o ∷ os) op 0 _

concatenate_meant : (os : List Operand) (op : Op) (d : Devices) → AreMeant os op (concatenate d os).stores
concatenate_meant [] op d = tt
concatenate_meant (o ∷ os) op d = store_meant (o ∷ os) op 0 _

output_meant : (os others : List Operand) (op : Op) (d : Devices) → AreMeant others op (set_output d os).stores
output_meant [] others op d = tt
output_meant (o ∷ os) others op d = tt

fields_meant : (os : List Operand) (fs : List (ℕ × Value)) → AreMeant os ops.Syscall (fields (shape_of (operand_at os 1)) fs)
fields_meant os [] = tt
fields_meant os (f ∷ fs) = (
  record { of = stored_of (field_shape f.0 (shape_of (operand_at os 1))) f.1; way = inr (refl, refl, f.0, refl) },
  fields_meant os fs,
)

calls_meant : (os : List Operand) (d : Devices) (t : Clock) → AreMeant os ops.Syscall (calls d t (operand_at os 0) (operand_at os 1)).stores
calls_meant os d t =
    let o = operand_at os 1 in
    let found = calls_fields (call_of (word_or 0 (operand_at os 0))) (shape_of o) (value_of o) d t in
    subst (AreMeant os ops.Syscall) (sym found.1) (fields_meant os found.0)

-- ---- the table

pub meant : (op : Op) (c : Cmp) (d : Devices) (t : Clock) (os : List Operand) → AreMeant os op (means op c d t os).stores
meant ops.Cmp c d t os = comparison_meant os ops.Cmp c (shape_of (operand_at os 0)) d
meant ops.Arrbuild c d t os = build_meant os ops.Arrbuild d
meant ops.Unflatten c d t os =
    either os ops.Unflatten (nat_le (packed_size (shape_of (operand_at os 3))) (length (text_of (operand_at os 2)))) _ _ (two_stores os ops.Unflatten _ _) (two_stores os ops.Unflatten _ _)
meant ops.Strtonum c d t os =
    found_meant os ops.Strtonum (number_at (drop (word_or 0 (operand_at os 3)) (body (text_of (operand_at os 2))))) d (word_or 0 (operand_at os 3)) (operand_at os 4)
meant ops.Strcat c d t os = concatenate_meant os ops.Strcat d
meant ops.Syscall c d t os = calls_meant os d t
meant ops.Setout c d t os = output_meant os os ops.Setout d
meant ops.Setin c d t os = tt
meant ops.Jmp c d t os = tt
meant ops.Brcmp c d t os = tt
meant ops.Brtst c d t os = tt
meant ops.Add c d t os = store_meant os ops.Add 0 _
meant ops.Sub c d t os = store_meant os ops.Sub 0 _
meant ops.Neg c d t os = store_meant os ops.Neg 0 _
meant ops.Mul c d t os = store_meant os ops.Mul 0 _
meant ops.Div c d t os = store_meant os ops.Div 0 _
meant ops.Mod c d t os = store_meant os ops.Mod 0 _
meant ops.And c d t os = store_meant os ops.And 0 _
meant ops.Or c d t os = store_meant os ops.Or 0 _
meant ops.Xor c d t os = store_meant os ops.Xor 0 _
meant ops.Not c d t os = store_meant os ops.Not 0 _
meant ops.Tst c d t os = store_meant os ops.Tst 0 _
meant ops.Index c d t os = store_meant os ops.Index 0 _
meant ops.Replace c d t os = store_meant os ops.Replace 0 _
meant ops.Arrsize c d t os = store_meant os ops.Arrsize 0 _
meant ops.Arrsubset c d t os = store_meant os ops.Arrsubset 0 _
meant ops.Arrinit c d t os = store_meant os ops.Arrinit 0 _
meant ops.Mov c d t os = store_meant os ops.Mov 0 _
meant ops.Set c d t os = store_meant os ops.Set 0 _
meant ops.Flatten c d t os = store_meant os ops.Flatten 0 _
meant ops.Numtostr c d t os = store_meant os ops.Numtostr 0 _
meant ops.Strsubset c d t os = store_meant os ops.Strsubset 0 _
meant ops.Strtoarr c d t os = store_meant os ops.Strtoarr 0 _
meant ops.Arrtostr c d t os = store_meant os ops.Arrtostr 0 _
meant ops.Getin c d t os = store_meant os ops.Getin 0 _
meant ops.Getout c d t os = store_meant os ops.Getout 0 _
meant ops.Gettick c d t os = store_meant os ops.Gettick 0 _
meant ops.Stop c d t os = tt
meant ops.Finclump c d t os = tt
meant ops.Finclumpimmed c d t os = tt
meant ops.Acquire c d t os = tt
meant ops.Release c d t os = tt
meant ops.Subcall c d t os = tt
meant ops.Subret c d t os = tt
meant ops.Wait c d t os = tt

-- a subroutine's caller
pub caller_meant : (op : Op) (h : ℕ) (os : List Operand) → AreMeant os op (caller_stores op h os)
caller_meant ops.Subcall h os = store_meant os ops.Subcall 1 (Num (pos h))
caller_meant _ h os = tt
