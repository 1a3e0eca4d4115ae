-- What holds at the entry of a member of a call's cluster.
use Rattle.std.proofs.Common.{◌≡◌, ℕ, zero, suc, ◌+◌, ◌≤◌, ◌<◌, ◌^◌, true, List, [], ◌∷◌, ◌++◌, Option, Some, None, IsSome, option_map, length, take, refl, sym, ap, ap₂, ◌∙◌, subst, arith}
use Rattle.std.specs.Prelude.{ℤ, ◌&&◌, slice_get, slice_index_or}
use Rattle.std.specs.List.{sum_by}
use Rattle.std.proofs.lemmas.Bool.{and_parts, and_from}
use Rattle.std.proofs.lemmas.List.{length-take}
use Rattle.nxt_types.specs.Calls.{cluster_fields, is_cluster_of, is_field, are_fields}
use Rattle.nxt_types.specs.Names.{Name, name_among}
use Rattle.nxt_types.specs.Shapes.{Shape, Void, Cluster, Members, no_members, member, shapes_of, is_number}
use Rattle.nxt_types.specs.declared.calls.Call.{Call}
use Rattle.nxt_types.specs.declared.calls.Call.TheVariants.{PlayTone, GetSound, SetSound, DrawText, DrawPoint, DrawLine, DrawCircle, DrawRect, SetScreen, ReadButton, RandomNumber, StartTick, WriteMessage, ReadMessage, KeepAlive}
use Rattle.nxt_types.specs.declared.calls.Field.{Field}
use Rattle.nxt_types.specs.declared.calls.Field.TheVariants.{Number as a_number, Place}
use Rattle.nxt_model.specs.SystemCalls.{field, field_shape}
use Rattle.nxt_model.specs.Values.{Value, Num, stored}
use Rattle.nxt_model.specs.Variables.{part_of, put}
use Rattle.nxt_space.specs.Variables.{Variables, AreSound, name_of, shape_of, shape_by, value_of, value_by, with_by, with_value}
use Rattle.nxt_operands.specs.Operands.{place_of}
use Rattle.nxt_sys.specs.Answers.{with_member}
use Rattle.nxt_sys.specs.Fields.{HasCluster, HasField, IsMember, member_name, width}
use Rattle.nxt_operands.proofs.Laws.Members.{name_under, entry_within}
use Rattle.nxt_operands.proofs.Laws.Paths.{part_append}
use Rattle.nxt_sys.proofs.Places.{member_at, field_at}

-- ---- by its name

value_named : (o : Option Name) (k : ℕ) (vars : Value) → value_by (option_map (member_name k) o) vars ≡ field k (value_by o vars)
value_named None k vars = refl
value_named (Some n) k vars = part_append n.path (k ∷ []) vars

shape_named : (o : Option Name) (k : ℕ) → shape_by (option_map (member_name k) o) ≡ field_shape k (shape_by o)
shape_named None k = refl
shape_named (Some n) k = refl

put_named : (o : Option Name) (k : ℕ) (v vars : Value) → with_by (option_map (member_name k) o) v vars ≡ put (part_of o) (k ∷ []) v vars
put_named None k v vars = refl
put_named (Some n) k v vars = refl

pub member_value : (s : Variables) (cluster k i : ℕ) (f : Field) → IsMember s cluster k f i → value_of s i ≡ field k (value_of s cluster)
member_value s cluster k i f e = ap (λ o. value_by o s.values) e.name ∙ value_named (name_of s cluster) k s.values

pub member_shape : (s : Variables) (cluster k i : ℕ) (f : Field) → IsMember s cluster k f i → shape_of s i ≡ field_shape k (shape_of s cluster)
member_shape s cluster k i f e = ap shape_by e.name ∙ shape_named (name_of s cluster) k

pub member_put : (s : Variables) (cluster k i : ℕ) (f : Field) (v : Value) → IsMember s cluster k f i → with_value s i v ≡ put (place_of s cluster) (k ∷ []) v s.values
member_put s cluster k i f v e = ap (λ o. with_by o v s.values) e.name ∙ put_named (name_of s cluster) k v s.values

some_named : (o : Option Name) (k : ℕ) → IsSome o → IsSome (option_map (member_name k) o)
some_named None k some = let f : ⊥ = cc in absurd f
some_named (Some n) k some = refl

pub member_some : (s : Variables) (cluster k i : ℕ) (f : Field) → IsSome (name_of s cluster) → IsMember s cluster k f i → IsSome (name_of s i)
member_some s cluster k i f some e = subst IsSome (sym e.name) (some_named (name_of s cluster) k some)

-- the variables with a number there
pub member_set : (s new : Variables) (cluster k i : ℕ) (f : Field) (x y : ℤ) → IsMember s cluster k f i → x ≡ y → new ≡ record s { values = with_value s i (stored (shape_of s i) (Num x)) } → new ≡ with_member s cluster k (Num y)
member_set s new cluster k i f x y m same e =
    let v = stored (shape_of s i) (Num x) in
    let there : v ≡ stored (field_shape k (shape_of s cluster)) (Num y) = ap₂ (λ t z. stored t (Num z)) (member_shape s cluster k i f m) same in
    e
    ∙ ap (λ vars. record s { values = vars }) (member_put s cluster k i f v m)
    ∙ ap (λ w. record s { values = put (place_of s cluster) (k ∷ []) w s.values }) there

-- ---- by its entry

-- the name and the shape of a cluster of these fields
record IsNamed (s : Variables) (cluster : ℕ) (fields : List Field) : Type 0 where
  name : Name
  is : name_of s cluster ≡ Some name
  members : Members
  shape : name.shape ≡ Cluster members
  fit : are_fields fields members ≡ true

named_cluster : (call : Call) (t : Shape) → is_cluster_of call t ≡ true → (ss : Members) × (t ≡ Cluster ss) × (are_fields (cluster_fields call) ss ≡ true)
named_cluster call (Cluster ss) e = (ss, refl, e)
named_cluster call t e = let f : ⊥ = cc in absurd f

named_by : (s : Variables) (call : Call) (cluster : ℕ) (o : Option Name) → name_of s cluster ≡ o → IsSome o → is_cluster_of call (shape_by o) ≡ true → IsNamed s cluster (cluster_fields call)
named_by s call cluster None is some e = let f : ⊥ = cc in absurd f
named_by s call cluster (Some n) is some e =
    let found = named_cluster call n.shape e in
    record { name = n; is = is; members = found.0; shape = found.1; fit = found.2 }

named : (s : Variables) (call : Call) (cluster : ℕ) → HasCluster s call cluster → IsNamed s cluster (cluster_fields call)
named s call cluster h = named_by s call cluster (name_of s cluster) refl h.named h.shape

within : (fs : List Field) (k : ℕ) (f : Field) → slice_get fs k ≡ Some f → k < length fs
within [] k f e = let g : ⊥ = cc in absurd g
within (g ∷ fs) zero f e = omega arith
within (g ∷ fs) (suc k) f e = omega (arith, within fs k f e)

-- the entry of member k of a cluster of these fields
member_entry : (s : Variables) (cluster k i : ℕ) (fs : List Field) (f : Field) → IsNamed s cluster fs → slice_get fs k ≡ Some f → i ≡ cluster + (1 + sum_by width (take k fs)) → IsMember s cluster k f i
member_entry s cluster k i fs f n field at =
    let o = sum_by width (take k fs) in
    let m : Name = record { path = k ∷ []; shape = slice_index_or (shapes_of n.members) k Void } in
    let first : 0 + k ≡ k = omega arith in
    let at_k : name_among n.members 0 o ≡ Some m =
    member_at fs n.members 0 k n.fit (within fs k f field) ∙ ap (λ j. Some (record { path = j ∷ []; shape = m.shape })) first in
    let there : name_of s i ≡ Some (member_name k n.name) =
    ap (name_of s) at
    ∙ name_under s.shapes n.members cluster o n.name m n.is n.shape at_k
    ∙ ap (λ t. Some (record { path = n.name.path ++ k ∷ []; shape = field_shape k t })) (sym n.shape) in
    record {
      name = there ∙ sym (ap (option_map (member_name k)) n.is);
      shape = ap (λ o. is_field f (shape_by o)) there
          ∙ ap (λ t. is_field f (field_shape k t)) n.shape
          ∙ field_at fs n.members k f n.fit field;
    }

-- it is one of the table's
member_small : (s : Variables) (cluster k i : ℕ) (fs : List Field) (f : Field) → AreSound s → IsNamed s cluster fs → IsMember s cluster k f i → i < 2 ^ 16
member_small s cluster k i fs f sound n m =
    let there : name_of s i ≡ Some (member_name k n.name) = m.name ∙ ap (option_map (member_name k)) n.is in
    omega (arith, entry_within s.shapes i (member_name k n.name) there, sound.entries)

-- the entry of member k of a call's cluster
pub entry : (s : Variables) (call : Call) (cluster k i : ℕ) (f : Field) → HasField s call cluster k f → i ≡ cluster + (1 + sum_by width (take k (cluster_fields call))) → IsMember s cluster k f i
entry s call cluster k i f h at = member_entry s cluster k i (cluster_fields call) f (named s call cluster h.group) h.field at

pub entry_small : (s : Variables) (call : Call) (cluster k : ℕ) (f : Field) → HasField s call cluster k f → cluster + (1 + sum_by width (take k (cluster_fields call))) < 2 ^ 16
entry_small s call cluster k f h =
    let i = cluster + (1 + sum_by width (take k (cluster_fields call))) in
    member_small s cluster k i (cluster_fields call) f h.group.sound (named s call cluster h.group) (entry s call cluster k i f h refl)

-- ---- places

abbrev pair : List Field
pair = a_number ∷ a_number ∷ []

pair_members : (t : Shape) → is_field Place t ≡ true → (ss : Members) × (t ≡ Cluster ss) × (are_fields pair ss ≡ true)
pair_members (Cluster (member x (member y no_members))) e =
    let both = and_parts (is_number x) (is_number y) e in
    (member x (member y no_members), refl, and_from (is_number x) (is_number y && true) both.0 (and_from (is_number y) true both.1 refl))
pair_members t e = let f : ⊥ = cc in absurd f

place_named : (s : Variables) (i : ℕ) (n : Name) → name_of s i ≡ Some n → is_field Place n.shape ≡ true → IsNamed s i pair
place_named s i n is e =
    let found = pair_members n.shape e in
    record { name = n; is = is; members = found.0; shape = found.1; fit = found.2 }

-- the entries of the two numbers of a place
pub record IsPlace (s : Variables) (i : ℕ) : Type 0 where
  pub x : IsMember s i 0 a_number (i + 1)
  pub y : IsMember s i 1 a_number (i + 2)
  pub small : i + 2 < 2 ^ 16

pub is_place : (s : Variables) (call : Call) (cluster k i : ℕ) → HasField s call cluster k Place → IsMember s cluster k Place i → IsPlace s i
is_place s call cluster k i h m =
    let n = named s call cluster h.group in
    let there : name_of s i ≡ Some (member_name k n.name) = m.name ∙ ap (option_map (member_name k)) n.is in
    let p = place_named s i (member_name k n.name) there (ap (λ o. is_field Place (shape_by o)) (sym there) ∙ m.shape) in
    let x = member_entry s i 0 (i + 1) pair a_number p refl (omega arith) in
    let y = member_entry s i 1 (i + 2) pair a_number p refl (omega arith) in
    record { x = x; y = y; small = member_small s i 1 (i + 2) pair a_number h.group.sound p y }

-- ---- fields of calls

few_fields : (call : Call) → length (cluster_fields call) ≤ 5
few_fields PlayTone = omega arith
few_fields GetSound = omega arith
few_fields SetSound = omega arith
few_fields DrawText = omega arith
few_fields DrawPoint = omega arith
few_fields DrawLine = omega arith
few_fields DrawCircle = omega arith
few_fields DrawRect = omega arith
few_fields SetScreen = omega arith
few_fields ReadButton = omega arith
few_fields RandomNumber = omega arith
few_fields StartTick = omega arith
few_fields WriteMessage = omega arith
few_fields ReadMessage = omega arith
few_fields KeepAlive = omega arith

-- the fields in front of member k
pub few_before : (call : Call) (k : ℕ) → length (take k (cluster_fields call)) ≤ 5
few_before call k = omega (arith, few_fields call, length-take k (cluster_fields call))

-- the first member tells how the call went
pub first_field : (call : Call) → slice_get (cluster_fields call) 0 ≡ Some a_number
first_field PlayTone = refl
first_field GetSound = refl
first_field SetSound = refl
first_field DrawText = refl
first_field DrawPoint = refl
first_field DrawLine = refl
first_field DrawCircle = refl
first_field DrawRect = refl
first_field SetScreen = refl
first_field ReadButton = refl
first_field RandomNumber = refl
first_field StartTick = refl
first_field WriteMessage = refl
first_field ReadMessage = refl
first_field KeepAlive = refl
