-- How a call ends that stores members of its cluster.
use Rattle.std.proofs.Common.{◌≡◌, ℕ, ◌+◌, ◌*◌, ◌≤◌, ◌<◌, ◌^◌, max, true, List, [], ◌∷◌, Option, Some, None, IsSome, Ok, Err, Result, length, take, refl, sym, ap, ap₂, ◌∙◌, subst, arith, pos, ◌%◌}
use Rattle.std.specs.Prelude.{ℤ, IsErrAnd}
use Rattle.std.specs.List.{sum_by}
use Rattle.nxt_types.specs.Calls.{cluster_fields, is_cluster_of}
use Rattle.nxt_types.specs.Names.{Name}
use Rattle.nxt_types.specs.Pool.{round4, pool_size}
use Rattle.nxt_types.specs.Shapes.{Shape, Number, Cluster, is_number}
use Rattle.nxt_types.specs.declared.calls.Call.{Call}
use Rattle.nxt_types.specs.declared.calls.Call.TheVariants.{ReadMessage}
use Rattle.nxt_types.specs.declared.calls.Field.{Field}
use Rattle.nxt_types.specs.declared.calls.Field.TheVariants.{Number as a_number, Text as a_text}
use Rattle.nxt_model.specs.Devices.{at_start}
use Rattle.nxt_model.specs.Footprint.{list_bytes}
use Rattle.nxt_model.specs.SystemCalls.{field_shape}
use Rattle.nxt_model.specs.Values.{Value, Num, byte_list, stored, is_of, part, lists_in}
use Rattle.nxt_model.specs.Variables.{part_of, put}
use Rattle.nxt_space.specs.Outcomes.{Does}
use Rattle.nxt_space.specs.Variables.{Variables, SpaceViews, AreSound, name_of, shape_by, shape_of, with_by, with_value, with_values, footprint_of}
use Rattle.nxt_space.specs.declared.fault.OpFault.{OpFault}
use Rattle.nxt_space.specs.declared.fault.OpFault.TheVariants.{PoolPassed, NoMemory}
use Rattle.nxt_space.proofs.Laws.PartSizes.{lists_with_part, bytes_with_part, part_of_shape, with_part_of_shape}
use Rattle.nxt_space.proofs.Laws.Words.{stored_word}
use Rattle.nxt_operands.specs.Operands.{Done, place_of}
use Rattle.nxt_operands.proofs.Laws.OneStored.{one_placed}
use Rattle.nxt_operands.proofs.Laws.Refusals.{passed_on}
use Rattle.nxt_texts.specs.Texts.{StoresBytes}
use Rattle.nxt_sys.specs.Answers.{with_member, with_members}
use Rattle.nxt_sys.specs.Fields.{HasCluster, HasField, IsMember, width}
use Rattle.nxt_sys.proofs.Laws.Named.{entry, first_field, member_put, member_shape, member_some}
use Rattle.nxt_sys.proofs.Parts.{members_apart}
use Rattle.nxt_sys.proofs.StoredTexts.{text_stored}

-- ---- numbers alone

-- sound variables with others' values in place of their own
pub done_when : (old new : SpaceViews) (vars : Value) → new.vars ≡ record old.vars { values = vars } → AreSound new.vars → Does Done vars old (Ok tt) new
done_when old new vars e sound =
    let s = old.vars in
    let now : AreSound (record s { values = vars }) = subst AreSound e sound in
    let rows : max s.rows (lists_in vars + 1) ≡ s.rows = omega (arith, now.rows) in
    let same : with_values vars s ≡ record s { values = vars } = ap {A = ℕ} (λ n. record s { values = vars; rows = n }) rows in
    (subst (λ t. footprint_of t ≤ pool_size) (sym same) now.pool, e ∙ sym same, tt)

-- the result alone
pub answered : (old new : SpaceViews) (cluster : ℕ) (x z : ℤ) → x ≡ z → new.vars ≡ with_member old.vars cluster 0 (Num x) → AreSound new.vars → Does Done (with_members old.vars cluster ((0, Num z) ∷ [])) old (Ok tt) new
answered old new cluster x z same e sound =
    done_when old new (with_members old.vars cluster ((0, Num z) ∷ [])) (e ∙ ap (λ y. with_member old.vars cluster 0 (Num y)) same) sound

-- a cluster stands where it stood
pub same_cluster : (s t : Variables) (vars : Value) (call : Call) (cluster : ℕ) → t ≡ with_values vars s → AreSound t → HasCluster s call cluster → HasCluster t call cluster
same_cluster s t vars call cluster e sound h =
    record {
      sound = sound;
      named = subst (λ (w : Variables). IsSome (name_of w cluster)) (sym e) h.named;
      shape = subst (λ (w : Variables). is_cluster_of call (shape_of w cluster) ≡ true) (sym e) h.shape;
    }

-- ---- a number beside a list

-- the variables take no more and no less
record SameSizes (s : Variables) (v w : Value) : Type 0 where
  lists : lists_in w ≡ lists_in v
  bytes : list_bytes (Cluster s.shapes) w ≡ list_bytes (Cluster s.shapes) v

same_footprint : (s : Variables) (v w : Value) → SameSizes s v w → footprint_of (with_values w s) ≡ footprint_of (with_values v s)
same_footprint s v w e =
    ap₂ (λ l b. round4 s.static_size + round4 (10 * max s.rows (l + 1)) + b) e.lists e.bytes

-- a number stands in no list, and none is in it
record TakesNothing (s : Shape) (old : Value) (z : ℤ) : Type 0 where
  was : lists_in old ≡ 0
  held : list_bytes s old ≡ 0
  is : lists_in (stored s (Num z)) ≡ 0
  holds : list_bytes s (stored s (Num z)) ≡ 0

takes_nothing : (s : Shape) (old : Value) (z : ℤ) → is_number s ≡ true → is_of s old ≡ true → TakesNothing s old z
takes_nothing (Number k) (Num x) z is of = record { was = refl; held = refl; is = refl; holds = refl }
takes_nothing s old z is of = let f : ⊥ = cc in absurd f

same_by : (s : Variables) (i : ℕ) (z : ℤ) (vars : Value) (o : Option Name) → name_of s i ≡ o → is_of (Cluster s.shapes) vars ≡ true → is_number (shape_by o) ≡ true → SameSizes s vars (with_by o (stored (shape_by o) (Num z)) vars)
same_by s i z vars None named of is = record { lists = refl; bytes = refl }
same_by s i z vars (Some n) named of is =
    let nothing = takes_nothing n.shape (part n.path vars) z is (part_of_shape s.shapes i n vars named of) in
    record {
      lists = omega (arith, lists_with_part s.shapes i n (stored n.shape (Num z)) vars named of, nothing.was, nothing.is);
      bytes = omega (arith, bytes_with_part s.shapes i n (stored n.shape (Num z)) vars named of, nothing.held, nothing.holds);
    }

-- member k with another value, whatever values the variables have
abbrev putting : Variables → ℕ → ℕ → Value → Value → Value
putting s cluster k v vars = put (place_of s cluster) (k ∷ []) (stored (field_shape k (shape_of s cluster)) v) vars

putting_is : (s : Variables) (cluster k i : ℕ) (f : Field) (v vars : Value) → IsMember s cluster k f i → with_by (name_of s i) (stored (shape_of s i) v) vars ≡ putting s cluster k v vars
putting_is s cluster k i f v vars m =
    let there : IsMember (record s { values = vars }) cluster k f i = record { name = m.name; shape = m.shape } in
    member_put (record s { values = vars }) cluster k i f (stored (shape_of s i) v) there
    ∙ ap (λ t. put (place_of s cluster) (k ∷ []) (stored t v) vars) (member_shape s cluster k i f m)

number_sizes : (s : Variables) (cluster k i : ℕ) (z : ℤ) (vars : Value) → IsMember s cluster k a_number i → is_of (Cluster s.shapes) vars ≡ true → SameSizes s vars (putting s cluster k (Num z) vars)
number_sizes s cluster k i z vars m of =
    subst (SameSizes s vars) (putting_is s cluster k i a_number (Num z) vars m) (same_by s i z vars (name_of s i) refl of m.shape)

-- ---- a message

-- the values with the bytes for the message
abbrev told : Variables → ℕ → List ℕ → Value
told s cluster bs = putting s cluster 3 (byte_list bs) s.values

in_either_order : (o : Option Name) (x y vars : Value) → put (part_of o) (3 ∷ []) y (put (part_of o) (0 ∷ []) x vars) ≡ put (part_of o) (0 ∷ []) x (put (part_of o) (3 ∷ []) y vars)
in_either_order None x y vars = refl
in_either_order (Some n) x y vars = members_apart n.path 0 3 x y vars (λ e. absurd (omega (arith, e)))

-- what the call stores is the result, put beside the message
both_members : (s : Variables) (cluster : ℕ) (z : ℤ) (bs : List ℕ) → with_members s cluster ((0, Num z) ∷ (3, byte_list bs) ∷ []) ≡ putting s cluster 0 (Num z) (told s cluster bs)
both_members s cluster z bs =
    in_either_order (name_of s cluster) (stored (field_shape 0 (shape_of s cluster)) (Num z)) (stored (field_shape 3 (shape_of s cluster)) (byte_list bs)) s.values

bytes_told : (s : Variables) (cluster i : ℕ) (bs : List ℕ) → IsMember s cluster 3 a_text i → with_value s i (stored (shape_of s i) (byte_list bs)) ≡ told s cluster bs
bytes_told s cluster i bs m = putting_is s cluster 3 i a_text (byte_list bs) s.values m

stores_told : (old new : SpaceViews) (cluster i : ℕ) (bs : List ℕ) (r : Result Unit OpFault) → IsMember old.vars cluster 3 a_text i → StoresBytes old i bs r new → Does {T = Unit {0}} Done (told old.vars cluster bs) old r new
stores_told old new cluster i bs r m h =
    subst
    (λ vars. Does {T = Unit {0}} Done vars old r new)
    (one_placed old.vars i (byte_list bs) at_start ∙ bytes_told old.vars cluster i bs m)
    (h at_start)

with_by_of : (s : Variables) (i : ℕ) (v : Value) (o : Option Name) → name_of s i ≡ o → is_of (Cluster s.shapes) s.values ≡ true → is_of (shape_by o) v ≡ true → is_of (Cluster s.shapes) (with_by o v s.values) ≡ true
with_by_of s i v None named is of = is
with_by_of s i v (Some n) named is of = with_part_of_shape s.shapes i n v s.values named is of

told_of : (s : Variables) (cluster i : ℕ) (bs : List ℕ) → AreSound s → IsSome (name_of s i) → IsMember s cluster 3 a_text i → length bs < 2 ^ 32 → is_of (Cluster s.shapes) (told s cluster bs) ≡ true
told_of s cluster i bs sound some m few =
    let t = shape_of s i in
    let v = stored t (byte_list bs) in
    let of : is_of t v ≡ true = text_stored t (byte_list bs) m.shape in
    subst
    (λ vars. is_of (Cluster s.shapes) vars ≡ true)
    (bytes_told s cluster i bs m)
    (with_by_of s i v (name_of s i) refl sound.shapes of)

-- the entries of the result and of the message
record AreThere (s : Variables) (cluster i : ℕ) (bs : List ℕ) : Type 0 where
  result : ℕ
  number : IsMember s cluster 0 a_number result
  message : IsMember s cluster 3 a_text i
  of : is_of (Cluster s.shapes) (told s cluster bs) ≡ true

there : (s : Variables) (cluster i : ℕ) (bs : List ℕ) → HasCluster s ReadMessage cluster → IsMember s cluster 3 a_text i → length bs < 2 ^ 32 → AreThere s cluster i bs
there s cluster i bs h m few =
    let first : HasField s ReadMessage cluster 0 a_number = record { group = h; field = refl } in
    record {
      result = cluster + (1 + sum_by width (take 0 (cluster_fields ReadMessage)));
      number = entry s ReadMessage cluster 0 (cluster + (1 + sum_by width (take 0 (cluster_fields ReadMessage)))) a_number first refl;
      message = m;
      of = told_of s cluster i bs h.sound (member_some s cluster 3 i a_text h.named m) m few;
    }

pub message_done : (old between new : SpaceViews) (cluster i : ℕ) (z : ℤ) (bs : List ℕ) → HasCluster old.vars ReadMessage cluster → IsMember old.vars cluster 3 a_text i → length bs < 2 ^ 32 → StoresBytes old i bs (Ok tt) between → new.vars ≡ with_member between.vars cluster 0 (Num z) → AreSound new.vars → Does Done (with_members old.vars cluster ((0, Num z) ∷ (3, byte_list bs) ∷ [])) old (Ok tt) new
message_done old between new cluster i z bs h m few first second sound =
    let s = old.vars in
    let a = there s cluster i bs h m few in
    let vars = told s cluster bs in
    let both = putting s cluster 0 (Num z) vars in
    let held = stores_told old between cluster i bs (Ok tt) m first in
    let sizes = number_sizes s cluster 0 a.result z vars a.number a.of in
    let same : new.vars ≡ with_values both s =
    second
    ∙ ap (λ (w : Variables). with_member w cluster 0 (Num z)) held.1
    ∙ ap {A = ℕ} (λ l. record s { values = both; rows = max s.rows (l + 1) }) (sym sizes.lists) in
    let fits : footprint_of (with_values both s) ≤ pool_size = subst (λ w. footprint_of w ≤ pool_size) same sound.pool in
    subst (λ w. Does {T = Unit {0}} Done w old (Ok tt) new) (sym (both_members s cluster z bs)) (fits, same, tt)

fault_passed : (old new : SpaceViews) (v w : Value) (fault : OpFault) → SameSizes old.vars v w → Does {T = Unit {0}} Done v old (Err fault) new → Does {T = Unit {0}} Done w old (Err fault) new
fault_passed old new v w (PoolPassed bytes) e h =
    let same = same_footprint old.vars v w e in
    (subst (λ n. pool_size < n) (sym same) h.0, h.1 ∙ sym same, h.2)
fault_passed old new v w NoMemory e h = h

pub message_refused : (old new : SpaceViews) (cluster i : ℕ) (z : ℤ) (bs : List ℕ) (fault : OpFault) (r : Result Unit OpFault) → HasCluster old.vars ReadMessage cluster → IsMember old.vars cluster 3 a_text i → length bs < 2 ^ 32 → IsErrAnd r (λ f. f ≡ fault) → StoresBytes old i bs (Err fault) new → Does Done (with_members old.vars cluster ((0, Num z) ∷ (3, byte_list bs) ∷ [])) old r new
message_refused old new cluster i z bs fault r h m few e stores =
    let s = old.vars in
    let a = there s cluster i bs h m few in
    let vars = told s cluster bs in
    let sizes = number_sizes s cluster 0 a.result z vars a.number a.of in
    let refused = fault_passed old new vars (putting s cluster 0 (Num z) vars) fault sizes (stores_told old new cluster i bs (Err fault) m stores) in
    subst
    (λ w. Does {T = Unit {0}} Done w old r new)
    (sym (both_members s cluster z bs))
    (passed_on Done Done (putting s cluster 0 (Num z) vars) old new fault r e refused)

-- ---- a word for a number

-- the first member takes a number by its word
pub word_told : (s : Variables) (call : Call) (cluster n : ℕ) → HasCluster s call cluster → stored (field_shape 0 (shape_of s cluster)) (Num (pos (n % 4294967296))) ≡ stored (field_shape 0 (shape_of s cluster)) (Num (pos n))
word_told s call cluster n has =
    let i = cluster + (1 + sum_by width (take 0 (cluster_fields call))) in
    let m = entry s call cluster 0 i a_number (record { group = has; field = first_field call }) refl in
    stored_word (field_shape 0 (shape_of s cluster)) (pos n) (ap is_number (sym (member_shape s cluster 0 i a_number m)) ∙ m.shape)
