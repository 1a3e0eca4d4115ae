-- The structs of a text: their members have types of structs before them.
use Rattle.std.proofs.Common.{◌≡◌, ℕ, suc, ◌+◌, ◌<◌, ◌≤◌, Bool, true, false, cond, nat_lt, List, [], ◌∷◌, ◌++◌, map, length, position, Option, Some, None, refl, subst, arith, rules, length-append}
use Rattle.std.specs.Prelude.{⊤, bytes_eq, find, option_map, unwrap_or}
use Rattle.std.specs.List.{position_or_len}
use Rattle.std.proofs.lemmas.Bool.Decides.{nat_tests}
use Rattle.nxt_types.specs.declared.kind.Kind.TheVariants.{Ubyte}
use Rattle.nxt_model.specs.Nbc.Forms.{Form, Include, OpenStruct, CloseStruct, Member, TypeName}
use Rattle.nxt_model.specs.Nbc.Header.{header_at, header_structs, member_behind, struct_behind}
use Rattle.nxt_model.specs.Nbc.Structs.{Types, add_header, no_types, types_from, types_of, with_header, with_member, with_struct}
use Rattle.nxt_model.specs.Nbc.Types.{Struct, StructMember, is_before, one_of, plain_type, plain_types, type_at}
use Rattle.nxt_model.specs.declared.nbc.NbcBase.{NbcBase}
use Rattle.nxt_model.specs.declared.nbc.NbcBase.TheVariants as bases
use Rattle.nxt_asm_laws.proofs.Laws.Lists.{Each, each_push, each_weaker}

-- a type of one of so many structs, or of none
abbrev pub IsBaseAmong : ℕ → NbcBase → Type 0
IsBaseAmong n (bases.Struct i) = i < n
IsBaseAmong n b = ⊤

abbrev pub IsAmong : ℕ → StructMember → Type 0
IsAmong n m = IsBaseAmong n m.type.base

-- behind so many structs each has members of types before it
abbrev pub AreOrdered : ℕ → List Struct → Type 0
AreOrdered n [] = ⊤
AreOrdered n (s ∷ ss) = Each (IsAmong n) s.members × AreOrdered (n + 1) ss

among_more : (n k : ℕ) (b : NbcBase) → n ≤ k → IsBaseAmong n b → IsBaseAmong k b
among_more n k (bases.Number x) le h = tt
among_more n k bases.Mutex le h = tt
among_more n k (bases.Struct i) le h = omega (arith, le, h)

members_more : (n k : ℕ) (ms : List StructMember) → n ≤ k → Each (IsAmong n) ms → Each (IsAmong k) ms
members_more n k ms le h = each_weaker (IsAmong n) (IsAmong k) ms (λ m a. among_more n k m.type.base le a) h

ordered_append : (n : ℕ) (a b : List Struct) → AreOrdered n a → AreOrdered (n + length a) b → AreOrdered n (a ++ b)
ordered_append n [] b h k = let e : n + 0 ≡ n = omega arith in subst (λ m. AreOrdered m b) e k
ordered_append n (s ∷ a) b h k =
    let e : n + suc (length a) ≡ (n + 1) + length a = omega arith in
    (h.0, ordered_append (n + 1) a b h.1 (subst (λ m. AreOrdered m b) e k))

-- ---- the header's

base_behind : (first n : ℕ) (m : StructMember) → IsAmong n m → IsAmong (first + n) (member_behind first m)
base_behind first n m h = by m.type.base h
  where
    by : (b : NbcBase) → IsBaseAmong n b → IsBaseAmong (first + n) (Rattle.nxt_model.specs.Nbc.Header.base_behind first b)
    by (bases.Number k) h = tt
    by bases.Mutex h = tt
    by (bases.Struct i) h = omega (arith, h)

members_behind : (first n : ℕ) (ms : List StructMember) → Each (IsAmong n) ms → Each (IsAmong (first + n)) (map (member_behind first) ms)
members_behind first n [] h = tt
members_behind first n (m ∷ ms) h = (base_behind first n m h.0, members_behind first n ms h.1)

structs_behind : (first line n : ℕ) (ss : List Struct) → AreOrdered n ss → AreOrdered (first + n) (map (struct_behind first line) ss)
structs_behind first line n [] h = tt
structs_behind first line n (s ∷ ss) h =
    let e : first + (n + 1) ≡ (first + n) + 1 = omega arith in
    (members_behind first n s.members h.0, subst (λ m. AreOrdered m (map (struct_behind first line) ss)) e (structs_behind first line (n + 1) ss h.1))

header_ordered : AreOrdered 0 header_structs
header_ordered = search rules

added_ordered : (o : Option ℕ) (t : Types) (line : ℕ) → AreOrdered 0 t.structs → AreOrdered 0 (add_header o t line).structs
added_ordered None t line h =
    let n = length t.structs in
    let e : n + 0 ≡ 0 + n = omega arith in
    ordered_append 0 t.structs (header_at n line) h (subst (λ m. AreOrdered m (header_at n line)) e (structs_behind n line 0 header_structs header_ordered))
added_ordered (Some first) t line h = h

added_length : (o : Option ℕ) (t : Types) (line : ℕ) → length t.structs ≤ length (add_header o t line).structs
added_length None t line = omega (arith, length-append t.structs (header_at (length t.structs) line))
added_length (Some first) t line = omega arith

-- ---- names of types

-- a position is one in the list
pub position_inside : {X : Type 0} (p : X → Bool) (xs : List X) (i : ℕ) → position p xs ≡ Some i → i < length xs
position_inside p xs i e = by (nat_lt (position_or_len p xs) (length xs)) refl e
  where
    by : (b : Bool) → nat_lt (position_or_len p xs) (length xs) ≡ b → cond b (Some (position_or_len p xs)) None ≡ Some i → i < length xs
    by true under e = let same : position_or_len p xs ≡ i = cc in grind (arith, nat_tests)
    by false over e = let f : ⊥ = cc in absurd f

-- a plain type is no struct
abbrev pub IsPlain : NbcBase → Type 0
IsPlain (bases.Struct i) = ⊥
IsPlain b = ⊤

abbrev pub OfPlain : Option NbcBase → Type 0
OfPlain None = ⊤
OfPlain (Some b) = IsPlain b

plain_found : (test : List ℕ × NbcBase → Bool) (xs : List (List ℕ × NbcBase)) → Each (λ p. IsPlain p.1) xs → OfPlain (option_map (λ p. p.1) (find test xs))
plain_found test [] h = tt
plain_found test (x ∷ xs) h = by (test x) (plain_found test xs h.1)
  where
    by : (b : Bool) → OfPlain (option_map (λ p. p.1) (find test xs)) → OfPlain (option_map (λ p. p.1) (cond b (Some x) (find test xs)))
    by true more = h.0
    by false more = more

plains : Each (λ p. IsPlain p.1) plain_types
plains = (tt, (tt, (tt, (tt, (tt, (tt, (tt, (tt, (tt, (tt, (tt, (tt, (tt, (tt, (tt, tt)))))))))))))))

pub plain_is : (name : List ℕ) → OfPlain (plain_type name)
plain_is name = plain_found (λ p. bytes_eq p.0 name) plain_types plains

base_among : (n : ℕ) (p : Option NbcBase) (o : Option ℕ) → OfPlain p → ((i : ℕ) → o ≡ Some i → i < n) → IsBaseAmong n (unwrap_or (one_of p o) (bases.Number Ubyte))
base_among n (Some (bases.Number k)) o plain under = tt
base_among n (Some bases.Mutex) o plain under = tt
base_among n (Some (bases.Struct i)) o plain under = absurd plain
base_among n None None plain under = tt
base_among n None (Some i) plain under = under i refl

-- a type is that of a struct before its line, or of none
pub type_among : (types : List Struct) (line : ℕ) (t : TypeName) → IsBaseAmong (length types) (type_at types line t).base
type_among types line t =
    base_among (length types) (plain_type t.name) (position (is_before line t.name) types) (plain_is t.name) (position_inside (is_before line t.name) types)

-- ---- the structs of lines

pub ordered_from : (t : Types) (name : List ℕ) (ms : List StructMember) (fs : List (ℕ × Form)) → AreOrdered 0 t.structs → Each (IsAmong (length t.structs)) ms
    → AreOrdered 0 (types_from t name ms fs).structs
ordered_from t name ms [] h own = h
ordered_from t name ms ((l, Include) ∷ fs) h own =
    ordered_from (with_header t l) name ms fs (added_ordered t.included t l h) (members_more (length t.structs) _ ms (added_length t.included t l) own)
ordered_from t name ms ((l, OpenStruct n) ∷ fs) h own = ordered_from t n [] fs h tt
ordered_from t name ms ((l, Member n of) ∷ fs) h own =
    ordered_from t name (with_member t ms l n of) fs h (each_push (IsAmong (length t.structs)) ms _ own (type_among t.structs l of))
ordered_from t name ms ((l, CloseStruct) ∷ fs) h own =
    ordered_from (with_struct t name ms l) [] [] fs (ordered_append 0 t.structs _ h (subst (λ n. Each (IsAmong n) ms) (zero_more (length t.structs)) own, tt)) tt
  where
    zero_more : (n : ℕ) → n ≡ 0 + n
    zero_more n = omega arith
ordered_from t name ms ((l, f) ∷ fs) h own = ordered_from t name ms fs h own

pub types_ordered : (fs : List (ℕ × Form)) → AreOrdered 0 (types_of fs).structs
types_ordered fs = ordered_from no_types [] [] fs tt tt
