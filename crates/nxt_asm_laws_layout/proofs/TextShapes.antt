-- The shapes of the variables of a text that keeps the rules, and the starts that they are given.
use Rattle.std.proofs.Common.{◌≡◌, ℕ, zero, suc, ◌+◌, ◌<◌, ◌≤◌, Bool, true, false, ◌&&◌, ◌||◌, not, nat_lt, List, [], ◌∷◌, ◌++◌, map, length, position, Option, Some, None, refl, sym, ap, subst, ◌∙◌, arith, rules as all_rules, eq-eqb, lt-ltb, ltb-false, true≢false, length-append}
use Rattle.std.specs.Prelude.{⊤, slice_index_or, unwrap_or}
use Rattle.std.specs.List.{list_any}
use Rattle.std.proofs.lemmas.Bool.{and_parts, or_parts, not-false}
use Rattle.std.proofs.lemmas.List.{length-map}
use Rattle.std.proofs.lemmas.Option.{none-some, same_Some}
use Rattle.nxt_types.specs.Shapes.{Shape, Void, Number, Array, Cluster, Mutex, members, count}
use Rattle.nxt_types.specs.declared.kind.Kind.TheVariants.{Ubyte}
use Rattle.nxt_model.specs.Nbc.Forms as forms
use Rattle.nxt_model.specs.Nbc.Forms.{Form, Formed, TypeName}
use Rattle.nxt_model.specs.Nbc.Header.{base_behind, header_at, header_structs, member_behind, struct_behind}
use Rattle.nxt_model.specs.Nbc.NbcRules as rules
use Rattle.nxt_model.specs.Nbc.NbcRules.{TextFault, Syntax, WrongKind, OutOfRange, tells, is_at, has_large_type, has_wrong_text, is_mutex_base, is_mutex_type, is_out_of_range, is_too_large, is_wrong_kind, start_fits}
use Rattle.nxt_model.specs.Nbc.Structs.{Types, add_header, no_types, types_from, with_header, with_member, with_struct}
use Rattle.nxt_model.specs.Nbc.Text.{Source, Variable, source_of, variable_of}
use Rattle.nxt_model.specs.Nbc.Types.{Struct, StructMember, depth_of, is_before, one_of, plain_struct, plain_type, shape_at, shape_in, type_at, type_shapes}
use Rattle.nxt_model.specs.declared.nbc.NbcBase.{NbcBase}
use Rattle.nxt_model.specs.declared.nbc.NbcBase.TheVariants as bases
use Rattle.nxt_model.specs.declared.nbc.NbcType.{NbcType}
use Rattle.nxt_model.specs.TextProgram.{arrays_of, base_shape, shape_by, shapes_from, struct_shape}
use Rattle.nxt_facts.proofs.Each.{Each}
use Rattle.nxt_asm_laws.proofs.Laws.Kept.{kept_lines}
use Rattle.nxt_asm_laws.proofs.Laws.Lists.{each_given, each_push, each_weaker}
use Rattle.nxt_asm_laws.proofs.Laws.Types.{OfPlain, plain_is, position_inside}
use Rattle.nxt_asm_laws_layout.proofs.Laws.Parts.{IsPart, AreParts, IsVariable}
use Rattle.nxt_asm_laws_layout.proofs.Closed.{closes}

-- ---- structs

-- a type of a part: of a number, or of one of so many structs
abbrev IsPartBase : ℕ → NbcBase → Type 0
IsPartBase n (bases.Number k) = ⊤
IsPartBase n bases.Mutex = ⊥
IsPartBase n (bases.Struct i) = i < n

abbrev IsPartMember : ℕ → StructMember → Type 0
IsPartMember n m = IsPartBase n m.type.base

-- a struct with members that are parts, behind so many structs
abbrev IsMade : ℕ → Struct → Type 0
IsMade n s = (0 < length s.members) × Each (IsPartMember n) s.members

abbrev AreMade : ℕ → List Struct → Type 0
AreMade n [] = ⊤
AreMade n (s ∷ ss) = IsMade n s × AreMade (n + 1) ss

made_append : (n : ℕ) (a b : List Struct) → AreMade n a → AreMade (n + length a) b → AreMade n (a ++ b)
made_append n [] b h k = let e : n + 0 ≡ n = omega arith in subst (λ m. AreMade m b) e k
made_append n (s ∷ a) b h k =
    let e : n + suc (length a) ≡ (n + 1) + length a = omega arith in
    (h.0, made_append (n + 1) a b h.1 (subst (λ m. AreMade m b) e k))

-- ---- their shapes

arrays_part : (n : ℕ) (s : Shape) → IsPart s → IsPart (arrays_of n s)
arrays_part zero s h = h
arrays_part (suc n) s h = (refl, arrays_part n s h)

part_at : (ss : List Shape) (i : ℕ) → Each IsPart ss → i < length ss → IsPart (slice_index_or ss i Void)
part_at [] i h under = absurd (omega (arith, under))
part_at (s ∷ ss) zero h under = h.0
part_at (s ∷ ss) (suc i) h under = part_at ss i h.1 (omega (arith, under))

base_part : (ss : List Shape) (b : NbcBase) → Each IsPart ss → IsPartBase (length ss) b → IsPart (base_shape ss b)
base_part ss (bases.Number k) h of = tt
base_part ss bases.Mutex h of = absurd of
base_part ss (bases.Struct i) h of = part_at ss i h of

type_part : (ss : List Shape) (t : NbcType) → Each IsPart ss → IsPartBase (length ss) t.base → IsPart (shape_by ss t)
type_part ss t h of = arrays_part t.arrays (base_shape ss t.base) (base_part ss t.base h of)

count_members : (ss : List Shape) (ms : List StructMember) → count (members (map (shape_by ss) (map (λ m. m.type) ms))) ≡ length ms
count_members ss [] = refl
count_members ss (m ∷ ms) = omega (arith, count_members ss ms)

members_part : (ss : List Shape) (ms : List StructMember) → Each IsPart ss → Each (IsPartMember (length ss)) ms → AreParts (members (map (shape_by ss) (map (λ m. m.type) ms)))
members_part ss [] h of = tt
members_part ss (m ∷ ms) h of = (type_part ss m.type h of.0, members_part ss ms h of.1)

struct_part : (ss : List Shape) (s : Struct) → Each IsPart ss → IsMade (length ss) s → IsPart (struct_shape ss (plain_struct s))
struct_part ss s h made =
    let n = count_members ss s.members in
    let some = made.0 in
    (omega (arith, n, some), members_part ss s.members h made.1)

shapes_part : (ss : List Shape) (types : List Struct) → Each IsPart ss → AreMade (length ss) types → Each IsPart (shapes_from ss (map plain_struct types))
shapes_part ss [] h made = h
shapes_part ss (s ∷ more) h made =
    let here = struct_shape ss (plain_struct s) in
    let one_more : length ss + 1 ≡ length (ss ++ here ∷ []) = sym (length-append ss (here ∷ [])) in
    shapes_part (ss ++ here ∷ []) more (each_push IsPart ss here h (struct_part ss s h made.0)) (subst (λ n. AreMade n more) one_more made.1)

shapes_count : (ss : List Shape) (types : List Struct) → length (shapes_from ss (map plain_struct types)) ≡ length ss + length types
shapes_count ss [] = omega arith
shapes_count ss (s ∷ more) =
    let here = struct_shape ss (plain_struct s) in
    omega (arith, shapes_count (ss ++ here ∷ []) more, length-append ss (here ∷ []))

-- ---- types

-- a type that is no mutex is that of a part
base_made : (n : ℕ) (p : Option NbcBase) (o : Option ℕ) → OfPlain p → is_mutex_base p ≡ false → ((i : ℕ) → o ≡ Some i → i < n) → IsPartBase n (unwrap_or (one_of p o) (bases.Number Ubyte))
base_made n (Some (bases.Number k)) o plain other under = tt
base_made n (Some bases.Mutex) o plain other under = absurd (true≢false other)
base_made n (Some (bases.Struct i)) o plain other under = absurd plain
base_made n None None plain other under = tt
base_made n None (Some i) plain other under = under i refl

type_made : (types : List Struct) (line : ℕ) (t : TypeName) → is_mutex_type t ≡ false → IsPartBase (length types) (type_at types line t).base
type_made types line t other =
    base_made (length types) (plain_type t.name) (position (is_before line t.name) types) (plain_is t.name) other (position_inside (is_before line t.name) types)

shape_part : (types : List Struct) (line : ℕ) (t : TypeName) → AreMade 0 types → is_mutex_type t ≡ false → IsPart (shape_at types line t)
shape_part types line t made other =
    type_part (type_shapes types) (type_at types line t) (shapes_part [] types tt made)
    (subst (λ n. IsPartBase n (type_at types line t).base) (sym (shapes_count [] types ∙ zero_more (length types))) (type_made types line t other))
  where
    zero_more : (n : ℕ) → 0 + n ≡ n
    zero_more n = omega arith

-- ---- the header's

member_moved : (first n : ℕ) (m : StructMember) → IsPartMember n m → IsPartMember (first + n) (member_behind first m)
member_moved first n m h = by m.type.base h
  where
    by : (b : NbcBase) → IsPartBase n b → IsPartBase (first + n) (base_behind first b)
    by (bases.Number k) h = tt
    by bases.Mutex h = absurd h
    by (bases.Struct i) h = omega (arith, h)

members_moved : (first n : ℕ) (ms : List StructMember) → Each (IsPartMember n) ms → Each (IsPartMember (first + n)) (map (member_behind first) ms)
members_moved first n [] h = tt
members_moved first n (m ∷ ms) h = (member_moved first n m h.0, members_moved first n ms h.1)

made_moved : (first line n : ℕ) (ss : List Struct) → AreMade n ss → AreMade (first + n) (map (struct_behind first line) ss)
made_moved first line n [] h = tt
made_moved first line n (s ∷ ss) h =
    let e : first + (n + 1) ≡ (first + n) + 1 = omega arith in
    let some = h.0.0 in
    let count = length-map s.members (member_behind first) in (
      (omega (arith, count, some), members_moved first n s.members h.0.1),
      subst (λ m. AreMade m (map (struct_behind first line) ss)) e (made_moved first line (n + 1) ss h.1),
    )

header_made : AreMade 0 header_structs
header_made = search all_rules

added_made : (o : Option ℕ) (t : Types) (line : ℕ) → AreMade 0 t.structs → AreMade 0 (add_header o t line).structs
added_made None t line h =
    let n = length t.structs in
    let e : n + 0 ≡ 0 + n = omega arith in
    made_append 0 t.structs (header_at n line) h (subst (λ m. AreMade m (header_at n line)) e (made_moved n line 0 header_structs header_made))
added_made (Some first) t line h = h

added_more : (o : Option ℕ) (t : Types) (line : ℕ) → length t.structs ≤ length (add_header o t line).structs
added_more None t line = omega (arith, length-append t.structs (header_at (length t.structs) line))
added_more (Some first) t line = omega arith

part_more : (n k : ℕ) (b : NbcBase) → n ≤ k → IsPartBase n b → IsPartBase k b
part_more n k (bases.Number x) le h = tt
part_more n k bases.Mutex le h = h
part_more n k (bases.Struct i) le h = omega (arith, le, h)

-- ---- the structs of lines

-- a member is no mutex
abbrev is_member : ℕ × Form → Bool
is_member (l, forms.Member n t) = not (is_mutex_type t)
is_member (l, f) = true

some_more : (t : Types) (ms : List StructMember) (l : ℕ) (n : List ℕ) (of : TypeName) → 0 < length (with_member t ms l n of)
some_more t [] l n of = omega arith
some_more t (m ∷ ms) l n of = omega arith

made_from : (t : Types) (name : List ℕ) (ms : List StructMember) (has : Bool) (fs : List (ℕ × Form)) → AreMade 0 t.structs → Each (IsPartMember (length t.structs)) ms
    → (has ≡ true → 0 < length ms) → closes has fs ≡ true → Each (λ l. is_member l ≡ true) fs → AreMade 0 (types_from t name ms fs).structs
made_from t name ms has [] made parts some close ok = made
made_from t name ms has ((l, forms.Include) ∷ fs) made parts some close ok =
    let le = added_more t.included t l in
    made_from (with_header t l) name ms has fs (added_made t.included t l made)
    (each_weaker (IsPartMember (length t.structs)) (IsPartMember (length (with_header t l).structs)) ms (λ m h. part_more _ _ m.type.base le h) parts) some close ok.1
made_from t name ms has ((l, forms.OpenStruct n) ∷ fs) made parts some close ok = made_from t n [] false fs made tt (λ e. absurd (true≢false (sym e))) close ok.1
made_from t name ms has ((l, forms.Member n of) ∷ fs) made parts some close ok =
    made_from t name (with_member t ms l n of) true fs made
    (each_push (IsPartMember (length t.structs)) ms _ parts (type_made t.structs l of (not_is (is_mutex_type of) ok.0))) (λ e. some_more t ms l n of) close ok.1
  where
    not_is : (b : Bool) → not b ≡ true → b ≡ false
    not_is true e = sym e
    not_is false e = refl
made_from t name ms has ((l, forms.CloseStruct) ∷ fs) made parts some close ok =
    let two = and_parts has (closes false fs) close in
    made_from (with_struct t name ms l) [] [] false fs
    (made_append 0 t.structs _ made ((some two.0, subst (λ n. Each (IsPartMember n) ms) (zero_more (length t.structs)) parts), tt)) tt (λ e. absurd (true≢false (sym e))) two.1 ok.1
  where
    zero_more : (n : ℕ) → n ≡ 0 + n
    zero_more n = omega arith
made_from t name ms has ((l, f) ∷ fs) made parts some close ok = made_from t name ms has fs made parts some close ok.1

-- ---- rules that are kept

not_bad : (o : Option ℕ) → ((line : ℕ) → is_at line o ≡ false) → o ≡ None
not_bad None h = refl
not_bad (Some l) h = absurd (true≢false (sym (eq-eqb l l refl) ∙ h l))

-- what the lines of a text keep of sizes, kinds and ranges
record KeepsLine (src : Source) (l : ℕ × Form) : Type 0 where
  large : has_large_type src.types l.0 l.1 ≡ false
  kind : is_wrong_kind src l.0 1 l.1 ≡ false
  range : is_out_of_range src l.0 l.1 ≡ false

both_kept : (src : Source) (fs : List (ℕ × Form)) → Each (λ l. (has_large_type src.types l.0 l.1 || has_wrong_text src.types l.0 l.1) ≡ false) fs
    → Each (λ l. is_wrong_kind src l.0 1 l.1 ≡ false) fs → Each (λ l. is_out_of_range src l.0 l.1 ≡ false) fs → Each (KeepsLine src) fs
both_kept src [] a b c = tt
both_kept src ((l, f) ∷ fs) a b c = (
  record { large = (or_parts (has_large_type src.types l f) (has_wrong_text src.types l f) a.0).0; kind = b.0; range = c.0 },
  both_kept src fs a.1 b.1 c.1,
)

module _ (fd : Formed) (told : (f : TextFault) → tells fd f ≡ false) where
  abbrev fs : List (ℕ × Form)
  fs = fd.forms

  abbrev src : Source
  src = source_of fd.forms

  abbrev wrong_type : ℕ → Form → Bool
  wrong_type line f = has_large_type src.types line f || has_wrong_text src.types line f

  pub none_bad : fd.bad ≡ None
  none_bad = not_bad fd.bad (λ line. (or_parts (is_at line fd.bad) (list_any (wrong_type line) (rules.at_line line fs)) (told (Syntax line))).0)

  lines_kept : Each (KeepsLine src) fs
  lines_kept =
      both_kept src fs
      (kept_lines wrong_type fs (λ line. (or_parts (is_at line fd.bad) (list_any (wrong_type line) (rules.at_line line fs)) (told (Syntax line))).1))
      (kept_lines (λ line. is_wrong_kind src line 1) fs (λ line. told (WrongKind line 1)))
      (kept_lines (is_out_of_range src) fs (λ line. told (OutOfRange line)))

  line_member : (l : ℕ × Form) → KeepsLine src l → is_member l ≡ true
  line_member (l, forms.Member n t) h = ap not h.kind
  line_member (l, f) h = refl

  made : closes false fs ≡ true → AreMade 0 src.types
  made close =
      made_from no_types [] [] false fs tt tt (λ e. absurd (true≢false (sym e))) close
      (each_weaker (KeepsLine src) (λ l. is_member l ≡ true) fs line_member lines_kept)

  -- ---- variables

  -- a variable has one of the shapes, and its start is in range
  abbrev pub IsDeclared : Variable → Type 0
  IsDeclared v = IsVariable (shape_in src.types v.type) × (start_fits (shape_in src.types v.type) v.given ≡ true)

  of_part : (s : Shape) → IsPart s → depth_of s ≤ 8 → IsVariable s
  of_part Void h few = absurd h
  of_part (Number k) h few = (h, few)
  of_part (Array n s) h few = (h, few)
  of_part (Cluster ss) h few = (h, few)
  of_part Mutex h few = tt

  plain_mutex : (p : Option NbcBase) → is_mutex_base p ≡ true → p ≡ Some bases.Mutex
  plain_mutex (Some bases.Mutex) e = refl
  plain_mutex None e = absurd (true≢false (sym e))
  plain_mutex (Some (bases.Number k)) e = absurd (true≢false (sym e))
  plain_mutex (Some (bases.Struct i)) e = absurd (true≢false (sym e))

  declared_shape : (types : List Struct) (line : ℕ) (t : TypeName) → AreMade 0 types → is_too_large (shape_at types line t) ≡ false → (nat_lt 0 t.arrays && is_mutex_type t) ≡ false
      → IsVariable (shape_at types line t)
  declared_shape types line t all small kind = by (is_mutex_type t) refl
    where
      by : (b : Bool) → is_mutex_type t ≡ b → IsVariable (shape_at types line t)
      by false e =
          of_part (shape_at types line t) (shape_part types line t all e) (ltb-false 8 (depth_of (shape_at types line t)) (or_parts _ (nat_lt 8 (depth_of (shape_at types line t))) small).1)
      by true e =
          let single : t.arrays ≡ 0 = few t.arrays (sym (ap (λ b. nat_lt 0 t.arrays && b) e) ∙ kind) in
          let at = position (is_before line t.name) types in
          let mutex : shape_at types line t ≡ Mutex =
          ap (λ n. arrays_of n (base_shape (type_shapes types) (unwrap_or (one_of (plain_type t.name) at) (bases.Number Ubyte)))) single
          ∙ ap (λ p. base_shape (type_shapes types) (unwrap_or (one_of p at) (bases.Number Ubyte))) (plain_mutex (plain_type t.name) e) in
          subst IsVariable (sym mutex) tt
        where
          few : (n : ℕ) → (nat_lt 0 n && true) ≡ false → n ≡ 0
          few zero k = refl
          few (suc n) k = absurd (true≢false (sym (ap (λ b. b && true) (lt-ltb 0 (suc n) (omega arith))) ∙ k))

  line_declared : (close : closes false fs ≡ true) (l : ℕ × Form) → KeepsLine src l → (v : Variable) → variable_of src.types l ≡ Some v → IsDeclared v
  line_declared close (l, forms.Declare n t g) h v e =
      subst IsDeclared (same_Some _ v e)
      (declared_shape src.types l t (made close) h.large h.kind, not-false (start_fits (shape_at src.types l t) g) h.range)
  line_declared close (l, f) h v e = absurd (none-some v e)

  -- each variable is declared so
  pub variables_declared : closes false fs ≡ true → Each IsDeclared src.vars
  variables_declared close =
      each_given IsDeclared (variable_of src.types) fs (each_weaker (KeepsLine src) _ fs (line_declared close) lines_kept)
