-- The programs of images run with right dumps.
use Rattle.std.proofs.Common.{◌≡◌, ℕ, zero, suc, ◌+◌, ◌-◌, ◌<◌, Bool, true, false, ◌==◌, nat_lt, if◌then◌else◌, List, [], ◌∷◌, ◌++◌, map, zip, length, get_or, Option, Some, None, refl, sym, ap, ap₂, ◌∙◌, subst, arith, append-nil}
use Rattle.std.specs.Prelude.{option_map, slice_get}
use Rattle.std.proofs.lemmas.Bool.{and_parts, false≢true}
use Rattle.nxt_facts.proofs.Each.{Each}
use Rattle.nxt_types.specs.Calls.{call_of}
use Rattle.nxt_types.specs.declared.calls.Call.{Call}
use Rattle.nxt_types.specs.Names.{Name, below, size, name_in, name_among, named}
use Rattle.nxt_types.specs.Opcodes.{classes}
use Rattle.nxt_types.specs.OperandRules.{AreFit, Sort, sort_of, sort_of_name, operand_fits, is_cluster, is_allowed, has_kind, shape_of as shape_of_sort}
use Rattle.nxt_types.specs.Words.{left_out, nameless}
use Rattle.nxt_types.specs.declared.instr.Op.{Op}
use Rattle.nxt_types.specs.declared.instr.Op.TheVariants as ops
use Rattle.nxt_types.specs.declared.opcodes.Class.{Class}
use Rattle.nxt_types.specs.declared.opcodes.Class.TheVariants.{NumberOut, NumberIn, List as AList, Text, Anything, Mutex as AMutex, Immediate, Clump, Offset, OptionalOut, OptionalIn}
use Rattle.nxt_types.specs.Shapes.{Shape, Void, Number, Array, Cluster, Mutex, Members, no_members, member, shapes_of, has_list, is_number, SpellsAll}
use Rattle.nxt_types.specs.Statements.{Statement}
use Rattle.nxt_model.specs.Dump.{shape_under}
use Rattle.nxt_model.specs.Footprint.{footprint}
use Rattle.nxt_model.specs.Image.{Image, Code, code_of, instruction}
use Rattle.nxt_model.specs.Report.{setting}
use Rattle.nxt_model.specs.Spans.{HasSpans}
use Rattle.nxt_model.specs.Values.{Value, Num, ListOf, GroupOf, group_of, elements, items, is_of}
use Rattle.nxt_model.specs.Variables.{Reference, Absent, part_of, refers}
use Rattle.nxt_model.proofs.Laws.Values.{values-items}
use Rattle.nxt_dumps.specs.Runnable.{joined, EntersNoList, IsNamed, IsArray, IsNoArray, HasNoList, IsFit, IsRunnable}
use Rattle.nxt_dumps.specs.Tables.{HasTable}

-- ---- names

-- the members from number k on of some members
abbrev Behind : Members → Members → ℕ → Type 0
Behind all ss k = (j : ℕ) → get_or (shapes_of all) (k + j) Void ≡ get_or (shapes_of ss) j Void

-- a name is that of a part in no list
abbrev Fits : Shape → Name → Type 0
Fits s n = EntersNoList s n.path × (shape_under s n.path ≡ n.shape)

below_fits : (all : Members) (k : ℕ) (s : Shape) (m n : Name) → get_or (shapes_of all) k Void ≡ s → below k m ≡ n → Fits s m → Fits (Cluster all) n
below_fits all k s m n here is e =
    subst (Fits (Cluster all)) is (subst (λ t. EntersNoList t m.path) (sym here) e.0, ap (λ t. shape_under t m.path) here ∙ e.1)

first_fits : (all : Members) (k : ℕ) (s : Shape) (n : Name) (o : Option Name) → get_or (shapes_of all) k Void ≡ s → ((m : Name) → o ≡ Some m → Fits s m) → option_map (below k) o ≡ Some n → Fits (Cluster all) n
first_fits all k s n None here h is = let f : ⊥ = cc in absurd f
first_fits all k s n (Some m) here h is = let same : below k m ≡ n = cc in below_fits all k s m n here same (h m refl)

next_behind : (all : Members) (s : Shape) (ss : Members) (k : ℕ) → Behind all (member s ss) k → Behind all ss (k + 1)
next_behind all s ss k h j = let at : k + 1 + j ≡ k + suc j = omega arith in ap (λ i. get_or (shapes_of all) i Void) at ∙ h (suc j)

member_by : (all : Members) (s : Shape) (ss : Members) (k i : ℕ) (n : Name) (b : Bool) → Behind all (member s ss) k → ((m : Name) → name_in s i ≡ Some m → Fits s m) → (name_among ss (k + 1) (i - size s) ≡ Some n → Fits (Cluster all) n)
    → (if b then option_map (below k) (name_in s i) else name_among ss (k + 1) (i - size s)) ≡ Some n → Fits (Cluster all) n
member_by all s ss k i n true h here later e = let at : k ≡ k + 0 = omega arith in first_fits all k s n (name_in s i) (ap (λ j. get_or (shapes_of all) j Void) at ∙ h 0) here e
member_by all s ss k i n false h here later e = later e

mutual
  in_fits : (s : Shape) (i : ℕ) (n : Name) → name_in s i ≡ Some n → Fits s n
  in_fits s zero n e = let same : record { path = []; shape = s } ≡ n = cc in subst (Fits s) same (tt, refl)
  in_fits Void (suc i) n e = let f : ⊥ = cc in absurd f
  in_fits (Number k) (suc i) n e = let f : ⊥ = cc in absurd f
  in_fits (Array stride s) (suc i) n e = let f : ⊥ = cc in absurd f
  in_fits (Cluster ss) (suc i) n e = among_fits ss ss 0 i n (λ j. let at : 0 + j ≡ j = omega arith in ap (λ k. get_or (shapes_of ss) k Void) at) e
  in_fits Mutex (suc i) n e = let f : ⊥ = cc in absurd f

  among_fits : (all ss : Members) (k i : ℕ) (n : Name) → Behind all ss k → name_among ss k i ≡ Some n → Fits (Cluster all) n
  among_fits all no_members k i n h e = let f : ⊥ = cc in absurd f
  among_fits all (member s ss) k i n h e =
      member_by all s ss k i n (nat_lt i (size s)) h (λ m is. in_fits s i m is) (λ is. among_fits all ss (k + 1) (i - size s) n (next_behind all s ss k h) is) e

named_by : (ss : Members) (w : ℕ) (n : Name) (b : Bool) → (if b then name_among ss 0 w else None) ≡ Some n → Fits (Cluster ss) n
named_by ss w n true e = among_fits ss ss 0 w n (λ j. let at : 0 + j ≡ j = omega arith in ap (λ k. get_or (shapes_of ss) k Void) at) e
named_by ss w n false e = let f : ⊥ = cc in absurd f

part_named : (ss : Members) (o : Option Name) → ((n : Name) → o ≡ Some n → Fits (Cluster ss) n) → IsNamed ss (part_of o)
part_named ss None h = tt
part_named ss (Some n) h = h n refl

word_named : (ss : Members) (w : ℕ) → IsNamed ss (part_of (named ss w))
word_named ss w = part_named ss (named ss w) (λ n e. named_by ss w n (nat_lt w nameless) e)

optional_named : (ss : Members) (w : ℕ) (b : Bool) → IsNamed ss (if b then Absent else part_of (named ss w))
optional_named ss w true = tt
optional_named ss w false = word_named ss w

-- an operand's word names a part in no list, by whatever class it is read
refers_named : (ss : Members) (c : Class) (w : ℕ) → IsNamed ss (refers ss c w)
refers_named ss NumberOut w = word_named ss w
refers_named ss NumberIn w = word_named ss w
refers_named ss AList w = word_named ss w
refers_named ss Text w = word_named ss w
refers_named ss Anything w = word_named ss w
refers_named ss AMutex w = word_named ss w
refers_named ss Immediate w = tt
refers_named ss Clump w = tt
refers_named ss Offset w = tt
refers_named ss OptionalOut w = optional_named ss w (w == left_out)
refers_named ss OptionalIn w = optional_named ss w (w == left_out)

all_named : (ss : Members) (ps : List (Class × ℕ)) → Each (IsNamed ss) (map (λ p. refers ss p.0 p.1) ps)
all_named ss [] = tt
all_named ss (p ∷ ps) = (refers_named ss p.0 p.1, all_named ss ps)

-- ---- operands that fit

kind_of : (clumps : ℕ) (op : Op) (os : List Sort) (k : ℕ) → operand_fits clumps op os k ≡ true → has_kind clumps op os k ≡ true
kind_of clumps op os k e = (and_parts (has_kind clumps op os k) (is_allowed op os k) e).0

no_array : (o : Option Call) (s : Shape) → is_cluster o s ≡ true → IsArray s → ⊥
no_array None (Array stride s) e a = false≢true e
no_array (Some c) (Array stride s) e a = false≢true e
no_array o Void e a = a
no_array o (Number k) e a = a
no_array o (Cluster ss) e a = a
no_array o Mutex e a = a

number_no_list : (s : Shape) → is_number s ≡ true → has_list s ≡ false
number_no_list Void e = refl
number_no_list (Number k) e = refl
number_no_list (Array stride s) e = absurd (false≢true e)
number_no_list (Cluster ss) e = absurd (false≢true e)
number_no_list Mutex e = refl

call_by : (o : Option Name) (c : Option Call) → is_cluster c (shape_of_sort (sort_of_name o)) ≡ true → IsNoArray (part_of o)
call_by None c e = tt
call_by (Some n) c e = no_array c n.shape e

written_by : (o : Option Name) → is_number (shape_of_sort (sort_of_name o)) ≡ true → HasNoList (part_of o)
written_by None e = tt
written_by (Some n) e = number_no_list n.shape e

-- the operands of the operation, which has these words
abbrev sorts : Members → Op → List ℕ → List Sort
sorts ss op args = map (λ p. sort_of ss p.0 p.1) (zip (classes op (length args)) args)

abbrev refs : Members → Op → List ℕ → List Reference
refs ss op args = map (λ p. refers ss p.0 p.1) (zip (classes op (length args)) args)

-- a system call's cluster is no list
call_fits : (ss : Members) (clumps : ℕ) (args : List ℕ) → ((k : ℕ) → k < length args → operand_fits clumps ops.Syscall (sorts ss ops.Syscall args) k ≡ true) → IsNoArray (get_or (refs ss ops.Syscall args) 1 Absent)
call_fits ss clumps [] h = tt
call_fits ss clumps (a ∷ []) h = tt
call_fits ss clumps (a ∷ b ∷ more) h =
    let kind = kind_of clumps ops.Syscall (sorts ss ops.Syscall (a ∷ b ∷ more)) 1 (h 1 (omega arith)) in
    call_by (named ss b) (call_of a) (and_parts _ (is_cluster (call_of a) (shape_of_sort (sort_of_name (named ss b)))) kind).1

-- and the caller of a subroutine is stored in a number
caller_fits : (ss : Members) (clumps : ℕ) (args : List ℕ) → ((k : ℕ) → k < length args → operand_fits clumps ops.Subcall (sorts ss ops.Subcall args) k ≡ true) → HasNoList (get_or (refs ss ops.Subcall args) 1 Absent)
caller_fits ss clumps [] h = tt
caller_fits ss clumps (a ∷ []) h = tt
caller_fits ss clumps (a ∷ b ∷ more) h =
    let kind = kind_of clumps ops.Subcall (sorts ss ops.Subcall (a ∷ b ∷ more)) 1 (h 1 (omega arith)) in
    written_by (named ss b) (and_parts (is_number (shape_of_sort (sort_of_name (named ss b)))) true kind).0

-- a statement whose operands fit writes as it should
statement_fits : (ss : Members) (code : Code) (s : ℕ × Statement) → AreFit ss s.1 → IsFit ss (instruction ss code s)
statement_fits ss code s e = record {
  named = all_named ss (zip (classes s.1.op (length s.1.args)) s.1.args);
  fields = λ is. rw is (call_fits ss e.clumps s.1.args (λ k less. ap (λ op. operand_fits e.clumps op (sorts ss op s.1.args) k) (sym is) ∙ e.fit k less));
  caller = λ is. rw is (caller_fits ss e.clumps s.1.args (λ k less. ap (λ op. operand_fits e.clumps op (sorts ss op s.1.args) k) (sym is) ∙ e.fit k less));
}

pub all_fit : (ss : Members) (code xs : Code) → ((k : ℕ) (s : ℕ × Statement) → slice_get xs k ≡ Some s → AreFit ss s.1) → Each (IsFit ss) (map (instruction ss code) xs)
all_fit ss code [] e = tt
all_fit ss code (s ∷ xs) e = (statement_fits ss code s (e 0 s refl), all_fit ss code xs (λ k t is. e (suc k) t is))

-- ---- images

joined_none : (ss : Members) → joined ss no_members ≡ ss
joined_none no_members = refl
joined_none (member s ss) = ap (member s) (joined_none ss)

-- a group's members are the group
group_whole : (ss : Members) (v : Value) → is_of (Cluster ss) v ≡ true → group_of (elements v ++ []) ≡ v
group_whole ss (Num z) e = absurd (false≢true e)
group_whole ss (ListOf vs) e = absurd (false≢true e)
group_whole ss (GroupOf vs) e = ap group_of (append-nil (items vs)) ∙ ap GroupOf (values-items vs)

-- where its table is sound and the operands of its statements fit
pub runnable_image : (image : Image) (effort : ℕ) → HasTable image → ((k : ℕ) (s : ℕ × Statement) → slice_get (code_of image) k ≡ Some s → AreFit image.shapes s.1) → IsRunnable (setting image effort)
runnable_image image effort e code =
    let ss = image.shapes in
    let none = joined_none ss in
    record {
      entries = image.entries;
      own = ss;
      fixed = no_members;
      static_size = image.static_size;
      constants = [];
      few = e.few;
      spelled = subst (SpellsAll image.entries) (sym none) e.spelled;
      spans = subst (λ ts. HasSpans image.entries ts image.static_size) (sym none) e.spans;
      constants_are = refl;
      holds = λ st is. ap₂ (λ ts v. record { entries = image.entries; shapes = ts; static_size = image.static_size; values = v; rows = st.rows }) (sym none) (sym (group_whole ss st.values is));
      lists = λ vars is. omega arith;
      footprint_is = λ rows vars is. ap₂ (footprint image.static_size rows) (sym none) (sym (group_whole ss vars is));
      code = all_fit ss (code_of image) (code_of image) code;
      start = e.values;
      start_rows = omega arith;
      start_fits = e.fits;
    }
