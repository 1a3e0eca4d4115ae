-- What is asked of a setting, so that a right dump is always to be had.
use Rattle.std.specs.Prelude.{◌≡◌, ℕ, ◌+◌, ◌^◌, ◌<◌, ◌≤◌, true, false, List, [], ◌∷◌, ◌++◌, length, slice_index_or}
use Rattle.std.specs.List.{AllByRecursion}
use Rattle.nxt_types.specs.Pool.{pool_size}
use Rattle.nxt_types.specs.Shapes.{Shape, Void, Number, Array, Cluster, Mutex, Members, no_members, member, has_list, SpellsAll}
use Rattle.nxt_types.specs.declared.shape.TocEntry.{TocEntry}
use Rattle.nxt_types.specs.declared.instr.Op.TheVariants as ops
use Rattle.nxt_model.specs.Values.{Value, group_of, elements, values, lists_in, lists_among, is_of, are_of}
use Rattle.nxt_model.specs.Footprint.{footprint}
use Rattle.nxt_model.specs.Spans.{HasSpans}
use Rattle.nxt_model.specs.SystemCalls.{field_shape}
use Rattle.nxt_model.specs.Variables.{Reference, PartOf, Absent}
use Rattle.nxt_model.specs.Program.{Instruction, State}
use Rattle.nxt_model.specs.Dump.{Content, shape_under}
use Rattle.nxt_model.specs.Report.{Setting}

-- the members of one group, and behind them those of another
abbrev pub joined : Members → Members → Members
joined no_members more = more
joined (member s ss) more = member s (joined ss more)

-- ---- what a statement may write

-- no list is entered on the way to a part
abbrev pub EntersNoList : Shape → List ℕ → Type 0
EntersNoList s [] = Unit {0}
EntersNoList Void (k ∷ ks) = Unit {0}
EntersNoList (Number n) (k ∷ ks) = Unit {0}
EntersNoList (Array stride s) (k ∷ ks) = ⊥
EntersNoList (Cluster ss) (k ∷ ks) = EntersNoList (field_shape k (Cluster ss)) ks
EntersNoList Mutex (k ∷ ks) = Unit {0}

-- what names a part of the variables has its shape, and the part is in no list
abbrev pub IsNamed : Members → Reference → Type 0
IsNamed own (PartOf n) = EntersNoList (Cluster own) n.path × (shape_under (Cluster own) n.path ≡ n.shape)
IsNamed own _ = Unit {0}

abbrev pub IsArray : Shape → Type 0
IsArray (Array stride s) = Unit {0}
IsArray _ = ⊥

abbrev pub IsNoArray : Reference → Type 0
IsNoArray (PartOf n) = IsArray n.shape → ⊥
IsNoArray _ = Unit {0}

abbrev pub HasNoList : Reference → Type 0
HasNoList (PartOf n) = has_list n.shape ≡ false
HasNoList _ = Unit {0}

-- a system call writes fields of its second operand, and a call of a subroutine a number
pub record IsFit (own : Members) (i : Instruction) : Type 0 where
  pub named : AllByRecursion (IsNamed own) i.references
  pub fields : i.op ≡ ops.Syscall → IsNoArray (slice_index_or i.references 1 Absent)
  pub caller : i.op ≡ ops.Subcall → HasNoList (slice_index_or i.references 1 Absent)

-- ---- settings

-- what a pool holds that holds these variables: behind the program's own variables there are constants, which no statement
-- writes
abbrev pub content_with : List TocEntry → Members → Members → ℕ → List Value → Value → ℕ → Content
content_with entries own fixed static_size constants vars rows =
    record {
      entries = entries;
      shapes = joined own fixed;
      static_size = static_size;
      values = group_of (elements vars ++ constants);
      rows = rows;
    }

-- the pool holds the program's variables in all its states, and the program counts them as the pool does. Values of their
-- shapes can stand in it, the statements write parts of them, and the pool holds them at the start
pub record IsRunnable (s : Setting) : Type 0 where
  pub entries : List TocEntry
  pub own : Members
  pub fixed : Members
  pub static_size : ℕ
  pub constants : List Value
  pub few : length entries < 2 ^ 16
  pub spelled : SpellsAll entries (joined own fixed)
  pub spans : HasSpans entries (joined own fixed) static_size
  pub constants_are : are_of fixed constants ≡ true
  pub holds : (st : State) → is_of (Cluster own) st.values ≡ true → s.content st ≡ content_with entries own fixed static_size constants st.values st.rows
  pub lists : (vars : Value) → is_of (Cluster own) vars ≡ true → s.program.lists vars ≡ lists_in vars + lists_among (values constants)
  pub footprint_is : (rows : ℕ) (vars : Value) → is_of (Cluster own) vars ≡ true
      → s.program.footprint rows vars ≡ footprint static_size rows (joined own fixed) (group_of (elements vars ++ constants))
  pub code : AllByRecursion (IsFit own) s.program.code
  pub start : is_of (Cluster own) s.program.values ≡ true
  pub start_rows : s.program.lists s.program.values + 1 ≤ s.program.rows
  pub start_fits : s.program.footprint s.program.rows s.program.values ≤ pool_size
