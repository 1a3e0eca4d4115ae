-- What a text counts fits in the fields of a program.
use Rattle.std.proofs.Common.{◌≡◌, ℕ, zero, suc, ◌+◌, ◌^◌, ◌<◌, ◌≤◌, ◌==◌, Bool, true, false, cond, List, [], ◌∷◌, ◌++◌, length, map, find, position, bytes_eq, get_or, Option, Some, None, option_map, refl, sym, ap, subst, arith, rules, length-append}
use Rattle.std.specs.Prelude.{⊤, if◌then◌else◌, filter_map, option_and_then, slice_get, unwrap_or}
use Rattle.std.specs.List.{cons_option}
use Rattle.std.proofs.lemmas.List.{length-map}
use Rattle.std.proofs.lemmas.Option.{slice_get_within}
use Rattle.nxt_model.specs.Nbc.Forms as forms
use Rattle.nxt_model.specs.Nbc.Forms.{Form, Term, Named, Literal, Quote}
use Rattle.nxt_model.specs.Nbc.Header.{constant_named, header_at, header_structs, is_header_struct, member_behind, struct_behind}
use Rattle.nxt_model.specs.Nbc.Structs.{Types, add_header, no_types, types_from, types_of, with_header, with_member, with_struct}
use Rattle.nxt_model.specs.declared.nbc.NbcBase.{NbcBase}
use Rattle.nxt_model.specs.declared.nbc.NbcBase.TheVariants as bases
use Rattle.nxt_model.specs.declared.nbc.NbcType.{NbcType}
use Rattle.nxt_model.specs.Nbc.Types.{Struct, StructMember, type_at, struct_of_base, struct_of, member_in, member_of_type, member_path, Found, below}
use Rattle.nxt_model.specs.Nbc.Text.{Source, Variable, Block, NameSort, OfVariable, OfStruct, OfBlock, Denoted, AVariable, ABlock, AType, Missing, LabelAt, label_at, label_of, labels_from, label_named, is_statement, variable_of, blocks_in, source_of, sort_named, variable_named, block_named, block_at, block_place, block_by, a_block, a_variable, alone, of_header, predefined, is_included_at, member_of, path_in, by_sort, denoted}
use Rattle.nxt_nbc_lines.specs.Whole.{most_in_text, AreLines}
use Rattle.nxt_nbc_names.specs.DenotedSeen.{denoted_seen}
use Rattle.nxt_nbc_names.specs.declared.denoted.Denoted.{Denoted as ProgramDenoted}
use Rattle.nxt_nbc_names.specs.declared.denoted.Denoted.TheVariants as program
use Rattle.nxt_nbc_names.proofs.Laws.Blocks.{ordered_is}
use Rattle.nxt_nbc_program.specs.Fits.{AreBelow, HaveFewMembers, SourceFits, LabelsFit, IsDenoted}
use Rattle.nxt_nbc_program.proofs.BlockNumbers.{number_below}

-- ---- members

few_append : (a b : List Struct) → HaveFewMembers a → HaveFewMembers b → HaveFewMembers (a ++ b)
few_append [] b h k = k
few_append (s ∷ a) b h k = (h.0, few_append a b h.1 k)

few_behind : (first line : ℕ) (ss : List Struct) → HaveFewMembers ss → HaveFewMembers (map (struct_behind first line) ss)
few_behind first line [] h = tt
few_behind first line (s ∷ ss) h = (omega (arith, length-map s.members (member_behind first), h.0), few_behind first line ss h.1)

few_in_header : HaveFewMembers header_structs
few_in_header = search rules

few_added : (o : Option ℕ) (t : Types) (line : ℕ) → HaveFewMembers t.structs → HaveFewMembers (add_header o t line).structs
few_added None t line h = few_append t.structs (header_at (length t.structs) line) h (few_behind (length t.structs) line header_structs few_in_header)
few_added (Some first) t line h = h

few_from : (t : Types) (name : List ℕ) (ms : List StructMember) (fs : List (ℕ × Form)) → HaveFewMembers t.structs → length ms + length fs ≤ most_in_text
    → HaveFewMembers (types_from t name ms fs).structs
few_from t name ms [] h le = h
few_from t name ms ((l, forms.Include) ∷ fs) h le = few_from (with_header t l) name ms fs (few_added t.included t l h) (omega (arith, le))
few_from t name ms ((l, forms.OpenStruct n) ∷ fs) h le = few_from t n [] fs h (omega (arith, le))
few_from t name ms ((l, forms.Member n of) ∷ fs) h le =
    let one = length-append ms (record { name = n; type = type_at t.structs l of } ∷ []) in
    few_from t name (with_member t ms l n of) fs h (omega (arith, le, one))
few_from t name ms ((l, forms.CloseStruct) ∷ fs) h le =
    few_from (with_struct t name ms l) [] [] fs
    (few_append t.structs (record { name = name; members = ms; line = l } ∷ []) h (omega (arith, le), tt)) (omega (arith, le))
few_from t name ms (f ∷ fs) h le = few_from t name ms fs h (omega (arith, le))

-- ---- texts

few_variables : (types : List Struct) (fs : List (ℕ × Form)) → length (filter_map (variable_of types) fs) ≤ length fs
few_variables types [] = omega arith
few_variables types (f ∷ fs) = by (variable_of types f) (few_variables types fs)
  where
    by : (o : Option Variable) → length (filter_map (variable_of types) fs) ≤ length fs → length (cons_option o (filter_map (variable_of types) fs)) ≤ suc (length fs)
    by None le = omega (arith, le)
    by (Some v) le = omega (arith, le)

pub source_fits : (fs : List (ℕ × Form)) → AreLines fs → length (blocks_in fs) ≤ 255 → SourceFits (source_of fs)
source_fits fs lines blocks = record {
  types = few_from no_types [] [] fs tt (omega (arith, lines.few));
  vars = omega (arith, few_variables (types_of fs).structs fs, lines.few);
  blocks = blocks;
}

-- ---- labels

fit_append : (a b : List LabelAt) → LabelsFit a → LabelsFit b → LabelsFit (a ++ b)
fit_append [] b h k = k
fit_append (l ∷ a) b h k = (h.0, fit_append a b h.1 k)

fit_at : (line k : ℕ) (o : Option (List ℕ)) → k ≤ most_in_text → LabelsFit (label_at line k o)
fit_at line k None le = tt
fit_at line k (Some l) le = (le, tt)

fit_from : (k : ℕ) (fs : List (ℕ × Form)) → k + length fs ≤ most_in_text → LabelsFit (labels_from k fs)
fit_from k [] le = tt
fit_from k ((line, f) ∷ fs) le =
    fit_append (label_at line k (label_of f)) (labels_from (if is_statement f then k + 1 else k) fs) (fit_at line k (label_of f) (omega (arith, le)))
    (fit_from (if is_statement f then k + 1 else k) fs (next (is_statement f)))
  where
    next : (c : Bool) → (if c then k + 1 else k) + length fs ≤ most_in_text
    next true = omega (arith, le)
    next false = omega (arith, le)

-- the labels of a block fit
pub labels_fit : (fs : List (ℕ × Form)) → length fs ≤ most_in_text → LabelsFit (labels_from 0 fs)
labels_fit fs le = fit_from 0 fs (omega (arith, le))

place_by : (l : LabelAt) (o : Option LabelAt) (c : Bool) → l.position ≤ most_in_text → unwrap_or (option_map (λ x. x.position) o) 0 ≤ most_in_text
    → unwrap_or (option_map (λ x. x.position) (cond c (Some l) o)) 0 ≤ most_in_text
place_by l o true here more = here
place_by l o false here more = more

place_fits : (ls : List LabelAt) (name : List ℕ) → LabelsFit ls → unwrap_or (label_named ls name) 0 ≤ most_in_text
place_fits [] name h = omega arith
place_fits (l ∷ ls) name h = place_by l (find (λ x. bytes_eq x.name name) ls) (bytes_eq l.name name) h.0 (place_fits ls name h.1)

-- the statement that a label names
pub jump_fits : (ls : List LabelAt) (name : List ℕ) → LabelsFit ls → unwrap_or (label_named ls name) 0 < 2 ^ 32
jump_fits ls name h = let le = place_fits ls name h in omega (arith, le)

-- ---- what operands stand for

abbrev DenotedFits : Denoted → Type 0
DenotedFits (AVariable i path s) = (i < 2 ^ 32) × AreBelow (2 ^ 63) path
DenotedFits (ABlock k sub) = k < 2 ^ 8
DenotedFits d = ⊤

abbrev IsFew : Option Struct → Type 0
IsFew None = ⊤
IsFew (Some s) = length s.members ≤ most_in_text

few_at : (types : List Struct) (i : ℕ) → HaveFewMembers types → IsFew (slice_get types i)
few_at [] i h = tt
few_at (s ∷ types) zero h = h.0
few_at (s ∷ types) (suc i) h = few_at types i h.1

few_of_base : (types : List Struct) (b : NbcBase) → HaveFewMembers types → IsFew (struct_of_base types b)
few_of_base types (bases.Number k) h = tt
few_of_base types bases.Mutex h = tt
few_of_base types (bases.Struct i) h = few_at types i h

few_of : (types : List Struct) (t : NbcType) → HaveFewMembers types → IsFew (struct_of types t)
few_of types t h = by (t.arrays == 0)
  where
    by : (c : Bool) → IsFew (if c then struct_of_base types t.base else None)
    by true = few_of_base types t.base h
    by false = tt

-- a member's position
abbrev IsNear : Option (ℕ × NbcType) → Type 0
IsNear None = ⊤
IsNear (Some m) = m.0 < 2 ^ 63

member_near : (name : List ℕ) (o : Option Struct) → IsFew o → IsNear (option_and_then (member_in name) o)
member_near name None few = tt
member_near name (Some s) few = at (position (λ m. bytes_eq m.name name) s.members)
  where
    there : (k : ℕ) (o : Option StructMember) → slice_get s.members k ≡ o → IsNear (option_map (λ m. (k, m.type)) o)
    there k None e = tt
    there k (Some m) e = let within = slice_get_within s.members k m e in omega (arith, within, few)

    at : (o : Option ℕ) → IsNear (option_and_then (λ k. option_map (λ m. (k, m.type)) (slice_get s.members k)) o)
    at None = tt
    at (Some k) = there k (slice_get s.members k) refl

abbrev PathFits : Option Found → Type 0
PathFits None = ⊤
PathFits (Some f) = AreBelow (2 ^ 63) f.0

then_fits : {A : Type 0} (g : A → Option Found) (o : Option A) → ((x : A) → o ≡ Some x → PathFits (g x)) → PathFits (option_and_then g o)
then_fits g None h = tt
then_fits g (Some x) h = h x refl

below_fits : (k : ℕ) (o : Option Found) → k < 2 ^ 63 → PathFits o → PathFits (option_map (below k) o)
below_fits k None lt h = tt
below_fits k (Some f) lt h = (lt, h)

path_fits : (types : List Struct) → HaveFewMembers types → (t : NbcType) (ns : List (List ℕ)) → PathFits (member_path types t ns)
path_fits types few t [] = tt
path_fits types few t (n ∷ ns) =
    then_fits (λ m. option_map (below m.0) (member_path types m.1 ns)) (member_of_type types t n)
    (λ m is. below_fits m.0 (member_path types m.1 ns) (subst IsNear is (member_near n (struct_of types t) (few_of types t few))) (path_fits types few m.1 ns))

module _ (src : Source) (fits : SourceFits src) where
  member_fits : (i : ℕ) (o : Option Found) → i < 2 ^ 32 → PathFits o → DenotedFits (member_of src i o)
  member_fits i None lt h = tt
  member_fits i (Some f) lt h = (lt, h)

  part_fits : (i : ℕ) (ns : List (List ℕ)) (o : Option Variable) → (slice_get src.vars i ≡ o) → DenotedFits (path_in src i ns o)
  part_fits i ns None e = tt
  part_fits i ns (Some v) e =
      let within = slice_get_within src.vars i v e in
      let most = fits.vars in
      member_fits i (member_path src.types v.type ns) (omega (arith, within, most)) (path_fits src.types fits.types v.type ns)

  variable_fits : (o : Option ℕ) (ns : List (List ℕ)) → DenotedFits (a_variable src o ns)
  variable_fits None ns = tt
  variable_fits (Some i) ns = part_fits i ns (slice_get src.vars i) refl

  alone_fits : (ns : List (List ℕ)) (d : Denoted) → DenotedFits d → DenotedFits (alone ns d)
  alone_fits [] d h = h
  alone_fits (n ∷ ns) d h = tt

  number_fits : (name : List ℕ) (j : ℕ) → block_named src name ≡ Some j → j < 2 ^ 8
  number_fits name j e =
      number_below src.blocks name (block_named src name) j fits.blocks (ap (position (λ b. bytes_eq b.name name)) (ordered_is src)) e

  block_fits : (name : List ℕ) → DenotedFits (a_block (block_by src name))
  block_fits name = by (block_named src name) (number_fits name)
    where
      there : (k : ℕ) (o : Option Block) → k < 2 ^ 8 → DenotedFits (a_block (option_map (block_place k) o))
      there k None lt = tt
      there k (Some b) lt = lt

      by : (o : Option ℕ) → ((j : ℕ) → o ≡ Some j → j < 2 ^ 8) → DenotedFits (a_block (option_and_then (λ k. option_map (block_place k) (block_at src k)) o))
      by None h = tt
      by (Some k) h = there k (block_at src k) (h k refl)

  predefined_fits : (line : ℕ) (name : List ℕ) → DenotedFits (predefined src line name)
  predefined_fits line name = by (is_included_at src line) (constant_named name) (is_header_struct name)
    where
      by : (c : Bool) (o : Option ℕ) (t : Bool) → DenotedFits (if c then of_header o t else Missing)
      by true (Some n) t = tt
      by true None true = tt
      by true None false = tt
      by false o t = tt

  named_fits : (line : ℕ) (o : Option NameSort) (name : List ℕ) (ns : List (List ℕ)) → DenotedFits (by_sort src line o name ns)
  named_fits line (Some OfVariable) name ns = variable_fits (variable_named src name) ns
  named_fits line (Some OfStruct) name ns = alone_fits ns AType tt
  named_fits line (Some OfBlock) name ns = alone_fits ns (a_block (block_by src name)) (block_fits name)
  named_fits line None name ns = alone_fits ns (predefined src line name) (predefined_fits line name)

  term_fits : (line : ℕ) (t : Term) → DenotedFits (denoted src line t)
  term_fits line (Literal z) = tt
  term_fits line (Quote s) = tt
  term_fits line (Named []) = tt
  term_fits line (Named (n ∷ ns)) = named_fits line (sort_named src n) n ns

seen_fits : (t : Types) (d : ProgramDenoted) → DenotedFits (denoted_seen t d) → IsDenoted d
seen_fits t (program.Part p) h = h
seen_fits t (program.Number z) h = tt
seen_fits t (program.Text s) h = tt
seen_fits t (program.Block k sub) h = h
seen_fits t program.Type h = tt
seen_fits t program.Missing h = tt

-- what an operand of a text that fits stands for
pub denoted_fits : (src : Source) → SourceFits src → (t : Types) (d : ProgramDenoted) (line : ℕ) (term : Term) → denoted_seen t d ≡ denoted src line term → IsDenoted d
denoted_fits src fits t d line term e = seen_fits t d (subst DenotedFits (sym e) (term_fits src fits line term))

-- ---- positions

pub below_at : (n : ℕ) (ks : List ℕ) (i : ℕ) → AreBelow n ks → i < length ks → get_or ks i 0 < n
below_at n [] i h l = absurd (omega (arith, l))
below_at n (k ∷ ks) zero h l = h.0
below_at n (k ∷ ks) (suc i) h l = below_at n ks i h.1 (omega (arith, l))
