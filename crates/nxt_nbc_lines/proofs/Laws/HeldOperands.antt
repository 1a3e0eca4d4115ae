-- Operands are of the same kinds and in the same ranges where numbers are held.
use Rattle.std.proofs.Common.{◌≡◌, ℕ, zero, suc, ◌+◌, ◌==◌, Bool, true, false, not, ◌&&◌, ◌||◌, nat_lt, List, [], ◌∷◌, map, length, zip, slice_get, slice_index_or, Option, Some, None, option_map, refl, ap, ◌∙◌, ℤ}
use Rattle.std.specs.Prelude.{if◌then◌else◌}
use Rattle.std.specs.List.{list_any, enumerate_from}
use Rattle.std.proofs.lemmas.List.{length-map}
use Rattle.std.proofs.lemmas.Option.{slice_get-map}
use Rattle.std.proofs.Math.ListN.{get_or-map}
use Rattle.nxt_types.specs.Shapes.{Shape, Array}
use Rattle.nxt_types.specs.Opcodes.{classes}
use Rattle.nxt_types.specs.OperandRules.{Word, Absent, has_kind, is_allowed, is_destination}
use Rattle.nxt_types.specs.declared.opcodes.Class.{Class}
use Rattle.nxt_types.specs.declared.opcodes.Class.TheVariants.{Immediate, Clump, Offset, OptionalOut, OptionalIn}
use Rattle.nxt_types.specs.declared.instr.Op.{Op}
use Rattle.nxt_model.specs.Nbc.Forms.{Form, Declare, Precedes, Follows, ExitTo, Call, Do, Given, Nothing, One, Many, Bytes, Term, Named, Literal, Quote}
use Rattle.nxt_model.specs.Nbc.Types.{shape_at}
use Rattle.nxt_model.specs.Nbc.Text.{Source, denoted, is_left_out}
use Rattle.nxt_model.specs.Nbc.NbcRules.{sort_of_number, sort_of_denoted, sort_of_term, sorts_from, sorts_of, is_label, is_subroutine, is_thread, is_number, has_class, class_at, is_wrong_term, is_no_thread, is_wrong_kind, fits_shape, fit_elements, start_fits, is_wide, is_refused_number, is_out_of_range}
use Rattle.nxt_nbc_lines.specs.Held.{held, held_term, held_given, held_form}
use Rattle.nxt_nbc_lines.proofs.Laws.HeldNumbers.{word_for_held, wide_held, fits_held}
use Rattle.nxt_nbc_lines.proofs.Laws.HeldLists.{any_same, all_same, in_second, zip_same, enumerate_same}
use Rattle.nxt_nbc_lines.proofs.Laws.HeldSources.{held_source}
use Rattle.nxt_nbc_lines.proofs.Laws.HeldNames.{denoted_held, left_out_held}

-- ---- what operands are

number_sort_held : (c : Class) (stored : Bool) (z : ℤ) → sort_of_number c stored (held z) ≡ sort_of_number c stored z
number_sort_held Immediate stored z = ap Word (word_for_held z)
number_sort_held c true z = refl
number_sort_held c false z = refl

denoted_sort_held : (src : Source) (line : ℕ) (c : Class) (stored : Bool) (t : Term)
    → sort_of_denoted c stored (denoted (held_source src) line (held_term t)) ≡ sort_of_denoted c stored (denoted src line t)
denoted_sort_held src line c stored t = denoted_held (sort_of_denoted c stored) (number_sort_held c stored) src line t

optional_held : (src : Source) (line : ℕ) (c : Class) (stored : Bool) (t : Term)
    → (if is_left_out (held_source src) line (held_term t) then Absent else sort_of_denoted c stored (denoted (held_source src) line (held_term t)))
    ≡ (if is_left_out src line t then Absent else sort_of_denoted c stored (denoted src line t))
optional_held src line c stored t =
    ap (λ b. if b then Absent else sort_of_denoted c stored (denoted (held_source src) line (held_term t))) (left_out_held src line t)
    ∙ ap (λ s. if is_left_out src line t then Absent else s) (denoted_sort_held src line c stored t)

sort_held : (src : Source) (line : ℕ) (c : Class) (stored : Bool) (t : Term) → sort_of_term (held_source src) line c stored (held_term t) ≡ sort_of_term src line c stored t
sort_held src line OptionalOut stored t = optional_held src line OptionalOut stored t
sort_held src line OptionalIn stored t = optional_held src line OptionalIn stored t
sort_held src line c stored t = denoted_sort_held src line c stored t

sorts_from_held : (src : Source) (line : ℕ) (op : Op) (k : ℕ) (ps : List (Class × Term)) → sorts_from (held_source src) line op k (map (in_second held_term) ps) ≡ sorts_from src line op k ps
sorts_from_held src line op k [] = refl
sorts_from_held src line op k ((c, t) ∷ ps) =
    ap (λ s. s ∷ sorts_from (held_source src) line op (k + 1) (map (in_second held_term) ps)) (sort_held src line c (is_destination op k) t)
    ∙ ap (λ ss. sort_of_term src line c (is_destination op k) t ∷ ss) (sorts_from_held src line op (k + 1) ps)

sorts_held : (src : Source) (line : ℕ) (op : Op) (ts : List Term) → sorts_of (held_source src) line op (map held_term ts) ≡ sorts_of src line op ts
sorts_held src line op ts =
    ap (λ n. sorts_from (held_source src) line op 0 (zip (classes op n) (map held_term ts))) (length-map ts held_term)
    ∙ ap (sorts_from (held_source src) line op 0) (zip_same held_term (classes op (length ts)) ts)
    ∙ sorts_from_held src line op 0 (zip (classes op (length ts)) ts)

-- ---- kinds

is_label_held : (t : Term) → is_label (held_term t) ≡ is_label t
is_label_held (Named ns) = refl
is_label_held (Literal z) = refl
is_label_held (Quote s) = refl

class_held : (src : Source) (line : ℕ) (c : Class) (t : Term) → has_class (held_source src) line c (held_term t) ≡ has_class src line c t
class_held src line Offset t = is_label_held t
class_held src line Clump t = denoted_held is_subroutine (λ z. refl) src line t
class_held src line Immediate t = denoted_held is_number (λ z. refl) src line t
class_held src line c t = refl

wrong_term_held : (src : Source) (line : ℕ) (op : Op) (ts : List Term) (k : ℕ) → is_wrong_term (held_source src) line op (map held_term ts) k ≡ is_wrong_term src line op ts k
wrong_term_held src line op ts k =
    let big = held_source src in
    let us = map held_term ts in
    let t = slice_index_or ts k (Named []) in
    let kind = has_kind 1 op (sorts_of big line op us) k in
    ap (λ n. not (has_class big line (class_at op n k) (slice_index_or us k (Named [])) && kind)) (length-map ts held_term)
    ∙ ap (λ u. not (has_class big line (class_at op (length ts) k) u && kind)) (get_or-map held_term ts k (Named []))
    ∙ ap (λ c. not (c && kind)) (class_held src line (class_at op (length ts) k) t)
    ∙ ap (λ ss. not (has_class src line (class_at op (length ts) k) t && has_kind 1 op ss k)) (sorts_held src line op ts)

no_thread_held : (src : Source) (line : ℕ) (o : Option Term) → is_no_thread (held_source src) line (option_map held_term o) ≡ is_no_thread src line o
no_thread_held src line None = refl
no_thread_held src line (Some t) = denoted_held (λ d. not (is_thread d)) (λ z. refl) src line t

no_threads_held : (src : Source) (line : ℕ) (ts : List Term) (k : ℕ) → is_no_thread (held_source src) line (slice_get (map held_term ts) k) ≡ is_no_thread src line (slice_get ts k)
no_threads_held src line ts k = ap (is_no_thread (held_source src) line) (slice_get-map held_term ts k) ∙ no_thread_held src line (slice_get ts k)

pub wrong_kind_held : (src : Source) (line k : ℕ) (f : Form) → is_wrong_kind (held_source src) line k (held_form f) ≡ is_wrong_kind src line k f
wrong_kind_held src line zero f = refl
wrong_kind_held src line (suc k) (Do label op cmp ts) =
    ap (λ n. nat_lt k n && is_wrong_term (held_source src) line op (map held_term ts) k) (length-map ts held_term)
    ∙ ap (λ c. nat_lt k (length ts) && c) (wrong_term_held src line op ts k)
wrong_kind_held src line (suc k) (Call t) = ap (λ c. (k == 0) && c) (denoted_held (λ d. not (is_subroutine d)) (λ z. refl) src line t)
wrong_kind_held src line (suc k) (ExitTo t) = ap (λ c. (k == 0) && c) (no_thread_held src line (Some t))
wrong_kind_held src line (suc k) (Precedes ts) = no_threads_held src line ts k
wrong_kind_held src line (suc k) (Follows ts) = no_threads_held src line ts k
wrong_kind_held src line (suc k) (Declare n t g) = refl
wrong_kind_held src line (suc k) f = refl

-- ---- ranges

elements_held : (s : Shape) (zs : List ℤ) → fit_elements s (map held zs) ≡ fit_elements s zs
elements_held (Array n s) zs = all_same held (fits_shape s) (fits_shape s) (fits_held s) zs
elements_held s zs = refl

start_held : (s : Shape) (g : Given) → start_fits s (held_given g) ≡ start_fits s g
start_held s Nothing = refl
start_held s (One z) = fits_held s z
start_held s (Many zs) = elements_held s zs
start_held s (Bytes bytes) = refl

refused_held : (src : Source) (line : ℕ) (op : Op) (ts : List Term) (p : ℕ × Term)
    → is_refused_number (held_source src) line op (map held_term ts) (in_second held_term p) ≡ is_refused_number src line op ts p
refused_held src line op ts (k, t) =
    ap (λ c. c || not (is_allowed op (sorts_of (held_source src) line op (map held_term ts)) k)) (denoted_held is_wide wide_held src line t)
    ∙ ap (λ ss. is_wide (denoted src line t) || not (is_allowed op ss k)) (sorts_held src line op ts)

pub out_of_range_held : (src : Source) (line : ℕ) (f : Form) → is_out_of_range (held_source src) line (held_form f) ≡ is_out_of_range src line f
out_of_range_held src line (Declare n t g) = ap not (start_held (shape_at src.types line t) g)
out_of_range_held src line (Do label op cmp ts) =
    let test = is_refused_number (held_source src) line op (map held_term ts) in
    ap (list_any test) (enumerate_same held_term 0 ts)
    ∙ any_same (in_second held_term) test (is_refused_number src line op ts) (refused_held src line op ts) (enumerate_from 0 ts)
out_of_range_held src line f = refl
