-- Where no rule is broken each number is held as it is.
use Rattle.std.proofs.Common.{◌≡◌, ℕ, zero, suc, ◌+◌, Bool, true, false, not, ◌==◌, List, [], ◌∷◌, map, slice_get, Some, None, refl, ap, ◌∙◌, ℤ}
use Rattle.std.specs.Prelude.{if◌then◌else◌, IsTrue}
use Rattle.std.specs.List.{cons_option, list_any, list_all, enumerate_from}
use Rattle.std.proofs.lemmas.Bool.{both_ways, or_parts, and_parts, eq-eqb, false_from_ne_true, not-false}
use Rattle.nxt_types.specs.Shapes.{Shape, Array}
use Rattle.nxt_types.specs.OperandRules.{is_allowed}
use Rattle.nxt_types.specs.declared.instr.Op.{Op}
use Rattle.nxt_model.specs.Nbc.Forms.{Form, Declare, Precedes, Follows, ExitTo, Call, Do, Formed, Given, Nothing, One, Many, Bytes, Term, Named, Literal, Quote}
use Rattle.nxt_model.specs.Nbc.Types.{shape_at}
use Rattle.nxt_model.specs.Nbc.Text.{Source, source_of, denoted}
use Rattle.nxt_model.specs.Nbc.NbcRules.{TextFault, WrongKind, OutOfRange, at_line, is_subroutine, is_thread, is_no_thread, is_wrong_kind, fits_shape, fit_elements, start_fits, sorts_of, is_wide, is_refused_number, is_out_of_range, tells}
use Rattle.nxt_nbc_lines.specs.Held.{held, held_term, held_given, held_form, held_formed}
use Rattle.nxt_nbc_lines.proofs.Laws.HeldNumbers.{narrow_same, fits_same}
use Rattle.nxt_nbc_lines.proofs.Laws.HeldSources.{held_forms}

-- ---- starting values

all_fit : (s : Shape) (zs : List ℤ) → list_all (fits_shape s) zs ≡ true → map held zs ≡ zs
all_fit s [] e = refl
all_fit s (z ∷ zs) e =
    let p = and_parts (fits_shape s z) (list_all (fits_shape s) zs) e in
    ap (λ y. y ∷ map held zs) (fits_same s z p.0) ∙ ap (λ ys. z ∷ ys) (all_fit s zs p.1)

elements_same : (s : Shape) (zs : List ℤ) → fit_elements s zs ≡ true → map held zs ≡ zs
elements_same (Array n s) zs e = all_fit s zs e
elements_same s zs e = absurd (both_ways false refl e)

given_same : (s : Shape) (g : Given) → start_fits s g ≡ true → held_given g ≡ g
given_same s Nothing e = refl
given_same s (One z) e = ap One (fits_same s z e)
given_same s (Many zs) e = ap Many (elements_same s zs e)
given_same s (Bytes bytes) e = refl

-- ---- operands

wide_same : (src : Source) (line : ℕ) (t : Term) → is_wide (denoted src line t) ≡ false → held_term t ≡ t
wide_same src line (Literal z) e = ap Literal (narrow_same z e)
wide_same src line (Named ns) e = refl
wide_same src line (Quote s) e = refl

-- the operands from operand k on, of all those of a statement
operands_same : (src : Source) (line : ℕ) (op : Op) (all : List Term) (k : ℕ) (ts : List Term) → list_any (is_refused_number src line op all) (enumerate_from k ts) ≡ false → map held_term ts ≡ ts
operands_same src line op all k [] e = refl
operands_same src line op all k (t ∷ ts) e =
    let p = or_parts (is_refused_number src line op all (k, t)) (list_any (is_refused_number src line op all) (enumerate_from (k + 1) ts)) e in
    let w = or_parts (is_wide (denoted src line t)) (not (is_allowed op (sorts_of src line op all) k)) p.0 in
    ap (λ u. u ∷ map held_term ts) (wide_same src line t w.0) ∙ ap (λ us. t ∷ us) (operands_same src line op all (k + 1) ts p.1)

-- a number is no thread, and no subroutine
thread_same : (src : Source) (line : ℕ) (t : Term) → not (is_thread (denoted src line t)) ≡ false → held_term t ≡ t
thread_same src line (Literal z) e = absurd (both_ways true e refl)
thread_same src line (Named ns) e = refl
thread_same src line (Quote s) e = refl

subroutine_same : (src : Source) (line : ℕ) (t : Term) → not (is_subroutine (denoted src line t)) ≡ false → held_term t ≡ t
subroutine_same src line (Literal z) e = absurd (both_ways true e refl)
subroutine_same src line (Named ns) e = refl
subroutine_same src line (Quote s) e = refl

threads_same : (src : Source) (line : ℕ) (ts : List Term) → ((k : ℕ) → is_no_thread src line (slice_get ts k) ≡ false) → map held_term ts ≡ ts
threads_same src line [] none = refl
threads_same src line (t ∷ ts) none =
    ap (λ u. u ∷ map held_term ts) (thread_same src line t (none zero)) ∙ ap (λ us. t ∷ us) (threads_same src line ts (λ k. none (suc k)))

-- ---- forms

form_same : (src : Source) (line : ℕ) (f : Form) → is_out_of_range src line f ≡ false → ((k : ℕ) → is_wrong_kind src line k f ≡ false) → held_form f ≡ f
form_same src line (Declare n t g) e none =
    let s = shape_at src.types line t in
    ap (Declare n t) (given_same s g (not-false (start_fits s g) e))
form_same src line (Precedes ts) e none = ap Precedes (threads_same src line ts (λ k. none (suc k)))
form_same src line (Follows ts) e none = ap Follows (threads_same src line ts (λ k. none (suc k)))
form_same src line (ExitTo t) e none = ap ExitTo (thread_same src line t (none 1))
form_same src line (Call t) e none = ap Call (subroutine_same src line t (none 1))
form_same src line (Do label op cmp ts) e none = ap (Do label op cmp) (operands_same src line op ts 0 ts e)
form_same src line f e none = refl

-- ---- the forms of a text

here_by : (test : Form → Bool) (f : Form) (fs : List Form) (c : Bool) → c ≡ true → list_any test (cons_option (if c then Some f else None) fs) ≡ false → test f ≡ false
here_by test f fs true i e = (or_parts (test f) (list_any test fs) e).0
here_by test f fs false i e = absurd (both_ways false refl i)

-- a test that fails at a line fails at the first form, if that is its line, and behind it
here : (test : Form → Bool) (l : ℕ) (f : Form) (fs : List (ℕ × Form)) → list_any test (at_line l ((l, f) ∷ fs)) ≡ false → test f ≡ false
here test l f fs e = here_by test f (at_line l fs) (l == l) (eq-eqb l l refl) e

behind_by : (test : Form → Bool) (f : Form) (fs : List Form) (c : Bool) → list_any test (cons_option (if c then Some f else None) fs) ≡ false → list_any test fs ≡ false
behind_by test f fs true e = (or_parts (test f) (list_any test fs) e).1
behind_by test f fs false e = e

behind : (test : Form → Bool) (line l : ℕ) (f : Form) (fs : List (ℕ × Form)) → list_any test (at_line line ((l, f) ∷ fs)) ≡ false → list_any test (at_line line fs) ≡ false
behind test line l f fs e = behind_by test f (at_line line fs) (l == line) e

forms_same : (src : Source) (fs : List (ℕ × Form)) → ((line : ℕ) → list_any (is_out_of_range src line) (at_line line fs) ≡ false)
    → ((line k : ℕ) → list_any (is_wrong_kind src line k) (at_line line fs) ≡ false) → held_forms fs ≡ fs
forms_same src [] ranges kinds = refl
forms_same src ((l, f) ∷ fs) ranges kinds =
    ap (λ g. (l, g) ∷ held_forms fs) (form_same src l f (here (is_out_of_range src l) l f fs (ranges l)) (λ k. here (is_wrong_kind src l k) l f fs (kinds l k)))
    ∙ ap (λ gs. (l, f) ∷ gs) (forms_same src fs (λ line. behind (is_out_of_range src line) line l f fs (ranges line)) (λ line k. behind (is_wrong_kind src line k) line l f fs (kinds line k)))

abbrev with_forms : Formed → List (ℕ × Form) → Formed
with_forms fd fs = record fd { forms = fs }

-- where no rule is broken the forms are held as they are
pub held_same : (fd : Formed) → ((f : TextFault) → IsTrue (tells fd f) → ⊥) → held_formed fd ≡ fd
held_same fd none =
    ap (with_forms fd) (forms_same (source_of fd.forms) fd.forms
    (λ line. false_from_ne_true (tells fd (OutOfRange line)) (none (OutOfRange line)))
    (λ line k. false_from_ne_true (tells fd (WrongKind line k)) (none (WrongKind line k))))
