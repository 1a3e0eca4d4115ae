-- The first operand of a line that is of a wrong kind, and the first line that has one.
use Rattle.std.proofs.Common.{◌≡◌, ℕ, zero, suc, ◌+◌, ◌<◌, ◌≤◌, ◌==◌, nat_lt, Bool, true, false, not, ◌&&◌, List, [], ◌∷◌, drop, length, map, get_or, Option, Some, None, refl, sym, ap, subst, ◌∙◌, arith}
use Rattle.std.specs.Prelude.{if◌then◌else◌}
use Rattle.std.proofs.lemmas.Bool.{and_left}
use Rattle.std.proofs.lemmas.Bool.Decides.{nat_tests}
use Rattle.std.proofs.lemmas.Option.{slice_get_past}
use Rattle.nxt_model.specs.Nbc.Forms as forms
use Rattle.nxt_model.specs.Nbc.Forms.{Form, Formed}
use Rattle.nxt_model.specs.Nbc.Text.{Source, denoted, source_of}
use Rattle.nxt_model.specs.Nbc.NbcRules.{WrongKind, is_mutex_type, is_no_thread, is_subroutine, is_wrong_kind, is_wrong_term, tells}
use Rattle.nxt_nbc_lines.specs.Firsts.{Ascends, IsLeast, IsLeastPair, first_pair, pair_or}
use Rattle.nxt_nbc_lines.specs.Seen.{form_seen, line_form_seen}
use Rattle.nxt_nbc_lines.specs.declared.forms.LineForm.{LineForm}
use Rattle.nxt_nbc_lines.proofs.Laws.FirstRules.{least_kind}

-- ---- the least number that a test finds

-- the first number from k on, among so many, that a test finds
abbrev first_from : (ℕ → Bool) → ℕ → ℕ → Option ℕ
first_from test k zero = None
first_from test k (suc n) = if test k then Some k else first_from test (k + 1) n

module _ (test : ℕ → Bool) where
  same_or_less : (k j : ℕ) (b : Bool) → nat_lt j k ≡ b → test k ≡ false → ((i : ℕ) → i < k → test i ≡ false) → j < k + 1 → test j ≡ false
  same_or_less k j true e here before under = before j (grind (arith, nat_tests))
  same_or_less k j false e here before under =
      let same : k ≡ j = grind (arith, nat_tests) in
      subst (λ i. test i ≡ false) same here

  least_from : (k n : ℕ) → ((j : ℕ) → j < k → test j ≡ false) → ((j : ℕ) → k + n ≤ j → test j ≡ false) → IsLeast test (first_from test k n)
  least_from k zero before after = λ j. by j (nat_lt j k) refl
    where
      by : (j : ℕ) (b : Bool) → nat_lt j k ≡ b → test j ≡ false
      by j true e = before j (grind (arith, nat_tests))
      by j false e = after j (grind (arith, nat_tests))
  least_from k (suc n) before after = by (test k) refl (λ none. least_from (k + 1) n (λ j under. same_or_less k j (nat_lt j k) refl none before under) (λ j over. after j (omega (arith, over))))
    where
      by : (b : Bool) → test k ≡ b → (test k ≡ false → IsLeast test (first_from test (k + 1) n)) → IsLeast test (if b then Some k else first_from test (k + 1) n)
      by true e later = (e, before)
      by false e later = later e

  pub least_unique : (a b : Option ℕ) → IsLeast test a → IsLeast test b → a ≡ b
  least_unique None None none other = refl
  least_unique None (Some k) none least = let f : true ≡ false = sym least.0 ∙ none k in let g : ⊥ = cc in absurd g
  least_unique (Some k) None least none = let f : true ≡ false = sym least.0 ∙ none k in let g : ⊥ = cc in absurd g
  least_unique (Some k) (Some l) least other = ap Some (by (nat_lt k l) (nat_lt l k) refl refl)
    where
      by : (b d : Bool) → nat_lt k l ≡ b → nat_lt l k ≡ d → k ≡ l
      by true d e f =
          let under : k < l = grind (arith, nat_tests) in
          let g : true ≡ false = sym least.0 ∙ other.1 k under in
          let h : ⊥ = cc in
          absurd h
      by false true e f =
          let under : l < k = grind (arith, nat_tests) in
          let g : true ≡ false = sym other.0 ∙ least.1 l under in
          let h : ⊥ = cc in
          absurd h
      by false false e f = grind (arith, nat_tests)

-- ---- lines

-- how many operands of a line can be of a wrong kind
abbrev operand_count : Form → ℕ
operand_count (forms.Do label op cmp ts) = length ts
operand_count (forms.Precedes ts) = length ts
operand_count (forms.Follows ts) = length ts
operand_count f = 1

abbrev pub first_wrong : Source → ℕ → Form → Option ℕ
first_wrong src line f = first_from (λ k. is_wrong_kind src line k f) 1 (operand_count f)

not_first : (k : ℕ) (b : Bool) → 1 ≤ k → (k == 0 && b) ≡ false
not_first k b over =
    let later : (k == 0) ≡ false = grind (arith, nat_tests) in
    and_left (k == 0) b later

none_past : (src : Source) (line : ℕ) (f : Form) (k : ℕ) → operand_count f ≤ k → is_wrong_kind src line (suc k) f ≡ false
none_past src line (forms.Do label op cmp ts) k over =
    let outside : nat_lt k (length ts) ≡ false = grind (arith, nat_tests) in
    and_left (nat_lt k (length ts)) (is_wrong_term src line op ts k) outside
none_past src line (forms.Call t) k over = not_first k (not (is_subroutine (denoted src line t))) over
none_past src line (forms.ExitTo t) k over = not_first k (is_no_thread src line (Some t)) over
none_past src line (forms.Precedes ts) k over = ap (is_no_thread src line) (slice_get_past ts k over)
none_past src line (forms.Follows ts) k over = ap (is_no_thread src line) (slice_get_past ts k over)
none_past src line (forms.Member n t) k over = not_first k (is_mutex_type t) over
none_past src line (forms.Declare n t g) k over =
    let later : (k == 0) ≡ false = grind (arith, nat_tests) in
    ap (λ b. b && nat_lt 0 t.arrays && is_mutex_type t) later
none_past src line f k over = refl

first_least : (src : Source) (line : ℕ) (f : Form) → IsLeast (λ k. is_wrong_kind src line k f) (first_wrong src line f)
first_least src line f = least_from (λ k. is_wrong_kind src line k f) 1 (operand_count f) before (λ j over. after j over)
  where
    before : (j : ℕ) → j < 1 → is_wrong_kind src line j f ≡ false
    before zero under = refl
    before (suc j) under = absurd (omega arith)

    after : (j : ℕ) → 1 + operand_count f ≤ j → is_wrong_kind src line j f ≡ false
    after zero over = refl
    after (suc j) over = none_past src line f j (omega arith)

pub first_is : (src : Source) (line : ℕ) (f : Form) (o : Option ℕ) → IsLeast (λ k. is_wrong_kind src line k f) o → first_wrong src line f ≡ o
first_is src line f o least = least_unique (λ k. is_wrong_kind src line k f) (first_wrong src line f) o (first_least src line f) least

-- ---- the first line that has one

-- by what the text declares
pub least_line : (fd : Formed) (src : Source) (o : Option (ℕ × ℕ)) → Ascends 0 fd.forms → src ≡ source_of fd.forms → first_pair (first_wrong src) fd.forms ≡ o
    → IsLeastPair (λ l k. tells fd (WrongKind l k)) o
least_line fd src o up of is =
    subst (IsLeastPair (λ l k. tells fd (WrongKind l k))) (ap (λ s. first_pair (first_wrong s) fd.forms) (sym of) ∙ is)
    (least_kind fd 0 up (first_wrong (source_of fd.forms)) (first_least (source_of fd.forms)))

module _ (src : Source) (lines : List LineForm) where
  pair_here : (fs : List LineForm) (i : ℕ) (d : LineForm) → i < length fs
      → (let f = get_or fs i d in first_pair (first_wrong src) (map line_form_seen (drop i fs)) ≡ pair_or f.line (first_wrong src f.line (form_seen f.form)) (first_pair (first_wrong src) (map line_form_seen (drop (suc i) fs))))
  pair_here [] i d under = absurd (omega arith)
  pair_here (f ∷ fs) zero d under = refl
  pair_here (f ∷ fs) (suc i) d under = pair_here fs i d (omega arith)

  -- by the first operand of the line at i
  pub pair_at : (i : ℕ) (d : LineForm) (o : Option ℕ) → i < length lines → d ≡ get_or lines i d
      → first_pair (first_wrong src) (map line_form_seen lines) ≡ first_pair (first_wrong src) (map line_form_seen (drop i lines))
      → IsLeast (λ k. is_wrong_kind src d.line k (form_seen d.form)) o
      → first_pair (first_wrong src) (map line_form_seen lines) ≡ pair_or d.line o (first_pair (first_wrong src) (map line_form_seen (drop (i + 1) lines)))
  pair_at i d o under there before least =
      let later = first_pair (first_wrong src) (map line_form_seen (drop (i + 1) lines)) in
      let next : suc i ≡ i + 1 = omega arith in
      before
      ∙ pair_here lines i d under
      ∙ ap (λ j. let f = get_or lines i d in pair_or f.line (first_wrong src f.line (form_seen f.form)) (first_pair (first_wrong src) (map line_form_seen (drop j lines)))) next
      ∙ ap (λ (f : LineForm). pair_or f.line (first_wrong src f.line (form_seen f.form)) later) (sym there)
      ∙ ap (λ p. pair_or d.line p later) (first_is src d.line (form_seen d.form) o least)

  pub none_left : (i : ℕ) → length lines ≤ i → first_pair (first_wrong src) (map line_form_seen lines) ≡ first_pair (first_wrong src) (map line_form_seen (drop i lines))
      → first_pair (first_wrong src) (map line_form_seen lines) ≡ None
  none_left i over before = before ∙ ap (λ fs. first_pair (first_wrong src) (map line_form_seen fs)) (dropped lines i over)
    where
      dropped : (fs : List LineForm) (i : ℕ) → length fs ≤ i → drop i fs ≡ []
      dropped [] zero over = refl
      dropped [] (suc i) over = refl
      dropped (f ∷ fs) zero over = absurd (omega arith)
      dropped (f ∷ fs) (suc i) over = dropped fs i (omega arith)
