-- The line of the first form that a test finds is the least line at which it finds a form.
use Rattle.std.proofs.Common.{◌≡◌, ℕ, zero, suc, ◌<◌, ◌≤◌, min, Bool, true, false, ◌||◌, ◌==◌, List, [], ◌∷◌, Option, Some, None, option_map, refl, sym, ap, ◌∙◌, subst, inl, inr, arith, eq-eqb, ne_eqb, eqb-true}
use Rattle.std.specs.Prelude.{if◌then◌else◌}
use Rattle.std.specs.List.{cons_option, list_any}
use Rattle.std.proofs.Math.Nat.{min-eq_left, min-eq_right}
use Rattle.std.proofs.lemmas.Bool.{cases_lt, or_from, or_left, or_right}
use Rattle.nxt_model.specs.Nbc.Forms.{Form}
use Rattle.nxt_model.specs.Nbc.Text.{Source, Block, LabelAt, labels_from}
use Rattle.nxt_model.specs.Nbc.NbcRules.{at_line, is_at, in_blocks}
use Rattle.nxt_nbc_lines.specs.Firsts.{Ascends, IsLeast, first_line, lesser, IsLeastPair, pair_or, first_pair, BlocksAscend, first_in_blocks}

-- ---- the forms at a line

-- at another line than that of the first form
other_at : (line l : ℕ) (f : Form) (fs : List (ℕ × Form)) → (l ≡ line → ⊥) → at_line line ((l, f) ∷ fs) ≡ at_line line fs
other_at line l f fs other = ap (λ c. cons_option (if c then Some f else None) (at_line line fs)) (ne_eqb l line other)

-- below all forms
none_at : (line n : ℕ) (fs : List (ℕ × Form)) → Ascends n fs → line ≤ n → at_line line fs ≡ []
none_at line n [] up le = refl
none_at line n ((l, f) ∷ fs) up le =
    other_at line l f fs (λ e. let no : ⊥ = omega (arith, e, up.0, le) in no) ∙ none_at line l fs up.1 (omega (arith, up.0, le))

-- at the line of the first form, which is below the others
first_at : (l : ℕ) (f : Form) (fs : List (ℕ × Form)) → Ascends l fs → at_line l ((l, f) ∷ fs) ≡ f ∷ []
first_at l f fs up =
    ap (λ c. cons_option (if c then Some f else None) (at_line l fs)) (eq-eqb l l refl) ∙ ap (λ gs. f ∷ gs) (none_at l l fs up (omega arith))

-- below the first form
below_first : (line l : ℕ) (f : Form) (fs : List (ℕ × Form)) → Ascends l fs → line < l → at_line line ((l, f) ∷ fs) ≡ []
below_first line l f fs up lt =
    other_at line l f fs (λ e. let no : ⊥ = omega (arith, e, lt) in no) ∙ none_at line l fs up (omega (arith, lt))

-- ---- the first line

-- a test finds a form at a line
abbrev pub finds : (ℕ → Form → Bool) → List (ℕ × Form) → ℕ → Bool
finds test fs line = list_any (test line) (at_line line fs)

-- a test that says the same has the same least line
pub least_like : (t u : ℕ → Bool) → ((l : ℕ) → t l ≡ u l) → (o : Option ℕ) → IsLeast u o → IsLeast t o
least_like t u same None h = λ l. same l ∙ h l
least_like t u same (Some line) h = (same line ∙ h.0, λ l lt. same l ∙ h.1 l lt)

pass_by : (test : Form → Bool) (f : Form) (fs : List Form) (c : Bool) → (c ≡ true → test f ≡ false)
    → list_any test (cons_option (if c then Some f else None) fs) ≡ list_any test fs
pass_by test f fs true none = ap (λ b. b || list_any test fs) (none refl)
pass_by test f fs false none = refl

-- what a test finds does not depend on a first form that it does not find
pass_first : (test : ℕ → Form → Bool) (line : ℕ) (f : Form) (fs : List (ℕ × Form)) → test line f ≡ false → (l : ℕ)
    → finds test ((line, f) ∷ fs) l ≡ finds test fs l
pass_first test line f fs none l =
    pass_by (test l) f (at_line l fs) (line == l) (λ e. ap (λ k. test k f) (sym (eqb-true line l e)) ∙ none)

first_by : (test : ℕ → Form → Bool) (line : ℕ) (f : Form) (fs : List (ℕ × Form)) (o : Option ℕ) (c : Bool) → Ascends line fs → test line f ≡ c
    → IsLeast (finds test fs) o → IsLeast (finds test ((line, f) ∷ fs)) (if c then Some line else o)
first_by test line f fs o true up e h =
    (ap (list_any (test line)) (first_at line f fs up) ∙ ap (λ b. b || false) e, λ l lt. ap (list_any (test l)) (below_first l line f fs up lt))
first_by test line f fs o false up e h = least_like (finds test ((line, f) ∷ fs)) (finds test fs) (pass_first test line f fs e) o h

-- the first form that a test finds has the least line
pub least_first : (test : ℕ → Form → Bool) (n : ℕ) (fs : List (ℕ × Form)) → Ascends n fs
    → IsLeast (λ line. list_any (test line) (at_line line fs)) (first_line test fs)
least_first test n [] up = λ l. refl
least_first test n ((line, f) ∷ fs) up =
    first_by test line f fs (first_line test fs) (test line f) up.1 refl (least_first test line fs up.1)

-- ---- one of two tests

abbrev either : (ℕ → Bool) → (ℕ → Bool) → ℕ → Bool
either t u l = t l || u l

left_first : (t u : ℕ → Bool) (a b : ℕ) → a ≤ b → IsLeast t (Some a) → IsLeast u (Some b) → IsLeast (either t u) (Some a)
left_first t u a b le h k =
    (or_left (t a) (u a) h.0, λ l lt. or_from (t l) (u l) (h.1 l lt) (k.1 l (omega (arith, lt, le))))

right_first : (t u : ℕ → Bool) (a b : ℕ) → b ≤ a → IsLeast t (Some a) → IsLeast u (Some b) → IsLeast (either t u) (Some b)
right_first t u a b le h k =
    (or_right (t b) (u b) k.0, λ l lt. or_from (t l) (u l) (h.1 l (omega (arith, lt, le))) (k.1 l lt))

-- what either of two tests finds first is the lesser of what each finds first
pub least_lesser : (t u : ℕ → Bool) (o p : Option ℕ) → IsLeast t o → IsLeast u p → IsLeast (λ l. t l || u l) (lesser o p)
least_lesser t u None None h k = λ l. or_from (t l) (u l) (h l) (k l)
least_lesser t u None (Some b) h k = (or_right (t b) (u b) k.0, λ l lt. or_from (t l) (u l) (h l) (k.1 l lt))
least_lesser t u (Some a) None h k = (or_left (t a) (u a) h.0, λ l lt. or_from (t l) (u l) (h.1 l lt) (k l))
least_lesser t u (Some a) (Some b) h k =
    elim (cases_lt a b) as (λ _. IsLeast (either t u) (Some (min a b))) [
      | inl lt ↦ subst (λ c. IsLeast (either t u) (Some c)) (sym (min-eq_left (omega (arith, lt)))) (left_first t u a b (omega (arith, lt)) h k)
      | inr ge ↦ subst (λ c. IsLeast (either t u) (Some c)) (sym (min-eq_right ge)) (right_first t u a b ge h k)
    ]

-- a line is the least one that is this line
pub least_at : (o : Option ℕ) → IsLeast (λ line. is_at line o) o
least_at None = λ l. refl
least_at (Some line) = (eq-eqb line line refl, λ l lt. ne_eqb line l (λ e. let no : ⊥ = omega (arith, e, lt) in no))

-- ---- operands

-- the first of operands that are counted from 1
pub least_from_one : (t : ℕ → Bool) (o : Option ℕ) → t 0 ≡ false → IsLeast (λ k. t (suc k)) o → IsLeast t (option_map suc o)
least_from_one t None zeroth h = from
  where
    from : (k : ℕ) → t k ≡ false
    from zero = zeroth
    from (suc k) = h k
least_from_one t (Some n) zeroth h = (h.0, from)
  where
    from : (k : ℕ) → k < suc n → t k ≡ false
    from zero lt = zeroth
    from (suc k) lt = h.1 k (omega (arith, lt))

abbrev finds_operand : (ℕ → ℕ → Form → Bool) → List (ℕ × Form) → ℕ → ℕ → Bool
finds_operand wrong fs line k = list_any (wrong line k) (at_line line fs)

pair_like : (t u : ℕ → ℕ → Bool) → ((l k : ℕ) → t l k ≡ u l k) → (o : Option (ℕ × ℕ)) → IsLeastPair u o → IsLeastPair t o
pair_like t u same None h = λ l k. same l k ∙ h l k
pair_like t u same (Some (line, k)) h = (same line k ∙ h.0, λ l j lt. same l j ∙ h.1 l j lt, λ j lt. same line j ∙ h.2 j lt)

pair_by : (wrong : ℕ → ℕ → Form → Bool) (line : ℕ) (f : Form) (fs : List (ℕ × Form)) (o : Option ℕ) (later : Option (ℕ × ℕ)) → Ascends line fs
    → IsLeast (λ k. wrong line k f) o → IsLeastPair (finds_operand wrong fs) later
    → IsLeastPair (finds_operand wrong ((line, f) ∷ fs)) (pair_or line o later)
pair_by wrong line f fs (Some k) later up h rest =
    let here : (j : ℕ) (c : Bool) → wrong line j f ≡ c → finds_operand wrong ((line, f) ∷ fs) line j ≡ (c || false) =
    λ j c e. ap (list_any (wrong line j)) (first_at line f fs up) ∙ ap (λ b. b || false) e in
    (here k true h.0, λ l j lt. ap (list_any (wrong l j)) (below_first l line f fs up lt), λ j lt. here j false (h.1 j lt))
pair_by wrong line f fs None later up h rest =
    pair_like (finds_operand wrong ((line, f) ∷ fs)) (finds_operand wrong fs) (λ l j. pass_first (λ m. wrong m j) line f fs (h j) l) later rest

-- by the first operand of each form that is wrong
pub least_pair : (wrong : ℕ → ℕ → Form → Bool) (first : ℕ → Form → Option ℕ) → ((line : ℕ) (f : Form) → IsLeast (λ k. wrong line k f) (first line f))
    → (n : ℕ) (fs : List (ℕ × Form)) → Ascends n fs → IsLeastPair (λ line k. list_any (wrong line k) (at_line line fs)) (first_pair first fs)
least_pair wrong first each n [] up = λ l j. refl
least_pair wrong first each n ((line, f) ∷ fs) up =
    pair_by wrong line f fs (first line f) (first_pair first fs) up.1 (each line f) (least_pair wrong first each line fs up.1)

-- ---- blocks

among_blocks : (test : ℕ → List LabelAt → Form → Bool) (bs : List Block) → BlocksAscend bs
    → IsLeast (λ line. list_any (λ b. list_any (test line (labels_from 0 b.items)) (at_line line b.items)) bs) (first_in_blocks test bs)
among_blocks test [] up = λ l. refl
among_blocks test (b ∷ bs) up =
    let ls = labels_from 0 b.items in
    least_lesser (λ line. list_any (test line ls) (at_line line b.items)) (λ line. list_any (λ c. list_any (test line (labels_from 0 c.items)) (at_line line c.items)) bs)
    (first_line (λ line f. test line ls f) b.items) (first_in_blocks test bs)
    (least_first (λ line f. test line ls f) b.line b.items up.0) (among_blocks test bs up.1)

-- by the first form of each block
pub least_in_blocks : (test : ℕ → List LabelAt → Form → Bool) (src : Source) → BlocksAscend src.blocks
    → IsLeast (λ line. in_blocks src line (test line)) (first_in_blocks test src.blocks)
least_in_blocks test src up = among_blocks test src.blocks up
