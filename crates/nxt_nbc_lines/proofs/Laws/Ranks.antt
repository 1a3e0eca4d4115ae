-- A rule that is broken at its least place, where those of a lesser number are kept, is why a text is refused.
use Rattle.std.proofs.Common.{◌≡◌, ℕ, suc, ◌<◌, ◌≤◌, Bool, true, false, ◌&&◌, ◌==◌, nat_lt, List, [], ◌∷◌, Some, Err, IsTrue, ◌⊎◌, refl, sym, ap, ◌∙◌, inl, inr, arith, eq-eqb, lt-ltb}
use Rattle.std.proofs.lemmas.Bool.{cases_lt, cases_order, or_left, or_right, and_from, both_ways}
use Rattle.nxt_types.specs.Refusals.{comes_first, IsRefusal}
use Rattle.nxt_model.specs.Nbc.Tokens.{Token, tokens_of, lines_of}
use Rattle.nxt_model.specs.Nbc.Forms.{Formed, formed}
use Rattle.nxt_model.specs.Nbc.NbcRules.{TextFault, Lex, Syntax, UnknownName, TwiceNamed, WrongKind, OutOfRange, NoMain, TooMany, OfForms, tells, Broken, rank}
use Rattle.nxt_nbc_lines.specs.Firsts.{IsLeast, IsLeastPair, HasForms, rule_of, place_of, Keeps}
use Rattle.nxt_nbc_lines.proofs.Laws.{one_list, one_line, not_refused}
use Rattle.nxt_nbc_lines.proofs.Laws.HeldRules.{held_tells}

-- ---- what the held forms tell

-- a rule says the same of the forms that the program holds and of those of the text
pub same_tells : (text : List ℕ) (ts : List Token) (fd : Formed) → HasForms text ts fd → (f : TextFault) → tells fd f ≡ tells (formed (lines_of text ts)) f
same_tells text ts fd h f = ap (λ d. tells d f) h.1 ∙ held_tells (formed (lines_of text ts)) f

of_forms : (text : List ℕ) (ts : List Token) (fd : Formed) → HasForms text ts fd → (f : TextFault) → OfForms text (λ d. tells d f) → tells fd f ≡ true
of_forms text ts fd h f b =
    same_tells text ts fd h f ∙ ap (λ us. tells (formed (lines_of text us)) f) (sym (one_list text ts b.0 h.0 b.1)) ∙ b.2

-- where a rule is broken the held forms tell it
pub told : (text : List ℕ) (ts : List Token) (fd : Formed) → HasForms text ts fd → (f : TextFault) → Broken text f → tells fd f ≡ true
told text ts fd h (Lex line) b = absurd (not_refused text ts line h.0 b)
told text ts fd h f b = of_forms text ts fd h f b

-- where the held forms tell it the rule is broken
pub broken_from : (text : List ℕ) (ts : List Token) (fd : Formed) → HasForms text ts fd → (f : TextFault) → tells fd f ≡ true → Broken text f
broken_from text ts fd h (Lex line) e = absurd (both_ways false refl e)
broken_from text ts fd h f e = (ts, h.0, sym (same_tells text ts fd h f) ∙ e)

-- ---- order

rank_is : (f : TextFault) → rank f ≡ rule_of f ∷ place_of f
rank_is (Lex line) = refl
rank_is (Syntax line) = refl
rank_is (UnknownName line) = refl
rank_is (TwiceNamed line) = refl
rank_is (WrongKind line k) = refl
rank_is (OutOfRange line) = refl
rank_is NoMain = refl
rank_is (TooMany case) = refl

by_parts : (f g : TextFault) → comes_first (rule_of f ∷ place_of f) (rule_of g ∷ place_of g) ≡ true → comes_first (rank f) (rank g) ≡ true
by_parts f g h = ap (λ r. comes_first r (rank g)) (rank_is f) ∙ ap (λ r. comes_first (rule_of f ∷ place_of f) r) (rank_is g) ∙ h

lesser_rule : (f g : TextFault) → rule_of f < rule_of g → comes_first (rank f) (rank g) ≡ true
lesser_rule f g lt =
    by_parts f g (or_left (nat_lt (rule_of f) (rule_of g)) ((rule_of f == rule_of g) && comes_first (place_of f) (place_of g)) (lt-ltb (rule_of f) (rule_of g) lt))

same_rule : (f g : TextFault) → rule_of f ≡ rule_of g → comes_first (place_of f) (place_of g) ≡ true → comes_first (rank f) (rank g) ≡ true
same_rule f g e h =
    let both : (rule_of f == rule_of g) && comes_first (place_of f) (place_of g) ≡ true =
    and_from (rule_of f == rule_of g) (comes_first (place_of f) (place_of g)) (eq-eqb (rule_of f) (rule_of g) e) h in
    by_parts f g (or_right (nat_lt (rule_of f) (rule_of g)) ((rule_of f == rule_of g) && comes_first (place_of f) (place_of g)) both)

-- one list of numbers before another
ahead : (a b : ℕ) (more others : List ℕ) → (a < b) ⊎ ((a ≡ b) × (comes_first more others ≡ true)) → comes_first (a ∷ more) (b ∷ others) ≡ true
ahead a b more others (inl lt) = or_left (nat_lt a b) ((a == b) && comes_first more others) (lt-ltb a b lt)
ahead a b more others (inr h) =
    or_right (nat_lt a b) ((a == b) && comes_first more others) (and_from (a == b) (comes_first more others) (eq-eqb a b h.0) h.1)

-- one number before another
pub number_ahead : (a b : ℕ) → a ≤ b → comes_first (a ∷ []) (b ∷ []) ≡ true
number_ahead a b le = ahead a b [] [] (elim (cases_lt a b) as (λ _. (a < b) ⊎ ((a ≡ b) × (true ≡ true))) [ inl lt ↦ inl lt | inr ge ↦ inr (omega (arith, le, ge), refl) ])

-- ---- the least place

not_below : (t : ℕ → Bool) (k l : ℕ) → (l < k → t l ≡ false) → t l ≡ true → k ≤ l
not_below t k l none e = elim (cases_lt l k) as (λ _. k ≤ l) [ inl lt ↦ absurd (both_ways (t l) (none lt) e) | inr ge ↦ ge ]

-- the least line at which a test says yes is ahead of each other one
pub line_ahead : (t : ℕ → Bool) (line l : ℕ) → IsLeast t (Some line) → t l ≡ true → comes_first (line ∷ []) (l ∷ []) ≡ true
line_ahead t line l h e = number_ahead line l (not_below t line l (h.1 l) e)

-- so is the least operand at the least line
pub pair_ahead : (t : ℕ → ℕ → Bool) (line k l j : ℕ) → IsLeastPair t (Some (line, k)) → t l j ≡ true → comes_first (line ∷ k ∷ []) (l ∷ j ∷ []) ≡ true
pair_ahead t line k l j h e = by (cases_order line l)
  where
    by : (line ≡ l) ⊎ ((line < l) ⊎ (l < line)) → comes_first (line ∷ k ∷ []) (l ∷ j ∷ []) ≡ true
    by (inl same) =
        let here : t line j ≡ true = ap (λ m. t m j) same ∙ e in
        ahead line l (k ∷ []) (j ∷ []) (inr (same, number_ahead k j (not_below (t line) k j (h.2 j) here)))
    by (inr (inl lt)) = ahead line l (k ∷ []) (j ∷ []) (inl lt)
    by (inr (inr gt)) = absurd (both_ways (t l j) (h.1 l j gt) e)

-- ---- one rule after another

-- the next rule is kept too
pub keeps_more : (fd : Formed) (n : ℕ) → Keeps fd n → ((f : TextFault) → rule_of f ≡ suc n → tells fd f ≡ false) → Keeps fd (suc n)
keeps_more fd n kept next f le =
    elim (cases_lt n (rule_of f)) as (λ _. tells fd f ≡ false) [ inl lt ↦ next f (omega (arith, lt, le)) | inr ge ↦ kept f ge ]

-- the next rule is broken, and a place where it is broken is ahead of the others
pub refused : (text : List ℕ) (ts : List Token) (fd : Formed) → HasForms text ts fd → (n : ℕ) → Keeps fd n
    → (f : TextFault) → rule_of f ≡ suc n → tells fd f ≡ true
    → ((g : TextFault) → rule_of g ≡ suc n → tells fd g ≡ true → comes_first (place_of f) (place_of g) ≡ true) → IsRefusal (Broken text) rank f
refused text ts fd h n kept f at here least =
    record { broken = broken_from text ts fd h f here; least = λ g b. by g (told text ts fd h g b) (cases_order (rule_of f) (rule_of g)) }
  where
    by : (g : TextFault) → tells fd g ≡ true → (rule_of f ≡ rule_of g) ⊎ ((rule_of f < rule_of g) ⊎ (rule_of g < rule_of f)) → IsTrue (comes_first (rank f) (rank g))
    by g e (inl same) = same_rule f g same (least g (sym same ∙ at) e)
    by g e (inr (inl lt)) = lesser_rule f g lt
    by g e (inr (inr gt)) = absurd (both_ways (tells fd g) (kept g (omega (arith, gt, at))) e)

-- no token begins at a line
pub lex_refused : (text : List ℕ) (line : ℕ) → tokens_of text ≡ Err line → IsRefusal (Broken text) rank (Lex line)
lex_refused text line e = record { broken = e; least = by }
  where
    by : (g : TextFault) → Broken text g → IsTrue (comes_first (rank (Lex line)) (rank g))
    by (Lex l) b = number_ahead line l (omega (arith, one_line text line l e b))
    by g b = absurd (not_refused text b.0 line b.1 e)
