-- What refuses a text, rule by rule.
use Rattle.std.proofs.Common.{◌≡◌, ℕ, zero, suc, ◌≤◌, true, false, List, [], ◌∷◌, Some, None, refl, sym, ap, ◌∙◌, arith}
use Rattle.std.proofs.lemmas.Bool.{both_ways}
use Rattle.nxt_types.specs.Refusals.{comes_first, IsRefusal, IsAccepted}
use Rattle.nxt_model.specs.Nbc.Tokens.{Token, lines_of}
use Rattle.nxt_model.specs.Nbc.Forms.{Formed, formed}
use Rattle.nxt_model.specs.Nbc.NbcRules.{TextFault, Lex, Syntax, UnknownName, TwiceNamed, WrongKind, OutOfRange, NoMain, TooMany, tells, Broken, rank}
use Rattle.nxt_nbc_lines.specs.Firsts.{IsLeast, IsLeastPair, HasForms, rule_of, place_of, Keeps}
use Rattle.nxt_nbc_lines.proofs.Laws.HeldSame.{held_same}
use Rattle.nxt_nbc_lines.proofs.Laws.Ranks.{same_tells, told, number_ahead, line_ahead, pair_ahead, keeps_more, refused}

-- ---- rules that tell a line

-- the faults of the rule of a number, each at a line
record OfLines (fault : ℕ → TextFault) (n : ℕ) : Type 0 where
  at : (line : ℕ) → rule_of (fault line) ≡ n
  place : (line : ℕ) → place_of (fault line) ≡ line ∷ []
  only : (f : TextFault) → rule_of f ≡ n → (line : ℕ) × (f ≡ fault line)

line_kept : (fault : ℕ → TextFault) (n : ℕ) → OfLines fault (suc n) → (fd : Formed) → Keeps fd n → IsLeast (λ l. tells fd (fault l)) None → Keeps fd (suc n)
line_kept fault n of fd kept none = keeps_more fd n kept (λ f e. let is = of.only f e in ap (tells fd) is.1 ∙ none is.0)

line_refused : (fault : ℕ → TextFault) (n : ℕ) → OfLines fault (suc n) → (text : List ℕ) (ts : List Token) (fd : Formed) → HasForms text ts fd → Keeps fd n
    → (line : ℕ) → IsLeast (λ l. tells fd (fault l)) (Some line) → IsRefusal (Broken text) rank (fault line)
line_refused fault n of text ts fd h kept line least =
    refused text ts fd h n kept (fault line) (of.at line) least.0 by
  where
    by : (g : TextFault) → rule_of g ≡ suc n → tells fd g ≡ true → comes_first (place_of (fault line)) (place_of g) ≡ true
    by g e t =
        let is : (l : ℕ) × (g ≡ fault l) = of.only g e in
        ap (λ p. comes_first p (place_of g)) (of.place line)
        ∙ ap (comes_first (line ∷ [])) (ap place_of is.1 ∙ of.place is.0)
        ∙ line_ahead (λ l. tells fd (fault l)) line is.0 least (ap (tells fd) (sym is.1) ∙ t)

syntax_only : (f : TextFault) → rule_of f ≡ 41 → (line : ℕ) × (f ≡ Syntax line)
syntax_only (Syntax line) e = (line, refl)
syntax_only f e = absurd (omega (arith, e))

unknown_only : (f : TextFault) → rule_of f ≡ 42 → (line : ℕ) × (f ≡ UnknownName line)
unknown_only (UnknownName line) e = (line, refl)
unknown_only f e = absurd (omega (arith, e))

twice_only : (f : TextFault) → rule_of f ≡ 43 → (line : ℕ) × (f ≡ TwiceNamed line)
twice_only (TwiceNamed line) e = (line, refl)
twice_only f e = absurd (omega (arith, e))

range_only : (f : TextFault) → rule_of f ≡ 45 → (line : ℕ) × (f ≡ OutOfRange line)
range_only (OutOfRange line) e = (line, refl)
range_only f e = absurd (omega (arith, e))

of_syntax : OfLines Syntax 41
of_syntax = record { at = λ line. refl; place = λ line. refl; only = syntax_only }

of_unknown : OfLines UnknownName 42
of_unknown = record { at = λ line. refl; place = λ line. refl; only = unknown_only }

of_twice : OfLines TwiceNamed 43
of_twice = record { at = λ line. refl; place = λ line. refl; only = twice_only }

of_range : OfLines OutOfRange 45
of_range = record { at = λ line. refl; place = λ line. refl; only = range_only }

-- ---- syntax and names

-- the forms tell nothing of the rule of tokens
pub lex_kept : (fd : Formed) → Keeps fd 40
lex_kept fd (Lex line) le = refl
lex_kept fd f le = absurd (omega (arith, le))

-- no line is bad, or this one is the first
pub syntax_kept : (fd : Formed) → IsLeast (λ l. tells fd (Syntax l)) None → Keeps fd 41
syntax_kept fd none = line_kept Syntax 40 of_syntax fd (lex_kept fd) none

pub syntax_refused : (text : List ℕ) (ts : List Token) (fd : Formed) → HasForms text ts fd
    → (line : ℕ) → IsLeast (λ l. tells fd (Syntax l)) (Some line) → IsRefusal (Broken text) rank (Syntax line)
syntax_refused text ts fd h line least = line_refused Syntax 40 of_syntax text ts fd h (lex_kept fd) line least

-- each name is declared, or this line is the first that uses one that is not
pub unknown_kept : (fd : Formed) → Keeps fd 41 → IsLeast (λ l. tells fd (UnknownName l)) None → Keeps fd 42
unknown_kept fd kept none = line_kept UnknownName 41 of_unknown fd kept none

pub unknown_refused : (text : List ℕ) (ts : List Token) (fd : Formed) → HasForms text ts fd → Keeps fd 41
    → (line : ℕ) → IsLeast (λ l. tells fd (UnknownName l)) (Some line) → IsRefusal (Broken text) rank (UnknownName line)
unknown_refused text ts fd h kept line least = line_refused UnknownName 41 of_unknown text ts fd h kept line least

-- no name is declared twice, or this line is the first that declares one again
pub twice_kept : (fd : Formed) → Keeps fd 42 → IsLeast (λ l. tells fd (TwiceNamed l)) None → Keeps fd 43
twice_kept fd kept none = line_kept TwiceNamed 42 of_twice fd kept none

pub twice_refused : (text : List ℕ) (ts : List Token) (fd : Formed) → HasForms text ts fd → Keeps fd 42
    → (line : ℕ) → IsLeast (λ l. tells fd (TwiceNamed l)) (Some line) → IsRefusal (Broken text) rank (TwiceNamed line)
twice_refused text ts fd h kept line least = line_refused TwiceNamed 42 of_twice text ts fd h kept line least

-- ---- the rule of ranges

-- all numbers are in range, or this line is the first with one that is not
pub range_kept : (fd : Formed) → Keeps fd 44 → IsLeast (λ l. tells fd (OutOfRange l)) None → Keeps fd 45
range_kept fd kept none = line_kept OutOfRange 44 of_range fd kept none

pub range_refused : (text : List ℕ) (ts : List Token) (fd : Formed) → HasForms text ts fd → Keeps fd 44
    → (line : ℕ) → IsLeast (λ l. tells fd (OutOfRange l)) (Some line) → IsRefusal (Broken text) rank (OutOfRange line)
range_refused text ts fd h kept line least = line_refused OutOfRange 44 of_range text ts fd h kept line least

-- ---- the rule of kinds

kind_kept_by : (fd : Formed) → IsLeastPair (λ l k. tells fd (WrongKind l k)) None → (f : TextFault) → rule_of f ≡ 44 → tells fd f ≡ false
kind_kept_by fd none (WrongKind l k) e = none l k
kind_kept_by fd none f e = absurd (omega (arith, e))

-- all operands are of their kinds, or this one is the first that is not
pub kind_kept : (fd : Formed) → Keeps fd 43 → IsLeastPair (λ l k. tells fd (WrongKind l k)) None → Keeps fd 44
kind_kept fd kept none = keeps_more fd 43 kept (kind_kept_by fd none)

kind_ahead : (fd : Formed) (line k : ℕ) → IsLeastPair (λ l j. tells fd (WrongKind l j)) (Some (line, k))
    → (g : TextFault) → rule_of g ≡ 44 → tells fd g ≡ true → comes_first (line ∷ k ∷ []) (place_of g) ≡ true
kind_ahead fd line k least (WrongKind l j) e t = pair_ahead (λ m i. tells fd (WrongKind m i)) line k l j least t
kind_ahead fd line k least g e t = absurd (omega (arith, e))

pub kind_refused : (text : List ℕ) (ts : List Token) (fd : Formed) → HasForms text ts fd → Keeps fd 43
    → (line k : ℕ) → IsLeastPair (λ l j. tells fd (WrongKind l j)) (Some (line, k)) → IsRefusal (Broken text) rank (WrongKind line k)
kind_refused text ts fd h kept line k least = refused text ts fd h 43 kept (WrongKind line k) refl least.0 (kind_ahead fd line k least)

-- ---- the rule of main

main_kept_by : (fd : Formed) → tells fd NoMain ≡ false → (f : TextFault) → rule_of f ≡ 46 → tells fd f ≡ false
main_kept_by fd none NoMain e = none
main_kept_by fd none f e = absurd (omega (arith, e))

-- there is a thread main, or there is none
pub main_kept : (fd : Formed) → Keeps fd 45 → tells fd NoMain ≡ false → Keeps fd 46
main_kept fd kept none = keeps_more fd 45 kept (main_kept_by fd none)

pub main_refused : (text : List ℕ) (ts : List Token) (fd : Formed) → HasForms text ts fd → Keeps fd 45 → tells fd NoMain ≡ true
    → IsRefusal (Broken text) rank NoMain
main_refused text ts fd h kept here = refused text ts fd h 45 kept NoMain refl here (λ g e t. refl)

-- ---- the rule of counts

counts_kept_by : (fd : Formed) → tells fd (TooMany 0) ≡ false → tells fd (TooMany 1) ≡ false → (f : TextFault) → rule_of f ≡ 47 → tells fd f ≡ false
counts_kept_by fd blocks names (TooMany zero) e = blocks
counts_kept_by fd blocks names (TooMany (suc zero)) e = names
counts_kept_by fd blocks names (TooMany (suc (suc n))) e = refl
counts_kept_by fd blocks names f e = absurd (omega (arith, e))

-- neither blocks nor names are too many
pub counts_kept : (fd : Formed) → Keeps fd 46 → tells fd (TooMany 0) ≡ false → tells fd (TooMany 1) ≡ false → Keeps fd 47
counts_kept fd kept blocks names = keeps_more fd 46 kept (counts_kept_by fd blocks names)

blocks_ahead : (g : TextFault) → rule_of g ≡ 47 → comes_first (0 ∷ []) (place_of g) ≡ true
blocks_ahead (TooMany n) e = number_ahead 0 n (omega arith)
blocks_ahead g e = absurd (omega (arith, e))

-- too many blocks
pub blocks_refused : (text : List ℕ) (ts : List Token) (fd : Formed) → HasForms text ts fd → Keeps fd 46 → tells fd (TooMany 0) ≡ true
    → IsRefusal (Broken text) rank (TooMany 0)
blocks_refused text ts fd h kept here = refused text ts fd h 46 kept (TooMany 0) refl here (λ g e t. blocks_ahead g e)

names_ahead : (fd : Formed) → tells fd (TooMany 0) ≡ false → (g : TextFault) → rule_of g ≡ 47 → tells fd g ≡ true → comes_first (1 ∷ []) (place_of g) ≡ true
names_ahead fd blocks (TooMany zero) e t = absurd (both_ways (tells fd (TooMany 0)) blocks t)
names_ahead fd blocks (TooMany (suc n)) e t = number_ahead 1 (suc n) (omega arith)
names_ahead fd blocks g e t = absurd (omega (arith, e))

-- too many names, where the blocks are not
pub names_refused : (text : List ℕ) (ts : List Token) (fd : Formed) → HasForms text ts fd → Keeps fd 46 → tells fd (TooMany 0) ≡ false
    → tells fd (TooMany 1) ≡ true → IsRefusal (Broken text) rank (TooMany 1)
names_refused text ts fd h kept blocks here = refused text ts fd h 46 kept (TooMany 1) refl here (names_ahead fd blocks)

-- ---- no rule is broken

last_rule : (f : TextFault) → rule_of f ≤ 47
last_rule (Lex line) = omega arith
last_rule (Syntax line) = omega arith
last_rule (UnknownName line) = omega arith
last_rule (TwiceNamed line) = omega arith
last_rule (WrongKind line k) = omega arith
last_rule (OutOfRange line) = omega arith
last_rule NoMain = omega arith
last_rule (TooMany case) = omega arith

-- the text is accepted, and each number of its forms is held as it is
pub accepted : (text : List ℕ) (ts : List Token) (fd : Formed) → HasForms text ts fd → Keeps fd 47
    → IsAccepted (Broken text) × (fd ≡ formed (lines_of text ts))
accepted text ts fd h kept =
    let whole : Formed = formed (lines_of text ts) in
    let no : (f : TextFault) → tells fd f ≡ true → ⊥ = λ f e. both_ways (tells fd f) (kept f (last_rule f)) e in
    (λ f b. no f (told text ts fd h f b), h.1 ∙ held_same whole (λ f e. no f (same_tells text ts fd h f ∙ e)))
