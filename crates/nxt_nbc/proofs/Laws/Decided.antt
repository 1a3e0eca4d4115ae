-- A text is refused by a first fault, or spells a program.
use Rattle.std.proofs.Common.{◌≡◌, ℕ, Bool, true, false, List, Option, Some, None, Result, Ok, Err, refl, ◌⊎◌, inl, inr}
use Rattle.nxt_types.specs.Refusals.{IsRefusal}
use Rattle.nxt_model.specs.Nbc.Tokens.{Token, lines_of, tokens_of}
use Rattle.nxt_model.specs.Nbc.Forms.{Formed, formed}
use Rattle.nxt_model.specs.Nbc.NbcRules.{TextFault, Broken, Lex, Syntax, UnknownName, TwiceNamed, WrongKind, OutOfRange, NoMain, TooMany, is_out_of_range, rank, spaces, is_taken, tells, uses_unknown, uses_unknown_type}
use Rattle.nxt_model.specs.Nbc.Text.{program_of, source_of}
use Rattle.nxt_model.specs.TextProgram.{Text}
use Rattle.nxt_nbc_lines.specs.Firsts.{Ascends, HasForms, IsLeast, IsLeastPair, Keeps, first_in_blocks, first_line, first_pair, lesser}
use Rattle.nxt_nbc_lines.specs.Held.{held_formed}
use Rattle.nxt_nbc_lines.proofs.Laws.Ascending.{has_ascending}
use Rattle.nxt_nbc_lines.proofs.Laws.FirstRules.{is_bad_form, least_range, least_syntax, least_unknown}
use Rattle.nxt_nbc_lines.proofs.Laws.Ranks.{lex_refused}
use Rattle.nxt_nbc_lines.proofs.Laws.Refused.{accepted, blocks_refused, counts_kept, kind_kept, kind_refused, main_kept, main_refused, names_refused, range_kept, range_refused, syntax_kept, syntax_refused, twice_kept, twice_refused, unknown_kept, unknown_refused}
use Rattle.nxt_nbc_kinds.proofs.Laws.FirstWrong.{first_wrong, least_line}
use Rattle.nxt_nbc.specs.Checked.{Spells}
use Rattle.nxt_nbc.specs.Spaces.{least_in_spaces}
use Rattle.nxt_nbc.proofs.SpacesTold.{twice_least}

-- a first fault, or what is spelled
abbrev pub Decided : List ℕ → Type 0
Decided text = ((f : TextFault) × IsRefusal (Broken text) rank f) ⊎ ((t : Text) × Spells text t)

module _ (text : List ℕ) (ts : List Token) (fd : Formed) (has : HasForms text ts fd) where
  up : Ascends 0 fd.forms
  up = has_ascending text ts fd has

  -- no rule is broken
  none_told : Keeps fd 47 → Decided text
  none_told kept =
      let all = accepted text ts fd has kept in
      inr (program_of (source_of (formed (lines_of text ts)).forms), record { accepted = all.0; tokens = (ts, has.0, refl) })

  by_counts : Keeps fd 46 → (b c : Bool) → tells fd (TooMany 0) ≡ b → tells fd (TooMany 1) ≡ c → Decided text
  by_counts kept true c blocks names = inl (TooMany 0, blocks_refused text ts fd has kept blocks)
  by_counts kept false true blocks names = inl (TooMany 1, names_refused text ts fd has kept blocks names)
  by_counts kept false false blocks names = none_told (counts_kept fd kept blocks names)

  by_main : Keeps fd 45 → (b : Bool) → tells fd NoMain ≡ b → Decided text
  by_main kept true e = inl (NoMain, main_refused text ts fd has kept e)
  by_main kept false e = by_counts (main_kept fd kept e) (tells fd (TooMany 0)) (tells fd (TooMany 1)) refl refl

  by_range : Keeps fd 44 → (o : Option ℕ) → IsLeast (λ l. tells fd (OutOfRange l)) o → Decided text
  by_range kept (Some line) least = inl (OutOfRange line, range_refused text ts fd has kept line least)
  by_range kept None least = by_main (range_kept fd kept least) (tells fd NoMain) refl

  by_kind : Keeps fd 43 → (o : Option (ℕ × ℕ)) → IsLeastPair (λ l k. tells fd (WrongKind l k)) o → Decided text
  by_kind kept (Some (line, k)) least = inl (WrongKind line k, kind_refused text ts fd has kept line k least)
  by_kind kept None least = by_range (kind_kept fd kept least) (first_line (is_out_of_range (source_of fd.forms)) fd.forms) (least_range fd 0 up)

  by_twice : Keeps fd 42 → (o : Option ℕ) → IsLeast (λ l. tells fd (TwiceNamed l)) o → Decided text
  by_twice kept (Some line) least = inl (TwiceNamed line, twice_refused text ts fd has kept line least)
  by_twice kept None least =
      let src = source_of fd.forms in
      let first = first_pair (first_wrong src) fd.forms in
      by_kind (twice_kept fd kept least) first (least_line fd src first up refl refl)

  by_unknown : Keeps fd 41 → (o : Option ℕ) → IsLeast (λ l. tells fd (UnknownName l)) o → Decided text
  by_unknown kept (Some line) least = inl (UnknownName line, unknown_refused text ts fd has kept line least)
  by_unknown kept None least = by_twice (unknown_kept fd kept least) (least_in_spaces (is_taken (source_of fd.forms)) (spaces fd.forms)) (twice_least fd)

  by_syntax : (o : Option ℕ) → IsLeast (λ l. tells fd (Syntax l)) o → Decided text
  by_syntax (Some line) least = inl (Syntax line, syntax_refused text ts fd has line least)
  by_syntax None least =
      let src = source_of fd.forms in
      by_unknown (syntax_kept fd least)
      (lesser (first_line (uses_unknown_type src) fd.forms) (first_in_blocks (λ line ls. uses_unknown src ls line) src.blocks))
      (least_unknown fd 0 up)

  of_forms : Decided text
  of_forms = by_syntax (lesser fd.bad (first_line (is_bad_form fd) fd.forms)) (least_syntax fd 0 up)

-- every text is refused by a first fault, or spells a program
pub text_or_refusal : (text : List ℕ) → Decided text
text_or_refusal text = by (tokens_of text) refl
  where
    by : (r : Result (List Token) ℕ) → tokens_of text ≡ r → Decided text
    by (Err line) e = inl (Lex line, lex_refused text line e)
    by (Ok ts) e = of_forms text ts (held_formed (formed (lines_of text ts))) (e, refl)
