-- Each rule of a text says the same of its forms with their numbers as they are held.
use Rattle.std.proofs.Common.{◌≡◌, ℕ, zero, suc, not, nat_lt, List, length, sum_by, refl, ap, ◌∙◌}
use Rattle.std.specs.List.{list_any}
use Rattle.std.proofs.lemmas.List.{length-map}
use Rattle.nxt_model.specs.Nbc.Forms.{Form, Formed}
use Rattle.nxt_model.specs.Nbc.Text.{source_of, is_main}
use Rattle.nxt_model.specs.Nbc.NbcRules.{TextFault, Lex, Syntax, UnknownName, TwiceNamed, WrongKind, OutOfRange, NoMain, TooMany, at_line, is_wrong_kind, is_out_of_range, is_too_many, tells}
use Rattle.nxt_nbc_lines.specs.Held.{held_formed}
use Rattle.nxt_nbc_lines.proofs.Laws.HeldLists.{any_same}
use Rattle.nxt_nbc_lines.proofs.Laws.HeldSources.{held_forms, held_block, held_source, source_held}
use Rattle.nxt_nbc_lines.proofs.Laws.HeldUnknown.{any_at_line, bad_line_held, has_unknown_held}
use Rattle.nxt_nbc_lines.proofs.Laws.HeldSpaces.{spaces_held, twice_named_held}
use Rattle.nxt_nbc_lines.proofs.Laws.HeldOperands.{wrong_kind_held, out_of_range_held}

too_many_held : (fs : List (ℕ × Form)) (case : ℕ) → is_too_many (held_forms fs) case ≡ is_too_many fs case
too_many_held fs zero =
    ap (λ s. nat_lt 255 (length s.blocks)) (source_held fs) ∙ ap (nat_lt 255) (length-map (source_of fs).blocks held_block)
too_many_held fs (suc zero) = ap (λ ss. nat_lt 10000 (sum_by (λ ds. length ds) ss)) (spaces_held fs)
too_many_held fs (suc (suc n)) = refl

-- how numbers are held is nothing to the rules
pub held_tells : (fd : Formed) (f : TextFault) → tells (held_formed fd) f ≡ tells fd f
held_tells fd (Lex line) = refl
held_tells fd (Syntax line) = bad_line_held fd line
held_tells fd (UnknownName line) = has_unknown_held fd.forms line
held_tells fd (TwiceNamed line) = twice_named_held fd.forms line
held_tells fd (WrongKind line k) =
    let src = source_of fd.forms in
    ap (λ s. list_any (is_wrong_kind s line k) (at_line line (held_forms fd.forms))) (source_held fd.forms)
    ∙ any_at_line line fd.forms (is_wrong_kind (held_source src) line k) (is_wrong_kind src line k) (wrong_kind_held src line k)
held_tells fd (OutOfRange line) =
    let src = source_of fd.forms in
    ap (λ s. list_any (is_out_of_range s line) (at_line line (held_forms fd.forms))) (source_held fd.forms)
    ∙ any_at_line line fd.forms (is_out_of_range (held_source src) line) (is_out_of_range src line) (out_of_range_held src line)
held_tells fd NoMain =
    ap (λ s. not (list_any is_main s.blocks)) (source_held fd.forms)
    ∙ ap not (any_same held_block is_main is_main (λ b. refl) (source_of fd.forms).blocks)
held_tells fd (TooMany case) = too_many_held fd.forms case
