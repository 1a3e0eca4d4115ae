use Rattle.std.proofs.Common.{◌-◌, length, ap, ◌∙◌, sym}
use Rattle.std.specs.Prelude.{sum_by, slice_get}
use Rattle.nxt_model.specs.Assembled.{block_words}
use Rattle.nxt_asm_parts.proofs.Laws.Words.{code_end, from_zero, no_code}
use Rattle.nxt_asm_parts.proofs.starts.Starts.code_size.Goals as goal

pub returns-in-Some : goal.returns-in-Some
returns-in-Some c = λ bs is.
    let same = c.as_slice.ensures ∙ c.self.view_is ∙ is in
    let last = sym (c.in-Some.ensures.value ∙ ap (λ l. slice_get l (length l - 1)) same) in
    code_end 0 bs c.in-Some.starts.now c.end_of.result last (λ h ss own. c.end_of.ensures h ss (c.as_slice-in-Some.ensures ∙ own))
    ∙ sym (from_zero (sum_by block_words bs))

pub returns-in-None : goal.returns-in-None
returns-in-None c = λ bs is.
    let same = c.as_slice.ensures ∙ c.self.view_is ∙ is in
    no_code 0 bs (sym (c.in-None.ensures.value ∙ ap (λ l. slice_get l (length l - 1)) same))
