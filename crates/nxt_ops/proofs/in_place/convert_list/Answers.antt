-- The words of the numbers are stored as the numbers are.
use Rattle.std.proofs.Common.{sym, ap, ◌∙◌, subst}
use Rattle.nxt_space.specs.Outcomes.{Does}
use Rattle.nxt_space.specs.Spots.{numbers_in_bytes}
use Rattle.nxt_space.specs.Variables.{value_of, with_value}
use Rattle.nxt_operands.specs.Operands.{Done}
use Rattle.nxt_ops.specs.Passes.{words_of}
use Rattle.nxt_ops.proofs.ByWords.{same_by_words}
use Rattle.nxt_ops.proofs.in_place.convert_list.Goals as goal

pub returns-clause-does : goal.returns-clause-does
returns-clause-does c i j mine theirs =
    let s = c.args.space.now.vars in
    let v = value_of s j in
    let words = c.deref.ensures.value ∙ c.in_ok-words.ensures.words ∙ ap (λ k. words_of (numbers_in_bytes k c.bytes.result.now)) c.kind.ensures ∙ ap words_of (sym (c.bytes.ensures.value j theirs)) in
    subst
    (λ u. Does Done (with_value s i u) c.args.space.now c.store_words.result c.store_words.new.space)
    (same_by_words s i c.args.to v c.deref.result.now mine words)
    (c.store_words.ensures.does i mine)
