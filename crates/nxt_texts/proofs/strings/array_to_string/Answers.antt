-- All bytes are stored, and a zero.
use Rattle.std.proofs.Common.{◌∙◌, subst}
use Rattle.nxt_model.specs.Means.Text.{ended}
use Rattle.nxt_texts.specs.Texts.{StoresBytes}
use Rattle.nxt_texts.proofs.strings.array_to_string.Goals as goal

pub returns-clause-does : goal.returns-clause-does
returns-clause-does c =
    subst
    (λ bs. StoresBytes c.args.space.now c.args.dest (ended bs) c.store_text.result c.store_text.new.space)
    (c.as_slice.ensures ∙ c.in_ok-text.ensures.bytes)
    c.store_text.ensures.stores
