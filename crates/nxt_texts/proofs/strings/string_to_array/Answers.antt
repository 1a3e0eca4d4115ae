-- The body of the text is stored.
use Rattle.std.proofs.Common.{◌∙◌, subst}
use Rattle.nxt_texts.specs.Texts.{StoresBytes}
use Rattle.nxt_texts.proofs.strings.string_to_array.Goals as goal

pub returns-clause-does : goal.returns-clause-does
returns-clause-does c =
    subst
    (λ bs. StoresBytes c.args.space.now c.args.dest bs c.store_bytes.result c.store_bytes.new.space)
    (c.as_slice.ensures ∙ c.in_ok-bytes.ensures.body)
    c.store_bytes.ensures.stores
