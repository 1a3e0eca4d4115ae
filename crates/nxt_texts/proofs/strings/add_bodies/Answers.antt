-- The bodies end with a zero.
use Rattle.std.proofs.Common.{◌∙◌, ◌∷◌, ◌++◌, [], ap, subst}
use Rattle.nxt_texts.specs.Texts.{StoresBytes, body_at}
use Rattle.nxt_texts.proofs.strings.add_bodies.Goals as goal

pub returns-clause-stores : goal.returns-clause-stores
returns-clause-stores c i is =
    subst
    (λ bs. StoresBytes c.args.space.now i (body_at c.args.space.now.vars i ++ bs) c.add_to_body.result c.add_to_body.new.space)
    (c.as_slice.ensures ∙ c.in_ok-push.ensures.ok ∙ ap (λ bs. bs ++ 0 ∷ []) c.in_ok-more.ensures)
    (c.add_to_body.ensures.stores i is)
