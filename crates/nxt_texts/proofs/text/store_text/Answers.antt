-- The bytes that are stored end with the zero.
use Rattle.std.proofs.Common.{◌∙◌, refl, subst}
use Rattle.nxt_model.specs.Means.Text.{ended}
use Rattle.nxt_space.specs.Variables.{list_of_bytes}
use Rattle.nxt_texts.specs.Texts.{StoresBytes}
use Rattle.nxt_texts.proofs.InPlace.{bytes_refused, bytes_set}
use Rattle.nxt_texts.proofs.text.store_text.Goals as goal

-- ---- in place

pub returns-in_err-set_text-clause-stores : goal.returns-in_err-set_text-clause-stores
returns-in_err-set_text-clause-stores c =
    let bs = ended c.args.bytes.now in
    let is = c.in-Some.ensures.found in
    bytes_refused c.args.space.now c.set_text.new.self c.args.dest c.in-Some.list bs (list_of_bytes bs) c.from_residual.result is c.requires.text refl c.from_residual.ensures.1 (c.in_err-set_text.ensures.becomes c.args.dest is)

pub returns-in-Some-clause-stores : goal.returns-in-Some-clause-stores
returns-in-Some-clause-stores c =
    let bs = ended c.args.bytes.now in
    let is = c.in-Some.ensures.found in
    bytes_set c.args.space.now c.set_text.new.self c.args.dest c.in-Some.list bs (list_of_bytes bs) is c.requires.text refl (c.in_ok-set_text.ensures.becomes c.args.dest is)

-- ---- elements that stand apart

pub returns-clause-stores : goal.returns-clause-stores
returns-clause-stores c =
    subst
    (λ bs. StoresBytes c.args.space.now c.args.dest bs c.store_apart.result c.store_apart.new.space)
    (c.as_slice.ensures ∙ c.in_ok-text.ensures)
    c.store_apart.ensures.stores
