-- The number of the text is stored, or where the text is too short the other one.
use Rattle.std.proofs.Common.{◌∙◌, ap, refl, subst, w64, to_z-of_z}
use Rattle.nxt_texts.specs.Packing.{IsWordFound}
use Rattle.nxt_texts.specs.Texts.{text_at}
use Rattle.nxt_types.specs.Arithmetic.{extend}
use Rattle.nxt_texts.proofs.PackedNumbers.{number_found, number_short}
use Rattle.nxt_texts.proofs.packing.unflatten_number.Goals as goal

pub returns-in_default-clause-does : goal.returns-in_default-clause-does
returns-in_default-clause-does c i is d =
    let s = c.args.space.now.vars in
    let r = c.requires in
    let k = c.args.other.kind in
    let x = to_z-of_z {w = w64} {z = c.number.result} (record { sfits = c.number.type_inv }) ∙ c.number.ensures i is in
    let found = subst (λ j. IsWordFound j (text_at s c.args.source) c.in_ok-found.found) c.kind.ensures c.in_ok-found.ensures in
    let few = subst (IsWordFound k (text_at s c.args.source)) c.in_default.is found in
    number_short c.args.space.now c.set_and_tell.new.space c.args.dest c.args.error c.args.source i k _ _ d r.sound r.dest r.error is.shape few x refl c.set_and_tell.ensures.value

pub returns-clause-does : goal.returns-clause-does
returns-clause-does c i is d =
    let s = c.args.space.now.vars in
    let r = c.requires in
    let k = c.args.other.kind in
    let x = to_z-of_z {w = w64} {z = c.extend.result} (record { sfits = c.extend.type_inv }) ∙ c.extend.ensures ∙ ap (λ j. extend j c.in-Some.word) c.kind-2.ensures in
    let found = subst (λ j. IsWordFound j (text_at s c.args.source) c.in_ok-found.found) c.kind.ensures c.in_ok-found.ensures in
    let fits = subst (IsWordFound k (text_at s c.args.source)) c.in-Some.is found in
    number_found c.args.space.now c.set_and_tell-2.new.space c.args.dest c.args.error c.args.source i k c.in-Some.word _ _ d r.sound r.dest r.error is.shape fits.0 fits.1 x refl c.set_and_tell-2.ensures.value
