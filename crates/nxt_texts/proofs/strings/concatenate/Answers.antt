-- The bodies and a zero take one block, which is asked for before they are put together.
use Rattle.std.proofs.Common.{◌≡◌, ℕ, ◌+◌, ◌++◌, ◌∷◌, [], append_assoc, List, map, length, sym, ap, ◌∙◌, subst, arith}
use Rattle.std.specs.List.{flat_map}
use Rattle.std.proofs.lemmas.List.Concat.{flat_map-cons}
use Rattle.std.proofs.lemmas.List.{length_push}
use Rattle.std.proofs.lemmas.List.Folds.{flat_map-map}
use Rattle.nxt_model.specs.Means.Strings.{text_of}
use Rattle.nxt_model.specs.Means.Text.{body, ended}
use Rattle.nxt_model.specs.Values.{byte_list, stored}
use Rattle.nxt_space.specs.Variables.{Variables, shape_of, with_value}
use Rattle.nxt_operands.specs.Operands.{Done, given}
use Rattle.nxt_operands.proofs.Laws.OneStored.{given_stored}
use Rattle.nxt_operands.proofs.Laws.Refusals.{passed_on}
use Rattle.nxt_texts.specs.Texts.{StoresBytes, bodies_at, body_at}
use Rattle.nxt_texts.proofs.InPlace.{spot_kind}
use Rattle.nxt_texts.proofs.Texts.{stride_there, bytes_countable, bytes_size}
use Rattle.nxt_texts.proofs.strings.concatenate.Goals as goal

same_bodies : (s : Variables) (is : List ℕ) → ended (bodies_at s is) ≡ ended (flat_map (λ o. body (text_of o)) (map (given s) is))
same_bodies s is = ap ended (sym (flat_map-map (λ o. body (text_of o)) (given s) is))

pub check_room-requires-clause-countable : goal.check_room-requires-clause-countable
check_room-requires-clause-countable c =
    let s = c.args.space.now.vars in
    bytes_countable
    (shape_of s c.args.dest)
    (c.in_ok-length.length + 1)
    (omega (arith, c.in_ok-length.ensures.few))
    (stride_there s c.args.dest c.requires.sound c.requires.dest c.requires.text)

pub returns-in_err-check_room-clause-does : goal.returns-in_err-check_room-clause-does
returns-in_err-check_room-clause-does c d =
    let s = c.args.space.now.vars in
    let bytes = bodies_at s c.args.sources.now in
    let w = stored (shape_of s c.args.dest) (byte_list (ended bytes)) in
    let long : c.in_ok-length.length + 1 ≡ length (ended bytes) = ap (λ n. n + 1) c.in_ok-length.ensures.length ∙ sym (length_push bytes 0) in
    let size = bytes_size (shape_of s c.args.dest) (ended bytes) (c.in_ok-length.length + 1) c.requires.text long in
    let passed = c.from_residual-in_err-check_room in
    subst
    (λ bs. StoresBytes c.args.space.now c.args.dest bs passed.result c.args.space.now)
    (same_bodies s c.args.sources.now)
    (given_stored c.args.space.now c.args.space.now c.args.dest (byte_list (ended bytes)) passed.result
    (passed_on Done Done (with_value s c.args.dest w) c.args.space.now c.args.space.now c.in_err-check_room.field-0.0 passed.result passed.ensures.1 (c.in_err-check_room.ensures.refused w size)))
    d

pub add_bodies-requires-clause-text : goal.add_bodies-requires-clause-text
add_bodies-requires-clause-text c = spot_kind c.args.space.now.vars c.args.dest c.in-Some.list c.in-Some.ensures.0 c.requires.text

pub returns-then-branch-le-POOL_BYTES-clause-does : goal.returns-then-branch-le-POOL_BYTES-clause-does
returns-then-branch-le-POOL_BYTES-clause-does c =
    let s = c.args.space.now.vars in
    let others = c.in-Some.others.now in
    let own = body_at s c.args.dest in
    let all : own ++ ended (bodies_at s others) ≡ ended (bodies_at s c.args.sources.now) =
    sym (append_assoc own (bodies_at s others) (0 ∷ []))
    ∙ ap ended (sym (flat_map-cons (body_at s) c.args.dest others) ∙ ap (bodies_at s) (sym c.in-Some.ensures.1)) in
    subst
    (λ bs. StoresBytes c.args.space.now c.args.dest bs c.add_bodies.result c.add_bodies.new.space)
    (all ∙ same_bodies s c.args.sources.now)
    (c.add_bodies.ensures.stores c.args.dest c.in-Some.ensures.0)

pub returns-clause-does : goal.returns-clause-does
returns-clause-does c =
    let s = c.args.space.now.vars in
    subst
    (λ bs. StoresBytes c.args.space.now c.args.dest bs c.store_text.result c.store_text.new.space)
    (ap ended (c.as_slice.ensures ∙ c.in_ok-bytes.ensures) ∙ same_bodies s c.args.sources.now)
    c.store_text.ensures.stores
