-- The bytes of a number, or of all numbers of a list.
use Rattle.std.proofs.Common.{[], ◌∷◌, ◌++◌, sym, subst}
use Rattle.std.specs.Prelude.{pos}
use Rattle.std.proofs.lemmas.Result.{on_ok_weaker}
use Rattle.nxt_model.specs.Values.{elements}
use Rattle.nxt_space.specs.Variables.{value_of}
use Rattle.nxt_values.specs.Writes.{bytes_of_number}
use Rattle.nxt_lists.specs.InBytes.{AreStored}
use Rattle.nxt_lists.specs.Joined.{IsPiece, numbers_given}
use Rattle.nxt_lists.proofs.NumberSections.{more_stored, one_stored, all_stored}
use Rattle.nxt_lists.proofs.joining.Piece.push.Goals as goal

pub returns-in-Single : goal.returns-in-Single
returns-in-Single c i vs mine before =
    let s = c.args.space.now.vars in
    let k = c.args.kind in
    let v = value_of s i in
    let w = c.word.result in
    let spot = subst (IsPiece s k i) c.in-Single.is mine in
    on_ok_weaker
    c.push_number.result
    (λ more. subst
    (λ p. AreStored k c.push_number.new.into (vs ++ numbers_given s i p))
    (sym c.in-Single.is)
    (subst
    (λ bytes. AreStored k bytes (vs ++ v ∷ []))
    (sym more)
    (more_stored k c.args.into.now (bytes_of_number k (pos w)) vs (v ∷ []) before (one_stored k w v (c.word.ensures i spot)))))
    c.push_number.ensures

pub returns-in-Each : goal.returns-in-Each
returns-in-Each c i vs mine before =
    let s = c.args.space.now.vars in
    let k = c.args.kind in
    let v = value_of s i in
    let held = c.bytes.result.now in
    let list = subst (IsPiece s k i) c.in-Each.is mine in
    let all = subst (λ j. AreStored j held (elements v)) list.1 (all_stored c.in-Each.list.kind held v c.bytes.ensures.whole (c.bytes.ensures.value i list.0)) in
    on_ok_weaker
    c.append.result
    (λ more. subst
    (λ p. AreStored k c.append.new.self (vs ++ numbers_given s i p))
    (sym c.in-Each.is)
    (subst
    (λ bytes. AreStored k bytes (vs ++ elements v))
    (sym more)
    (more_stored k c.args.into.now held vs (elements v) before all)))
    c.append.ensures.ok
