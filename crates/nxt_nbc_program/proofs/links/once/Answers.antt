use Rattle.std.proofs.Common.{◌∙◌, ◌++◌, ◌+◌, ap, sym, drop, get_or, refl, []}
use Rattle.nxt_model.specs.Nbc.Text.{once, holds_number}
use Rattle.nxt_nbc_program.proofs.Numbers.{once_seen, once_new}
use Rattle.nxt_nbc_program.proofs.links.once.Goals as goal
use Rattle.nxt_nbc_program.proofs.links.once.Goals.{then-not-holds+in_ok-push, else-not-holds}

pub loop-number-preserved : goal.loop-number-preserved
loop-number-preserved c =
    let ks = c.args.numbers.now in
    let i = c.loop-number.number-index in
    let firsts = c.loop-number.firsts in
    let k = get_or ks i 0 in
    let left = drop (i + 1) ks in
    elim c.if-not-holds.branch [
      | then-not-holds+in_ok-push w ↦
          ap (λ fs. fs ++ once fs left) (w.firsts-is ∙ w.in_ok-push.ensures.ok)
          ∙ once_new ks i k c.loop-number-test.true refl firsts (once [] ks) c.loop-number.invariant
          (ap (holds_number firsts) (sym c.from.ensures) ∙ sym c.holds.ensures ∙ w.if-not-holds.true)
      | else-not-holds w ↦
          ap (λ fs. fs ++ once fs left) w.firsts-is
          ∙ once_seen ks i k c.loop-number-test.true refl firsts (once [] ks) c.loop-number.invariant
          (ap (holds_number firsts) (sym c.from.ensures) ∙ sym c.holds.ensures ∙ w.if-not-holds.false)
    ]
