use Rattle.std.proofs.Common.{◌∙◌, sym, Some, None}
use Rattle.std.proofs.lemmas.List.{append-nil}
use Rattle.nxt_nbc_program.proofs.Numbers.{followers_more, follows_held, follows_not}
use Rattle.nxt_nbc_program.proofs.links.push_followers.Goals as goal
use Rattle.nxt_nbc_program.proofs.links.push_followers.Goals.{then-holds+in-Some+in_ok-push, then-holds+in_default, else-holds}

pub loop-follower-preserved : goal.loop-follower-preserved
loop-follower-preserved c =
    let fs = c.args.followers.now in
    let i = c.loop-follower.follower-index in
    let f = c.follower-item.result in
    let ns = c.loop-follower.numbers in
    let more = followers_more c.args.number c.args.numbers.now ns fs i f c.loop-follower-test.true c.follower-item.is c.loop-follower.invariant in
    elim c.if-holds.branch [
      | then-holds+in-Some+in_ok-push w ↦
          w.numbers-is ∙ w.in_ok-push.ensures.ok
          ∙ more (Some w.in-Some.own) (follows_held c.args.number f (sym c.holds.ensures ∙ w.if-holds.true) ∙ w.in-Some.is)
      | then-holds+in_default w ↦
          w.numbers-is ∙ sym (append-nil ns) ∙ more None (follows_held c.args.number f (sym c.holds.ensures ∙ w.if-holds.true) ∙ w.in_default.is)
      | else-holds w ↦
          w.numbers-is ∙ sym (append-nil ns) ∙ more None (follows_not c.args.number f (sym c.holds.ensures ∙ w.if-holds.false))
    ]
